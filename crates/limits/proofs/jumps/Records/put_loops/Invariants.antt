-- What the loop of `Records::put_loops` keeps. Assumes nothing.
use Rattle.std.proofs.Common.{◌≡◌, ◌-◌, ◌≤◌, ◌++◌}
use Rattle.limits.specs.Nests.{loop_ends}
use Rattle.limits.proofs.jumps.Records.put_loops.Given as goal

abbrev pub invariant-loop-label : goal.invariant-loop-label
invariant-loop-label l = record { far : l.label - 1 ≤ l.fn.times - 1; put : l.self ≡ l.initial.self ++ loop_ends (l.label - 1) }
