-- What the loop of `Words::lay` keeps. Assumes nothing.
use Rattle.std.proofs.Common.{◌≡◌, ◌≤◌, ◌++◌}
use Rattle.std.specs.List.{repeat}
use Rattle.limits.proofs.words.Words.lay.Given as goal

abbrev pub invariant-loop : goal.invariant-loop
invariant-loop l = record { far : l.counter ≤ l.times; put : l.self ≡ l.initial.self ++ repeat l.counter l.layer }
