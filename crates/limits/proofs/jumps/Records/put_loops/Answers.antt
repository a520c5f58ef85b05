-- `Records::put_loops`: a loop more behind the others. Assumes nothing.
use Rattle.std.proofs.Common.{append_assoc, append-nil, arith}
use Rattle.limits.specs.Nests.{loop_ends}
use Rattle.limits.proofs.Looped.{ends_more}
use Rattle.limits.proofs.jumps.Records.put_loops.Goals as goal

pub loop-label-init : goal.loop-label-init
unfolding loop_ends
loop-label-init c = record { far = omega arith; put = rw append-nil }

pub loop-label-preserved : goal.loop-label-preserved
loop-label-preserved c = record {
  far = omega (arith, c.loop-label-test.true);
  put = rw (ends_more c.loop-label.label c.loop-label.auto.label, c.in_ok-put_list.ensures, c.in_ok-put_loop.ensures, c.loop-label.invariant.put) (simp append_assoc);
}
