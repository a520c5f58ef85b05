-- `labels::first_offender` meets its contract: from the last record to the first. Assumes nothing.
use mathlib.Core.Path.{◌≡◌, ap, ◌∙◌}
use Prim.Native.Nat.{◌*◌, ◌/◌}
use native.Mathlib.Omega.{arith}
use lib.ListN.{length}
use Rattle.writer.proofs.Entry.{whole_even}
use Rattle.labels.proofs.Pass.{Ahead, going_start, ahead, round_at, going_next, going_end}
use Rattle.labels.proofs.first_offender.Goals.{In-loop-i}
use Rattle.labels.proofs.first_offender.Goals as goal

-- the record that is looked at
module _ (c : In-loop-i) where
  next : Ahead c.args.records.now c.loop-i.i c.loop-i.pending
  next = ahead c.loop-i.invariant c.loop-i-test.true

pub loop-i-init : goal.loop-i-init
loop-i-init c =
    let z = (whole_even c.requires).1 in
    let e : 2 * (length c.args.records.now / 2) ≡ length c.args.records.now = omega (arith, z) in
    rw e (going_start _ _ c.requires)

pub offence-requires : goal.offence-requires
offence-requires c = rw c.leave.ensures.same (round_at c.loop-i.invariant c.loop-i-test.true c.leave.ensures.stands)

pub overflow_sub-pending : goal.overflow_sub-pending
overflow_sub-pending c = omega (arith, (next (goal.at.overflow_sub-pending c).In-loop-i).some)

pub overflow_add-pending : goal.overflow_add-pending
overflow_add-pending c = omega (arith, (next (goal.at.overflow_add-pending c).In-loop-i).within, (next (goal.at.overflow_add-pending c).In-loop-i).fewer)

pub loop-i-preserved : goal.loop-i-preserved
loop-i-preserved c =
    let same = c.leave.ensures.same in
    rw c.noted-found.ensures (going_next c.loop-i.invariant c.loop-i-test.true c.leave.ensures.stands c.offence.ensures (rw same at c.enter.ensures.entered) (c.enter.ensures.long ∙ ap length same))

pub returns : goal.returns
returns c = going_end c.loop-i.invariant (omega (arith, c.loop-i-test.false))
