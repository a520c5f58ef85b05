-- `writer::standing::Standing::name_by` meets its contract. Assumes nothing.
use native.Mathlib.Omega.{arith}
use Rattle.writer.proofs.Places.{stands}
use Rattle.writer.proofs.Keeping.{Two, a_pair, two_last, two_first, two_room, says_one, on_place}
use Rattle.writer.proofs.standing.Standing.name_by.Goals.{Start}
use Rattle.writer.proofs.standing.Standing.name_by.Goals as goal

-- its children
module _ (c : Start) where
  pair : Two c.args.self.now.records.now c.args.self.now.kept.now c.args.self.now.base c.args.self.now.count c.args.p
  pair = a_pair c.requires.0 c.requires.1

pub overflow_sub-self : goal.overflow_sub-self
overflow_sub-self c = omega (arith, two_room (pair (goal.at.overflow_sub-self c).Start))

pub overflow_sub-p : goal.overflow_sub-p
overflow_sub-p c = omega (arith, two_room (pair (goal.at.overflow_sub-p c).Start))

pub begin_of-signature-requires : goal.begin_of-signature-requires
begin_of-signature-requires c = two_last (pair (goal.at.begin_of-signature-requires c).Start)

pub value_at-requires : goal.value_at-requires
value_at-requires c = on_place (two_first (pair (goal.at.value_at-requires c).Start) c.begin_of-signature.ensures)

pub returns : goal.returns
returns c = let y = pair (goal.at.returns c).Start in
    says_one y.here (c.value_at.ensures.how _ _ (stands (c.begin_of-signature.ensures.how _ _ y.last)))
