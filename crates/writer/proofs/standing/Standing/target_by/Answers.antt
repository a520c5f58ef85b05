-- `writer::standing::Standing::target_by` meets its contract. Assumes nothing.
use Rattle.std.specs.Prelude.{Some}
use Rattle.writer.specs.Standing.{serves_as}
use Rattle.writer.proofs.Numbers.{tests}
use Rattle.writer.proofs.Targets.{target_is}
use Rattle.writer.proofs.Places.{stands}
use Rattle.writer.proofs.Keeping.{on_place, serves_known}
use Rattle.writer.proofs.standing.Standing.target_by.Goals as goal

pub kind_at-requires : goal.kind_at-requires
kind_at-requires c = search on_place

pub returns-in-41 : goal.returns-in-41
returns-in-41 c = let k = c.kind_at.ensures in
    record { how = λ t s a. rw (target_is (Some t), ← k.how _ s (stands a), c.in-41.is) }

pub returns-in-42 : goal.returns-in-42
unfolding serves_as
returns-in-42 c = let k = c.kind_at.ensures in
    let e = c.in-42.is in
    record { how = λ t s a. rw (target_is (Some t), ← k.how _ s (stands a), e) ((serves_known k e c.serves_of.ensures).how t s a) }

pub returns-in-43 : goal.returns-in-43
unfolding serves_as
returns-in-43 c = let k = c.kind_at.ensures in
    let e = c.in-43.is in
    record { how = λ t s a. rw (target_is (Some t), ← k.how _ s (stands a), e) ((serves_known k e c.serves_of-in-43.ensures).how t s a) }

pub returns-in_default : goal.returns-in_default
returns-in_default c = let k = c.kind_at.ensures in
    record { how = λ t s a. rw (target_is (Some t), ← k.how _ s (stands a)) (search tests) }
