-- `writer::standing::Standing::receiver_by` meets its contract. Assumes nothing.
use Rattle.writer.specs.Standing.{serves_as}
use Rattle.writer.proofs.Keeping.{on_place, serves_known, says_tells}
use Rattle.writer.proofs.standing.Standing.receiver_by.Goals as goal

pub kind_at-requires : goal.kind_at-requires
kind_at-requires c = search on_place

pub returns-then-kind_at-eq-PRIMARY : goal.returns-then-kind_at-eq-PRIMARY
unfolding serves_as
returns-then-kind_at-eq-PRIMARY c = serves_known c.kind_at.ensures c.if-kind_at-eq-PRIMARY.true c.serves_of.ensures

pub target_receiver-requires : goal.target_receiver-requires
target_receiver-requires c = search on_place

pub returns : goal.returns
returns c = says_tells c.target_receiver.ensures
