-- `writer::standing::Standing::labelled_of` meets its contract. Assumes nothing.
use Rattle.writer.proofs.Places.{stands}
use Rattle.writer.proofs.Keeping.{word_found, entry_labelled, tells_one, on_place}
use Rattle.writer.proofs.standing.Standing.labelled_of.Goals as goal

pub returns-in-Some : goal.returns-in-Some
returns-in-Some c = let y = c.requires in
    tells_one y.here (entry_labelled (word_found y c.word.ensures c.in-Some.is))

pub begins_labelled-requires : goal.begins_labelled-requires
begins_labelled-requires c = search on_place

pub returns-in-None : goal.returns-in-None
returns-in-None c = record { how = λ t s a. c.begins_labelled.ensures.how _ s (stands a) }
