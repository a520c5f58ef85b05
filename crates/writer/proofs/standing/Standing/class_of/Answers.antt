-- `writer::standing::Standing::class_of` meets its contract. Assumes nothing.
use mathlib.Core.Path.{◌∙◌}
use Rattle.writer.proofs.Places.{stands, class_same}
use Rattle.writer.proofs.Keeping.{word_found, entry_class, tells_one, on_place}
use Rattle.writer.proofs.standing.Standing.class_of.Goals as goal

pub returns-in-Some : goal.returns-in-Some
returns-in-Some c = let y = c.requires in
    tells_one y.here (entry_class (word_found y c.word.ensures c.in-Some.is))

pub class_at-requires : goal.class_at-requires
class_at-requires c = search on_place

pub returns-in-None : goal.returns-in-None
returns-in-None c = record { how = λ t s a. c.class_at.ensures.how _ s (stands a) ∙ class_same t }
