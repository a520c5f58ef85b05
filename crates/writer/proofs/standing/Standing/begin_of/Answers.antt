-- `writer::standing::Standing::begin_of` meets its contract. Assumes nothing.
use Rattle.writer.proofs.Keeping.{word_found, entry_begin, skipped_one, at_under}
use Rattle.writer.proofs.standing.Standing.begin_of.Goals as goal

pub returns-in-Some : goal.returns-in-Some
returns-in-Some c = let y = c.requires in
    skipped_one y.here (rw (entry_begin (word_found y c.word.ensures c.in-Some.is)) (at_under y.here))
