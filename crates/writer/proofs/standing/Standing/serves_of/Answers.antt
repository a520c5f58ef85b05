-- `writer::standing::Standing::serves_of` meets its contract. Assumes nothing.
use Rattle.writer.proofs.Keeping.{word_found, entry_serves, tells_one}
use Rattle.writer.proofs.standing.Standing.serves_of.Goals as goal

pub returns-in-Some : goal.returns-in-Some
returns-in-Some c = let y = c.requires in
    tells_one y.here (entry_serves (word_found y c.word.ensures c.in-Some.is))
