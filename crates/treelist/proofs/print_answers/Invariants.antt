-- What the loops of `treelist::print_answers` keep, and what falls. Assumes nothing.
use Rattle.grammar.specs.Reading.Next.{Accepted}
use Rattle.agreement.specs.Corollaries.{left_over}
use Rattle.treelist.proofs.print_answers.Given as goal

abbrev pub invariant-loop-reader : goal.invariant-loop-reader
invariant-loop-reader g l = Accepted l.tokens l.reader

abbrev pub decreases-loop-reader : goal.decreases-loop-reader
decreases-loop-reader g l = left_over l.tokens l.reader
