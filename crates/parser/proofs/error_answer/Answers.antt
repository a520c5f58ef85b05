-- `parser::error_answer` meets its contract. Assumes nothing.
use mathlib.Core.Path.{ap}
use borrow.Author.Tests.{eq-eqb, ne_eqb}
use Rattle.grammar.specs.Reading.Result.{ifb}
use Rattle.grammar.specs.Reading.Next.{error_answer}
use Rattle.grammar.specs.declared.Answer.TheVariants.{Error}
use Rattle.parser.proofs.error_answer.Goals as goal

pub returns-then-e-eq-END : goal.returns-then-e-eq-END
unfolding error_answer ifb
returns-then-e-eq-END c = rw (eq-eqb _ _ c.if-e-eq-END.true)

pub returns : goal.returns
unfolding error_answer ifb
returns c = rw (ne_eqb _ _ c.if-e-eq-END.false) (ap Error c.from.ensures)
