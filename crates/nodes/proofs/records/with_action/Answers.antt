-- `nodes::records::with_action` meets its contract: an assignment's value is rewritten, and any other tree stays. Assumes nothing.
use mathlib.Core.Path.{sym, ◌∙◌}
use Rattle.scan.specs.Parts.{action_number, keyword_code}
use Rattle.nodes.proofs.Ends.{acted_other, acted_some}
use Rattle.nodes.proofs.records.with_action.Goals as goal

pub returns-then-kind_of-eq-ASSIGNMENT : goal.returns-then-kind_of-eq-ASSIGNMENT
returns-then-kind_of-eq-ASSIGNMENT c = λ X t s text. rw (c.in-Some.is, c.from.ensures) (acted_some c.args.store.now X c.args.a (action_number c.in-Some.action) t s c.requires.1 (sym c.kind_of.ensures ∙ c.if-kind_of-eq-ASSIGNMENT.true) text)

pub returns-else-kind_of-eq-ASSIGNMENT : goal.returns-else-kind_of-eq-ASSIGNMENT
returns-else-kind_of-eq-ASSIGNMENT c = λ X t s text. acted_other c.args.store.now X c.args.a (keyword_code c.args.modifier) t s c.requires.1 (λ e. c.if-kind_of-eq-ASSIGNMENT.false (c.kind_of.ensures ∙ e)) text
