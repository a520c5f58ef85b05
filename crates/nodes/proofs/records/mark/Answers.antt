-- `nodes::records::mark` meets its contract: by the first word of the last record. Assumes nothing.
use Rattle.nodes.proofs.Ends.{marks, marks_none}
use Rattle.nodes.proofs.records.mark.Goals as goal

pub returns-then-store-b-eq-EXPRESSION : goal.returns-then-store-b-eq-EXPRESSION
returns-then-store-b-eq-EXPRESSION c = λ X t s text. marks c.args.store.now X c.args.a c.args.b c.requires.1 t s c.if-store-b-eq-EXPRESSION.true text

pub returns : goal.returns
returns c = λ X t s text. marks_none c.args.store.now X c.args.a c.args.b c.requires.1 t c.if-store-b-eq-EXPRESSION.false text
