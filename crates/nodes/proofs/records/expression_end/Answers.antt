-- `nodes::records::expression_end` meets its contract: `...` alone is refused, and any other expression gets a record. Assumes nothing.
use mathlib.Core.Path.{sym, ◌∙◌}
use mathlib.Core.List.{[], ◌∷◌}
use native.Mathlib.Omega.{arith}
use Rattle.tree.specs.NodeKind
use Rattle.tree.specs.Tree.{records}
use Rattle.tree.specs.Node
use Rattle.grammar.specs.Reading.Result.{ifb}
use Rattle.nodes.specs.Parts.{expression_end}
use Rattle.nodes.proofs.Ends.{joins, wrote, refused}
use Rattle.nodes.proofs.Made.{over_one}
use Rattle.nodes.proofs.records.expression_end.Goals as goal

pub returns-then-lone_ellipsis : goal.returns-then-lone_ellipsis
unfolding expression_end ifb
returns-then-lone_ellipsis c = λ X t T s text h. refused (λ q. rw (sym (c.lone_ellipsis.ensures X t s text) ∙ c.if-lone_ellipsis.true)) h

pub returns : goal.returns
unfolding expression_end ifb
returns c = λ X t T s text h. let e = c.emit.ensures in
    wrote (Node.expression t) (λ q. rw (sym (c.lone_ellipsis.ensures X t s text) ∙ c.if-lone_ellipsis.false)) h (omega arith) (rw (over_one NodeKind.Expression 0 t) (joins X (records t) (258 ∷ 0 ∷ []) e.text text))
