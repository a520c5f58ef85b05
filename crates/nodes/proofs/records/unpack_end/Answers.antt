-- `nodes::records::unpack_end` meets its contract: by the kind of the tree before, an error or one record more. Assumes nothing.
use mathlib.Core.Path.{sym, ◌∙◌}
use mathlib.Core.List.{[], ◌∷◌}
use borrow.Author.Tests.{eq-eqb, ne_eqb}
use native.Mathlib.Omega.{arith}
use Rattle.tree.specs.NodeKind
use Rattle.tree.specs.Tree.{records}
use Rattle.tree.specs.Node
use Rattle.grammar.specs.Reading.Result.{ifb}
use Rattle.nodes.specs.Parts.{unpack_end}
use Rattle.nodes.proofs.Ends.{kind_read, joins, wrote, refused}
use Rattle.nodes.proofs.Made.{over_one}
use Rattle.nodes.proofs.records.unpack_end.Goals as goal

pub returns-then-kind_of-eq-UNPACK : goal.returns-then-kind_of-eq-UNPACK
unfolding unpack_end ifb
returns-then-kind_of-eq-UNPACK c = λ X t T s text h. refused (λ q. rw (eq-eqb _ _ (sym (kind_read c.args.store.now X c.args.cursor.at t s text (omega arith)) ∙ sym c.kind_of.ensures ∙ c.if-kind_of-eq-UNPACK.true))) h

pub returns : goal.returns
unfolding unpack_end ifb
returns c = λ X t T s text h. let e = c.emit.ensures in
    wrote (Node.unpack t) (λ q. rw (ne_eqb _ _ (λ x. c.if-kind_of-eq-UNPACK.false (c.kind_of.ensures ∙ kind_read c.args.store.now X c.args.cursor.at t s text (omega arith) ∙ x)))) h (omega arith) (rw (over_one NodeKind.Unpack 0 t) (joins X (records t) (271 ∷ 0 ∷ []) e.text text))
