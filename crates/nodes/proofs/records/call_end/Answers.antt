-- `nodes::records::call_end` meets its contract: a tuple's record becomes the call's; any other tree gets a list of its own. Assumes nothing.
use mathlib.Core.Path.{sym, ◌∙◌}
use mathlib.Core.List.{[], ◌∷◌}
use native.Mathlib.Omega.{arith}
use Rattle.tree.specs.NodeKind
use Rattle.tree.specs.Tree.{records}
use Rattle.tree.specs.Node
use Rattle.grammar.specs.Reading.Primary.{arguments}
use Rattle.nodes.proofs.Ends.{joins, call_tuple, call_other}
use Rattle.nodes.proofs.Made.{over_one}
use Rattle.tree.specs.Written.{two_written}
use Rattle.nodes.proofs.records.call_end.Goals as goal

pub returns-then-kind_of-eq-TUPLE : goal.returns-then-kind_of-eq-TUPLE
returns-then-kind_of-eq-TUPLE c = let e = c.emit.ensures in
    record { up = omega arith; far = omega arith; text = λ X t s text. rw (over_one NodeKind.Invoke 0 (Node.list (arguments t))) (joins X (records (Node.list (arguments t))) (295 ∷ 0 ∷ []) e.text (call_tuple c.args.store.now X c.args.a (omega arith) s (sym c.kind_of.ensures ∙ c.if-kind_of-eq-TUPLE.true) text)) }

pub returns : goal.returns
returns c = let a = c.list_end-b.ensures in
    let b = c.emit-2.ensures in
    record { up = omega arith; far = omega arith; text = λ X t s text. rw (call_other c.args.store.now X c.args.a (omega arith) s (λ x. c.if-kind_of-eq-TUPLE.false (c.kind_of.ensures ∙ x)) text) (joins X (records t) (257 ∷ 0 ∷ 295 ∷ 0 ∷ []) (two_written a b) text) }
