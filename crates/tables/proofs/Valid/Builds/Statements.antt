-- Nodes of statements, controls and statement lists whose children meet their demands: what their class says. Assumes nothing.
use Rattle.std.specs.Prelude.{◌≡◌, refl, true, false, ℕ, zero, suc, eqb, ltb, Some}
use Rattle.std.proofs.Common.{arith}
use Rattle.tree.specs.NodeKind
use Rattle.tree.specs.Tree.{Tree, Forest, node, none, more, one, two}
use Rattle.tree.specs.Node
use Rattle.grammar.specs.Reading.Result.{ifb}
use Rattle.grammar.specs.Reading.Block.{whole, split, split_before, split_last, split_kids}
use Rattle.grammar.specs.Canonical.Valid.{jump, control, stmt, Valid, IsLabel, no_label, a_label, v_continue, v_break, v_break_value, v_break_label, v_return, v_return_value, v_no_control, v_control, v_loop, v_while, v_for, v_assert}
use Rattle.grammar.proofs.Laws.Facts.{clash, by_test}
use Rattle.tables.specs.Class as Class
use Rattle.tables.specs.Class.{body_class}
use Rattle.tables.specs.Demand as Demand
use Rattle.tables.specs.Sound as Sound
use Rattle.tables.specs.Children.{kind_in, last_tree}
use Rattle.tables.specs.Check.{class_of, body_mode}
use Rattle.tables.proofs.Valid.Builds.Classes.{open_body, plain_body, ended_body, Means, Rule, tables}
use Rattle.tables.proofs.Valid.Builds.Roles.{any_of}
use Rattle.tables.proofs.Valid.Builds.Places.{label_name, any_class, in_range, expr, stated, optional, exactly, body_in, control_in, Row, row, statements_in}

label_of : (v : ℕ) → ltb Sound.Label v ≡ false → IsLabel v
label_of zero h = no_label
label_of (suc n) h = a_label (label_name n h)

pub of_expression : Rule NodeKind.Expression
unfolding tables
of_expression t k = in_range Demand.Stated refl k λ low high. stated t (class_of t) low high (any_class (class_of t) (omega arith) k.means) k.begins k.ends

pub of_loop : Rule NodeKind.Loop
unfolding tables
of_loop v h t k = v_loop (label_of v h) (body_in k)

pub of_while : Rule NodeKind.WhileLoop
unfolding tables
of_while v h t u k l = v_while (label_of v h) (expr k) (body_in l)

pub of_for : Rule NodeKind.ForLoop
unfolding tables
of_for v h t u w k l m = v_for (label_of v h) (exactly Class.Pattern (omega arith) k) (expr l) (body_in m)

pub of_assert : Rule NodeKind.Assert
unfolding tables
of_assert t k = v_assert (expr k)

-- a statement list: the class says whether it has a control, and else whether the last statement is an expression
split_last_whole : (t : Tree) → eqb (kind_in (Some t)) NodeKind.Expression ≡ false → split_last t ≡ whole (one t)
unfolding split_last split_kids ifb
split_last_whole (node k v none) e = refl
split_last_whole (node k v (more t none)) e = rw e
split_last_whole (node k v (more t (more u f))) e = refl

split_whole : (f : Forest) → eqb (kind_in (last_tree f)) NodeKind.Expression ≡ false → split f ≡ whole f
unfolding split split_before last_tree
split_whole none e = refl
split_whole (more t none) e = split_last_whole t e
split_whole (more t (more u f)) e = rw (split_whole (more u f) e)

jump_kind : {t : Tree} → Valid jump t → eqb (kind_in (Some t)) NodeKind.Absent ≡ false
jump_kind (v_continue l) = refl
jump_kind (v_break l) = refl
jump_kind (v_break_value e) = refl
jump_kind (v_break_label n e) = refl
jump_kind v_return = refl
jump_kind (v_return_value e) = refl

list_body : {t u : Tree} → Row stmt t → Valid control u → Means (body_class (body_mode (two t u))) (node NodeKind.StmtList 0 (two t u))
unfolding body_class body_mode last_tree
list_body (row {f = f} h) v_no_control =
    by_test (eqb (kind_in (last_tree f)) NodeKind.Expression)
    (λ y. rw y (open_body h))
    (λ n. rw n (plain_body h (split_whole f n)))
list_body (row h) (v_control c) = rw (jump_kind c) (ended_body h c)

pub of_statements : Rule NodeKind.StmtList
unfolding tables
of_statements t u k l = list_body (statements_in k) (control_in l)

-- controls
pub of_continue : Rule NodeKind.Continue
unfolding tables
of_continue v h = v_continue (label_of v h)

pub of_break : Rule NodeKind.Break
unfolding tables
of_break zero h t k = optional (λ e. Valid jump (Node.break 0 e)) Demand.ExprOrAbsent refl (omega arith) k (v_break no_label) λ low high m. v_break_value (any_of (m.own high) false false k.begins k.ends)
of_break (suc n) h t k =
    let i = label_name n h in
    optional (λ e. Valid jump (Node.break (suc n) e)) Demand.ExprOrAbsent refl (omega arith) k (v_break (a_label i)) λ low high m. v_break_label i (any_of (m.own high) true false (λ e. clash refl e) k.ends)

pub of_return : Rule NodeKind.Return
unfolding tables
of_return t k = optional (λ e. Valid jump (Node.return e)) Demand.ExprOrAbsent refl (omega arith) k v_return λ low high m. v_return_value (any_of (m.own high) true false k.begins k.ends)
