-- Nodes of the parts of tables, functions, conditionals and blocks whose children meet their demands: what their class says. Assumes nothing.
use Rattle.std.specs.Prelude.{◌≡◌, refl, Bool, true, false, cond, ℕ, ◌+◌, ◌/◌, ◌%◌, ◌≤◌, eqb, ltb, Some}
use Rattle.std.proofs.Common.{subst, arith, eqb-true, ltb-false}
use Rattle.std.proofs.lemmas.Bool.{eqb-false}
use Rattle.tree.specs.NodeKind
use Rattle.tree.specs.Tree.{Tree, node, three, count}
use Rattle.tree.specs.Node
use Rattle.grammar.specs.Canonical.Valid.{param, block, stmt, Valid, IsNamed, read_only, read_write, v_function_def, v_function_default, v_function_variadic, v_field, v_field_index, v_table_item, v_param, v_branch, v_block_plain, v_block_control, v_block_result}
use Rattle.grammar.proofs.Laws.Facts.{clash, by_test}
use Rattle.tables.specs.Choice.{where_zero}
use Rattle.tables.specs.Operators.{Levels}
use Rattle.tables.specs.Class as Class
use Rattle.tables.specs.Demand as Demand
use Rattle.tables.specs.Demand.{defaults}
use Rattle.tables.specs.Sound as Sound
use Rattle.tables.specs.Children.{kind_in, count_in, last_tree}
use Rattle.tables.specs.Check.{class_of, signature_mode}
use Rattle.tables.proofs.Valid.Builds.Classes.{Default, default, Signature, Body, open_body, plain_body, ended_body, Empty, empty_list, Only, only, Kid, Rule, tables}
use Rattle.tables.proofs.Valid.Builds.Places.{name_of, not_absent, in_range, no_kid, expr, stated, operand_in, missing_is, optional, either_class, exactly, body_class, Row, row, params_in}

named_of : (v : ℕ) → ltb Sound.Named v ≡ false → IsNamed v
named_of v h =
    let range : v ≤ Sound.Named = ltb-false Sound.Named v h in
    by_test (eqb (v % 2) 0)
    (λ y. let e : Node.named (v / 2) 0 ≡ v = omega (arith, eqb-true (v % 2) 0 y) in subst IsNamed e (read_only (v / 2) (name_of (v / 2) (omega arith))))
    (λ n. let e : Node.named (v / 2) 1 ≡ v = omega (arith, eqb-false (v % 2) 0 n) in subst IsNamed e (read_write (v / 2) (name_of (v / 2) (omega arith))))

pub of_table_item : Rule NodeKind.TableItem
unfolding tables
of_table_item t u k l = v_table_item (exactly Class.Field (omega arith) k) (operand_in Levels (omega arith) l true l.begins)

-- blocks: a statement list alone has no expression at the end, one before a result has no control
alone : {c : ℕ} {t : Tree} → Class.PlainBody ≤ c → Body c t → Valid block (Node.expr_block t Node.absent)
alone h (open_body f) = absurd (omega arith)
alone h (plain_body f e) = v_block_plain f e
alone h (ended_body f c) = v_block_control f c

before : {c : ℕ} {t e : Tree} → c ≤ Class.PlainBody → Valid stmt (Node.expression e) → Body c t → Valid block (Node.expr_block t e)
before h s (open_body f) = v_block_result f s
before h s (plain_body f e) = v_block_result f s
before h s (ended_body f c) = absurd (omega arith)

alone_in : {t : Tree} → Kid Demand.BodyAlone false false t → Valid block (Node.expr_block t Node.absent)
alone_in {t} k = in_range Demand.BodyAlone refl k λ low high. alone low (body_class t (class_of t) (omega arith) high k.means)

before_in : {t e : Tree} → Valid stmt (Node.expression e) → Kid Demand.BodyBefore false false t → Valid block (Node.expr_block t e)
before_in {t} s k = in_range Demand.BodyBefore refl k λ low high. before high s (body_class t (class_of t) low (omega arith) k.means)

result_in : {t e : Tree} → Kid (where_zero (kind_in (Some e)) Demand.BodyAlone Demand.BodyBefore) false false t → Kid Demand.StatedOrAbsent false false e → Valid block (Node.expr_block t e)
unfolding where_zero
result_in {t} {e} k l =
    optional (λ x. Kid (where_zero (kind_in (Some x)) Demand.BodyAlone Demand.BodyBefore) false false t → Valid block (Node.expr_block t x)) Demand.StatedOrAbsent refl (omega arith) l
    (λ j. alone_in j)
    (λ low high m j. before_in (stated e (class_of e) low high m l.begins l.ends) (rw (not_absent e high) at j))
    k

pub of_block : Rule NodeKind.ExprBlock
unfolding tables
of_block t u k l = result_in k l

pub of_branch : Rule NodeKind.ConditionalBranch
unfolding tables
of_branch t u k l = v_branch (expr k) (exactly Class.Block (omega arith) l)

-- signatures: one default at most, and none beside a variadic parameter
abbrev Signed : ℕ → Tree → Tree → Tree → Type 0
Signed n t u w = Signature (node NodeKind.SignatureDef n (three t u w))

required : {t u : Tree} {n : ℕ} → Row param t → Empty u → Signed n t u Node.absent
required (row f) empty_list = λ b h. v_function_def f h

with_default : {t u : Tree} {n : ℕ} → Row param t → Only Default u → Signed n t u Node.absent
with_default (row f) (only (default v e)) = λ b h. v_function_default f v e h

variadic : {t u w : Tree} {n : ℕ} → Row param t → Empty u → Valid param w → Signed n t u w
variadic (row f) empty_list (v_param v) = λ b h. v_function_variadic f v h

few : (b : Bool) → defaults (cond b 0 1) ≡ Demand.Defaults
unfolding defaults
few true = refl
few false = refl

one_default : {u : Tree} → Only Default u → eqb (count_in (Some u)) 0 ≡ false
unfolding count
one_default (only d) = refl

abbrev Defaults : Tree → Tree → Tree → Type 0
Defaults t u w = Kid (defaults (signature_mode (three t u w))) true false u

variadic_in : {t u w : Tree} {n : ℕ} → Row param t → Valid param w → Defaults t u w → Signed n t u w
unfolding defaults signature_mode last_tree
variadic_in {u = u} r (v_param v) k =
    by_test (eqb (count_in (Some u)) 0)
    (λ y. either_class (Class.Lists + Class.Default) Class.Empty (omega arith) (rw y at k) (λ m. variadic r m (v_param v)) (λ m. clash y (one_default m)))
    (λ n. no_kid (rw n at k))

signature_in : {t u w : Tree} (n : ℕ) → Row param t → Defaults t u w → Kid Demand.ParamOrAbsent true false w → Signed n t u w
unfolding signature_mode last_tree
signature_in {t} {u} {w} n r k l =
    either_class Class.Param Class.Absent (omega arith) l
    (λ m. missing_is (λ x. Defaults t u x → Signed n t u x) (λ j. either_class (Class.Lists + Class.Default) Class.Empty (omega arith) (rw few at j) (λ e. required {n = n} r e) (λ e. with_default {n = n} r e)) m k)
    (λ p. variadic_in r p k)

pub of_signature : Rule NodeKind.SignatureDef
unfolding tables
of_signature v h t u w k l m = signature_in v (params_in k) l m

pub of_param : Rule NodeKind.ParamDef
unfolding tables
of_param v h = v_param (named_of v h)

pub of_default : Rule NodeKind.DefaultDef
unfolding tables
of_default v h t k = default (named_of v h) (expr k)

pub of_field : Rule NodeKind.FieldAttribute
unfolding tables
of_field v h = v_field (named_of v h)

pub of_field_index : Rule NodeKind.FieldIndex
unfolding tables
of_field_index t k = v_field_index (expr k)
