-- A child that meets the demand of its place is valid in the role that the place has. Assumes nothing.
use Rattle.std.specs.Prelude.{◌≡◌, refl, Bool, true, false, ℕ, suc, ◌+◌, ◌*◌, ◌/◌, ◌%◌, ◌≤◌, eqb, ltb, Some}
use Rattle.std.proofs.Common.{subst, arith, eqb-true, ltb-false, le-leb, lt-ltb}
use Rattle.std.proofs.lemmas.Bool.{eqb-false}
use Rattle.tree.specs.NodeKind
use Rattle.tree.specs.Tree.{Tree, Forest, node, none, more, kind_of}
use Rattle.tree.specs.Node
use Rattle.grammar.specs.Reading.Stmt.{lone_ellipsis}
use Rattle.grammar.specs.Canonical.Valid.{Role, atom, unary, binop, plain, ex, item, table_item, param, else_clause, control, body, stmt, Valid, Valids, IsName, v_none, v_more, v_no_else, v_else, v_no_control, v_control, v_body, v_expression}
use Rattle.grammar.proofs.Laws.Facts.{clash, by_test, not_true}
use Rattle.tables.specs.Operators.{Levels}
use Rattle.tables.specs.Class as Class
use Rattle.tables.specs.Class.{class}
use Rattle.tables.specs.Demand as Demand
use Rattle.tables.specs.Sound as Sound
use Rattle.tables.specs.Children.{kind_in, Each}
use Rattle.tables.specs.Check.{class_of, mode_of}
use Rattle.tables.proofs.Valid.Meets.Demands.{by_fits}
use Rattle.tables.proofs.Valid.Builds.Classes.{Begins, Ends, Expression, Any, Receiver, Missing, missing, Body, open_body, plain_body, ended_body, Operand, Empty, empty_list, Listed, listed, Means, Kid}
use Rattle.tables.proofs.Valid.Builds.Roles.{some, tight_class, atom_of, receiver_of, unary_of, binary_of, plain_of, any_of}

-- names in range, and labels, 1 + a name
pub name_of : (v : ℕ) → v ≤ Sound.Name → IsName v
name_of v h = lt-ltb v 4294967296 (omega arith)

pub name_in : (v : ℕ) → ltb Sound.Name v ≡ false → IsName v
name_in v h = name_of v (ltb-false Sound.Name v h)

pub label_name : (n : ℕ) → ltb Sound.Label (suc n) ≡ false → IsName n
label_name n h = name_of n (omega (arith, ltb-false Sound.Label (suc n) h))

-- kinds that have one class
pub same_kind : (t : Tree) → kind_in (Some t) ≡ kind_of t
same_kind (node k v f) = refl

kind_class : (k c : ℕ) → ((v : ℕ) (f : Forest) → class k v (mode_of k f) ≡ c) → (t : Tree) → eqb (kind_of t) k ≡ true → class_of t ≡ c
kind_class k c h (node x v f) e = rw (eqb-true x k e) (h v f)

pub not_absent : (t : Tree) → class_of t ≤ Class.Keyword → eqb (kind_in (Some t)) NodeKind.Absent ≡ false
unfolding class
not_absent t h =
    not_true (eqb (kind_in (Some t)) NodeKind.Absent) λ y. omega (arith, kind_class NodeKind.Absent Class.Absent (λ v f. refl) t (rw same_kind at y))

pub no_tuple : (t : Tree) → (class_of t ≡ Class.Tuple → ⊥) → eqb (kind_of t) NodeKind.Tuple ≡ false
unfolding class
no_tuple t h = not_true (eqb (kind_of t) NodeKind.Tuple) λ y. h (kind_class NodeKind.Tuple Class.Tuple (λ v f. refl) t y)

-- the classes of expressions
pub any_class : {t : Tree} (c : ℕ) → c ≤ Class.Given → Means c t → Any c t
any_class c h m = rw (le-leb c Class.Given h) at m

-- an expression whose kind is neither Assignment nor Unpack
pub simple : {c : ℕ} {t : Tree} → eqb (kind_of t) NodeKind.Assignment ≡ false → lone_ellipsis t ≡ false → Expression c t → Any c t
simple e g x = record { own = λ h. x; lone = λ h. g; under = λ y. clash y e }

pub at_class : (t : Tree) (c n : ℕ) → c ≡ n → Means c t → Means n t
at_class t c n e m = subst (λ d. Means d t) e m

no_class : (t : Tree) (c : ℕ) → c ≡ 0 → Means c t → ⊥
no_class t c e m = let l = some ((any_class c (omega arith) m).own (omega arith)) in omega arith

-- a demand without another class: no class is 0
pub in_range : {P : Type 0} {begin close : Bool} {t : Tree} (d : ℕ) → d / 10000 ≡ 0 → Kid d begin close t → (d % 100 ≤ class_of t → class_of t ≤ d / 100 % 100 → P) → P
in_range {t = t} d h k f = by_fits d (class_of t) k.class f (λ z. absurd (no_class t (class_of t) (omega arith) k.means))

pub no_kid : {P : Type 0} {begin close : Bool} {t : Tree} → Kid Class.Nothing begin close t → P
no_kid k = in_range Class.Nothing refl k λ low high. absurd (omega arith)

pub expression : {begin close : Bool} {t : Tree} (d : ℕ) → d / 10000 ≡ 0 → d / 100 % 100 ≤ Class.Keyword → Kid d begin close t → Expression (class_of t) t
expression {t = t} d h m k = in_range d h k λ low high. (any_class (class_of t) (omega arith) k.means).own (omega arith)

-- expressions and operands
pub any_in : {begin close : Bool} {t : Tree} → Kid Demand.Expr begin close t → (end : Bool) → Ends end t → Valid (ex begin end) t
any_in {begin = begin} k end q = any_of (expression Demand.Expr refl (omega arith) k) begin end k.begins q

pub expr : {begin close : Bool} {t : Tree} → Kid Demand.Expr begin close t → Valid (ex begin close) t
expr {close = close} k = any_in k close k.ends

pub stated : (t : Tree) (c : ℕ) → Class.Primary ≤ c → c ≤ Class.Keyword → Any c t → Begins false t → Ends false t → Valid stmt (Node.expression t)
stated t c low high m p q = v_expression (any_of (m.own high) false false p q) (m.lone low)

pub plain_in : {begin close : Bool} {t : Tree} (d : ℕ) → d / 10000 ≡ 0 → d / 100 % 100 ≤ Class.Local → Kid d begin close t → Valid (plain begin close) t
plain_in {begin = begin} {close = close} d h m k =
    in_range d h k λ low high. plain_of (omega arith) (expression d h (omega arith) k) begin close k.begins k.ends

pub operand_in : {begin close : Bool} {t : Tree} (l : ℕ) → l ≤ Levels → Kid (Demand.Level l) begin close t → (start : Bool) → Begins start t → Valid (binop start l) t
operand_in l h k start p =
    let e : Demand.Level l / 10000 ≡ 0 = omega arith in
    in_range (Demand.Level l) e k λ low high. binary_of l (omega arith) h (expression (Demand.Level l) e (omega arith) k) start p

pub unary_in : {begin close : Bool} {t : Tree} → Kid Demand.Unary begin close t → Valid (unary begin) t
unary_in {begin = begin} k = in_range Demand.Unary refl k λ low high. unary_of high (expression Demand.Unary refl (omega arith) k) begin k.begins

-- one class n, or another class o
other_part : (n o : ℕ) → n ≤ 98 → (101 * n + 10000 * o) / 10000 ≡ o
other_part n o h = omega arith

low_part : (n o : ℕ) → n ≤ 98 → (101 * n + 10000 * o) % 100 ≡ n
low_part n o h = omega arith

high_part : (n o : ℕ) → n ≤ 98 → (101 * n + 10000 * o) / 100 % 100 ≡ n
high_part n o h =
    let e : (101 * n + 10000 * o) / 100 ≡ n + 100 * o = omega arith in
    rw e (omega arith)

pub either_class : {P : Type 0} {begin close : Bool} {t : Tree} (n o : ℕ) → n ≤ 98 → Kid (101 * n + 10000 * o) begin close t → (Means o t → P) → (Means n t → P) → P
either_class {t = t} n o h k f g =
    by_fits (101 * n + 10000 * o) (class_of t) k.class
    (λ low high. g (at_class t (class_of t) n (omega (arith, low_part n o h, high_part n o h)) k.means))
    (λ z. f (at_class t (class_of t) o (omega (arith, other_part n o h)) k.means))

pub exactly : {begin close : Bool} {t : Tree} (n : ℕ) → n ≤ 98 → Kid (101 * n + 10000 * 0) begin close t → Means n t
exactly {t = t} n h k = either_class n 0 h k (λ m. absurd (no_class t 0 refl m)) (λ m. m)

-- a place that may be empty
pub missing_is : (P : Tree → Type 0) {t : Tree} → P Node.absent → Missing t → P t
missing_is P h missing = h

pub optional : (P : Tree → Type 0) {begin close : Bool} {t : Tree} (d : ℕ) → d / 10000 ≡ Class.Absent → d / 100 % 100 ≤ Class.Keyword → Kid d begin close t → P Node.absent
    → (d % 100 ≤ class_of t → class_of t ≤ d / 100 % 100 → Any (class_of t) t → P t) → P t
optional P {t = t} d h m k f g =
    by_fits d (class_of t) k.class
    (λ low high. g low high (any_class (class_of t) (omega arith) k.means))
    (λ z. missing_is P f (at_class t (class_of t) Class.Absent (omega arith) k.means))

-- parts
pub atom_in : {begin close : Bool} {t : Tree} → Kid Demand.Atom begin close t → Valid atom t
atom_in k = in_range Demand.Atom refl k λ low high. atom_of low high (tight_class (omega arith) (expression Demand.Atom refl (omega arith) k))

pub receiver_in : {begin close : Bool} {t : Tree} → Kid Demand.Receiver begin close t → Receiver t
receiver_in k =
    either_class Class.Primary Class.Bare (omega arith) k (λ m. m) (λ m. receiver_of (omega arith) (omega arith) (tight_class (omega arith) (m.own (omega arith))))

pub control_in : {begin close : Bool} {t : Tree} → Kid Demand.ControlOrAbsent begin close t → Valid control t
control_in k = either_class Class.Control Class.Absent (omega arith) k (missing_is (Valid control) v_no_control) (λ m. v_control m)

pub else_in : {begin close : Bool} {t : Tree} → Kid Demand.BlockOrAbsent begin close t → Valid else_clause t
else_in k = either_class Class.Block Class.Absent (omega arith) k (missing_is (Valid else_clause) v_no_else) (λ m. v_else m)

-- statement lists
pub body_class : (t : Tree) (c : ℕ) → Class.OpenBody ≤ c → c ≤ Class.EndedBody → Means c t → Body c t
body_class t c low high m =
    by_test (eqb c Class.OpenBody) (λ y. let x = eqb-true c Class.OpenBody y in rw x (at_class t c Class.OpenBody x m)) λ n.
    by_test (eqb c Class.PlainBody) (λ y. let x = eqb-true c Class.PlainBody y in rw x (at_class t c Class.PlainBody x m)) λ o.
    let x : c ≡ Class.EndedBody = omega (arith, eqb-false c Class.OpenBody n, eqb-false c Class.PlainBody o) in
    rw x (at_class t c Class.EndedBody x m)

body_is : {c : ℕ} {t : Tree} → Body c t → Valid body t
body_is (open_body f) = v_body f v_no_control
body_is (plain_body f e) = v_body f v_no_control
body_is (ended_body f c) = v_body f (v_control c)

pub body_in : {begin close : Bool} {t : Tree} → Kid Demand.Body begin close t → Valid body t
body_in {t = t} k = in_range Demand.Body refl k λ low high. body_is (body_class t (class_of t) low high k.means)

-- lists
pub data Row (o : Role) : Tree → Type 0 where
  row : {f : Forest} → Valids o f → Row o (Node.list f)

pub all_valid : {o : Role} {f : Forest} → Each (Valid o) f → Valids o f
all_valid {f = none} h = v_none
all_valid {f = more t f} h = v_more h.0 (all_valid h.1)

no_row : {o : Role} {t : Tree} → Empty t → Row o t
no_row empty_list = row v_none

some_row : {o : Role} {t : Tree} → Listed (Valid o) t → Row o t
some_row (listed h f) = row (v_more h (all_valid f))

pub items_in : {begin close : Bool} {t : Tree} → Kid Demand.Items begin close t → Row (item true) t
items_in k = either_class (Class.Lists + Class.Item) Class.Empty (omega arith) k no_row some_row

pub table_items_in : {begin close : Bool} {t : Tree} → Kid Demand.TableItems begin close t → Row table_item t
table_items_in k = either_class (Class.Lists + Class.TableItem) Class.Empty (omega arith) k no_row some_row

pub params_in : {begin close : Bool} {t : Tree} → Kid Demand.Params begin close t → Row param t
params_in k = either_class (Class.Lists + Class.Param) Class.Empty (omega arith) k no_row some_row

pub statements_in : {begin close : Bool} {t : Tree} → Kid Demand.Statements begin close t → Row stmt t
statements_in k = either_class (Class.Lists + Class.Statement) Class.Empty (omega arith) k no_row some_row

-- operands behind the first
pub operands : {f : Forest} → Each Operand f → Valids (binop true Levels) f
operands {f = none} h = v_none
operands {f = more t f} h = v_more (h.0 true (λ e. clash refl e)) (operands h.1)
