-- What the root of a valid expression can be, and what follows where it is an assignment, a function or a tuple. Assumes nothing.
use Rattle.std.specs.Prelude.{◌≡◌, refl, Bool, true, false, ◌&&◌, ℕ, suc, pred, ◌+◌, ◌*◌, ◌/◌, ◌<◌, eqb}
use Rattle.std.proofs.Common.{sym, subst, arith, eqb-true, ltb-true}
use Rattle.operator.specs.Operator.{assign_code}
use Rattle.tree.specs.NodeKind
use Rattle.tree.specs.Tree.{Tree, Forest, node, one, two, kind_of}
use Rattle.tree.specs.Node
use Rattle.grammar.specs.Reading.Primary.{with_action, arguments as arguments_of}
use Rattle.grammar.specs.Reading.Function.{target_name}
use Rattle.grammar.specs.Canonical.Write.{Place, own, modified, target_atom, target_items, is_target, function_named, has_function, fun_gives}
use Rattle.grammar.specs.Canonical.Valid.{prim, tight, unary, binop, assign, plain, ex, given, function, item, Valid, Valids, Arguments, Pattern, Target, v_nil, v_empty_tuple, v_identifier, v_true, v_false, v_integer, v_float, v_string, v_group, v_modified, v_atom, v_primary, v_prim, v_unpack, v_ellipsis, v_table, v_function, v_target, v_if, v_block, v_labelled, v_tight, v_unary_op, v_unary, v_up, v_binary_op, v_assign, v_inner, v_single, v_tuple, v_local, v_plain, v_keyword, v_given, v_given_assign, v_given_target, v_function_def, v_function_default, v_function_variadic, v_attribute, v_index, v_invoke, v_invoke_table, v_none, v_more, p_identifier, p_attribute, p_index, p_tuple, p_pack, p_ellipsis, p_modifier, one_argument, arguments, t_name, t_attribute, t_index}
use Rattle.grammar.proofs.Laws.Facts.{clash, by_test, and_l, and_r}
use Rattle.grammar.proofs.Laws.Roles.{same_action}

-- a root that is no assignment, no function and no tuple
pub record Other (t : Tree) : Type 0 where
  pub no_assignment : eqb (kind_of t) NodeKind.Assignment ≡ false
  pub no_function : eqb (kind_of t) NodeKind.FunctionDef ≡ false
  pub no_tuple : eqb (kind_of t) NodeKind.Tuple ≡ false

other_root : {k v : ℕ} {f : Forest} → eqb k NodeKind.Assignment ≡ false → eqb k NodeKind.FunctionDef ≡ false → eqb k NodeKind.Tuple ≡ false → Other (node k v f)
other_root a b c = record { no_assignment = a; no_function = b; no_tuple = c }

-- the roots of an operand
pub data View : Tree → Type 0 where
  is_function : {t : Tree} → Valid (function 0) t → View t
  is_fun : {p d : Tree} → Target p → Valid (function (target_name p)) d → View (Node.assignment 2 0 p d)
  is_other : {t : Tree} → Other t → View t

prim_other : {t : Tree} → Valid prim t → Other t
prim_other (v_atom v_nil) = other_root refl refl refl
prim_other (v_atom v_empty_tuple) = other_root refl refl refl
prim_other (v_atom (v_identifier n)) = other_root refl refl refl
prim_other (v_atom v_true) = other_root refl refl refl
prim_other (v_atom v_false) = other_root refl refl refl
prim_other (v_atom (v_integer v)) = other_root refl refl refl
prim_other (v_atom (v_float v)) = other_root refl refl refl
prim_other (v_atom (v_string n)) = other_root refl refl refl
prim_other (v_atom (v_group e)) = other_root refl refl refl
prim_other (v_atom (v_modified a e)) = other_root refl refl refl
prim_other (v_primary a i f) = other_root refl refl refl

view_tight : {b : Bool} {t : Tree} → Valid (tight b) t → View t
view_tight (v_prim h) = is_other (prim_other h)
view_tight (v_unpack h) = is_other (other_root refl refl refl)
view_tight v_ellipsis = is_other (other_root refl refl refl)
view_tight (v_table f) = is_other (other_root refl refl refl)
view_tight (v_function h) = is_function h
view_tight (v_target p d) = is_fun p d
view_tight (v_if b f e) = is_other (other_root refl refl refl)
view_tight (v_block b) = is_other (other_root refl refl refl)
view_tight (v_labelled n b) = is_other (other_root refl refl refl)

view_unary : {b : Bool} {t : Tree} → Valid (unary b) t → View t
view_unary (v_tight h) = view_tight h
view_unary (v_unary_op k e h) = is_other (other_root refl refl refl)

view_binop : {b : Bool} {l : ℕ} {t : Tree} → Valid (binop b l) t → View t
view_binop (v_unary h) = view_unary h
view_binop (v_up h) = view_binop h
view_binop (v_binary_op k e h g) = is_other (other_root refl refl refl)

-- a function with the name n in its signature
name_is : {t : Tree} (n : ℕ) → Valid (function 0) t → function_named n t ≡ true → 0 ≡ n
name_is n (v_function_def f b) e = eqb-true 0 n e
name_is n (v_function_default f v x b) e = eqb-true 0 n e
name_is n (v_function_variadic f v b) e = eqb-true 0 n e

named_function : {t : Tree} (n : ℕ) → Valid (function 0) t → function_named n t ≡ true → Valid (function n) t
named_function {t} n h e = subst (λ m. Valid (function m) t) (name_is n h e) h

no_function_named : (n : ℕ) (t : Tree) → eqb (kind_of t) NodeKind.FunctionDef ≡ false → function_named n t ≡ true → ⊥
no_function_named n (node k v f) e h = clash (and_l (eqb k NodeKind.FunctionDef) _ h) e

function_view : {t : Tree} (n : ℕ) → View t → function_named n t ≡ true → Valid (function n) t
function_view n (is_function h) e = named_function n h e
function_view n (is_fun p d) e = clash e refl
function_view n (is_other {t = t} o) e = absurd (no_function_named n t o.no_function e)

function_assign : {p : Place} {c : Bool} {a : ℕ} {t : Tree} (n : ℕ) → Valid (assign p c a) t → function_named n t ≡ true → ⊥
function_assign n (v_assign k x h g i) e = clash e refl

-- a right side that is a function
pub function_ex : {c : Bool} {t : Tree} (n : ℕ) → Valid (ex true c) t → function_named n t ≡ true → Valid (function n) t
function_ex n (v_plain (v_inner h)) e = function_view n (view_binop h) e
function_ex n (v_plain (v_single h)) e = clash e refl
function_ex n (v_plain (v_tuple h g f)) e = clash e refl
function_ex n (v_plain (v_local h)) e = absurd (function_assign n h e)
function_ex n (v_keyword a h) e = absurd (function_assign n h e)

-- a pattern that is a target
target_path : {f : Forest} → Valids (item true) f → target_items f ≡ true → Valids (item false) f
unfolding target_items
target_path v_none e = v_none
target_path (v_more (v_attribute n) f) e = v_more (v_attribute n) (target_path f e)
target_path (v_more (v_index x) f) e = v_more (v_index x) (target_path f e)
target_path (v_more (v_invoke x) f) e = clash e refl
target_path (v_more (v_invoke_table x) f) e = clash e refl

pub target_of : {p : Tree} → Pattern p → is_target p ≡ true → Target p
target_of (p_identifier n) e = t_name n
target_of (p_attribute {a = a} {f = f} h g n) e =
    t_attribute (and_l (target_atom (kind_of a)) (target_items f) e) h (target_path g (and_r (target_atom (kind_of a)) (target_items f) e)) n
target_of (p_index {a = a} {f = f} h g x) e =
    t_index (and_l (target_atom (kind_of a)) (target_items f) e) h (target_path g (and_r (target_atom (kind_of a)) (target_items f) e)) x
target_of (p_tuple p f) e = clash e refl
target_of (p_pack p) e = clash e refl
target_of p_ellipsis e = clash e refl
target_of (p_modifier a p) e = clash e refl

-- `fun` gives the assignment of a function to a target
pub record Fun (p d : Tree) : Type 0 where
  pub to : Target p
  pub of : Valid (function (target_name p)) d

pub fun_of : {c : Bool} {p d : Tree} → Pattern p → Valid (ex true c) d → has_function (two p d) ≡ true → Fun p d
fun_of {p = p} {d = d} h g e = record {
  to = target_of h (and_l (is_target p) (function_named (target_name p) d) e);
  of = function_ex (target_name p) g (and_r (is_target p) (function_named (target_name p) d) e);
}

-- under a group's modifier
given_fun : {a op : ℕ} {p d : Tree} → op ≡ 0 → Fun p d → Valid (given a) (Node.assignment a op p d)
given_fun {a} {op} {p} {d} e x = subst (λ n. Valid (given a) (Node.assignment a n p d)) (sym e) (v_given_target x.to x.of)

-- the value of an assignment holds its action and its operator
op_of : (a op : ℕ) → a < 4 → (a + 4 * op) / 4 ≡ op
op_of a op h = omega arith

given_assign : {a b : ℕ} {t : Tree} → a < 4 → b < 4 → Valid (assign own true b) t → Valid (given a) (with_action (suc a) t)
given_assign {a} {b} ha hb (v_assign {lhs = p} {rhs = d} k e h g i) =
    rw (op_of b (pred (assign_code k)) hb)
    (by_test (fun_gives modified (a + 4 * pred (assign_code k)) && has_function (two p d))
    (λ y.
    given_fun (small (and_l (fun_gives modified (a + 4 * pred (assign_code k))) (has_function (two p d)) y))
    (fun_of h g (and_r (fun_gives modified (a + 4 * pred (assign_code k))) (has_function (two p d)) y)))
    (λ n. v_given_assign (v_assign k e h g n)))
  where
    small : fun_gives modified (a + 4 * pred (assign_code k)) ≡ true → pred (assign_code k) ≡ 0
    small y = let l = ltb-true (a + 4 * pred (assign_code k)) 4 y in omega arith

given_other : {a : ℕ} {t : Tree} → Valid (plain true true) t → eqb (kind_of t) NodeKind.Assignment ≡ false → Valid (given a) (with_action (suc a) t)
given_other {a} {t} h e = subst (λ u. Valid (given a) u) (sym (same_action a t e)) (v_given e h)

given_view : {a : ℕ} {t : Tree} → a < 4 → Valid (plain true true) t → View t → Valid (given a) (with_action (suc a) t)
given_view ha p (is_function (v_function_def f b)) = given_other p refl
given_view ha p (is_function (v_function_default f v e b)) = given_other p refl
given_view ha p (is_function (v_function_variadic f v b)) = given_other p refl
given_view ha p (is_fun t d) = v_given_target t d
given_view ha p (is_other o) = given_other p o.no_assignment

pub given_ex : {a : ℕ} {t : Tree} → a < 4 → Valid (ex true true) t → Valid (given a) (with_action (suc a) t)
given_ex ha (v_plain (v_inner h)) = given_view ha (v_inner h) (view_binop h)
given_ex ha (v_plain (v_single h)) = given_other (v_single h) refl
given_ex ha (v_plain (v_tuple h g f)) = given_other (v_tuple h g f) refl
given_ex ha (v_plain (v_local h)) = given_assign ha (omega arith) h
given_ex ha (v_keyword a h) = given_assign ha (omega arith) h

-- the arguments that an expression between parentheses is
no_tuple_view : {t : Tree} → View t → eqb (kind_of t) NodeKind.Tuple ≡ false
no_tuple_view (is_function (v_function_def f b)) = refl
no_tuple_view (is_function (v_function_default f v e b)) = refl
no_tuple_view (is_function (v_function_variadic f v b)) = refl
no_tuple_view (is_fun p d) = refl
no_tuple_view (is_other o) = o.no_tuple

one_itself : (t : Tree) → eqb (kind_of t) NodeKind.Tuple ≡ false → arguments_of t ≡ one t
one_itself (node k v f) e = rw e

one_sound : {t : Tree} → Valid (ex true true) t → eqb (kind_of t) NodeKind.Tuple ≡ false → Arguments (arguments_of t)
one_sound {t} h e = subst Arguments (sym (one_itself t e)) (one_argument h e)

assign_no_tuple : {p : Place} {c : Bool} {a : ℕ} {t : Tree} → Valid (assign p c a) t → eqb (kind_of t) NodeKind.Tuple ≡ false
assign_no_tuple (v_assign k e h g i) = refl

pub arguments_sound : {t : Tree} → Valid (ex true true) t → Arguments (arguments_of t)
arguments_sound (v_plain (v_inner h)) = one_sound (v_plain (v_inner h)) (no_tuple_view (view_binop h))
arguments_sound (v_plain (v_single h)) = one_argument (v_plain (v_inner h)) (no_tuple_view (view_binop h))
arguments_sound (v_plain (v_tuple h g f)) = arguments h g f
arguments_sound (v_plain (v_local h)) = one_sound (v_plain (v_local h)) (assign_no_tuple h)
arguments_sound (v_keyword a h) = one_sound (v_keyword a h) (assign_no_tuple h)
