-- Laws of the roles of valid trees that reading and writing both use: a weaker level takes what a tighter one does, one tree more is as valid, a modifier leaves what is no assignment as it is,
-- and a target with its function is told to be one. Assumes nothing.
use Rattle.std.specs.Prelude.{◌≡◌, refl, Bool, true, false, ℕ, zero, suc, ◌≤◌, eqb}
use Rattle.std.proofs.Common.{subst, arith, eqb-true, eq-eqb}
use Rattle.std.proofs.lemmas.Bool.{eqb-false}
use Rattle.operator.specs.Operator.{level_count}
use Rattle.tree.specs.NodeKind
use Rattle.tree.specs.Tree.{Tree, Forest, node, two, snoc, kind_of}
use Rattle.grammar.specs.Reading.Primary.{with_action}
use Rattle.grammar.specs.Reading.Function.{target_name}
use Rattle.grammar.specs.Canonical.Write.{target_items, is_target, function_named, has_function}
use Rattle.grammar.specs.Canonical.Valid.{Role, Valid, Valids, Target, tight, binop, function, item, v_tight, v_unary, v_up, v_function_def, v_function_default, v_function_variadic, v_attribute, v_index, v_none, v_more, t_name, t_attribute, t_index}
use Rattle.grammar.proofs.Laws.Facts.{by_test}

-- a weaker level takes what a tighter one does
pub raise : {begin : Bool} {t : Tree} (l m : ℕ) → l ≤ m → Valid (binop begin l) t → Valid (binop begin m) t
raise {begin} {t} l zero h v =
    let e : l ≡ 0 = omega arith in
    subst (λ n. Valid (binop begin n) t) e v
raise {begin} {t} l (suc m) h v =
    by_test (eqb l (suc m))
    (λ y. subst (λ n. Valid (binop begin n) t) (eqb-true l (suc m) y) v)
    (λ n. let d = eqb-false l (suc m) n in v_up (raise l m (omega arith) v))

-- an operand alone is one of the weakest level
pub as_inner : {b : Bool} {t : Tree} → Valid (tight b) t → Valid (binop b level_count) t
as_inner h = raise 0 level_count (omega arith) (v_unary (v_tight h))

-- trees of one role, and one more
pub valids_snoc : {o : Role} {f : Forest} {t : Tree} → Valids o f → Valid o t → Valids o (snoc f t)
unfolding snoc
valids_snoc v_none h = v_more h v_none
valids_snoc (v_more g gs) h = v_more g (valids_snoc gs h)

-- only an assignment takes a modifier's action
pub same_action : (a : ℕ) (t : Tree) → eqb (kind_of t) NodeKind.Assignment ≡ false → with_action (suc a) t ≡ t
same_action a (node k v f) e = rw e

-- what is written with `fun` is told to be
items_target : {f : Forest} → Valids (item false) f → target_items f ≡ true
unfolding target_items
items_target v_none = refl
items_target (v_more (v_attribute h) g) = items_target g
items_target (v_more (v_index h) g) = items_target g

target_is : {p : Tree} → Target p → is_target p ≡ true
target_is (t_name h) = refl
target_is (t_attribute e h g i) = rw (e, items_target g)
target_is (t_index e h g i) = rw (e, items_target g)

function_is : {n : ℕ} {d : Tree} → Valid (function n) d → function_named n d ≡ true
function_is {n} (v_function_def h g) = eq-eqb n n refl
function_is {n} (v_function_default h i e g) = eq-eqb n n refl
function_is {n} (v_function_variadic h i g) = eq-eqb n n refl

pub has_target : {p d : Tree} → Target p → Valid (function (target_name p)) d → has_function (two p d) ≡ true
has_target t h = rw (target_is t, function_is h)
