-- An expression of a class in every role that takes the class: the tightest role first. Assumes nothing.
use Rattle.std.specs.Prelude.{◌≡◌, Bool, ℕ, zero, suc, ◌+◌, ◌≤◌, eqb}
use Rattle.std.proofs.Common.{subst, arith, eqb-true}
use Rattle.std.proofs.lemmas.Bool.{eqb-false}
use Rattle.tree.specs.Tree.{Tree}
use Rattle.grammar.specs.Canonical.Valid.{atom, prim, tight, unary, binop, plain, ex, Valid, v_atom, v_primary, v_prim, v_ellipsis, v_tight, v_unary, v_up, v_inner, v_plain, v_more}
use Rattle.grammar.proofs.Laws.Facts.{by_test}
use Rattle.tables.specs.Operators.{Levels}
use Rattle.tables.specs.Class as Class
use Rattle.tables.proofs.Valid.Builds.Classes.{Begins, Ends, Tight, as_lone, as_path, as_atom, as_tight, Expression, bound, as_unary, as_binary, as_plain, as_any, Receiver, receiver}

-- there is no class 0
some_tight : {c : ℕ} {t : Tree} → Tight c t → 1 ≤ c
some_tight as_lone = omega arith
some_tight (as_path h i f) = omega arith
some_tight (as_atom h) = omega arith
some_tight (as_tight h) = omega arith

pub some : {c : ℕ} {t : Tree} → Expression c t → 1 ≤ c
some (bound h) = some_tight h
some (as_unary h) = omega arith
some (as_binary l m n h) = omega arith
some (as_plain m n h) = omega arith
some (as_any h) = omega arith

-- what binds tighter than operators
pub tight_class : {c : ℕ} {t : Tree} → c ≤ Class.Tight → Expression c t → Tight c t
tight_class x (bound h) = h
tight_class x (as_unary h) = absurd (omega arith)
tight_class x (as_binary l m n h) = absurd (omega arith)
tight_class x (as_plain m n h) = absurd (omega arith)
tight_class x (as_any h) = absurd (omega arith)

pub atom_of : {c : ℕ} {t : Tree} → Class.Atom ≤ c → c ≤ Class.Atom → Tight c t → Valid atom t
atom_of x y as_lone = absurd (omega arith)
atom_of x y (as_path h i f) = absurd (omega arith)
atom_of x y (as_atom h) = h
atom_of x y (as_tight h) = absurd (omega arith)

pub prim_of : {c : ℕ} {t : Tree} → Class.Primary ≤ c → c ≤ Class.Atom → Tight c t → Valid prim t
prim_of x y as_lone = absurd (omega arith)
prim_of x y (as_path h i f) = v_primary h i f
prim_of x y (as_atom h) = v_atom h
prim_of x y (as_tight h) = absurd (omega arith)

pub receiver_of : {c : ℕ} {t : Tree} → Class.Primary ≤ c → c ≤ Class.Primary → Tight c t → Receiver t
receiver_of x y as_lone = absurd (omega arith)
receiver_of x y (as_path h i f) = receiver h (v_more i f)
receiver_of x y (as_atom h) = absurd (omega arith)
receiver_of x y (as_tight h) = absurd (omega arith)

tight_of : {c : ℕ} {t : Tree} → Tight c t → (begin : Bool) → Begins begin t → Valid (tight begin) t
tight_of as_lone begin p = v_ellipsis
tight_of (as_path h i f) begin p = v_prim (v_primary h i f)
tight_of (as_atom h) begin p = v_prim (v_atom h)
tight_of (as_tight h) begin p = h begin p

-- operands
pub unary_of : {c : ℕ} {t : Tree} → c ≤ Class.Unary → Expression c t → (begin : Bool) → Begins begin t → Valid (unary begin) t
unary_of x (bound h) begin p = v_tight (tight_of h begin p)
unary_of x (as_unary h) begin p = h begin p
unary_of x (as_binary l m n h) begin p = absurd (omega arith)
unary_of x (as_plain m n h) begin p = absurd (omega arith)
unary_of x (as_any h) begin p = absurd (omega arith)

-- a looser level takes what a tighter one does
raise : {begin : Bool} {t : Tree} (l m : ℕ) → l ≤ m → Valid (binop begin l) t → Valid (binop begin m) t
raise {begin} {t} l zero h v =
    let e : l ≡ 0 = omega arith in
    subst (λ n. Valid (binop begin n) t) e v
raise {begin} {t} l (suc m) h v =
    by_test (eqb l (suc m))
    (λ y. subst (λ n. Valid (binop begin n) t) (eqb-true l (suc m) y) v)
    (λ n. let d = eqb-false l (suc m) n in v_up (raise l m (omega arith) v))

pub binary_of : {c : ℕ} {t : Tree} (m : ℕ) → c ≤ Class.Unary + m → m ≤ Levels → Expression c t → (begin : Bool) → Begins begin t → Valid (binop begin m) t
binary_of m x y (bound h) begin p = raise 0 m (omega arith) (v_unary (v_tight (tight_of h begin p)))
binary_of m x y (as_unary h) begin p = raise 0 m (omega arith) (v_unary (h begin p))
binary_of m x y (as_binary l n o h) begin p = raise l m (omega arith) (h begin p)
binary_of m x y (as_plain n o h) begin p = absurd (omega arith)
binary_of m x y (as_any h) begin p = absurd (omega arith)

-- expressions
pub plain_of : {c : ℕ} {t : Tree} → c ≤ Class.Local → Expression c t → (begin close : Bool) → Begins begin t → Ends close t → Valid (plain begin close) t
plain_of x (bound h) begin close p q = v_inner (raise 0 Levels (omega arith) (v_unary (v_tight (tight_of h begin p))))
plain_of x (as_unary h) begin close p q = v_inner (raise 0 Levels (omega arith) (v_unary (h begin p)))
plain_of x (as_binary l m n h) begin close p q = v_inner (raise l Levels n (h begin p))
plain_of x (as_plain m n h) begin close p q = h begin close p q
plain_of x (as_any h) begin close p q = absurd (omega arith)

pub any_of : {c : ℕ} {t : Tree} → Expression c t → (begin close : Bool) → Begins begin t → Ends close t → Valid (ex begin close) t
any_of (bound h) begin close p q = v_plain (plain_of (omega arith) (bound {c = Class.Tight} (as_tight (tight_of h))) begin close p q)
any_of (as_unary h) begin close p q = v_plain (plain_of (omega arith) (as_unary h) begin close p q)
any_of (as_binary l m n h) begin close p q = v_plain (plain_of (omega arith) (as_binary l m n h) begin close p q)
any_of (as_plain m n h) begin close p q = v_plain (h begin close p q)
any_of (as_any h) begin close p q = h begin close p q
