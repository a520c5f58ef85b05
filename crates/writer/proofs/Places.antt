-- From a place to the place of a child: what is said of the child is said of its parent. Assumes nothing.
use mathlib.Core.Path.{◌≡◌, refl, sym, ap, ◌∙◌}
use mathlib.Core.List.{List, ◌∷◌}
use Prim.Native.Nat.{ℕ}
use native.Mathlib.Omega.{arith}
use Rattle.std.specs.Prelude.{Option, Some, None}
use Rattle.tree.specs.Tree.{Tree, Forest, node, none, more, count}
use Rattle.writer.specs.Stack.{At, Here, SpotAs, Spot, Somewhere, Says, LastOf, KidOf, kid_in}
use Rattle.tables.specs.Children.{kind_in, count_in, children_in, first_tree, last_tree, last_in}
use Rattle.tables.specs.Check.{class_of, class_in}

-- a tree ends there
pub stands : {L : List ℕ} {p : ℕ} {t : Tree} {s : List Tree} → At L p (t ∷ s) → Spot L p (Some t) s
stands a = record { how = a }

pub some_place : {L : List ℕ} {p : ℕ} → Here L p → Somewhere L p
some_place y = record { tree = Some y.top; rest = y.rest; spot = stands y.here }

-- the last child's place is one, and what is said there
pub last_place : {L : List ℕ} {p q : ℕ} → LastOf L p q → Somewhere L p → Somewhere L q
last_place l y =
    let w = l.how y.tree y.rest y.spot in
    record { tree = last_in y.tree; rest = w.0; spot = w.1 }

pub of_last : {A : Type 0} {L : List ℕ} {p q : ℕ} {what : Option Tree → A} {r : A} → LastOf L p q → Says L q what r → Says L p (λ m. what (last_in m)) r
of_last l e = record { how = λ m s h. let w = l.how m s h in e.how (last_in m) w.0 w.1 }

-- the same of the child number j
pub kid_place : {L : List ℕ} {p j q : ℕ} → KidOf L p j q → Somewhere L p → Somewhere L q
kid_place {j = j} l y = record { tree = kid_in j y.tree; rest = _; spot = l.how y.tree y.rest y.spot }

pub of_kid : {A : Type 0} {L : List ℕ} {p j q : ℕ} {what : Option Tree → A} {r : A} → KidOf L p j q → Says L q what r → Says L p (λ m. what (kid_in j m)) r
of_kid {j = j} l e = record { how = λ m s h. e.how (kid_in j m) _ (l.how m s h) }

-- by the kind that was found: what is said at this kind is said of the tree
pub by_kind : {A : Type 0} {L : List ℕ} {p k n : ℕ} {r : A} (what : ℕ → Option Tree → A) → Says L p kind_in k → k ≡ n → Says L p (what n) r → Says L p (λ m. what (kind_in m) m) r
by_kind what kind e x = record { how = λ m s h. x.how m s h ∙ ap (λ (z : ℕ). what z m) (sym e ∙ kind.how m s h) }

-- a tree's class, as it is asked at a place
pub class_same : (t : Tree) → class_in (Some t) ≡ class_of t
class_same (node k v f) = refl

-- the count of the children that there are
pub count_kids : (m : Option Tree) → count_in m ≡ count (children_in m)
unfolding count
count_kids None = refl
count_kids (Some (node k v f)) = refl

-- a place that is not 0 is the end of a tree
pub a_tree : {L : List ℕ} {p : ℕ} → Somewhere L p → (p ≡ 0 → ⊥) → Here L p
a_tree {L} {p} y n = go y.tree y.spot.how
  where
    go : (m : Option Tree) → SpotAs L p m y.rest → Here L p
    go None z = absurd (n z)
    go (Some t) a = record { top = t; rest = y.rest; here = a }

-- without children there is no first one
pub no_first : (t : Tree) → count_in (Some t) ≡ 0 → first_tree (children_in (Some t)) ≡ None
unfolding count
no_first (node k v none) e = refl
no_first (node k v (more t f)) e = absurd (omega arith)

pub some_first : (t : Tree) → (count_in (Some t) ≡ 0 → ⊥) → first_tree (children_in (Some t)) ≡ None → ⊥
unfolding count
some_first (node k v none) n e = n refl
some_first (node k v (more t f)) n e =
    let z : ◌≡◌ {A = ℕ} 0 1 = cc in
    absurd (omega arith)

-- an only child is the first and the last
pub first_is_last : (f : Forest) → count f ≡ 1 → first_tree f ≡ last_tree f
unfolding count last_tree
first_is_last none e = absurd (omega arith)
first_is_last (more t none) e = refl
first_is_last (more t (more u f)) e = absurd (omega arith)
