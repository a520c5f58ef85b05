-- Down a chain of children: how a tree begins is how its first child begins, and how it ends is how its last child ends. Assumes nothing.
use mathlib.Core.Path.{◌≡◌, refl, sym, ◌∙◌}
use mathlib.Core.Bool.{Bool, true, false, ◌&&◌}
use mathlib.Core.List.{List}
use Prim.Native.Nat.{ℕ, ◌≤◌}
use native.Mathlib.Omega.{arith}
use lib.Dec.{eqb, ltb}
use borrow.Author.Tests.{eq-eqb, ne_eqb}
use Rattle.std.specs.Prelude.{Option, Some, None}
use Rattle.std.specs.Option.{option_map_or}
use Rattle.tree.specs.NodeKind
use Rattle.tree.specs.Tree.{Tree, Forest, node, none, more}
use Rattle.tables.specs.Kinds.{passes}
use Rattle.writer.specs.Stack.{SpotAs, Spot, Somewhere, Says, LastOf, KidOf, kid_in}
use Rattle.tables.specs.Children.{kind_in, count_in, value_in, last_tree, last_in}
use Rattle.tables.specs.Check.{begins_labelled, first_labelled, ends_single, last_single}
use Rattle.writer.proofs.Laws.{at_many}

-- what is to be said at p is what is to be said at q
pub record Down (L : List ℕ) (p q : ℕ) (what : Option Tree → Bool) : Type 0 where
  pub how : (m : Option Tree) (s : List Tree) → Spot L p m s → (n : Option Tree) × (u : List Tree) × Spot L q n u × (what m ≡ what n)

module _ {L : List ℕ} {p q : ℕ} {what : Option Tree → Bool} (w : Down L p q what) where
  pub down_place : Somewhere L p → Somewhere L q
  down_place y =
      let x = w.how y.tree y.rest y.spot in
      record { tree = x.0; rest = x.1; spot = x.2 }

  pub down_kid : {j r : ℕ} → KidOf L q j r → ((n : Option Tree) (u : List Tree) → Spot L q n u → what n ≡ what (kid_in j n)) → Down L p r what
  down_kid {j} l e = record { how = λ m s h. let x = w.how m s h in (kid_in j x.0, _, l.how x.0 x.1 x.2, x.3 ∙ e x.0 x.1 x.2) }

  pub down_last : {r : ℕ} → LastOf L q r → ((n : Option Tree) (u : List Tree) → Spot L q n u → what n ≡ what (last_in n)) → Down L p r what
  down_last l e = record { how = λ m s h. let x = w.how m s h in let y = l.how x.0 x.1 x.2 in (last_in x.0, y.0, y.1, x.3 ∙ e x.0 x.1 x.2) }

  pub down_end : {r : Bool} → Says L q what r → Says L p what r
  down_end e = record { how = λ m s h. let x = w.how m s h in e.how x.0 x.1 x.2 ∙ sym x.3 }

-- a kind other than 0 is that of a tree, so there are words before the place
pub some_words : {L : List ℕ} {q x : ℕ} → Somewhere L q → Says L q kind_in x → (x ≡ 0 → ⊥) → 2 ≤ q
some_words {L} {q} {x} y k n = go y.tree (k.how y.tree y.rest y.spot) y.spot.how
  where
    go : (m : Option Tree) → x ≡ kind_in m → SpotAs L q m y.rest → 2 ≤ q
    go None e a = absurd (n e)
    go (Some t) e a = omega (arith, at_many a)

-- ---------------------------------------------------------------- how a tree begins
pub passes_some : {x : ℕ} → passes x ≡ true → x ≡ 0 → ⊥
unfolding passes
passes_some p e =
    let f : false ≡ true = rw e at p in
    let z : ◌≡◌ {A = ℕ} 0 1 = cc in
    omega arith

pub labelled_first : (k v : ℕ) (f : Forest) → passes k ≡ true → begins_labelled (node k v f) ≡ first_labelled f
unfolding begins_labelled
labelled_first k v f p = rw p

pub labelled_down : (m : Option Tree) → passes (kind_in m) ≡ true → option_map_or begins_labelled m false ≡ option_map_or begins_labelled (kid_in 1 m) false
unfolding begins_labelled
labelled_down None p = refl
labelled_down (Some (node k v none)) p = rw p
labelled_down (Some (node k v (more t f))) p = rw p

pub labelled_here : (m : Option Tree) → passes (kind_in m) ≡ false → option_map_or begins_labelled m false ≡ eqb (kind_in m) NodeKind.Block && ltb 0 (value_in m)
unfolding begins_labelled
labelled_here None p = refl
labelled_here (Some (node k v f)) p = rw p

-- ---------------------------------------------------------------- how it ends
last_is : (f : Forest) → last_single f ≡ option_map_or ends_single (last_tree f) false
unfolding ends_single last_tree
last_is none = refl
last_is (more t none) = refl
last_is (more t (more u f)) = last_is (more u f)

pub single_down : (m : Option Tree) → kind_in m ≡ NodeKind.Assignment → option_map_or ends_single m false ≡ option_map_or ends_single (last_in m) false
unfolding ends_single last_tree
single_down None e = refl
single_down (Some (node k v f)) e = rw (eq-eqb k NodeKind.Assignment e) (last_is f)

pub single_here : (m : Option Tree) → (kind_in m ≡ NodeKind.Assignment → ⊥) → option_map_or ends_single m false ≡ eqb (kind_in m) NodeKind.Tuple && eqb (count_in (last_in m)) 1
unfolding ends_single
single_here None n = refl
single_here (Some (node k v f)) n = rw (ne_eqb k NodeKind.Assignment n)
