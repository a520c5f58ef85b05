-- The children of a node from the last to the first: where they end, and a test of each. Assumes nothing.
use mathlib.Core.Path.{◌≡◌, refl, sym, ap, ◌∙◌, subst}
use mathlib.Core.Bool.{Bool, true, false, ◌&&◌, and-true, and_assoc, and_comm}
use mathlib.Core.List.{List, [], ◌∷◌, ◌++◌}
use Prim.Native.Nat.{ℕ, zero, suc, ◌-◌, ◌≤◌, ◌<◌}
use native.Mathlib.Omega.{arith}
use lib.ListN.{length, length-append}
use Rattle.std.specs.Prelude.{Option, Some, None}
use Rattle.tree.specs.Tree.{Tree, Forest, node, none, more, count, records}
use Rattle.tree.specs.Records.{stack_records, back}
use Rattle.writer.specs.Stack.{At, Here, Skipped, SpotAs, Spot, Somewhere, Says, KidOf, nth_tree, kid_in, push}
use Rattle.tables.specs.Children.{count_in, children_in}
use Rattle.writer.proofs.Laws.{pop, at_length, back_append, length_back}

-- ---------------------------------------------------------------- the child number j
push_all : (f : Forest) (s : List Tree) → push (count f) f s ≡ back f s
unfolding count back
push_all none s = refl
push_all (more t f) s = push_all f (t ∷ s)

-- a tree begins before it ends
skipped_below : {L : List ℕ} {q r : ℕ} {t : Tree} {s : List Tree} → Skipped L q r → At L q (t ∷ s) → r ≤ q
unfolding stack_records
skipped_below {t = t} {s = s} k a = omega (arith, at_length a, at_length (k.how t s a), length-append (stack_records s) (records t))

-- the child that has n before it, on top of them
record Top (n : ℕ) (f : Forest) (s : List Tree) : Type 0 where
  pub top : Tree
  pub is : nth_tree n f ≡ Some top
  pub on : push (suc n) f s ≡ top ∷ push n f s

a_top : (n : ℕ) (f : Forest) (s : List Tree) → n < count f → Top n f s
unfolding count
a_top zero none s h = absurd (omega arith)
a_top zero (more t f) s h = record { top = t; is = refl; on = refl }
a_top (suc n) none s h = absurd (omega arith)
a_top (suc n) (more t f) s h =
    let w = a_top n f (t ∷ s) (omega arith) in
    record { top = w.top; is = w.is; on = w.on }

no_nth : (n : ℕ) (f : Forest) → count f ≤ n → nth_tree n f ≡ None
unfolding count
no_nth zero none h = refl
no_nth zero (more t f) h = absurd (omega arith)
no_nth (suc n) none h = no_nth n none (omega arith)
no_nth (suc n) (more t f) h = no_nth n f (omega arith)

pub no_kid : {L : List ℕ} (j : ℕ) (m : Option Tree) (s : List Tree) → count_in m < j → Spot L 0 (kid_in j m) s
unfolding count
no_kid {L} j m s h = rw (no_nth (j - 1) (children_in m) (few m h)) (record { how = refl })
  where
    few : (m : Option Tree) → count_in m < j → count (children_in m) ≤ j - 1
    few None h = omega arith
    few (Some (node k v f)) h = omega arith

-- the tree at p has i children at least, and the child number i ends at q
pub record Kids (L : List ℕ) (p q i : ℕ) : Type 0 where
  pub how : (m : Option Tree) (s : List Tree) → Spot L p m s → (i ≤ count (children_in m)) × At L q (push i (children_in m) s)
  pub below : q ≤ p - 2

pub kids_start : {L : List ℕ} {p n : ℕ} → 0 < n → Says L p count_in n → Kids L p (p - 2) n
kids_start {L} {p} {n} z e = record { how = λ m s h. go m s h.how (e.how m s h); below = omega arith }
  where
    go : (m : Option Tree) (s : List Tree) → SpotAs L p m s → n ≡ count_in m → (n ≤ count (children_in m)) × At L (p - 2) (push n (children_in m) s)
    go None s a e = absurd (omega arith)
    go (Some (node k v f)) s a e = (omega arith, rw (e, push_all f s) (pop a).under)

module _ {L : List ℕ} {p q i : ℕ} (w : Kids L p q i) (i_some : 0 < i) where
  -- the child number i as a tree, over those before it
  child : (m : Option Tree) (s : List Tree) → Spot L p m s → (t : Tree) × (kid_in i m ≡ Some t) × At L q (t ∷ push (i - 1) (children_in m) s)
  child m s h =
      let x = w.how m s h in
      let n : suc (i - 1) ≡ i = omega arith in
      let y = a_top (i - 1) (children_in m) s (omega (arith, x.0)) in
      (y.top, y.is, rw (← y.on, n) x.1)

  pub kids_known : Somewhere L p → Here L q
  kids_known y =
      let x = child y.tree y.rest y.spot in
      record { top = x.0; rest = _; here = x.2 }

  pub kids_next : {r : ℕ} → Somewhere L p → Skipped L q r → Kids L p r (i - 1)
  kids_next {r} y k =
      record {
        how = λ m s h.
            let x = child m s h in
            let b = (w.how m s h).0 in
            (omega arith, k.how x.0 _ x.2);
        below =
            let x = child y.tree y.rest y.spot in
            omega (arith, skipped_below k x.2, w.below);
      }

  pub kids_end : {j : ℕ} → j ≡ i → KidOf L p j q
  kids_end e = rw e (record { how = λ m s h. let x = child m s h in rw x.1 (record { how = x.2 }); below = w.below })

-- ---------------------------------------------------------------- a test of every child, by its number
unfoldable pub from_first : (ℕ → Tree → Bool) → ℕ → Forest → Bool
from_first g j none = true
from_first g j (more t f) = g j t && from_first g (suc j) f

unfoldable pub from_last : (ℕ → Tree → Bool) → List Tree → Bool
from_last g [] = true
from_last g (t ∷ u) = g (suc (length u)) t && from_last g u

pub test_back : (g : ℕ → Tree → Bool) (f : Forest) (u : List Tree) → from_last g (back f u) ≡ from_last g u && from_first g (suc (length u)) f
unfolding from_first from_last back
test_back g none u = sym (and-true (from_last g u))
test_back g (more t f) u = test_back g f (t ∷ u) ∙ rw (and_comm (g (suc (length u)) t) (from_last g u)) (and_assoc (from_last g u) (g (suc (length u)) t) (from_first g (suc (suc (length u))) f))

-- where the pass over the children stands: j are left, and b is the test of them
pub record Part (L : List ℕ) (q j : ℕ) (s : List Tree) (g : ℕ → Tree → Bool) (b : Bool) : Type 0 where
  pub kids : List Tree
  pub at : At L q (kids ++ s)
  pub many : length kids ≡ j
  pub same : b ≡ from_last g kids

pub part_start : {L : List ℕ} {p n : ℕ} {s : List Tree} {g : ℕ → Tree → Bool} {b : Bool} (t : Tree) → At L p (t ∷ s) → n ≡ count_in (Some t) → b ≡ from_first g 1 (children_in (Some t)) → Part L (p - 2) n s g b
unfolding from_last
part_start {L} {p} {n} {s} {g} (node k v f) a c e =
    let m = length_back f [] in
    record { kids = back f []; at = subst (λ (x : List Tree). At L (p - 2) x) (back_append f [] s) (pop a).under; many = omega arith; same = e ∙ sym (test_back g f []) }

-- the last of those that are left
pub record Sees (L : List ℕ) (q j : ℕ) (s : List Tree) (g : ℕ → Tree → Bool) (b : Bool) : Type 0 where
  pub top : Tree
  pub more : List Tree
  pub at : At L q (top ∷ (more ++ s))
  pub many : length more ≡ j - 1
  pub same : b ≡ g j top && from_last g more

module _ {L : List ℕ} {q j : ℕ} {s : List Tree} {g : ℕ → Tree → Bool} {b : Bool} (w : Part L q j s g b) where
  pub part_look : 0 < j → Sees L q j s g b
  unfolding from_last
  part_look h = go w.kids w.at w.many w.same
    where
      go : (u : List Tree) → At L q (u ++ s) → length u ≡ j → b ≡ from_last g u → Sees L q j s g b
      go [] a m e = absurd (omega arith)
      go (t ∷ u) a m e = record { top = t; more = u; at = a; many = omega arith; same = e ∙ ap (λ (i : ℕ). g i t && from_last g u) m }

  -- a tree ends there
  pub part_known : 0 < j → Here L q
  part_known h = let o = part_look h in record { top = o.top; rest = _; here = o.at }

  pub part_end : j ≡ 0 → (b ≡ true) × At L q s
  unfolding from_last
  part_end h = go w.kids w.at w.many w.same
    where
      go : (u : List Tree) → At L q (u ++ s) → length u ≡ j → b ≡ from_last g u → (b ≡ true) × At L q s
      go [] a m e = (e, a)
      go (t ∷ u) a m e = absurd (omega arith)

module _ {L : List ℕ} {q j : ℕ} {s : List Tree} {g : ℕ → Tree → Bool} {b : Bool} (w : Sees L q j s g b) where
  pub sees_bad : g j w.top ≡ false → b ≡ false
  sees_bad e = w.same ∙ rw e

  pub sees_good : {r : ℕ} → g j w.top ≡ true → Skipped L q r → Part L r (j - 1) s g b
  sees_good e k = record { kids = w.more; at = k.how w.top _ w.at; many = w.many; same = w.same ∙ rw e }
