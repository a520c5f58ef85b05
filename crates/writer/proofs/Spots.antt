-- The numbers of the record at a place, and the place of the last child. Assumes nothing.
use mathlib.Core.Path.{◌≡◌, refl, subst}
use mathlib.Core.List.{List, [], ◌∷◌}
use Prim.Native.Nat.{ℕ, ◌-◌, ◌/◌, ◌%◌, ◌≤◌, ◌<◌}
use native.Mathlib.Omega.{arith}
use lib.ListN.{get_or}
use Rattle.std.specs.Prelude.{Option, Some, None}
use Rattle.tree.specs.Tree.{Tree, Forest, node, none, more, count}
use Rattle.tree.specs.Records.{back}
use Rattle.writer.specs.Stack.{At, Spot}
use Rattle.tables.specs.Children.{kind_in, count_in, value_in, last_tree, last_in}
use Rattle.writer.proofs.Laws.{at_many, pop}

-- below 2 there is no tree
pub spot_none : {L : List ℕ} {p : ℕ} (m : Option Tree) (s : List Tree) → p < 2 → Spot L p m s → m ≡ None
spot_none None s l h = refl
spot_none (Some t) s l h = absurd (omega (arith, at_many h.how))

-- where there is none, the place is 0
pub spot_zero : {L : List ℕ} {p : ℕ} {m : Option Tree} {s : List Tree} → m ≡ None → Spot L p m s → p ≡ 0
spot_zero e h = (rw e at h).how

-- the numbers of the record before a place that has words before it
pub record Read (L : List ℕ) (p : ℕ) (m : Option Tree) : Type 0 where
  pub kind : get_or L (p - 2) 0 % 256 ≡ kind_in m
  pub kids : get_or L (p - 2) 0 / 256 ≡ count_in m
  pub value : get_or L (p - 1) 0 ≡ value_in m

pub read : {L : List ℕ} {p : ℕ} (m : Option Tree) (s : List Tree) → 2 ≤ p → Spot L p m s → Read L p m
read None s l h = absurd (omega (arith, h.how))
read (Some (node k v f)) s l h = let x = pop h.how in record { kind = x.kind; kids = x.kids; value = x.value }

last_none : (m : Option Tree) → count_in m ≡ 0 → last_in m ≡ None
unfolding count last_tree
last_none None e = refl
last_none (Some (node k v none)) e = refl
last_none (Some (node k v (more t f))) e = absurd (omega arith)

-- without children there is no last one
pub no_last : {L : List ℕ} (m : Option Tree) → count_in m ≡ 0 → (u : List Tree) × Spot L 0 (last_in m) u
no_last m e = ([], rw (last_none m e) (record { how = refl }))

pub back_last : (t : Tree) (f : Forest) (s : List Tree) → (u : List Tree) × (x : Tree) × (last_tree (more t f) ≡ Some x) × (back (more t f) s ≡ x ∷ u)
unfolding back last_tree
back_last t none s = (s, t, refl, refl)
back_last t (more u f) s = back_last u f (t ∷ s)

-- the last child ends two words before its parent
pub a_last : {L : List ℕ} {p : ℕ} (m : Option Tree) (s : List Tree) → (count_in m ≡ 0 → ⊥) → Spot L p m s → (u : List Tree) × Spot L (p - 2) (last_in m) u
unfolding count
a_last None s n h = absurd (n refl)
a_last (Some (node k v none)) s n h = absurd (n refl)
a_last {L} {p} (Some (node k v (more t f))) s n h =
    let b = back_last t f s in
    (b.0, rw b.2 (record { how = subst (λ (x : List Tree). At L (p - 2) x) b.3 (pop h.how).under }))

pub two_before : {L : List ℕ} {p : ℕ} (m : Option Tree) (s : List Tree) → (count_in m ≡ 0 → ⊥) → Spot L p m s → 2 ≤ p
two_before None s n h = absurd (n refl)
two_before (Some t) s n h = omega (arith, at_many h.how)
