-- The depth that a tree takes by the tables, as a number: a depth is enough where it is not below that one. Assumes nothing.
use Rattle.std.specs.Prelude.{◌≡◌, Bool, true, false, cond, ◌&&◌, ℕ, suc, ◌+◌, ◌-◌, ◌≤◌, ◌<◌, max, eqb, ltb, leb}
use Rattle.std.proofs.Common.{sym, zero-le, le_refl, arith, ltb-true, ltb-false, leb-true, leb-false, le-leb, ne_eqb}
use Rattle.std.proofs.lemmas.Bool.{lt-leb}
use Rattle.operator.specs.Below.{most_below}
use Rattle.tree.specs.NodeKind
use Rattle.tree.specs.Tree.{Tree, Forest, node, none, more}
use Rattle.grammar.proofs.Laws.Facts.{by_test, same_test, leb_max}
use Rattle.tables.specs.Choice.{where_is}
use Rattle.tables.specs.Form.{Own, place_of, base, first_deeper, second_deeper, deeper}
use Rattle.tables.specs.Layout.{form_of, within, withins}

-- of a tree at a place; of the children of a node with the form m, from the number j on
unfoldable mutual
  pub taken : Tree → ℕ → ℕ
  taken (node k v f) = λ place. max (base k) (takens f k v (form_of k v f place) 1)

  pub takens : Forest → ℕ → ℕ → ℕ → ℕ → ℕ
  takens none = λ k v m j. 0
  takens (more t f) = λ k v m j. max (taken t (place_of k v m j) + deeper k m j) (takens f k v m (suc j))

-- a choice is at most what each of the two is
by_arms : (b : Bool) {x y x' y' : ℕ} → x ≤ x' → y ≤ y' → cond b x y ≤ cond b x' y'
by_arms true h g = h
by_arms false h g = g

under : (b : Bool) {x y n : ℕ} → x ≤ n → y ≤ n → cond b x y ≤ n
under true h g = h
under false h g = g

-- the first two children are deepest in these forms
first_most : (k m : ℕ) → first_deeper k m ≤ first_deeper k NodeKind.Pack
unfolding first_deeper where_is
first_most k m = search (by_arms, under, le_refl, zero-le) depth 20

second_most : (k m : ℕ) → second_deeper k m ≤ second_deeper k Own
unfolding second_deeper where_is
second_most k m = search (by_arms, under, le_refl, zero-le) depth 20

-- no child is deeper than the node's base
few_deeper : (k m j : ℕ) → k < 47 → deeper k m j ≤ base k
unfolding deeper first_deeper second_deeper base where_is
few_deeper k m j h =
    let a : first_deeper k NodeKind.Pack ≤ base k = most_below (λ k. first_deeper k NodeKind.Pack) base 47 tt k h in
    let b : second_deeper k Own ≤ base k = most_below (λ k. second_deeper k Own) base 47 tt k h in
    let c : first_deeper k m ≤ base k = omega (arith, first_most k m) in
    let d : second_deeper k m ≤ base k = omega (arith, second_most k m) in
    under (eqb j 1) c (under (eqb j 2) d (omega arith))

far_deeper : (k m j : ℕ) → 47 ≤ k → deeper k m j ≤ base k
unfolding deeper first_deeper second_deeper
far_deeper k m j h =
    let a : (c : ℕ) → ltb c 47 ≡ true → eqb k c ≡ false = λ c e. ne_eqb k c λ q. omega (arith, ltb-true) in
    simp a (under (eqb j 1) (omega arith) (under (eqb j 2) (omega arith) (omega arith)))

pub deeper_base : (k m j : ℕ) → deeper k m j ≤ base k
deeper_base k m j = by_test (ltb k 47) (λ e. few_deeper k m j (ltb-true k 47 e)) (λ e. far_deeper k m j (ltb-false k 47 e))

-- a depth that is taken off on one side may be added on the other
leb_minus : (a c d : ℕ) → c ≤ d → leb a (d - c) ≡ leb (a + c) d
leb_minus a c d h = same_test (leb a (d - c)) (leb (a + c) d) (λ e. le-leb (a + c) d (omega (arith, leb-true))) (λ e. le-leb a (d - c) (omega (arith, leb-true)))

-- the children are asked only where the depth is not below the node's base
above_base : (b n d : ℕ) (x : Bool) → (b ≤ d → x ≡ leb n d) → leb b d && x ≡ leb (max b n) d
above_base b n d x h = by_test (leb b d) (λ e. rw (h (leb-true b d e)) (leb_max b n d)) (λ e. rw e (sym (lt-leb (max b n) d (omega (arith, leb-false)))))

mutual
  unfolding within taken

  pub within_taken : (t : Tree) (place d : ℕ) → within t place d ≡ leb (taken t place) d
  within_taken (node k v f) = λ place d. above_base (base k) (takens f k v (form_of k v f place) 1) d _ (withins_taken f k v (form_of k v f place) d 1)

  withins_taken : (f : Forest) (k v m d j : ℕ) → base k ≤ d → withins f k v m d j ≡ leb (takens f k v m j) d
  withins_taken none = λ k v m d j h. sym (le-leb 0 d (omega arith))
  withins_taken (more t f) = λ k v m d j h.
      rw (within_taken t (place_of k v m j) (d - deeper k m j), leb_minus (taken t (place_of k v m j)) (deeper k m j) d (omega (arith, deeper_base k m j)), withins_taken f k v m d (suc j) h)
      (leb_max (taken t (place_of k v m j) + deeper k m j) (takens f k v m (suc j)) d)
