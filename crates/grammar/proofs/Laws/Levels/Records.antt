-- The scan of a tree's records says as much as the tree does: `leveled_in_order`, `in_order_leveled`. Assumes nothing.
use Rattle.std.specs.Prelude.{◌≡◌, refl, true, ◌&&◌, List, [], ◌∷◌, ◌++◌, ℕ, ◌+◌, ◌*◌, ◌/◌, ◌%◌, length, take, drop}
use Rattle.std.proofs.Common.{sym, ◌∙◌, append_assoc, append-nil, arith, take_at, drop_at}
use Rattle.std.proofs.Math.Bool.{and_assoc, and-true}
use Rattle.tree.specs.Tree.{Tree, Forest, node, none, more, count, records, all_records}
use Rattle.tree.specs.Records.{Small, Smalls}
use Rattle.grammar.specs.Levels.{fits, in_order}
use Rattle.grammar.proofs.Laws.Levels.Leveled.{tree_level, child_levels, tree_fits, forest_fits, Leveled}

-- the levels of a node's children are those that its record takes off

levels_on : (f : Forest) (before : List ℕ) → child_levels f before ≡ child_levels f [] ++ before
levels_on none before = refl
levels_on (more t f) before = levels_on f (tree_level t ∷ before) ∙ rw (levels_on f (tree_level t ∷ []), append_assoc)

levels_length : (f : Forest) (before : List ℕ) → length (child_levels f before) ≡ count f + length before
unfolding count
levels_length none before = omega arith
levels_length (more t f) before = omega (arith, levels_length f (tree_level t ∷ before))

module _ (f : Forest) (before : List ℕ) where
  children_taken : take (count f) (child_levels f before) ≡ child_levels f []
  children_taken = rw levels_on (take_at (child_levels f []) before (count f) (omega (arith, levels_length f [])))

  children_dropped : drop (count f) (child_levels f before) ≡ before
  children_dropped = rw levels_on (drop_at (child_levels f []) before (count f) (omega (arith, levels_length f [])))

mutual
  unfolding records Small tree_fits in_order

  in_order_tree : (t : Tree) → Small t → (r before : List ℕ) → in_order before (records t ++ r) ≡ tree_fits t && in_order (tree_level t ∷ before) r
  in_order_tree (node k v f) = λ h r before.
      let kind : (k + 256 * count f) % 256 ≡ k = omega arith in
      let many : (k + 256 * count f) / 256 ≡ count f = omega arith in
      rw append_assoc (in_order_forest f h.1 ((k + 256 * count f) ∷ v ∷ r) before ∙ rw (kind, many, children_taken, children_dropped) (sym (and_assoc (forest_fits f) (fits k v (child_levels f [])) _)))

  in_order_forest : (f : Forest) → Smalls f → (r before : List ℕ) → in_order before (all_records f ++ r) ≡ forest_fits f && in_order (child_levels f before) r
  in_order_forest none = λ h r before. refl
  in_order_forest (more t f) = λ h r before.
      rw append_assoc (in_order_tree t h.0 (all_records f ++ r) before ∙ rw (in_order_forest f h.1 r (tree_level t ∷ before)) (sym (and_assoc (tree_fits t) (forest_fits f) _)))

scan_is : (t : Tree) → Small t → in_order [] (records t) ≡ tree_fits t
unfolding in_order
scan_is t h = rw (← append-nil (records t)) (in_order_tree t h [] []) ∙ and-true (tree_fits t)

pub leveled_in_order : {t : Tree} → Leveled t → in_order [] (records t) ≡ true
leveled_in_order {t} h = scan_is t h.small ∙ h.fit

pub in_order_leveled : {t : Tree} → Small t → in_order [] (records t) ≡ true → Leveled t
in_order_leveled {t} h e = record { small = h; fit = sym (scan_is t h) ∙ e }
