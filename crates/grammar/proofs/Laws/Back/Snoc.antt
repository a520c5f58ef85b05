-- Forests put together, and what one tree more at the end is: for words, depths, validity and the last statement. Assumes nothing.
use Rattle.std.specs.Prelude.{◌≡◌, refl, List, ◌∷◌, ℕ, max}
use Rattle.std.proofs.Common.{ap, arith}
use Rattle.token.specs.Kind
use Rattle.tree.specs.Tree.{Tree, Forest, none, more, snoc}
use Rattle.tree.specs.Node
use Rattle.grammar.specs.Reading.Result.{ifb}
use Rattle.grammar.specs.Reading.Block.{split_before, split_kids, split_last, split, result}
use Rattle.grammar.specs.Canonical.Write.{own, as_row, as_suite, write, writes}
use Rattle.grammar.specs.Canonical.Need.{most, need, needs}

unfoldable pub join : Forest → Forest → Forest
join none g = g
join (more t f) g = more t (join f g)

pub join_snoc : (f : Forest) (t : Tree) (g : Forest) → join (snoc f t) g ≡ join f (more t g)
unfolding join snoc
join_snoc none t g = refl
join_snoc (more u f) t g = ap (more u) (join_snoc f t g)

pub join_one : (f : Forest) (t : Tree) → join f (more t none) ≡ snoc f t
unfolding join snoc
join_one none t = refl
join_one (more u f) t = ap (more u) (join_one f t)

pub join_none : (f : Forest) → join f none ≡ f
unfolding join
join_none none = refl
join_none (more u f) = ap (more u) (join_none f)

pub row_snoc : (f : Forest) (t : Tree) (r : List ℕ) → as_row (writes (snoc f t)) r ≡ as_row (writes f) (write t own r)
unfolding snoc write
row_snoc none t r = refl
row_snoc (more u f) t r = ap (write u own) (row_snoc f t r)

pub suite_snoc : (f : Forest) (t : Tree) (r : List ℕ) → as_suite (writes (snoc f t)) r ≡ as_suite (writes f) (write t own (Kind.Semicolon ∷ 0 ∷ r))
unfolding snoc write
suite_snoc none t r = refl
suite_snoc (more u f) t r = ap (λ s. write u own (Kind.Semicolon ∷ 0 ∷ s)) (suite_snoc f t r)

pub most_more : (t : Tree) (f : Forest) → most (needs (more t f)) ≡ max (need t own) (most (needs f))
unfolding need
most_more t none = omega arith
most_more t (more u f) = refl

pub most_snoc : (f : Forest) (t : Tree) → most (needs (snoc f t)) ≡ max (most (needs f)) (need t own)
unfolding snoc need
most_snoc none t = omega arith
most_snoc (more u f) t = let e = most_snoc f t in omega (arith, most_more u (snoc f t), most_more u f)

pub split_snoc : (f : Forest) (e : Tree) → split (snoc f (Node.expression e)) ≡ result f e
unfolding snoc split split_last split_kids split_before ifb
split_snoc none e = refl
split_snoc (more t none) e = refl
split_snoc (more t (more u f)) e = ap (split_before t) (split_snoc (more u f) e)
