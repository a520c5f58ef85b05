-- The trees in which every node fits what stands under it, as the walk over the readings needs them: each with kinds below 256, so that its records tell the tree.
-- What such trees are put together to is such a tree, and so is what they are put together of. Assumes nothing.
use Rattle.std.specs.Prelude.{◌≡◌, refl, Bool, true, ◌&&◌, List, [], ◌∷◌, ℕ, suc, ◌≤◌, ltb}
use Rattle.std.proofs.Common.{arith, ltb-true, eq-eqb, le-leb, lt-ltb}
use Rattle.operator.specs.Operator.{number_level}
use Rattle.tree.specs.Tree.{Tree, Forest, node, none, more, snoc}
use Rattle.tree.specs.Node
use Rattle.tree.specs.Records.{Small, Smalls}
use Rattle.grammar.specs.Levels.{node_level, fits}
use Rattle.grammar.proofs.Laws.Facts.{and_l, and_r}

-- the level of a tree is that of its node; those of a forest's trees, pushed on a list
abbrev pub tree_level : Tree → ℕ
tree_level (node k v f) = node_level k v

abbrev pub child_levels : Forest → List ℕ → List ℕ
child_levels none before = before
child_levels (more t f) before = child_levels f (tree_level t ∷ before)

-- every node of a tree, of a forest, fits the levels of its children
unfoldable mutual
  pub tree_fits : Tree → Bool
  tree_fits (node k v f) = forest_fits f && fits k v (child_levels f [])

  pub forest_fits : Forest → Bool
  forest_fits none = true
  forest_fits (more t f) = tree_fits t && forest_fits f

-- what each reading keeps of the trees that it puts together
pub record Leveled (t : Tree) : Type 0 where
  pub small : Small t
  pub fit : tree_fits t ≡ true

pub record AllLeveled (f : Forest) : Type 0 where
  pub smalls : Smalls f
  pub fit : forest_fits f ≡ true

-- a tree whose node is of the level l or less, as the operands of a level
pub record Within (l : ℕ) (t : Tree) : Type 0 where
  pub leveled : Leveled t
  pub most : tree_level t ≤ l

-- what they are put together to

both : {a b : Bool} → a ≡ true → b ≡ true → a && b ≡ true
both p q = rw p q

pub p_none : AllLeveled none
unfolding Small tree_fits
p_none = record { smalls = tt; fit = refl }

pub p_more : {t : Tree} {f : Forest} → Leveled t → AllLeveled f → AllLeveled (more t f)
unfolding Small tree_fits
p_more h g = record { smalls = (h.small, g.smalls); fit = both h.fit g.fit }

made : (k v : ℕ) {f : Forest} → ltb k 256 ≡ true → fits k v (child_levels f []) ≡ true → AllLeveled f → Leveled (node k v f)
unfolding Small tree_fits
made k v l e g = record { small = (ltb-true k 256 l, g.smalls); fit = both g.fit e }

-- a node of a kind that is no operator's fits any children
pub p_node : (k v : ℕ) {f : Forest} → ltb k 256 ≡ true → ((v : ℕ) (children : List ℕ) → fits k v children ≡ true) → AllLeveled f → Leveled (node k v f)
p_node k v {f} l e g = made k v l (e v (child_levels f [])) g

-- operators, by the levels of what stands under them
pub p_unary : (op : ℕ) {t : Tree} → Leveled t → tree_level t ≡ 0 → Leveled (Node.unary_op op t)
p_unary op {t} h e = made _ op refl (eq-eqb (tree_level t) 0 e) (p_more h p_none)

pub p_binary : {l : ℕ} (op : ℕ) {a b : Tree} → number_level op ≡ suc l → Within (suc l) a → Within l b → Within (suc l) (Node.binary_op op a b)
p_binary op {a} {b} e g h =
    let left = le-leb (tree_level a) (number_level op) (omega (arith, g.most)) in
    let right = lt-ltb (tree_level b) (number_level op) (omega (arith, h.most)) in
    record { leveled = made _ op refl (both left right) (p_more g.leveled (p_more h.leveled p_none)); most = omega arith }

-- what is no binary operator is an operand
pub p_operand : {t : Tree} → Leveled t → tree_level t ≡ 0 → Within 0 t
p_operand h e = record { leveled = h; most = omega (arith, e) }

-- what they are put together of

pub p_children : {k v : ℕ} {f : Forest} → Leveled (node k v f) → AllLeveled f
unfolding Small tree_fits
p_children h = record { smalls = h.small.1; fit = and_l _ _ h.fit }

pub p_first : {t : Tree} {f : Forest} → AllLeveled (more t f) → Leveled t
unfolding Small tree_fits
p_first g = record { small = g.smalls.0; fit = and_l _ _ g.fit }

pub p_later : {t : Tree} {f : Forest} → AllLeveled (more t f) → AllLeveled f
unfolding Small tree_fits
p_later {t} g = record { smalls = g.smalls.1; fit = and_r (tree_fits t) _ g.fit }

pub node_fits : {k v : ℕ} {f : Forest} → Leveled (node k v f) → fits k v (child_levels f []) ≡ true
unfolding tree_fits
node_fits {f = f} h = and_r (forest_fits f) _ h.fit

-- one tree more at the end
pub p_snoc : {f : Forest} {t : Tree} → AllLeveled f → Leveled t → AllLeveled (snoc f t)
unfolding snoc
p_snoc {f = none} g h = p_more h p_none
p_snoc {f = more u f} g h = p_more (p_first g) (p_snoc (p_later g) h)

pub ruleset leveling = (p_none, p_more, p_node, p_snoc, p_operand)
