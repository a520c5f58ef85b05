-- What is said of a tree with all its children, and what the pass over the nodes says of a child, of a node and of the whole. Definitions; they assume nothing.
use Rattle.std.specs.Prelude.{◌≡◌, Bool, true, false, not, ◌&&◌, List, [], ◌∷◌, ℕ, length, IfSome, Option, Some, None}
use Rattle.tree.specs.Tree.{Tree, Forest, none, more}
use Rattle.grammar.specs.Canonical.Write.{target_items}
use Rattle.writer.specs.declared.legal.Kids.{Kids}
use Rattle.tables.specs.Children.{kind_in, value_in, children_in}
use Rattle.tables.specs.Demand.{fits}
use Rattle.tables.specs.Check.{class_of, banned, kids_fit, node_fits, legal_tree}
use Rattle.writer.specs.Stack.{At}
use Rattle.writer.specs.Standing.{Entry}

-- a tree passes a test that goes over its children and begins at q; or it doesn't pass
abbrev pub FitAs : Bool → List ℕ → List Tree → Option ℕ → Type 0
FitAs b L s (Some q) = (b ≡ true) × At L q s
FitAs b L s None = b ≡ false

pub record Fit (L : List ℕ) (p : ℕ) (test : Tree → Bool) (r : Option ℕ) : Type 0 where
  pub how : (t : Tree) (s : List Tree) → At L p (t ∷ s) → FitAs (test t) L s r

-- the tree at q can be a child of a node
pub record KidFits (L : List ℕ) (kind value asked q : ℕ) (r : Bool) : Type 0 where
  pub how : (t : Tree) (s : List Tree) → At L q (t ∷ s) → r ≡ fits asked (class_of t) && not (banned kind value t)

-- the first child, if there is one, ends at e
abbrev pub FirstAs : List ℕ → ℕ → Forest → List Tree → Type 0
FirstAs L e none s = Unit {0}
FirstAs L e (more t f) s = At L e (t ∷ s)

pub record First (L : List ℕ) (p e : ℕ) : Type 0 where
  pub how : (t : Tree) (s : List Tree) → At L p (t ∷ s) → FirstAs L e (children_in (Some t)) s

-- all children are members and indexes
pub record Items (L : List ℕ) (p : ℕ) (r : Bool) : Type 0 where
  pub how : (t : Tree) (s : List Tree) → At L p (t ∷ s) → r ≡ target_items (children_in (Some t))

-- the children of the node at p, which has the mode m, fit
abbrev pub KidsFitAs : List ℕ → ℕ → Tree → List Tree → Option Kids → Type 0
KidsFitAs L m t s (Some k) = (kids_fit (kind_in (Some t)) (value_in (Some t)) m 1 (children_in (Some t)) ≡ true) × At L k.begin s × FirstAs L k.first (children_in (Some t)) s × (k.items ≡ target_items (children_in (Some t)))
KidsFitAs L m t s None = kids_fit (kind_in (Some t)) (value_in (Some t)) m 1 (children_in (Some t)) ≡ false

pub record KidsFit (L : List ℕ) (p m : ℕ) (r : Option Kids) : Type 0 where
  pub how : (t : Tree) (s : List Tree) → At L p (t ∷ s) → KidsFitAs L m t s r

-- the node at p fits, and what is to be kept of it
abbrev pub VisitedAs : Tree → List Tree → Option (Option ℕ) → Type 0
VisitedAs t s (Some w) = (node_fits t ≡ true) × IfSome w (λ w. Entry w t s)
VisitedAs t s None = node_fits t ≡ false

pub record Visited (L : List ℕ) (p : ℕ) (r : Option (Option ℕ)) : Type 0 where
  pub how : (t : Tree) (s : List Tree) → At L p (t ∷ s) → VisitedAs t s r

-- the words are those of one tree
pub record Whole (L : List ℕ) : Type 0 where
  pub top : Tree
  pub here : At L (length L) (top ∷ [])

-- the whole is a statement that a clean reading, limits aside, can give
pub record Legal (L : List ℕ) (r : Bool) : Type 0 where
  pub how : (t : Tree) → At L (length L) (t ∷ []) → r ≡ legal_tree t
