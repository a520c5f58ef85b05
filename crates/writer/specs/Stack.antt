-- Records as a stack of trees, the last one on top, and what contracts say of places in them. Definitions; they assume nothing.
use Rattle.std.specs.Prelude.{◌≡◌, Bool, true, false, List, [], ◌∷◌, ℕ, zero, suc, ◌-◌, ◌≤◌, length, take, Option, Some, None}
use Rattle.tree.specs.Tree.{Tree, Forest, none, more}
use Rattle.tree.specs.Decode.{decode}
use Rattle.tree.specs.Records.{stack_records, StackSmall}
use Rattle.grammar.specs.Canonical.Write.{tail_of}
use Rattle.tables.specs.Children.{children_in, first_tree, last_in}

-- the words before p are the records of a stack
pub record At (L : List ℕ) (p : ℕ) (s : List Tree) : Type 0 where
  pub text : take p L ≡ stack_records s
  pub inside : p ≤ length L
  pub small : StackSmall s

-- a tree ends at p
pub record Here (L : List ℕ) (p : ℕ) : Type 0 where
  pub top : Tree
  pub rest : List Tree
  pub here : At L p (top ∷ rest)

-- the words are those of one tree, or of none
abbrev pub ShapeAs : List ℕ → Bool → Type 0
ShapeAs L true = (t : Tree) × (decode L ≡ Some t) × At L (length L) (t ∷ [])
ShapeAs L false = decode L ≡ None

pub record Shape (L : List ℕ) (r : Bool) : Type 0 where
  pub how : ShapeAs L r

-- the tree that ends at p begins at r
pub record Skipped (L : List ℕ) (p r : ℕ) : Type 0 where
  pub how : (t : Tree) (s : List Tree) → At L p (t ∷ s) → At L r s

-- a place that is 0 and no tree's end, or the end of a tree
abbrev pub SpotAs : List ℕ → ℕ → Option Tree → List Tree → Type 0
SpotAs L p None s = p ≡ 0
SpotAs L p (Some t) s = At L p (t ∷ s)

pub record Spot (L : List ℕ) (p : ℕ) (m : Option Tree) (s : List Tree) : Type 0 where
  pub how : SpotAs L p m s

pub record Somewhere (L : List ℕ) (p : ℕ) : Type 0 where
  pub tree : Option Tree
  pub rest : List Tree
  pub spot : Spot L p tree rest

-- the answer r is what is to be said of the tree at p
pub record Says {A : Type 0} (L : List ℕ) (p : ℕ) (what : Option Tree → A) (r : A) : Type 0 where
  pub how : (m : Option Tree) (s : List Tree) → Spot L p m s → r ≡ what m

-- the tree that has n before it, if there is one
abbrev pub nth_tree : ℕ → Forest → Option Tree
nth_tree zero f = first_tree f
nth_tree (suc n) f = nth_tree n (tail_of f)

-- the first n of some trees, pushed on a stack
abbrev pub push : ℕ → Forest → List Tree → List Tree
push zero f s = s
push (suc n) none s = s
push (suc n) (more t f) s = push n f (t ∷ s)

-- the child number j, from 1
abbrev pub kid_in : ℕ → Option Tree → Option Tree
kid_in j m = nth_tree (j - 1) (children_in m)

-- the last child of the tree at p ends at r, before p; r is 0 where there is none
pub record LastOf (L : List ℕ) (p r : ℕ) : Type 0 where
  pub how : (m : Option Tree) (s : List Tree) → Spot L p m s → (u : List Tree) × Spot L r (last_in m) u
  pub below : r ≤ p - 2

-- so does the child number j, and the children before it stand under it
pub record KidOf (L : List ℕ) (p j r : ℕ) : Type 0 where
  pub how : (m : Option Tree) (s : List Tree) → Spot L p m s → Spot L r (kid_in j m) (push (j - 1) (children_in m) s)
  pub below : r ≤ p - 2
