-- What the contracts of the functions that end a tree say: the new text, for every text X before the tree, and every tree, whose records end the store's words up to a.
-- Assumes nothing.
use Rattle.std.specs.Prelude.{◌≡◌, List, ◌++◌, Option, None, Some, ℕ, suc, ◌+◌, ◌≤◌, ◌<◌, length, take}
use Rattle.tree.specs.NodeKind
use Rattle.tree.specs.Tree.{Tree, Forest, node, one, count, records, kind_of}
use Rattle.tree.specs.Node
use Rattle.tree.specs.Records.{Small, Smalls}
use Rattle.grammar.specs.Reading.Block.{split_last, whole}

-- words behind those up to a, at most so many
pub record Added (a most : ℕ) (words : List ℕ) (r : ℕ) (S S' : List ℕ) : Type 0 where
  pub up : a ≤ r
  pub far : r ≤ a + most
  pub text : take r S' ≡ take a S ++ words
  pub whole : length S' ≡ length S

-- what stood up to a as x stands up to r as make x, for every x that fits; at most so many words more
pub record Ended {A B : Type 0} (words : A → List ℕ) (fits : A → Type 0) (words' : B → List ℕ) (make : A → B) (a most r : ℕ) (S S' : List ℕ) : Type 0 where
  pub up : a ≤ r
  pub far : r ≤ a + most
  pub text : (X : List ℕ) (x : A) → fits x → take a S ≡ X ++ words x → take r S' ≡ X ++ words' (make x)

-- the shapes of expressions, as far as the code relies on them: a record's first word tells kind and count, a tuple has one list, and `...` alone has `Absent`
pub data Shape : Tree → Type 0 where
  other : {k v : ℕ} {f : Forest} → 0 < k → k < 256 → (k ≡ NodeKind.Unpack → ⊥) → (k ≡ NodeKind.Tuple → ⊥) → Smalls f → Shape (node k v f)
  a_tuple : {f : Forest} → Smalls f → Shape (Node.tuple f)
  lone : Shape (Node.unpack Node.absent)
  unpacked : {t : Tree} → (kind_of t ≡ NodeKind.Absent → ⊥) → Small t → Shape (Node.unpack t)

-- a forest of n trees; one more than that
abbrev pub Counts : ℕ → Forest → Type 0
Counts n f = count f ≡ n

abbrev pub CountsAfter : ℕ → Forest → Type 0
CountsAfter n f = suc (count f) ≡ n

-- nothing is asked
abbrev pub Any : {A : Type 0} → A → Type 0
Any x = Unit {0}

abbrev pub as_it_is : {A : Type 0} → A → A
as_it_is x = x

-- the tree whose records start at a is an expression statement, and r is a; or it is none, and r is none
pub data Marked (t : Tree) (a : ℕ) (r : Option ℕ) : Type 0 where
  statement : {v : ℕ} {e : Tree} → t ≡ node NodeKind.Expression v (one e) → r ≡ Some a → Marked t a r
  no_statement : split_last t ≡ whole (one t) → r ≡ None → Marked t a r

-- a tree of such a shape stands up to a
pub record AShape (S : List ℕ) (a : ℕ) : Type 0 where
  pub before : List ℕ
  pub tree : Tree
  pub shape : Shape tree
  pub text : take a S ≡ before ++ records tree
  pub within : a ≤ length S

abbrev pub tree_value : Tree → ℕ
tree_value (node k v f) = v

-- a tree that is a name alone carries this number
abbrev pub Carries : ℕ → Tree → Type 0
Carries value t = kind_of t ≡ NodeKind.IdentifierPattern → tree_value t ≡ value
