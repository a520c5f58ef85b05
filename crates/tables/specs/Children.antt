-- The numbers of a tree's record and its children, where there may be no tree. Definitions; they assume nothing.
use Rattle.std.specs.Prelude.{ℕ, Option, Some, None}
use Rattle.tree.specs.Tree.{Tree, Forest, node, none, more, count}

-- the numbers of a tree's record, 0 where there is no tree
abbrev pub kind_in : Option Tree → ℕ
kind_in None = 0
kind_in (Some (node k v f)) = k

abbrev pub count_in : Option Tree → ℕ
count_in None = 0
count_in (Some (node k v f)) = count f

abbrev pub value_in : Option Tree → ℕ
value_in None = 0
value_in (Some (node k v f)) = v

abbrev pub children_in : Option Tree → Forest
children_in None = none
children_in (Some (node k v f)) = f

-- the last of some trees and the first, if there is one
unfoldable pub last_tree : Forest → Option Tree
last_tree none = None
last_tree (more t none) = Some t
last_tree (more t (more u f)) = last_tree (more u f)

abbrev pub first_tree : Forest → Option Tree
first_tree none = None
first_tree (more t f) = Some t

-- the last child
abbrev pub last_in : Option Tree → Option Tree
last_in m = last_tree (children_in m)

-- something of each of some trees
abbrev pub Each : (Tree → Type 0) → Forest → Type 0
Each P none = Unit {0}
Each P (more t f) = P t × Each P f
