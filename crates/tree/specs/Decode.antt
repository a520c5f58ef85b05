-- The tree whose records a list of words are, if they are one tree's and nothing else. Definitions; they assume nothing.
use Rattle.std.specs.Prelude.{List, [], ◌∷◌, ℕ, zero, suc, ◌/◌, ◌%◌, Option, Some, None, option_and_then}
use Rattle.tree.specs.Tree.{Tree, Forest, node, none, more}

-- a node of n children takes them off a stack of trees, the last one first, and stands on it
unfoldable pub gather : ℕ → ℕ → ℕ → Forest → List Tree → Option (List Tree)
gather zero k v f s = Some (node k v f ∷ s)
gather (suc n) k v f [] = None
gather (suc n) k v f (t ∷ s) = gather n k v (more t f) s

unfoldable pub stacked : List ℕ → List Tree → Option (List Tree)
stacked [] s = Some s
stacked (w ∷ []) s = None
stacked (w ∷ v ∷ r) s = option_and_then (λ u. stacked r u) (gather (w / 256) (w % 256) v none s)

abbrev pub alone : List Tree → Option Tree
alone [] = None
alone (t ∷ []) = Some t
alone (t ∷ u ∷ s) = None

unfoldable pub decode : List ℕ → Option Tree
decode ws = option_and_then alone (stacked ws [])
