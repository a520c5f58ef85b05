-- How operators stand by their levels (document 02, P1), as who goes over a tree's records sees it. Definitions; they assume nothing.
use Rattle.std.specs.Prelude.{Bool, true, false, cond, ◌&&◌, List, [], ◌∷◌, ℕ, ◌/◌, ◌%◌, eqb, leb, ltb, take, drop}
use Rattle.operator.specs.Operator.{number_level}
use Rattle.tree.specs.NodeKind

-- the level of a node of the kind k and the value v: of a binary operator its operator's, of any other node 0. A number that is no operator's has
-- the level 0 too, and then nothing fits under the node
abbrev pub node_level : ℕ → ℕ → ℕ
node_level k v = cond (eqb k NodeKind.BinaryOp) (number_level v) 0

-- by the levels of its children, the last one first: what a binary operator of level p may have under it, a unary operator, and a node of any kind
abbrev pub sides_fit : ℕ → List ℕ → Bool
sides_fit p [] = false
sides_fit p (right ∷ []) = false
sides_fit p (right ∷ left ∷ []) = leb left p && ltb right p
sides_fit p (right ∷ left ∷ other ∷ others) = false

abbrev pub operand_fits : List ℕ → Bool
operand_fits [] = false
operand_fits (operand ∷ []) = eqb operand 0
operand_fits (operand ∷ other ∷ others) = false

abbrev pub fits : ℕ → ℕ → List ℕ → Bool
fits k v children =
    cond (eqb k NodeKind.BinaryOp) (sides_fit (number_level v) children)
    (cond (eqb k NodeKind.UnaryOp) (operand_fits children)
    true)

-- records from the first on, where `before` has the levels of the trees that are whole and under no node yet, the last one first: a record takes the levels of its
-- children off and puts its own on
unfoldable pub in_order : List ℕ → List ℕ → Bool
in_order before [] = true
in_order before (w ∷ []) = false
in_order before (w ∷ v ∷ r) = fits (w % 256) v (take (w / 256) before) && in_order (node_level (w % 256) v ∷ drop (w / 256) before) r
