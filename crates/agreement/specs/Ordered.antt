-- How operators stand in a tree by their levels, in document 02's words (P1). Definitions; they assume nothing.
use Rattle.std.specs.Prelude.{ℕ, ◌≤◌, ◌<◌}
use Rattle.operator.specs.Operator.{number_level}
use Rattle.tree.specs.Tree.{Tree, Forest, node, more}
use Rattle.tree.specs.Node

-- u is a node of t with all that stands under it: t itself, or a node of one of its children
mutual
  pub data In (u : Tree) : Tree → Type 0 where
    itself : In u u
    under : {k v : ℕ} {f : Forest} → InAny u f → In u (node k v f)

  pub data InAny (u : Tree) : Forest → Type 0 where
    in_first : {t : Tree} {f : Forest} → In u t → InAny u (more t f)
    in_later : {t : Tree} {f : Forest} → InAny u f → InAny u (more t f)

-- at every node, wherever it stands: a binary operator of level p has no direct left binary child above p, no direct right one at p or above, and no unary
-- operator has a binary operator as its direct operand
pub record Ordered (t : Tree) : Type 0 where
  pub left : {o p : ℕ} {a b c : Tree} → In (Node.binary_op p (Node.binary_op o a b) c) t → number_level o ≤ number_level p
  pub right : {o p : ℕ} {a b c : Tree} → In (Node.binary_op p a (Node.binary_op o b c)) t → number_level o < number_level p
  pub operand : {o p : ℕ} {a b : Tree} → In (Node.unary_op p (Node.binary_op o a b)) t → ⊥
