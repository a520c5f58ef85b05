-- A tree in which every node fits what stands under it is ordered in document 02's words. Assumes nothing.
use Rattle.std.specs.Prelude.{◌≡◌, ℕ, ◌≤◌, ◌<◌, leb}
use Rattle.std.proofs.Common.{arith, eqb-true, leb-true, ltb-true}
use Rattle.operator.specs.Operator.{number_level}
use Rattle.tree.specs.Tree.{Tree, Forest}
use Rattle.tree.specs.Node
use Rattle.grammar.proofs.Laws.Facts.{and_l, and_r}
use Rattle.grammar.proofs.Laws.Levels.Leveled.{tree_level, Leveled, AllLeveled, p_children, p_first, p_later, node_fits}
use Rattle.agreement.specs.Ordered.{In, InAny, itself, under, in_first, in_later, Ordered}

-- each node of a leveled tree is leveled, with what stands under it

mutual
  p_in : {u t : Tree} → In u t → Leveled t → Leveled u
  p_in itself h = h
  p_in (under i) h = p_in_any i (p_children h)

  p_in_any : {u : Tree} {f : Forest} → InAny u f → AllLeveled f → Leveled u
  p_in_any (in_first i) g = p_in i (p_first g)
  p_in_any (in_later i) g = p_in_any i (p_later g)

-- so what stands under an operator is as document 02 says

sides : {op : ℕ} {a b : Tree} → Leveled (Node.binary_op op a b) → (tree_level a ≤ number_level op) × (tree_level b < number_level op)
sides {op} {a} {b} h =
    let e = node_fits h in
    let l = leb (tree_level a) (number_level op) in
    (leb-true _ _ (and_l l _ e), ltb-true _ _ (and_r l _ e))

no_operator : {op o : ℕ} {a b : Tree} → Leveled (Node.unary_op op (Node.binary_op o a b)) → ⊥
no_operator {o = o} h =
    let e : number_level o ≡ 0 = eqb-true _ _ (node_fits h) in
    omega (arith, sides (p_first (p_children h)))

pub leveled_ordered : {t : Tree} → Leveled t → Ordered t
leveled_ordered h = record { left = λ i. (sides (p_in i h)).0; right = λ i. (sides (p_in i h)).1; operand = λ i. no_operator (p_in i h) }
