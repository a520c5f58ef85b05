-- The depth that the canonical tokens of a tree need: a reading of them at this depth or more ends, and at less stops with `too_deep`.
-- A definition; it assumes nothing.
use Rattle.std.specs.Prelude.{Bool, cond, ◌&&◌, ◌||◌, List, [], ◌∷◌, ℕ, suc, max, eqb}
use Rattle.tree.specs.NodeKind
use Rattle.tree.specs.Tree.{Tree, Forest, node, none, more, head_kind}
use Rattle.tree.specs.Choice.{pick}
use Rattle.grammar.specs.Canonical.Write.{Place, own, target_atom, fun_gives, has_function, group_place}

-- what a node needs at each place
abbrev pub Depths : Type 0
Depths = Place → ℕ

-- the first child's, at a place
abbrev pub first : List Depths → Depths
first [] p = 0
first (n ∷ ns) p = n p

-- the most of all children's
abbrev pub most : List Depths → ℕ
most [] = 0
most (n ∷ []) = n own
most (n ∷ m ∷ ns) = max (n own) (most (m ∷ ns))

-- the most of those behind the first
abbrev pub others : List Depths → ℕ
others [] = 0
others (n ∷ ns) = most ns

-- one token or two, without children: an operand of its own
abbrev pub is_leaf : ℕ → Bool
is_leaf k = target_atom k || eqb k NodeKind.EmptyTuple || eqb k NodeKind.IdentifierPattern

-- the children stand one depth further in: inside an operand, or in a statement list
abbrev pub is_deep : ℕ → Bool
is_deep k =
    eqb k NodeKind.UnaryOp || eqb k NodeKind.Table || eqb k NodeKind.IfExpr || eqb k NodeKind.Block || eqb k NodeKind.FunctionDef
    || eqb k NodeKind.Index || eqb k NodeKind.Invoke || eqb k NodeKind.InvokeTable || eqb k NodeKind.StmtList
    || eqb k NodeKind.TuplePattern || eqb k NodeKind.Modifier

-- the first child as it stands, the others one depth further in
abbrev pub further : List Depths → ℕ
further ns = max (first ns own) (suc (others ns))

-- a node, by its place, kind, value, children and what these need. A right side is one depth further in, but not behind `fun` with a target;
-- `...` is an operand; a pack in a pack has parentheses
abbrev pub depth : Place → ℕ → ℕ → Forest → List Depths → ℕ
depth p k v f ns =
    pick (eqb k NodeKind.Group) (λ _. suc (first ns (group_place v))) λ _.
    pick (eqb k NodeKind.Assignment) (λ _. cond (fun_gives p v && has_function f) (most ns) (further ns)) λ _.
    pick (eqb k NodeKind.ExprBlock || eqb k NodeKind.IndexPattern) (λ _. further ns) λ _.
    pick (is_deep k || (eqb k NodeKind.Pack && eqb (head_kind f) NodeKind.Pack)) (λ _. suc (most ns)) λ _.
    pick (is_leaf k || eqb k NodeKind.Unpack || eqb k NodeKind.Pack) (λ _. max 1 (most ns)) λ _.
    most ns

unfoldable mutual
  pub need : Tree → Depths
  need (node k v f) = λ p. depth p k v f (needs f)

  pub needs : Forest → List Depths
  needs none = []
  needs (more t f) = need t ∷ needs f
