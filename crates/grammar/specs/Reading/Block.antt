-- Statement lists used as expressions: `ExprBlock::from`, blocks, conditionals. Definitions; they assume nothing.
use Rattle.std.specs.Prelude.{List, ℕ, zero, suc, eqb, length}
use Rattle.token.specs.Kind
use Rattle.tree.specs.NodeKind
use Rattle.tree.specs.Tree.{Tree, Forest, node, none, more, one, snoc, kind_of}
use Rattle.tree.specs.Node
use Rattle.grammar.specs.Reading.Number
use Rattle.grammar.specs.Reading.Result.{Error, Res, ok, fail, then, ifb}
use Rattle.grammar.specs.Reading.Look.{look, expect}
use Rattle.grammar.specs.Reading.Expr.{Depth, Stmts, until_end, until_branch, expr}

-- statements with a last expression statement taken off, if the last one is one
pub data Split : Type 0 where
  whole : Forest → Split
  result : Forest → Tree → Split

unfoldable pub split_before : Tree → Split → Split
split_before t (whole f) = whole (more t f)
split_before t (result f e) = result (more t f) e

-- a statement by its children; it has one at least, so the first clause is never reached
unfoldable pub split_kids : ℕ → ℕ → Forest → Split
split_kids k v none = whole (one (node k v none))
split_kids k v (more e none) = ifb (eqb k NodeKind.Expression) (λ _. result none e) (λ _. whole (one (node k v (one e))))
split_kids k v (more e (more u f)) = whole (one (node k v (more e (more u f))))

unfoldable pub split_last : Tree → Split
split_last (node k v f) = split_kids k v f

unfoldable pub split : Forest → Split
split none = whole none
split (more t none) = split_last t
split (more t (more u f)) = split_before t (split (more u f))

unfoldable pub block_split : Split → Tree
block_split (whole f) = Node.expr_block (Node.stmt_list f Node.absent) Node.absent
block_split (result f e) = Node.expr_block (Node.stmt_list f Node.absent) e

-- `ExprBlock::from`: a last expression statement is the result, where no control stands
unfoldable pub block_of : Stmts → Tree
block_of s =
    ifb (eqb (kind_of s.control) NodeKind.Absent)
    (λ _. block_split (split s.suite))
    (λ _. Node.expr_block (Node.stmt_list s.suite s.control) Node.absent)

-- a list up to `End`, and one token, unseen: behind a control that was not last it may be any. Where there is none, or a lexer error, the Rust panics;
-- here the look fails with 2 or 1
unfoldable pub body : Depth → List Error → List ℕ → Res Stmts
body low q ts =
    then q (low.list until_end q ts) λ s q₁ r.
    then q₁ (look q₁ r) λ tok q₂ rest.
    ok s rest

-- `parse_block_expr`, behind `begin`, with a label, 0 or 1 + its name
unfoldable pub block_expr : Depth → ℕ → List Error → List ℕ → Res Tree
block_expr low l q ts =
    then q (body low q ts) λ s q₁ r.
    ok (Node.block l (block_of s)) r

-- `parse_expr_label`, behind the label
unfoldable pub expr_label : Depth → ℕ → List Error → List ℕ → Res Tree
expr_label low l q ts =
    then q (look q ts) λ tok q₁ rest.
    ifb (eqb tok.kind Kind.Begin) (λ _. block_expr low l q rest) (λ _. fail Number.label_alone q ts)

-- the branches of a conditional, after some. Any token but `End` and `Else` behind a branch acts as `Elif`; where there is none, or a lexer error, the Rust
-- panics, and here the look fails with 2 or 1
unfoldable pub branches : Depth → ℕ → Forest → List Error → List ℕ → Res Tree
branches low zero f q ts = fail Number.end_of_tokens q ts
branches low (suc n) f q ts =
    then q (expr low q ts) λ condition q₁ r.
    then q₁ (expect Kind.Then Number.missing_then q₁ r) λ tok q₂ s.
    then q₂ (low.list until_branch q₂ s) λ b q₃ u.
    then q₃ (look q₃ u) λ tok₂ q₄ rest.
    ifb (eqb tok₂.kind Kind.End) (λ _. ok (Node.if_expr (snoc f (Node.conditional_branch condition (block_of b))) Node.absent) rest) λ _.
    ifb (eqb tok₂.kind Kind.Else)
    (λ _. then q₃ (body low q₃ rest) λ e q₅ x. ok (Node.if_expr (snoc f (Node.conditional_branch condition (block_of b))) (block_of e)) x)
    (λ _. branches low n (snoc f (Node.conditional_branch condition (block_of b))) q₃ rest)

-- `parse_if_expr`, behind `if`
abbrev pub if_expr : Depth → List Error → List ℕ → Res Tree
if_expr low q ts = branches low (length ts) none q ts
