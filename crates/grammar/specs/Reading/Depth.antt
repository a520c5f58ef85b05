-- Operands, and the readings that are left at each depth. Definitions; they assume nothing.
use Rattle.std.specs.Prelude.{List, ℕ, zero, suc, pred, eqb}
use Rattle.token.specs.Kind
use Rattle.operator.specs.Operator.{unary_code}
use Rattle.tree.specs.Tree.{Tree}
use Rattle.tree.specs.Node
use Rattle.grammar.specs.Reading.Limit.{too_deep}
use Rattle.grammar.specs.Reading.Number
use Rattle.grammar.specs.Reading.Result.{Error, Res, ok, fail, stop, then, ifb}
use Rattle.grammar.specs.Reading.Look.{look}
use Rattle.grammar.specs.Reading.Expr.{Depth, expr}
use Rattle.grammar.specs.Reading.Primary.{table_literal, unpack_expr}
use Rattle.grammar.specs.Reading.Block.{block_expr, expr_label, if_expr}
use Rattle.grammar.specs.Reading.Function.{function_decl_expr}
use Rattle.grammar.specs.Reading.Stmt.{stmt_list}

-- `parse_primary_expr`, and `parse_table_expr` at `{`. At `class` the Rust panics; here the token is taken, and 52 is on its way
unfoldable pub primary_expr : Depth → List Error → List ℕ → Res Tree
primary_expr low q ts =
    then q (look q ts) λ tok q₁ rest.
    ifb (eqb tok.kind Kind.Class) (λ _. fail Number.class_definition q rest) λ _.
    ifb (eqb tok.kind Kind.Fun) (λ _. function_decl_expr low q rest) λ _.
    ifb (eqb tok.kind Kind.If) (λ _. if_expr low q rest) λ _.
    ifb (eqb tok.kind Kind.Begin) (λ _. block_expr low 0 q rest) λ _.
    ifb (eqb tok.kind Kind.OpenBrace) (λ _. then q (table_literal low q rest) λ items q₂ r. ok (Node.table items) r) λ _.
    ifb (eqb tok.kind Kind.Label) (λ _. expr_label low (suc tok.value) q rest) λ _.
    unpack_expr low q ts

-- `parse_unary_expr`
unfoldable pub unary_expr : Depth → List Error → List ℕ → Res Tree
unary_expr low q ts =
    then q (look q ts) λ tok q₁ rest.
    ifb (eqb (unary_code tok.kind) 0)
    (λ _. primary_expr low q ts)
    (λ _. then q (low.unary q rest) λ t q₂ r. ok (Node.unary_op (pred (unary_code tok.kind)) t) r)

-- the readings with d depths left: none may begin where none is left, before it looks at a token
unfoldable pub at_depth : ℕ → Depth
at_depth zero = record { unary = λ q ts. stop too_deep; right = λ q ts. stop too_deep; list = λ end q ts. stop too_deep }
at_depth (suc d) = record { unary = unary_expr (at_depth d); right = expr (at_depth d); list = stmt_list (at_depth d) }
