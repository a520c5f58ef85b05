-- Statements, statement lists with their control, and the way on after an error. Definitions; they assume nothing.
use Rattle.std.specs.Prelude.{Bool, true, cond, ◌&&◌, ◌||◌, List, ℕ, zero, suc, eqb, length}
use Rattle.token.specs.Kind
use Rattle.tree.specs.NodeKind
use Rattle.tree.specs.Tree.{Tree, Forest, node, none, snoc, head_kind}
use Rattle.tree.specs.Node
use Rattle.grammar.specs.Reading.Pattern.{to_pattern, modified}
use Rattle.grammar.specs.Reading.Number
use Rattle.grammar.specs.Reading.Result.{Error, Res, ok, bad, fail, either, then, ifb, push, pop}
use Rattle.grammar.specs.Reading.Look.{look, expect, expect_pattern, try_label, try_assign_keyword}
use Rattle.grammar.specs.Reading.Expr.{Depth, Stmts, until_branch, tuple_expr, expr}
use Rattle.grammar.specs.Reading.Block.{body}

abbrev pub stmt_list_of : Stmts → Tree
stmt_list_of s = Node.stmt_list s.suite s.control

-- `parse_loop`, behind `loop`, with a label, 0 or 1 + its name
unfoldable pub loop : Depth → ℕ → List Error → List ℕ → Res Tree
loop low l q ts =
    then q (body low q ts) λ s q₁ r.
    ok (Node.loop l (stmt_list_of s)) r

-- `parse_while_loop`, behind `while`
unfoldable pub while_loop : Depth → ℕ → List Error → List ℕ → Res Tree
while_loop low l q ts =
    then q (expr low q ts) λ condition q₁ r.
    then q₁ (expect Kind.Do Number.missing_do q₁ r) λ tok q₂ s.
    then q₂ (body low q₂ s) λ b q₃ u.
    ok (Node.while_loop l condition (stmt_list_of b)) u

-- `parse_lvalue_list`
unfoldable pub lvalue_list : Depth → List Error → List ℕ → Res Tree
lvalue_list low q ts =
    then q (try_assign_keyword q ts) λ m q₁ r.
    then q₁ (tuple_expr low q₁ r) λ t q₂ s.
    then q₂ (expect_pattern Number.cannot_assign (to_pattern t) q₂ s) λ p q₃ u.
    ok (modified m p) u

-- `parse_for_loop`, behind `for`
unfoldable pub for_loop : Depth → ℕ → List Error → List ℕ → Res Tree
for_loop low l q ts =
    then q (lvalue_list low q ts) λ pattern q₁ r.
    then q₁ (expect Kind.In Number.missing_do q₁ r) λ tok q₂ s.
    then q₂ (expr low q₂ s) λ iter q₃ u.
    then q₃ (expect Kind.Do Number.missing_do q₃ u) λ tok₂ q₄ x.
    then q₄ (body low q₄ x) λ b q₅ y.
    ok (Node.for_loop l pattern iter (stmt_list_of b)) y

-- `parse_stmt_label`, behind the label
unfoldable pub stmt_label : Depth → ℕ → List Error → List ℕ → Res Tree
stmt_label low l q ts =
    then q (look q ts) λ tok q₁ rest.
    ifb (eqb tok.kind Kind.Loop) (λ _. loop low l q rest) λ _.
    ifb (eqb tok.kind Kind.While) (λ _. while_loop low l q rest) λ _.
    ifb (eqb tok.kind Kind.For) (λ _. for_loop low l q rest) λ _.
    fail Number.label_alone q ts

-- `...` alone
abbrev pub lone_ellipsis : Tree → Bool
lone_ellipsis (node k v f) = eqb k NodeKind.Unpack && eqb (head_kind f) NodeKind.Absent

-- `parse_stmt`, whose callers have passed over separators, and `parse_stmt_variant`
unfoldable pub stmt : Depth → List Error → List ℕ → Res Tree
stmt low q ts =
    then q (look q ts) λ tok q₁ rest.
    ifb (eqb tok.kind Kind.Loop) (λ _. loop low 0 q rest) λ _.
    ifb (eqb tok.kind Kind.While) (λ _. while_loop low 0 q rest) λ _.
    ifb (eqb tok.kind Kind.For) (λ _. for_loop low 0 q rest) λ _.
    ifb (eqb tok.kind Kind.Label) (λ _. stmt_label low (suc tok.value) q rest) λ _.
    ifb (eqb tok.kind Kind.Assert) (λ _. then q (expr low q rest) λ e q₂ r. ok (Node.assert e) r) λ _.
    ifb (eqb tok.kind Kind.Continue) (λ _. fail Number.continue_not_allowed q rest) λ _.
    ifb (eqb tok.kind Kind.Break) (λ _. fail Number.break_not_allowed q rest) λ _.
    ifb (eqb tok.kind Kind.Return) (λ _. fail Number.return_not_allowed q rest) λ _.
    then q (expr low q ts) λ e q₂ r.
    ifb (lone_ellipsis e) (λ _. fail Number.ellipsis_not_allowed q₂ r) (λ _. ok (Node.expression e) r)

-- the token that ends a list: by the number of its ends
abbrev pub ends : ℕ → ℕ → Bool
ends end k = eqb k Kind.End || (eqb end until_branch && (eqb k Kind.Elif || eqb k Kind.Else))

-- the value of a break or return, or `absent`
unfoldable pub control_value : Depth → List Error → List ℕ → Res Tree
control_value low q ts =
    then q (look q ts) λ tok q₁ rest.
    ifb (ends until_branch tok.kind || eqb tok.kind Kind.Semicolon) (λ _. ok Node.absent ts) (λ _. expr low q ts)

abbrev pub is_control : ℕ → Bool
is_control k = eqb k Kind.Continue || eqb k Kind.Break || eqb k Kind.Return

-- `try_parse_control_flow`, behind a token of the kind k that is one
unfoldable pub control_flow : Depth → ℕ → List Error → List ℕ → Res Tree
control_flow low k q ts =
    ifb (eqb k Kind.Continue) (λ _. then q (try_label q ts) λ l q₁ r. ok (Node.continue l) r) λ _.
    ifb (eqb k Kind.Break)
    (λ _. then q (try_label q ts) λ l q₁ r. then q₁ (control_value low q₁ r) λ e q₂ s. ok (Node.break l e) s)
    (λ _. then q (control_value low q ts) λ e q₁ r. ok (Node.return e) r)

abbrev pub not_last : ℕ → Error
not_last k = cond (eqb k Kind.Continue) Number.continue_not_last (cond (eqb k Kind.Break) Number.break_not_last Number.return_not_last)

-- behind a control of the token kind k: a token that does not end the list is taken, and an error waits
unfoldable pub control_last : ℕ → ℕ → List Error → List ℕ → Res (Unit {0})
control_last end k q ts =
    then q (look q ts) λ tok q₁ rest.
    ifb (ends end tok.kind) (λ _. ok tt ts) (λ _. push (not_last k) q λ q₂. ok tt rest)

-- where a resynchronization stops
abbrev pub starts_stmt : ℕ → Bool
starts_stmt k =
    eqb k Kind.EOF || eqb k Kind.Semicolon || eqb k Kind.While || eqb k Kind.Loop || eqb k Kind.For
    || is_control k || eqb k Kind.Label || eqb k Kind.Assert

-- `synchronize_stmt`: an expression that reads is dropped and ends it; one that fails, and a lexer error, are passed over
unfoldable pub synchronize : Depth → Bool → ℕ → List Error → List ℕ → Res (Unit {0})
synchronize low inside zero q ts = bad tt q ts
synchronize low inside (suc n) q ts =
    either q (look q ts)
    (λ tok q₁ rest. ifb (starts_stmt tok.kind || (inside && eqb tok.kind Kind.End))
    (λ _. ok tt ts)
    (λ _. either q (expr low q ts) (λ t q₂ r. ok tt r) (λ e q₂ r. synchronize low inside n q₂ r)))
    (λ e q₁ r. ifb (eqb e Number.end_of_tokens) (λ _. ok tt ts) (λ _. synchronize low inside n q₁ r))

-- after a resynchronization in a list: `EOF`, no token or a lexer error fails the list with the queue's front
unfoldable pub synchronized : List Error → List ℕ → Res (Unit {0})
synchronized q ts =
    either q (look q ts)
    (λ tok q₁ rest. ifb (eqb tok.kind Kind.EOF) (λ _. pop q ts) (λ _. ok tt ts))
    (λ e q₁ r. pop q₁ r)

-- `catch_error_and_sync`: an error e of a statement of a list is caught, but for the end of the tokens
unfoldable pub caught : Depth → Error → List Error → List ℕ → Res (Unit {0})
caught low e q ts =
    ifb (eqb e Number.end_of_tokens) (λ _. fail e q ts) λ _.
    push e q λ q₁.
    then q₁ (synchronize low true (length ts) q₁ ts) λ u q₂ r.
    synchronized q₂ r

-- the statements of a list, after some
unfoldable pub stmts : Depth → ℕ → ℕ → Forest → List Error → List ℕ → Res Stmts
stmts low end zero f q ts = fail Number.end_of_tokens q ts
stmts low end (suc n) f q ts =
    then q (look q ts) λ tok q₁ rest.
    ifb (eqb tok.kind Kind.Semicolon) (λ _. stmts low end n f q rest) λ _.
    ifb (ends end tok.kind) (λ _. ok (record { suite = f; control = Node.absent }) ts) λ _.
    ifb (is_control tok.kind)
    (λ _. either q (control_flow low tok.kind q rest)
    (λ c q₂ r. then q₂ (control_last end tok.kind q₂ r) λ u q₃ s. ok (record { suite = f; control = c }) s)
    (λ e q₂ r. then q₂ (caught low e q₂ r) λ u q₃ s. stmts low end n f q₃ s))
    (λ _. either q (stmt low q ts)
    (λ t q₂ r. stmts low end n (snoc f t) q₂ r)
    (λ e q₂ r. then q₂ (caught low e q₂ r) λ u q₃ s. stmts low end n f q₃ s))

-- `parse_stmt_list`
abbrev pub stmt_list : Depth → ℕ → List Error → List ℕ → Res Stmts
stmt_list low end q ts = stmts low end (length ts) none q ts
