-- Readings that a function of the code does and the definition has no name for, and the words that readings leave where these are no whole tree's.
-- Definitions; they assume nothing.
use Rattle.std.specs.Prelude.{◌≡◌, true, false, Option, Some, None, List, [], ◌∷◌, ◌++◌, ℕ, zero, suc, ◌+◌, ◌*◌, eqb}
use Rattle.token.specs.Kind
use Rattle.tree.specs.Tree.{Tree, Forest, snoc, records}
use Rattle.tree.specs.Node
use Rattle.grammar.specs.Reading.Number
use Rattle.grammar.specs.Reading.Result.{Error, Res, ok, fail, either, then, ifb}
use Rattle.grammar.specs.Reading.Look.{look, expect}
use Rattle.grammar.specs.Reading.Expr.{Depth, Stmts, inner_expr, expr}
use Rattle.grammar.specs.Reading.Primary.{indexing_expr, table_literal, member_access, invocation}
use Rattle.grammar.specs.Reading.Block.{body, block_of}
use Rattle.grammar.specs.Reading.Stmt.{stmt_list_of, stmt, is_control, control_flow, control_last, caught}
use Rattle.cycle.specs.declared.Control.{Control}
use Rattle.cycle.specs.declared.Control.TheVariants.{Continue, Break, Return}

-- the members of a tuple behind its first, after some
unfoldable pub tail : Depth → ℕ → Forest → List Error → List ℕ → Res Forest
tail low zero f q ts = fail Number.end_of_tokens q ts
tail low (suc n) f q ts =
    then q (look q ts) λ tok q₁ rest.
    ifb (eqb tok.kind Kind.Comma)
    (λ _. then q (look q rest) λ tok₂ q₂ rest₂.
    ifb (eqb tok₂.kind Kind.CloseParen) (λ _. ok f rest) λ _.
    then q (inner_expr low q rest) λ t q₃ r. tail low n (snoc f t) q₃ r)
    (λ _. ok f ts)

-- one part item, behind its first token, of the kind k
unfoldable pub part : Depth → ℕ → List Error → List ℕ → Res Tree
part low k q ts =
    ifb (eqb k Kind.OpAccess) (λ _. member_access q ts) λ _.
    ifb (eqb k Kind.OpenSquare) (λ _. then q (indexing_expr low q ts) λ e q₁ r. ok (Node.index e) r) λ _.
    ifb (eqb k Kind.OpenParen) (λ _. invocation low q ts) λ _.
    then q (table_literal low q ts) λ items q₁ r. ok (Node.invoke_table items) r

-- the words of a forest with its list
abbrev pub list_words : Forest → List ℕ
list_words f = records (Node.list f)

-- one arm of a conditional
unfoldable pub arm : Depth → List Error → List ℕ → Res Tree
arm low q ts =
    then q (expr low q ts) λ condition q₁ r.
    then q₁ (expect Kind.Then Number.missing_then q₁ r) λ tok q₂ s.
    then q₂ (low.list 1 q₂ s) λ b q₃ u.
    ok (Node.conditional_branch condition (block_of b)) u

-- what a while loop and a for loop end with: an expression, `do` and a list up to `End`
pub record Whiles : Type 0 where
  pub over : Tree
  pub run : Stmts

unfoldable pub whiles : Depth → List Error → List ℕ → Res Whiles
whiles low q ts =
    then q (expr low q ts) λ e q₁ r.
    then q₁ (expect Kind.Do Number.missing_do q₁ r) λ tok q₂ s.
    then q₂ (body low q₂ s) λ b q₃ u.
    ok (record { over = e; run = b }) u

-- its words, under a record
abbrev pub whiles_words : ℕ → ℕ → Whiles → List ℕ
whiles_words word value x = records x.over ++ (records (stmt_list_of x.run) ++ word ∷ value ∷ [])

-- the token kind of a control
abbrev pub control_kind : Control → ℕ
control_kind Continue = Kind.Continue
control_kind Break = Kind.Break
control_kind Return = Kind.Return

-- the code's answer r tells whether a token kind is a control's, and which one's
abbrev pub WhichAs : ℕ → Option Control → Type 0
WhichAs k (Some control) = (is_control k ≡ true) × (k ≡ control_kind control)
WhichAs k None = is_control k ≡ false

pub record Which (k : ℕ) (r : Option Control) : Type 0 where
  pub how : WhichAs k r

-- what stands at a place of a statement list: a statement; a control; an error that was caught
pub data Place : Type 0 where
  a_stmt a_control : Tree → Place
  a_caught : Place

-- the rest of the reading of a place, once its error was caught
abbrev pub resume : Depth → Error → List Error → List ℕ → Res Place
resume low e q ts = then q (caught low e q ts) λ u q₁ r. ok a_caught r

-- a place where a token of the kind k stands, that does not end the list; `rest` is behind that token
unfoldable pub turn : Depth → ℕ → ℕ → List ℕ → List Error → List ℕ → Res Place
turn low end k rest q ts =
    ifb (is_control k)
    (λ _. either q (control_flow low k q rest)
    (λ c q₁ r. then q₁ (control_last end k q₁ r) λ u q₂ s. ok (a_control c) s)
    (resume low))
    (λ _. either q (stmt low q ts) (λ t q₁ r. ok (a_stmt t) r) (resume low))

-- the words of a list of n statements and its control, behind those of the statements
abbrev pub control_words : ℕ → Tree → List ℕ
control_words n c = (1 + 256 * n) ∷ 0 ∷ records c
