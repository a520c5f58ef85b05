-- Looking at a token, which is a reading too: `advance` goes on with the words behind it, `peek` with the old ones. Definitions; they assume nothing.
use Rattle.std.specs.Prelude.{cond, List, [], ◌∷◌, ℕ, zero, suc, eqb, Result, Ok, Err, Option, Some, None}
use Rattle.token.specs.Kind
use Rattle.token.specs.Look.{seen_word}
use Rattle.token.specs.declared.Token.{Token}
use Rattle.token.specs.declared.Unread.{Unread}
use Rattle.token.specs.declared.Unread.TheVariants.{LexerError, Nothing, Bad}
use Rattle.tree.specs.Tree.{Tree}
use Rattle.tree.specs.Node
use Rattle.grammar.specs.Reading.Limit.{malformed}
use Rattle.grammar.specs.Reading.Number
use Rattle.grammar.specs.Reading.Result.{Error, Res, ok, fail, stop, then, ifb}

-- a lexer error is taken, also by a peek; a bad record stops the reading. Two words are never `Nothing`: that clause is never reached
unfoldable pub looked : List Error → List ℕ → (Result Token Unread) → Res Token
looked q rest (Ok tok) = ok tok rest
looked q rest (Err LexerError) = fail Number.lexer_error q rest
looked q rest (Err Nothing) = fail Number.end_of_tokens q rest
looked q rest (Err Bad) = stop malformed

-- the next token: two words, and what stands behind them
unfoldable pub look : List Error → List ℕ → Res Token
look q [] = fail Number.end_of_tokens q []
look q (w ∷ []) = fail Number.end_of_tokens q (w ∷ [])
look q (w ∷ v ∷ rest) = looked q rest (seen_word w v)

-- the next token is taken, and is of the kind k; else the error e
unfoldable pub expect : ℕ → Error → List Error → List ℕ → Res Token
expect k e q ts =
    then q (look q ts) λ tok q₁ rest.
    ifb (eqb tok.kind k) (λ _. ok tok rest) (λ _. fail e q rest)

-- what an expression is as a pattern; else the error e
unfoldable pub expect_pattern : Error → Option Tree → List Error → List ℕ → Res Tree
expect_pattern e None q ts = fail e q ts
expect_pattern e (Some p) q ts = ok p ts

-- `try_parse_label`: 0, or 1 + the label's name
unfoldable pub try_label : List Error → List ℕ → Res ℕ
try_label q ts =
    then q (look q ts) λ tok q₁ rest.
    ifb (eqb tok.kind Kind.Label) (λ _. ok (suc tok.value) rest) (λ _. ok 0 ts)

-- 0, or 1 + the `MatchAction` of a keyword
abbrev pub keyword : ℕ → ℕ
keyword k =
    cond (eqb k Kind.Local) (suc Node.assign_local)
    (cond (eqb k Kind.NonLocal) (suc Node.assign_non_local)
    (cond (eqb k Kind.Let) (suc Node.decl_immutable)
    (cond (eqb k Kind.Var) (suc Node.decl_mutable)
    0)))

-- `try_parse_assign_keyword`: 0, or 1 + the `MatchAction`
unfoldable pub try_assign_keyword : List Error → List ℕ → Res ℕ
try_assign_keyword q ts =
    then q (look q ts) λ tok q₁ rest.
    ifb (eqb (keyword tok.kind) 0) (λ _. ok 0 ts) (λ _. ok (keyword tok.kind) rest)

-- the action of an assignment with this keyword, or without one
abbrev pub action : ℕ → ℕ
action zero = Node.assign_local
action (suc a) = a
