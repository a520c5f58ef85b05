-- Readings that a function of the code does and the definition has no name for, and the words that readings leave where these are no whole tree's.
-- Definitions; they assume nothing.
use Rattle.std.specs.Prelude.{Bool, cond, ◌&&◌, ◌||◌, Option, Some, None, Result, Ok, Err, ℕ, suc, eqb}
use Rattle.token.specs.Kind
use Rattle.tree.specs.Node
use Rattle.grammar.specs.Reading.Number
use Rattle.grammar.specs.Reading.Result.{Error, ifb}
use Rattle.grammar.specs.Reading.Expr.{keyword_alone, until_branch}
use Rattle.scan.specs.declared.Action.{Action}
use Rattle.scan.specs.declared.Action.TheVariants.{AssignLocal, AssignNonLocal, DeclImmutable, DeclMutable}
use Rattle.scan.specs.declared.Cursor.{Cursor}
use Rattle.scan.specs.declared.Found.{Found}
use Rattle.scan.specs.declared.Halt.{Halt}
use Rattle.scan.specs.declared.Halt.TheVariants.{Fail}
use Rattle.scan.specs.declared.Keyword.{Keyword}
use Rattle.scan.specs.declared.Until.{Until}
use Rattle.scan.specs.declared.Until.TheVariants.{End, Branch}

-- whether a token goes on a path
abbrev pub goes_on : Bool → ℕ → ℕ → Bool
goes_on calls k newline = eqb k Kind.OpAccess || eqb k Kind.OpenSquare || (calls && eqb newline 0 && (eqb k Kind.OpenParen || eqb k Kind.OpenBrace))

-- an action's number is its place in its enum
abbrev pub action_number : Action → ℕ
action_number AssignLocal = Node.assign_local
action_number AssignNonLocal = Node.assign_non_local
action_number DeclImmutable = Node.decl_immutable
action_number DeclMutable = Node.decl_mutable

-- the number that the definition gives to a keyword: 0 for none, or 1 + its action's
abbrev pub keyword_code : Option Action → ℕ
keyword_code None = 0
keyword_code (Some action) = suc (action_number action)

-- what was found, with that number
abbrev pub keyword_found : Result Keyword Halt → Result Found Halt
keyword_found (Ok k) = Ok (record { pos = k.pos; number = keyword_code k.action })
keyword_found (Err h) = Err h

-- an expression that no assignment operator follows, with a keyword m before it
unfoldable pub unassigned_result : ℕ → Cursor → Result Cursor Halt
unassigned_result m c = ifb (eqb m 0) (λ _. Ok c) (λ _. Err (Fail (record { error = keyword_alone m; pos = c.pos })))

-- the error of a control where none is allowed
abbrev pub not_allowed : ℕ → Error
not_allowed k = cond (eqb k Kind.Continue) Number.continue_not_allowed (cond (eqb k Kind.Break) Number.break_not_allowed Number.return_not_allowed)

-- the number that the definition gives to where a list ends
abbrev pub until : Until → ℕ
until End = 0
until Branch = until_branch
