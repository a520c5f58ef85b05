-- What the contracts of the functions that read statement lists say, and of those that end them. Assumes nothing.
use Rattle.std.specs.Prelude.{◌≡◌, Result, Ok, Err, List, ℕ, ◌+◌, ◌≤◌, drop}
use Rattle.token.specs.declared.Token.{Token}
use Rattle.grammar.specs.Reading.Look.{look}
use Rattle.scan.specs.Post.{Taken, Unread}
use Rattle.scan.specs.declared.Cursor.{Cursor}
use Rattle.scan.specs.declared.Halt.{Halt}
use Rattle.scan.specs.declared.Listed.{Listed}
use Rattle.scan.specs.declared.Listed.TheVariants.{Suite as ASuite, Control}

-- past which words a list ends
abbrev pub end_of : Listed → Cursor
end_of (ASuite suite) = suite.end
end_of (Control end) = end

-- the same list with the token behind it taken
abbrev pub passed_by : Listed → Listed
passed_by (ASuite suite) = ASuite (record { end = record { pos = suite.end.pos + 2; at = suite.end.at }; count = suite.count; last = suite.last })
passed_by (Control end) = Control (record { pos = end.pos + 2; at = end.at })

-- a token stands behind a list, which ends at p, and is taken; or there is none
pub record PassedBy (T : List ℕ) (l on : Listed) (tok : Token) : Type 0 where
  pub is : on ≡ passed_by l
  pub taken : Taken T (end_of l).pos tok.kind tok.newline tok.value

abbrev pub PassesAs : List ℕ → Listed → Result Listed Halt → Type 0
PassesAs T l (Ok on) = (tok : Token) × PassedBy T l on tok
PassesAs T l (Err h) = Unread (λ q. look q (drop (end_of l).pos T)) T (end_of l).pos ((end_of l).pos + 2) h

pub record Passes (T : List ℕ) (l : Listed) (r : Result Listed Halt) : Type 0 where
  pub how : PassesAs T l r

-- a list ends within n words
pub record Within (n : ℕ) (l : Listed) : Type 0 where
  pub how : (end_of l).pos ≤ n
