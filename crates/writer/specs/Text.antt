-- The text at the output's end, and tokens before it. Definitions; they assume nothing.
use Rattle.std.specs.Prelude.{◌≡◌, List, ℕ, ◌+◌, ◌≤◌, eqb, length}
use Rattle.std.specs.declared.option.Option.{Option}
use Rattle.std.specs.declared.option.Option.TheVariants.{Some, None}
use Rattle.tables.specs.Choice.{when◌then◌else◌}
use Rattle.tables.specs.Operators.{NoToken}
use Rattle.tables.specs.Layout.{emit, opened, closed}
use Rattle.output.specs.Text.{Holds}

-- the token of a kind; none is the kind of no token
unfoldable pub token_in : ℕ → Option ℕ
token_in c = when eqb c NoToken then None else Some c

-- what is said of the kind of a token
abbrev pub ForToken : Option ℕ → (ℕ → Type 0) → Type 0
ForToken token what = (c : ℕ) → token ≡ token_in c → what c

-- whatever text stood at a, with a token before it it stands at b; the output is as long as before
pub record Put (c v a b : ℕ) (S S' : List ℕ) : Type 0 where
  pub how : (X : List ℕ) → Holds a S X → Holds b S' (emit c v X)
  pub long : length S' ≡ length S
  pub room : b ≤ length S + 2

pub record Opened (kind value form a b : ℕ) (S S' : List ℕ) : Type 0 where
  pub how : (X : List ℕ) → Holds a S X → Holds b S' (opened kind value form X)
  pub long : length S' ≡ length S
  pub room : b ≤ length S + 2

pub record Closed (kind value form a b : ℕ) (S S' : List ℕ) : Type 0 where
  pub how : (X : List ℕ) → Holds a S X → Holds b S' (closed kind value form X)
  pub long : length S' ≡ length S
  pub room : b ≤ length S + 2
