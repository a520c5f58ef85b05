-- The calls on a sheet as an editor keeps them, and what is left of them where the sheet is edited. Definitions; they assume nothing.
use Rattle.std.specs.Prelude.{◌≡◌, Bool, true, false, List, [], ◌∷◌, ◌++◌, ℕ, ◌*◌, ◌/◌, ◌%◌, ◌≤◌, leb, length, Option, Some, None}
use Rattle.grammar.specs.Reading.Limit.{length_limit, store_share}
use Rattle.grammar.specs.Reading.Result.{ifb}
use Rattle.grammar.specs.Reading.Next.{Called, next_stmt}
use Rattle.grammar.specs.Reading.Looked.{call_looks}
use Rattle.grammar.specs.declared.Answer.{Answer}
use Rattle.grammar.specs.declared.Answer.TheVariants.{Tree as ATree, Error as AError, End, Stopped, Refused}
use Rattle.grammar.specs.declared.Reader.{Reader}

-- a call as it is kept: the position that it started at; the furthest token that it looked at, from 1, or 0 if it looked at none; what it left
pub record KeptCall : Type 0 where
  pub start : ℕ
  pub looked : ℕ
  pub left : Called

abbrev pub keep : List ℕ → ℕ → Reader → KeptCall
keep T m R = record { start = R.position; looked = call_looks R T m; left = next_stmt R T m }

-- a tree or an error is followed by another call
abbrev pub goes_on : Answer → Bool
goes_on (ATree nodes) = true
goes_on (AError kind) = true
goes_on End = false
goes_on (Stopped n) = false
goes_on (Refused n) = false

-- the calls on the sheet T from a reader on, up to the first end, stop or refusal and with it, each with a store of m words
pub data Calls (T : List ℕ) (m : ℕ) : Reader → List KeptCall → Type 0 where
  last_call : {R : Reader} → goes_on (next_stmt R T m).step.answer ≡ false → Calls T m R (keep T m R ∷ [])
  then_call : {R : Reader} {ks : List KeptCall} → goes_on (next_stmt R T m).step.answer ≡ true → Calls T m (next_stmt R T m).step.reader ks → Calls T m R (keep T m R ∷ ks)

-- a stretch is replaced that starts behind the first a tokens. The calls before the first one that looked at or past its start
unfoldable pub stay : ℕ → List KeptCall → List KeptCall
stay a [] = []
stay a (k ∷ ks) = ifb (leb k.looked a) (λ _. k ∷ stay a ks) (λ _. [])

-- the position that this one started at, if there is one
unfoldable pub restart : ℕ → List KeptCall → Option ℕ
restart a [] = None
restart a (k ∷ ks) = ifb (leb k.looked a) (λ _. restart a ks) (λ _. Some k.start)

-- the edited sheet: the old one's first a tokens h, and then the words X. It is of whole tokens and within the length limit, and a store of m words is long enough for it
pub record Changed (a : ℕ) (h X : List ℕ) (m : ℕ) : Type 0 where
  pub before : length h ≡ 2 * a
  pub even : length (h ++ X) % 2 ≡ 0
  pub within : length (h ++ X) ≤ 2 * length_limit
  pub room : store_share * (length (h ++ X) / 2) ≤ m
