-- What the functions that write records to the store say of it, as it was (S) and as it is (S'). Assumes nothing.
use Rattle.std.specs.Prelude.{◌≡◌, List, [], ◌∷◌, ◌++◌, ℕ, ◌+◌, ◌-◌, ◌*◌, ◌≤◌, length, take, drop}

-- a record was written at a place, and r is the place behind it
pub record Emitted (at word value r : ℕ) (S S' : List ℕ) : Type 0 where
  pub next : r ≡ at + 2
  pub text : take r S' ≡ take at S ++ word ∷ value ∷ []
  pub rest : drop r S' ≡ drop r S
  pub whole : length S' ≡ length S

-- the words from «from» to «to» were copied to «dest»: before it the words are as they were, and from it on stands what was copied, and then what stood behind its place
pub record Copied (from to dest : ℕ) (S S' : List ℕ) : Type 0 where
  pub before : (n : ℕ) → n ≤ dest → take n S' ≡ take n S
  pub onward : drop dest S' ≡ drop from (take to S) ++ drop (dest + (to - from)) S

-- the records between n statements and a block's result: their list, no control, the statement list
abbrev pub leading : ℕ → List ℕ
leading n = (1 + 256 * n) ∷ 0 ∷ 0 ∷ 0 ∷ 519 ∷ 0 ∷ []

-- the first m words stand behind these records
pub record Led (m n : ℕ) (S S' : List ℕ) : Type 0 where
  pub text : take (m + 6) S' ≡ leading n ++ take m S

-- the words from «last» to «end» stand behind these records
pub record Result (last end n : ℕ) (S S' : List ℕ) : Type 0 where
  pub text : take (end + 6) S' ≡ take last S ++ (leading n ++ drop last (take end S))
  pub whole : length S' ≡ length S
