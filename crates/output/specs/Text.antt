-- The text at the output's end, and what is answered and left of it. Assumes nothing.
use Rattle.std.specs.Prelude.{◌≡◌, List, ℕ, zero, suc, ◌+◌, ◌≤◌, ◌<◌, length, drop}
use Rattle.std.proofs.Common.{arith}
use Rattle.grammar.specs.declared.Written.{Written}
use Rattle.tables.specs.Answer.{in_room}

-- the output from word a - 2 on is X; or a is below 2, and X is longer than the output
abbrev pub HoldsAs : ℕ → List ℕ → List ℕ → Type 0
HoldsAs zero S X = length S < length X
HoldsAs (suc zero) S X = length S < length X
HoldsAs (suc (suc a)) S X = (a ≤ length S) × (drop a S ≡ X)

pub record Holds (a : ℕ) (S X : List ℕ) : Type 0 where
  pub how : HoldsAs a S X

-- some text stands at a
pub record Held (a : ℕ) (O : List ℕ) : Type 0 where
  pub words : List ℕ
  pub holds : Holds a O words

-- the text at b is answered and left as it must be
pub record Fronted (b : ℕ) (O O' : List ℕ) (r : Written) : Type 0 where
  pub how : (X : List ℕ) → Holds b O X → record { answer = r; output = O' } ≡ in_room X (length O)

-- a text begins in the output
pub holds_bound : {a : ℕ} {S X : List ℕ} → Holds a S X → a ≤ length S + 2
holds_bound {a = zero} h = omega arith
holds_bound {a = suc zero} h = omega arith
holds_bound {a = suc (suc b)} h = omega (arith, h.how.0)
