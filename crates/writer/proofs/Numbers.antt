-- Tests by what is known of numbers, and a number that is none of those below a bound. Assumes nothing.
use mathlib.Core.Path.{◌≡◌}
use Prim.Native.Nat.{ℕ, zero, suc, ◌≤◌}
use native.Mathlib.Omega.{arith}
use borrow.Author.Tests.{eq-eqb, ne_eqb, lt-ltb, le-ltb, lt-leb, le-leb}

-- tests, by what is known of the numbers
pub ruleset tests = (eq-eqb, ne_eqb, lt-ltb, le-ltb, lt-leb, le-leb)

-- none of the numbers below n, one by one
abbrev pub NoneBelow : ℕ → ℕ → Type 0
NoneBelow zero k = Unit {0}
NoneBelow (suc n) k = NoneBelow n k × (k ≡ n → ⊥)

pub from : (n : ℕ) {k : ℕ} → NoneBelow n k → n ≤ k
from zero h = omega arith
from (suc n) h = omega (arith, from n h.0, h.1)
