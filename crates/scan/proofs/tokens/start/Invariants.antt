-- What the loops of `scan::tokens::start` keep, and what falls. Assumes nothing.
use mathlib.Core.Path.{◌≡◌}
use mathlib.Core.List.{List}
use Prim.Native.Nat.{ℕ, ◌+◌, ◌-◌, ◌≤◌}
use lib.ListN.{length, drop}
use Rattle.grammar.specs.Reading.Result.{Error}
use Rattle.grammar.specs.Reading.Next.{start}
use Rattle.scan.proofs.tokens.start.Given as goal

pub record Going (T : List ℕ) (pos p : ℕ) : Type 0 where
  pub fuel : ℕ
  pub enough : length T ≤ p + fuel
  pub same : (q : List Error) → start (length (drop pos T)) q (drop pos T) ≡ start fuel q (drop p T)
  pub on : pos ≤ p
  pub within : p ≤ length T

abbrev pub invariant-loop-token : goal.invariant-loop-token
invariant-loop-token l = Going l.tokens l.fn.pos l.pos

abbrev pub decreases-loop-token : goal.decreases-loop-token
decreases-loop-token l = length l.tokens - l.pos
