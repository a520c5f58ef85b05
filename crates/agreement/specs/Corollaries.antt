-- What the corollaries beside the theorem (proofs/Corollaries.antt) speak of: how much is left over, what a call does to it, that an end or a stop comes, and what a refused
-- call leaves. Definitions; they assume nothing.
use Rattle.std.specs.Prelude.{◌≡◌, true, false, List, ℕ, ◌+◌, ◌*◌, ◌-◌, ◌/◌, ◌<◌, length, replicate}
use Rattle.grammar.specs.Reading.Limit.{store_share}
use Rattle.grammar.specs.Reading.Next.{Called}
use Rattle.grammar.specs.declared.Reader.{Reader}
use Rattle.agreement.specs.Answers.{Seen, seen_of, is_last, is_refused, Reads}

-- at most so many answers come before the end or the stop: those that wait, and for each unread token one and the 96 that can wait behind it
abbrev pub left_over : List ℕ → Reader → ℕ
left_over T R = R.waiting + 97 * (length T / 2 - R.position)

-- a call is the last one, its store of m words is refused, or less is left over behind it
pub data Falls (T : List ℕ) (R : Reader) (m : ℕ) (c : Called) : Type 0 where
  stands : is_last (seen_of c) ≡ true → Falls T R m c
  refuses : is_refused c.step.answer ≡ true → m < store_share * (length T / 2 - R.position) → Falls T R m c
  falls : is_last (seen_of c) ≡ false → left_over T c.step.reader < left_over T R → Falls T R m c

-- an end or a stop comes
pub record Comes (T : List ℕ) (R : Reader) : Type 0 where
  pub answers : List Seen
  pub reads : Reads T R answers

-- the reader as it was, and a store of zeros
pub record Unchanged (R : Reader) (S : List ℕ) (g : Called) : Type 0 where
  pub reader : g.step.reader ≡ R
  pub store : g.store ≡ replicate (length S) 0
