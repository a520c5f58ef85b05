-- A call of the reader as its contract has it: a tree's records stand in the store (`held`), and calls come to an end, since one that goes on takes a token or
-- answers an error that waited (`nearer`). Assumes nothing.
use mathlib.Core.Path.{◌≡◌, subst⁻¹}
use mathlib.Core.Bool.{true, false≢true}
use mathlib.Core.List.{List, ◌++◌}
use Prim.Native.Nat.{ℕ, ◌-◌, ◌*◌, ◌/◌, ◌≤◌, ◌<◌}
use native.Mathlib.Nat.{mul-div-le}
use native.Mathlib.Omega.{arith}
use lib.ListN.{length, replicate, length-append}
use Rattle.tree.specs.Tree.{records}
use Rattle.grammar.specs.Reading.Next.{Accepted, Called, next_stmt}
use Rattle.grammar.specs.Reading.Kept.{goes_on}
use Rattle.grammar.proofs.Laws.Returned.{returned_accepted}
use Rattle.grammar.proofs.Promise.{outcome}
use Rattle.grammar.specs.declared.Answer.{Answer}
use Rattle.grammar.specs.declared.Answer.TheVariants.{Tree as ATree, Error as AError, End, Stopped, Refused}
use Rattle.grammar.specs.declared.Reader.{Reader}
use Rattle.agreement.specs.Answers.{seen, is_last, is_refused}
use Rattle.agreement.specs.Corollaries.{left_over, Falls, stands, refuses, falls}
use Rattle.agreement.proofs.Laws.Trees.{outcome_of_tree}
use Rattle.agreement.proofs.Corollaries.{progress}
use Rattle.treelist.specs.Printing.{Holds}

-- a tree's records stand in the store

abbrev Held : Called → Type 0
Held c = Holds c.step.answer c.store

records_fit : (words zeros : List ℕ) → 2 * (length words / 2) ≤ length (words ++ zeros)
records_fit words zeros = omega (arith, mul-div-le (length words) 2, length-append words zeros)

pub held : (R : Reader) (T : List ℕ) (m : ℕ) {c : Called} → c ≡ next_stmt R T m → Held c
held R T m e = subst⁻¹ Held e (outcome_of_tree _ m (λ t h. records_fit (records t) (replicate (m - length (records t)) 0)) (outcome R T m))

-- a call that goes on leaves less over
goes_less : {T : List ℕ} {R : Reader} {m : ℕ} {c : Called} → Falls T R m c → goes_on c.step.answer ≡ true → left_over T c.step.reader < left_over T R
goes_less {c = c} (stands l) g = halts c.step.answer c.store l g
  where
    halts : {P : Type 0} (a : Answer) (store : List ℕ) → is_last (seen a store) ≡ true → goes_on a ≡ true → P
    halts (ATree n) store l g = absurd (false≢true l)
    halts (AError k) store l g = absurd (false≢true l)
    halts End store l g = absurd (false≢true g)
    halts (Stopped n) store l g = absurd (false≢true g)
    halts (Refused n) store l g = absurd (false≢true g)
goes_less {c = c} (refuses r l) g = no c.step.answer r g
  where
    no : {P : Type 0} (a : Answer) → is_refused a ≡ true → goes_on a ≡ true → P
    no (ATree n) r g = absurd (false≢true r)
    no (AError k) r g = absurd (false≢true r)
    no End r g = absurd (false≢true r)
    no (Stopped n) r g = absurd (false≢true r)
    no (Refused n) r g = absurd (false≢true g)
goes_less (falls l f) g = f

module _ (T : List ℕ) (R : Reader) (m : ℕ) {c : Called} (e : c ≡ next_stmt R T m) (f : Accepted T R) where
  pub nearer : goes_on c.step.answer ≡ true → left_over T c.step.reader < left_over T R
  nearer g = goes_less (subst⁻¹ (Falls T R m) e (progress m f)) g

  pub accepted : Accepted T c.step.reader
  accepted = rw e (returned_accepted R T m f)
