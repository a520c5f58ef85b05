-- `scan::queue::Waiting::pop` meets its contract. Assumes nothing.
use mathlib.Core.Path.{◌≡◌, sym, ap, ◌∙◌}
use mathlib.Core.List.{List, [], ◌∷◌}
use Prim.Native.Nat.{ℕ, zero, suc, ◌-◌, ◌≤◌}
use native.Mathlib.Omega.{arith}
use native.Mathlib.Numerals.{sub-one}
use Rattle.std.proofs.Common.{zero-add}
use lib.ListN.{length, take, drop, get_or, length-take, length-drop}
use Rattle.std.specs.List.{copy_within}
use Rattle.std.proofs.lemmas.List.Edits.{take-paste}
use Rattle.scan.proofs.queue.Waiting.pop.Goals as goal

-- the front, and the others
first : (Q : List ℕ) (w : ℕ) → 1 ≤ w → w ≤ length Q → take w Q ≡ get_or Q 0 0 ∷ take (w - 1) (drop 1 Q)
first [] w h g = absurd (omega arith)
first (x ∷ Q) zero h g = absurd (omega arith)
first (x ∷ Q) (suc w) h g = rw (sub-one (suc w))

-- the others are in their places after they moved up
moved : (Q : List ℕ) (w : ℕ) → 1 ≤ w → w ≤ length Q → take (w - 1) (copy_within Q 1 w 0) ≡ take (w - 1) (drop 1 Q)
moved Q w h g = ap (λ (n : ℕ). take n (copy_within Q 1 w 0)) (sym (zero-add (w - 1))) ∙ take-paste Q 0 (drop 1 Q) (w - 1) (omega arith) (rw length-drop (omega arith))

pub returns : goal.returns
returns c =
    let i = c.self.inside in
    let after = c.copy_within.ensures.after in
    let waits = ap length c.self.view_is in
    let few = c.self.invariant in
    let places = c.self.told in
    let shown = length-take i.count i.errors in
    let some : 1 ≤ i.count = omega arith in
    let within : i.count ≤ length i.errors = omega arith in
    sym c.self.view_is ∙ first i.errors i.count some within ∙ ap (λ (l : List ℕ). get_or i.errors 0 0 ∷ l) (sym (ap (take (i.count - 1)) after ∙ moved i.errors i.count some within))
