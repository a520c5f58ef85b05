-- `labels::entries::Entries::leave` meets its contract: entries are left out from the last on. Assumes nothing.
use mathlib.Core.Path.{◌≡◌, sym, ap, ◌∙◌}
use mathlib.Core.List.{List}
use Prim.Native.Nat.{ℕ, ◌+◌, ◌*◌, ◌-◌, ◌≤◌, ◌<◌}
use native.Mathlib.Omega.{arith}
use lib.ListN.{get_or}
use borrow.Author.Tests.{le-ltb, lt-ltb}
use Rattle.labels.specs.Entries.{held, standing}
use Rattle.labels.proofs.Kept.{held_last, held_none}
use Rattle.labels.proofs.entries.Entries.leave.Goals as goal

-- the last entry stands, or is left out
module _ (F : List ℕ) (h i : ℕ) (l : 0 < i) where
  stands : get_or F (3 * i - 1) 0 ≤ h → standing h (held F i) ≡ held F i
  unfolding standing
  stands a =
      let e : 3 * i - 1 ≡ 3 * (i - 1) + 2 = omega arith in
      rw (held_last F i l, le-ltb h (get_or F (3 * (i - 1) + 2) 0) (rw e at a))

  left_out : h < get_or F (3 * i - 1) 0 → standing h (held F i) ≡ standing h (held F (i - 1))
  unfolding standing
  left_out a =
      let e : 3 * i - 1 ≡ 3 * (i - 1) + 2 = omega arith in
      ap (standing h) (held_last F i l) ∙ rw (lt-ltb h (get_or F (3 * (i - 1) + 2) 0) (rw e at a))

none_stands : (F : List ℕ) (h i : ℕ) → i ≤ 0 → standing h (held F i) ≡ held F i
unfolding standing
none_stands F h i l = rw (held_none F i l)

pub loop-self-preserved : goal.loop-self-preserved
loop-self-preserved c = let v = c.loop-self.invariant in
    (omega arith, v.1, v.2 ∙ left_out c.args.self.now.words.now c.args.pending c.loop-self.self.count c.loop-self-test.true (rw v.1 at c.if-pending-self.true))

pub returns-else-pending-self-clause-stands : goal.returns-else-pending-self-clause-stands
returns-else-pending-self-clause-stands c = let v = c.loop-self.invariant in
    record { words = sym (v.2 ∙ stands c.args.self.now.words.now c.args.pending c.loop-self.self.count c.loop-self-test.true (rw v.1 at c.if-pending-self.false)); fewer = v.0 }

pub returns-after-loop-self-clause-stands : goal.returns-after-loop-self-clause-stands
returns-after-loop-self-clause-stands c = let v = c.loop-self.invariant in
    record { words = sym (v.2 ∙ none_stands c.args.self.now.words.now c.args.pending c.loop-self.self.count c.loop-self-test.false); fewer = v.0 }
