-- `labels::entries::Entries::any_kept` meets its contract: the entries are asked from the last to the first. Assumes nothing.
use mathlib.Core.Path.{◌≡◌, sym, ap, ◌∙◌}
use mathlib.Core.List.{List}
use Prim.Native.Nat.{ℕ, ◌+◌, ◌*◌, ◌-◌, ◌<◌}
use native.Mathlib.Omega.{arith}
use lib.ListN.{get_or}
use Rattle.labels.specs.Offences.{any_serves, inside}
use Rattle.labels.specs.Entries.{kind_of, held, around}
use Rattle.labels.proofs.Kept.{held_last, held_none, none_serves, node_does, node_does_not}
use Rattle.labels.proofs.entries.Entries.any_kept.Goals.{In-loop-i}
use Rattle.labels.proofs.entries.Entries.any_kept.Goals as goal

-- the last of the entries, and those before it
around_last : (F : List ℕ) (i : ℕ) → 0 < i → around (held F i) ≡ inside (get_or F (3 * (i - 1)) 0) (get_or F (3 * (i - 1) + 1) 0) (around (held F (i - 1)))
unfolding around
around_last F i l = ap around (held_last F i l)

-- what is asked of the last entry is asked of all
module _ (c : In-loop-i) where
  asked : any_serves (kind_of c.args.jump.kind) c.args.jump.label (around (held c.args.self.now.words.now c.args.self.now.count))
      ≡ any_serves (kind_of c.args.jump.kind) c.args.jump.label (inside (get_or c.args.self.now.words.now (3 * (c.loop-i.i - 1)) 0) (get_or c.args.self.now.words.now (3 * (c.loop-i.i - 1) + 1) 0) (around (held c.args.self.now.words.now (c.loop-i.i - 1))))
  asked = c.loop-i.invariant ∙ ap (any_serves (kind_of c.args.jump.kind) c.args.jump.label) (around_last _ _ c.loop-i-test.true)

pub returns-then-kind-eq-FUNCTION_DEF : goal.returns-then-kind-eq-FUNCTION_DEF
returns-then-kind-eq-FUNCTION_DEF c = sym (asked (goal.at.returns-then-kind-eq-FUNCTION_DEF c).In-loop-i ∙ none_serves _ _ _ _ _ c.if-kind-eq-FUNCTION_DEF.true)

pub returns-then-node_serves : goal.returns-then-node_serves
returns-then-node_serves c = sym (asked (goal.at.returns-then-node_serves c).In-loop-i ∙ node_does _ _ _ _ _ c.if-kind-eq-FUNCTION_DEF.false (sym c.node_serves.ensures ∙ c.if-node_serves.true))

pub loop-i-preserved : goal.loop-i-preserved
loop-i-preserved c = asked (goal.at.loop-i-preserved c).In-loop-i ∙ node_does_not _ _ _ _ _ c.if-kind-eq-FUNCTION_DEF.false (sym c.node_serves.ensures ∙ c.if-node_serves.false)

pub returns : goal.returns
unfolding around
returns c = sym (c.loop-i.invariant ∙ rw (held_none c.args.self.now.words.now c.loop-i.i (omega (arith, c.loop-i-test.false))))
