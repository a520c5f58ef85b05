-- The cycle of `writer::write_node`, the loop over a node's children from the last, and `writer::write_tree`, the loop along a chain of operators. Assumes nothing.
use mathlib.Core.Path.{refl}
use mathlib.Core.List.{List, ◌∷◌, ◌++◌}
use Prim.Native.Nat.{ℕ, ◌≤◌}
use native.Mathlib.Omega.{arith}
use lib.ListN.{length}
use Rattle.tree.specs.Tree.{Tree}
use Rattle.output.specs.Text.{holds_bound}
use Rattle.writer.specs.Stack.{At}
use Rattle.writer.proofs.Laws.{at_many}
use Rattle.writer.proofs.Places.{some_place}
use Rattle.writer.proofs.Writing.{under_top, wrote_deep}
use Rattle.writer.proofs.Nodes.{form_says, below_base, base_deep, left_start, last, last_done, last_deep, left_end}
use Rattle.writer.proofs.Sides.{sides, side_written, side_done, side_deep}
use Rattle.writer.proofs.+write_node_write_tree.Goals as goal

-- a tree that stands has a record
inside : {L : List ℕ} {p : ℕ} {t : Tree} {s : List Tree} → At L p (t ∷ s) → (2 ≤ p) × (p ≤ length L)
inside h = (omega (arith, at_many h), h.inside)

pub write_node-overflow_sub-word : goal.write_node-overflow_sub-word
write_node-overflow_sub-word t c = omega (arith, inside c.requires.0.here)

pub write_node-bounds-records-p : goal.write_node-bounds-records-p
write_node-bounds-records-p t c = omega (arith, inside c.requires.0.here)

pub write_node-overflow_sub-head : goal.write_node-overflow_sub-head
write_node-overflow_sub-head t c = omega (arith, inside c.requires.0.here)

pub write_node-bounds-records-p-2 : goal.write_node-bounds-records-p-2
write_node-bounds-records-p-2 t c = omega (arith, inside c.requires.0.here)

pub write_node-returns-then-depth-base : goal.write_node-returns-then-depth-base
write_node-returns-then-depth-base t c = record { how = λ u s X a h. base_deep _ u s a c.base.ensures c.if-depth-base.true }

pub write_node-form_at-requires : goal.write_node-form_at-requires
write_node-form_at-requires t c = some_place c.requires.0

pub write_node-overflow_sub-step : goal.write_node-overflow_sub-step
write_node-overflow_sub-step t c = omega (arith, inside c.requires.0.here)

pub write_node-loop-j-init : goal.write_node-loop-j-init
write_node-loop-j-init t c =
    record { go = λ u s X a h. left_start _ u s X a c.base.ensures c.if-depth-base.false (form_says c.form_at.ensures a) h; kept = refl }

-- in each of the next, `y` is what the call asks, and the children that are left stand before the text that stood there
pub write_node-put-requires : goal.write_node-put-requires
write_node-put-requires t c =
    let y = c.requires in
    holds_bound (c.loop-j.invariant.go y.0.top y.0.rest y.1.words y.0.here (c.closing.ensures.how y.1.words y.1.holds)).holds

pub write_node-overflow_sub-below : goal.write_node-overflow_sub-below
write_node-overflow_sub-below t c = below_base _ _ c.loop-j.j c.deeper.ensures c.base.ensures c.if-depth-base.false

pub write_node-write_tree-requires : goal.write_node-write_tree-requires
write_node-write_tree-requires t c =
    let y = c.requires in
    let g = c.loop-j.invariant.go y.0.top y.0.rest y.1.words y.0.here (c.closing.ensures.how y.1.words y.1.holds) in
    let w = last g c.loop-j-test.true in
    let low = g.below in
    (omega (arith, c.decreases), (record { top = w.top; rest = w.others ++ y.0.rest; here = w.here }, record { words = _; holds = (c.put.ensures _ c.after_token.ensures).how w.words w.holds }))

pub write_node-returns-in_err-step : goal.write_node-returns-in_err-step
write_node-returns-in_err-step t c =
    wrote_deep c.from_residual.ensures.0 λ u s X a h. last_deep (last (c.loop-j.invariant.go u s X a (c.closing.ensures.how X h)) c.loop-j-test.true) c.place_of.ensures c.deeper.ensures (c.put.ensures _ c.after_token.ensures) c.write_tree.ensures c.in_err-step.was

pub write_node-loop-j-preserved : goal.write_node-loop-j-preserved
write_node-loop-j-preserved t c = record {
  go = λ u s X a h. last_done (last (c.loop-j.invariant.go u s X a h) c.loop-j-test.true) c.place_of.ensures c.deeper.ensures (c.put.ensures _ c.after_token.ensures) c.write_tree.ensures c.in_ok-step.was;
  kept = omega (arith, c.loop-j.invariant.kept);
}

pub write_node-opening-requires : goal.write_node-opening-requires
write_node-opening-requires t c =
    let y = c.requires in
    holds_bound (c.loop-j.invariant.go y.0.top y.0.rest y.1.words y.0.here (c.closing.ensures.how y.1.words y.1.holds)).holds

pub write_node-returns : goal.write_node-returns
write_node-returns t c = record {
  how = λ u s X a h. left_end (c.loop-j.invariant.go u s X a (c.closing.ensures.how X h)) (omega (arith, c.loop-j-test.false)) c.opening.ensures;
}

-- in each of the next, the loop stands in the tree that the call is for, before the text that stood there
pub write_tree-overflow_sub-step : goal.write_tree-overflow_sub-step
write_tree-overflow_sub-step t c = let y = c.requires in omega (arith, inside (c.loop-step.invariant.go y.0.top y.0.rest y.1.words y.0.here y.1.holds).here)

pub write_tree-offset_bounds-records-step : goal.write_tree-offset_bounds-records-step
write_tree-offset_bounds-records-step t c = let y = c.requires in omega (arith, inside (c.loop-step.invariant.go y.0.top y.0.rest y.1.words y.0.here y.1.holds).here)

pub write_tree-bounds-records-step : goal.write_tree-bounds-records-step
write_tree-bounds-records-step t c = let y = c.requires in omega (arith, inside (c.loop-step.invariant.go y.0.top y.0.rest y.1.words y.0.here y.1.holds).here)

pub write_tree-overflow_sub-number : goal.write_tree-overflow_sub-number
write_tree-overflow_sub-number t c = let y = c.requires in omega (arith, inside (c.loop-step.invariant.go y.0.top y.0.rest y.1.words y.0.here y.1.holds).here)

pub write_tree-bounds-records-step-in-loop-step : goal.write_tree-bounds-records-step-in-loop-step
write_tree-bounds-records-step-in-loop-step t c = let y = c.requires in omega (arith, inside (c.loop-step.invariant.go y.0.top y.0.rest y.1.words y.0.here y.1.holds).here)

pub write_tree-overflow_sub-step-in-loop-step : goal.write_tree-overflow_sub-step-in-loop-step
write_tree-overflow_sub-step-in-loop-step t c = let y = c.requires in omega (arith, inside (c.loop-step.invariant.go y.0.top y.0.rest y.1.words y.0.here y.1.holds).here)

pub write_tree-write_tree-requires : goal.write_tree-write_tree-requires
write_tree-write_tree-requires t c =
    let y = c.requires in
    let g = c.loop-step.invariant.go y.0.top y.0.rest y.1.words y.0.here y.1.holds in
    let w = sides g c.loop-step-test.true in
    let low = w.below in
    (omega (arith, c.decreases, inside g.here), (record { top = w.right; rest = w.left ∷ y.0.rest; here = w.here }, record { words = w.words; holds = w.holds }))

pub write_tree-returns-in_err-step : goal.write_tree-returns-in_err-step
write_tree-returns-in_err-step t c =
    wrote_deep c.from_residual.ensures.0 λ u s X a h. side_deep (sides (c.loop-step.invariant.go u s X a h) c.loop-step-test.true) c.write_tree.ensures c.in_err-step.was

pub write_tree-put-requires : goal.write_tree-put-requires
write_tree-put-requires t c =
    let y = c.requires in
    let w = sides (c.loop-step.invariant.go y.0.top y.0.rest y.1.words y.0.here y.1.holds) c.loop-step-test.true in
    holds_bound (side_written w c.write_tree.ensures c.in_ok-step.was).2

pub write_tree-loop-step-smaller : goal.write_tree-loop-step-smaller
write_tree-loop-step-smaller t c =
    let y = c.requires in
    let w = sides (c.loop-step.invariant.go y.0.top y.0.rest y.1.words y.0.here y.1.holds) c.loop-step-test.true in
    omega (arith, under_top w.here (side_written w c.write_tree.ensures c.in_ok-step.was).1)

pub write_tree-loop-step-preserved : goal.write_tree-loop-step-preserved
write_tree-loop-step-preserved t c = record {
  go = λ u s X a h. side_done (sides (c.loop-step.invariant.go u s X a h) c.loop-step-test.true) c.write_tree.ensures c.in_ok-step.was (c.put.ensures _ c.op_token.ensures);
  kept = omega (arith, c.loop-step.invariant.kept);
}

pub write_tree-write_node-requires : goal.write_tree-write_node-requires
write_tree-write_node-requires t c =
    let y = c.requires in
    let g = c.loop-step.invariant.go y.0.top y.0.rest y.1.words y.0.here y.1.holds in
    let low = g.below in
    (omega (arith, c.decreases), (record { top = g.top; rest = y.0.rest; here = g.here }, record { words = g.words; holds = g.holds }))

pub write_tree-returns : goal.write_tree-returns
write_tree-returns t c = record {
  how = λ u s X a h.
      let z = c.loop-step.invariant.go u s X a h in
      rw (z.same, z.deep) (c.write_node.ensures.how z.top s z.words z.here z.holds);
}
