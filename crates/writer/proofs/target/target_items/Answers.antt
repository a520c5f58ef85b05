-- `writer::target::target_items` meets its contract. Assumes nothing.
use mathlib.Core.Path.{◌≡◌, refl, sym, ◌∙◌}
use mathlib.Core.List.{List, ◌∷◌}
use Prim.Native.Nat.{◌+◌, ◌-◌, ◌<◌}
use native.Mathlib.Omega.{arith}
use Rattle.std.specs.Prelude.{Some}
use Rattle.tree.specs.Tree.{Tree}
use Rattle.writer.specs.Stack.{At, Here}
use Rattle.tables.specs.Children.{count_in, children_in}
use Rattle.writer.proofs.Places.{stands, some_place}
use Rattle.writer.proofs.Kids.{part_start, part_look, part_known, part_end, sees_bad, sees_good}
use Rattle.writer.proofs.Laws.{at_many}
use Rattle.writer.proofs.Targets.{items_all}
use Rattle.writer.proofs.target.target_items.Goals.{In-loop}
use Rattle.writer.proofs.target.target_items.Goals as goal

-- the item that is looked at
module _ (c : In-loop) where
  -- one is left
  left : (t : Tree) (s : List Tree) → At c.args.records.now c.args.p (t ∷ s) → 0 < count_in (Some t) - c.loop.counter
  left t s a = let n = c.count_at-end.ensures.how (Some t) s (stands a) in omega (arith, c.loop-test.true)

  item_known : Here c.args.records.now c.loop.q
  item_known = let y = c.requires in part_known (c.loop.invariant.go y.top y.rest y.here) (left y.top y.rest y.here)

pub count_at-end-requires : goal.count_at-end-requires
count_at-end-requires c = search some_place

pub overflow_sub-q : goal.overflow_sub-q
overflow_sub-q c = omega (arith, at_many c.requires.here)

pub loop-init : goal.loop-init
loop-init c = record {
  go = λ t s a.
      let e : count_in (Some t) - 0 ≡ count_in (Some t) = omega arith in
      rw e (part_start t a refl (items_all (children_in (Some t)) 1));
}

pub kind_at-requires : goal.kind_at-requires
kind_at-requires c = some_place (item_known (goal.at.kind_at-requires c).In-loop)

pub returns-then-not-target_item : goal.returns-then-not-target_item
returns-then-not-target_item c = record {
  how = λ t s a.
      let o = part_look (c.loop.invariant.go t s a) (left (goal.at.returns-then-not-target_item c).In-loop t s a) in
      let k = c.kind_at.ensures.how (Some o.top) _ (stands o.at) in
      sees_bad o (rw (← k) (sym c.target_item.ensures ∙ c.if-not-target_item.true));
}

pub skip-q-requires : goal.skip-q-requires
skip-q-requires c = item_known (goal.at.skip-q-requires c).In-loop

pub loop-preserved : goal.loop-preserved
loop-preserved c = record {
  go = λ t s a.
      let o = part_look (c.loop.invariant.go t s a) (left (goal.at.loop-preserved c).In-loop t s a) in
      let k = c.kind_at.ensures.how (Some o.top) _ (stands o.at) in
      let e : count_in (Some t) - c.loop.counter - 1 ≡ count_in (Some t) - (c.loop.counter + 1) = omega arith in
      rw (← e) (sees_good o (rw (← k) (sym c.target_item.ensures ∙ c.if-not-target_item.false)) c.skip-q.ensures);
}

pub returns : goal.returns
returns c = record {
  how = λ t s a.
      let n = c.count_at-end.ensures.how (Some t) s (stands a) in
      part_end (c.loop.invariant.go t s a) (omega (arith, c.loop-test.false));
}
