-- `writer::standing::Standing::kids_fit` meets its contract. Assumes nothing.
use Prim.Native.Nat.{◌-◌}
use native.Mathlib.Omega.{arith}
use Rattle.writer.specs.Standing.{On}
use Rattle.writer.proofs.Places.{stands}
use Rattle.writer.proofs.Keeping.{on_here, node_place, node_room}
use Rattle.writer.proofs.Walk.{walk_start, walk_on, walk_bad, walk_next, walk_end}
use Rattle.writer.proofs.standing.Standing.kids_fit.Goals.{In-loop-j}
use Rattle.writer.proofs.standing.Standing.kids_fit.Goals as goal

-- the child that is looked at
module _ (c : In-loop-j) where
  child : On c.args.self.now.records.now c.args.self.now.kept.now c.args.self.now.base (c.loop-j.i - 1) c.loop-j.q
  child = walk_on c.loop-j.invariant c.loop-j-test.true

pub kind_at-kind-requires : goal.kind_at-kind-requires
kind_at-kind-requires c = search node_place

pub value_at-value-requires : goal.value_at-value-requires
value_at-value-requires c = search node_place

pub count_at-n-requires : goal.count_at-n-requires
count_at-n-requires c = search node_place

pub overflow_sub-q : goal.overflow_sub-q
overflow_sub-q c = omega (arith, node_room c.requires)

pub loop-j-init : goal.loop-j-init
loop-j-init c = let y = c.requires in
    walk_start _ y (c.kind_at-kind.ensures.how _ _ (stands y.here)) (c.value_at-value.ensures.how _ _ (stands y.here)) (c.count_at-n.ensures.how _ _ (stands y.here))

pub kid_fits-requires : goal.kid_fits-requires
kid_fits-requires c = child (goal.at.kid_fits-requires c).In-loop-j

pub returns-then-not-kid_fits : goal.returns-then-not-kid_fits
returns-then-not-kid_fits c = walk_bad c.loop-j.invariant c.loop-j-test.true c.demand-asked.ensures c.kid_fits.ensures c.if-not-kid_fits.true

pub item_too-items-requires : goal.item_too-items-requires
item_too-items-requires c = on_here (child (goal.at.item_too-items-requires c).In-loop-j)

pub begin_of-q-requires : goal.begin_of-q-requires
begin_of-q-requires c = child (goal.at.begin_of-q-requires c).In-loop-j

pub loop-j-preserved : goal.loop-j-preserved
loop-j-preserved c = walk_next c.loop-j.invariant c.loop-j-test.true c.demand-asked.ensures c.kid_fits.ensures c.if-not-kid_fits.false c.begin_of-q.ensures c.item_too-items.ensures

pub returns : goal.returns
returns c = walk_end c.loop-j.invariant (omega arith)
