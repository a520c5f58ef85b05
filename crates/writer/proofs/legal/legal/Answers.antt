-- `writer::legal::legal` meets its contract. Assumes nothing.
use mathlib.Core.Path.{◌≡◌, refl, ◌∙◌}
use Prim.Native.Nat.{◌+◌, ◌*◌, ◌-◌, ◌≤◌, ◌<◌}
use native.Mathlib.Omega.{arith}
use lib.ListN.{length}
use Rattle.tree.specs.Tree.{count}
use Rattle.writer.specs.Standing.{AtNode}
use Rattle.writer.proofs.Laws.{at_many}
use Rattle.writer.proofs.Places.{stands}
use Rattle.writer.proofs.Keeping.{node_place}
use Rattle.writer.proofs.Entry.{whole_even}
use Rattle.writer.proofs.Visits.{going_start, next_node, next_bad, next_good, end_good}
use Rattle.writer.proofs.legal.legal.Goals.{After-count_at, In-loop-node}
use Rattle.writer.proofs.legal.legal.Goals as goal

-- the node that is looked at
module _ (c : In-loop-node) where
  behind : 2 * c.loop-node.node < length c.args.records.now
  behind = omega (arith, c.loop-node-test.true)

  abbrev looked_at : AtNode c.args.records.now c.loop-node.standing.kept.now c.loop-node.standing.base c.loop-node.standing.count (2 * c.loop-node.node + 2)
  looked_at = next_node c.loop-node.invariant.1 behind

-- its children were counted
module _ (c : After-count_at) where
  counted : c.count_at.result ≡ count (looked_at (goal.at.After-count_at c).In-loop-node).kids
  counted = c.count_at.ensures.how _ _ (stands (looked_at (goal.at.After-count_at c).In-loop-node).here)

  -- the trees that stand have two words each at least
  number : (c.count_at.result ≤ c.loop-node.standing.count) × (2 * (c.loop-node.standing.count - c.count_at.result + 1) ≤ 2 * c.loop-node.node + 2) × (2 * c.loop-node.node + 2 ≤ length c.args.records.now)
  number =
      let y = looked_at (goal.at.After-count_at c).In-loop-node in
      let n = counted in
      let m = y.many in
      (omega arith, omega (arith, at_many y.here), y.here.inside)

pub loop-node-init : goal.loop-node-init
loop-node-init c = (refl, going_start _ c.requires)

pub visit-requires : goal.visit-requires
visit-requires c = rw c.loop-node.invariant.0 (looked_at (goal.at.visit-requires c).In-loop-node)

pub returns-in_default : goal.returns-in_default
returns-in_default c = record { how = next_bad c.loop-node.invariant.1 (behind (goal.at.returns-in_default c).In-loop-node) (rw c.loop-node.invariant.0 at c.visit.ensures) c.in_default.is }

pub count_at-requires : goal.count_at-requires
count_at-requires c = node_place (looked_at (goal.at.count_at-requires c).In-loop-node)

pub overflow_sub-i : goal.overflow_sub-i
overflow_sub-i c = omega (arith, number (goal.at.overflow_sub-i c).After-count_at)

pub stand-requires : goal.stand-requires
stand-requires c = omega (arith, number (goal.at.stand-requires c).After-count_at)

pub loop-node-preserved : goal.loop-node-preserved
loop-node-preserved c =
    let e : 2 * c.loop-node.node + 2 ≡ 2 * (c.loop-node.node + 1) = omega arith in
    let same = c.loop-node.invariant.0 in
    (c.stand.ensures.same ∙ same, rw (← e, c.stand.ensures.many) (next_good c.loop-node.invariant.1 (behind (goal.at.loop-node-preserved c).In-loop-node) (rw same at c.visit.ensures) c.in-Some.is (omega (arith, counted (goal.at.loop-node-preserved c).After-count_at, number (goal.at.loop-node-preserved c).After-count_at)) c.stand.ensures.keeps))

pub returns : goal.returns
returns c = record { how = end_good c.loop-node.invariant.1 (omega (arith, (whole_even c.requires).1, c.loop-node-test.false)) (rw c.loop-node.invariant.0 at c.class_of.ensures) }
