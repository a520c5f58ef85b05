-- `writer::standing::Standing::serves_by` meets its contract: each arm is the definition there. Assumes nothing.
use mathlib.Core.Path.{◌≡◌, refl, sym, ap, ◌∙◌}
use Prim.Native.Nat.{ℕ, ◌-◌, ◌≤◌}
use native.Mathlib.Omega.{arith}
use Rattle.std.specs.Prelude.{Some}
use Rattle.tables.specs.Children.{children_in, first_tree}
use Rattle.tables.specs.Sound.{arity}
use Rattle.tables.specs.Check.{inner_mode, mode_of}
use Rattle.writer.specs.Standing.{On, serves_as}
use Rattle.writer.proofs.Numbers.{tests}
use Rattle.writer.proofs.Targets.{receiver_is}
use Rattle.writer.proofs.Keeping.{Two, a_pair, two_last, two_first, two_room, the_only, node_room, node_place, node_here, arity_at, serves_arm, tells_one}
use Rattle.writer.proofs.standing.Standing.serves_by.Goals.{In-42, In-43}
use Rattle.writer.proofs.standing.Standing.serves_by.Goals as goal

-- a pattern's one child, and a node's two
module _ (c : In-42) where
  receiver : (o : On c.args.self.now.records.now c.args.self.now.kept.now c.args.self.now.base (c.args.self.now.count - 1) (c.args.p - 2)) × (first_tree c.requires.0.kids ≡ Some o.top) × (1 ≤ c.args.self.now.count)
  unfolding arity
  receiver = the_only c.requires.0 (arity_at c.requires.0 c.requires.1 c.kind_at.ensures c.in-42.is (λ e. omega arith))

module _ (c : In-43) where
  pair : Two c.args.self.now.records.now c.args.self.now.kept.now c.args.self.now.base c.args.self.now.count c.args.p
  unfolding arity
  pair = let y = c.requires in a_pair y.0 (arity_at y.0 y.1 c.kind_at.ensures c.in-43.is (λ e. omega arith))

pub kind_at-requires : goal.kind_at-requires
kind_at-requires c = node_place c.requires.0

pub primary_by-requires : goal.primary_by-requires
unfolding arity
primary_by-requires c = let y = c.requires in
    (y.0, arity_at y.0 y.1 c.kind_at.ensures c.in-11.is (λ e. omega arith))

pub overflow_sub-self : goal.overflow_sub-self
overflow_sub-self c = omega (arith, (receiver (goal.at.overflow_sub-self c).In-42).2)

pub overflow_sub-p : goal.overflow_sub-p
overflow_sub-p c = omega (arith, node_room c.requires.0)

pub receiver_by-requires : goal.receiver_by-requires
receiver_by-requires c = (receiver (goal.at.receiver_by-requires c).In-42).0

pub overflow_sub-self-in-43 : goal.overflow_sub-self-in-43
overflow_sub-self-in-43 c = omega (arith, two_room (pair (goal.at.overflow_sub-self-in-43 c).In-43))

pub overflow_sub-p-in-43 : goal.overflow_sub-p-in-43
overflow_sub-p-in-43 c = omega (arith, two_room (pair (goal.at.overflow_sub-p-in-43 c).In-43))

pub begin_of-receiver-requires : goal.begin_of-receiver-requires
begin_of-receiver-requires c = two_last (pair (goal.at.begin_of-receiver-requires c).In-43)

pub overflow_sub-self-in-43-2 : goal.overflow_sub-self-in-43-2
overflow_sub-self-in-43-2 c = omega (arith, two_room (pair (goal.at.overflow_sub-self-in-43-2 c).In-43))

pub receiver_by-requires-in-43 : goal.receiver_by-requires-in-43
receiver_by-requires-in-43 c = two_first (pair (goal.at.receiver_by-requires-in-43 c).In-43) c.begin_of-receiver.ensures

pub function_serves-requires : goal.function_serves-requires
unfolding mode_of inner_mode
function_serves-requires c = let y = c.requires in
    let k = c.kind_at.ensures in
    (node_here y.0, record { how = λ m s h. y.2.how m s h ∙ ap (λ (z : ℕ). mode_of z (children_in m)) (sym (k.how m s h) ∙ c.in-20.is) }, y.3)

pub returns-in-1 : goal.returns-in-1
unfolding serves_as
returns-in-1 c = serves_arm c.kind_at.ensures c.in-1.is (record { how = λ t s a. c.requires.4.how t s a })

pub returns-in-11 : goal.returns-in-11
unfolding serves_as
returns-in-11 c = serves_arm c.kind_at.ensures c.in-11.is c.primary_by.ensures

pub returns-in-42 : goal.returns-in-42
unfolding serves_as
returns-in-42 c = let y = c.requires.0 in
    let o = receiver (goal.at.returns-in-42 c).In-42 in
    serves_arm c.kind_at.ensures c.in-42.is (tells_one y.here (rw (receiver_is y.kids, o.1) (c.receiver_by.ensures.how _ _ o.0.here)))

pub returns-in-43 : goal.returns-in-43
unfolding serves_as
returns-in-43 c = let y = pair (goal.at.returns-in-43 c).In-43 in
    serves_arm c.kind_at.ensures c.in-43.is (tells_one y.here (rw receiver_is (c.receiver_by-in-43.ensures.how _ _ (c.begin_of-receiver.ensures.how _ _ y.last))))

pub returns-in-20 : goal.returns-in-20
unfolding serves_as
returns-in-20 c = serves_arm c.kind_at.ensures c.in-20.is c.function_serves.ensures

pub returns-in_default : goal.returns-in_default
unfolding serves_as
returns-in_default c = serves_arm c.kind_at.ensures refl (record { how = λ t s a. search tests })
