-- `writer::standing::Standing::list_by` meets its contract. Assumes nothing.
use mathlib.Core.Path.{◌≡◌, sym, ◌∙◌}
use Prim.Native.Nat.{◌-◌, ◌≤◌}
use native.Mathlib.Omega.{arith}
use Rattle.std.specs.Prelude.{Some}
use Rattle.tables.specs.Class.{list_class}
use Rattle.tables.specs.Children.{last_tree}
use Rattle.writer.specs.Standing.{On}
use Rattle.writer.proofs.Places.{stands}
use Rattle.writer.proofs.Functions.{inner_list, inner_other}
use Rattle.writer.proofs.Keeping.{last_on, says_one, on_place, node_room, node_place}
use Rattle.writer.proofs.standing.Standing.list_by.Goals.{Else-n-eq0}
use Rattle.writer.proofs.standing.Standing.list_by.Goals as goal

-- there is a last member
module _ (c : Else-n-eq0) where
  last_one : (o : On c.args.self.now.records.now c.args.self.now.kept.now c.args.self.now.base (c.args.self.now.count - 1) (c.args.p - 2)) × (last_tree c.requires.kids ≡ Some o.top)
  last_one = last_on c.requires (λ e. c.if-n-eq0.false (c.count_at-n.ensures.how _ _ (stands c.requires.here) ∙ e))

  many : 1 ≤ c.args.self.now.count
  many =
      let n = c.count_at-n.ensures.how _ _ (stands c.requires.here) in
      let m = c.requires.many in
      omega (arith, c.if-n-eq0.false)

pub count_at-n-requires : goal.count_at-n-requires
count_at-n-requires c = search node_place

pub returns-then-n-eq0 : goal.returns-then-n-eq0
unfolding list_class
returns-then-n-eq0 c = let n = c.count_at-n.ensures in
    record { how = λ m s h. rw (← n.how m s h, c.if-n-eq0.true) }

pub overflow_sub-last : goal.overflow_sub-last
overflow_sub-last c = omega (arith, node_room c.requires)

pub kind_at-requires : goal.kind_at-requires
kind_at-requires c = on_place (last_one (goal.at.kind_at-requires c).Else-n-eq0).0

pub returns-then-kind_at-eq-LIST : goal.returns-then-kind_at-eq-LIST
returns-then-kind_at-eq-LIST c = let o = last_one (goal.at.returns-then-kind_at-eq-LIST c).Else-n-eq0 in
    let y = c.requires in
    says_one y.here (c.list_class.ensures ∙ rw (← c.count_at-n.ensures.how _ _ (stands y.here), o.1, inner_list o.0.top (sym (c.kind_at.ensures.how _ _ (stands o.0.here)) ∙ c.if-kind_at-eq-LIST.true)))

pub overflow_sub-self : goal.overflow_sub-self
overflow_sub-self c = omega (arith, many (goal.at.overflow_sub-self c).Else-n-eq0)

pub class_of-requires : goal.class_of-requires
class_of-requires c = (last_one (goal.at.class_of-requires c).Else-n-eq0).0

pub returns : goal.returns
returns c = let o = last_one (goal.at.returns c).Else-n-eq0 in
    let y = c.requires in
    let member = inner_other o.0.top (λ e. c.if-kind_at-eq-LIST.false (c.kind_at.ensures.how _ _ (stands o.0.here) ∙ e)) in
    says_one y.here (c.list_class-2.ensures ∙ rw (← c.count_at-n.ensures.how _ _ (stands y.here), o.1, ← member, ← c.class_of.ensures.how _ _ o.0.here))
