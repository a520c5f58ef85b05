-- `writer::standing::Standing::labelled_by` meets its contract. Assumes nothing.
use mathlib.Core.Path.{◌≡◌, sym, ap, ◌∙◌}
use mathlib.Core.Bool.{true, false}
use Prim.Native.Nat.{◌-◌, ◌≤◌}
use native.Mathlib.Omega.{arith}
use borrow.Author.Tests.{eq-eqb, ne_eqb}
use Rattle.std.specs.Prelude.{Some}
use Rattle.std.specs.Option.{option_map_or}
use Rattle.tables.specs.Kinds.{passes}
use Rattle.tables.specs.Check.{begins_labelled, first_labelled}
use Rattle.writer.specs.Standing.{On}
use Rattle.writer.proofs.Places.{stands, no_first}
use Rattle.writer.proofs.Chains.{labelled_down, labelled_first, labelled_here}
use Rattle.writer.proofs.Keeping.{first_on, tells_one, node_place}
use Rattle.writer.proofs.standing.Standing.labelled_by.Goals.{Else-n-eq0, Else-passes, Then-passes}
use Rattle.writer.proofs.standing.Standing.labelled_by.Goals as goal

-- the node begins with its first child
module _ (c : Then-passes) where
  first_begins : passes c.kind_at-kind.result ≡ true
  first_begins = sym c.passes.ensures ∙ c.if-passes.true

-- there is one
module _ (c : Else-n-eq0) where
  first_one : (o : On c.args.self.now.records.now c.args.self.now.kept.now c.args.self.now.base (c.args.self.now.count - c.count_at-n.result) c.args.first) × (first_labelled c.requires.0.kids ≡ begins_labelled o.top) × (c.count_at-n.result ≤ c.args.self.now.count)
  first_one = first_on c.requires.0 c.requires.1 c.count_at-n.ensures c.if-n-eq0.false

-- it begins by itself
module _ (c : Else-passes) where
  by_itself : passes c.kind_at-kind.result ≡ false
  by_itself = sym c.passes.ensures ∙ c.if-passes.false

pub kind_at-kind-requires : goal.kind_at-kind-requires
kind_at-kind-requires c = node_place c.requires.0

pub count_at-n-requires : goal.count_at-n-requires
count_at-n-requires c = node_place c.requires.0

pub returns-then-n-eq0 : goal.returns-then-n-eq0
returns-then-n-eq0 c = let k = c.kind_at-kind.ensures in
    let n = c.count_at-n.ensures in
    record { how = λ t s a. sym (labelled_down (Some t) (rw (← k.how _ s (stands a)) (first_begins (goal.at.returns-then-n-eq0 c).Then-passes)) ∙ ap (λ m. option_map_or begins_labelled m false) (no_first t (sym (n.how _ s (stands a)) ∙ c.if-n-eq0.true))) }

pub overflow_sub-self : goal.overflow_sub-self
overflow_sub-self c = omega (arith, (first_one (goal.at.overflow_sub-self c).Else-n-eq0).2)

pub labelled_of-requires : goal.labelled_of-requires
labelled_of-requires c = (first_one (goal.at.labelled_of-requires c).Else-n-eq0).0

pub returns-then-passes : goal.returns-then-passes
returns-then-passes c = let k = c.kind_at-kind.ensures in
    let y = c.requires.0 in
    let o = first_one (goal.at.returns-then-passes c).Else-n-eq0 in
    tells_one y.here (c.labelled_of.ensures.how _ _ o.0.here ∙ sym o.1 ∙ sym (labelled_first y.kind y.value y.kids (rw (← k.how _ _ (stands y.here)) (first_begins (goal.at.returns-then-passes c).Then-passes))))

pub value_at-requires : goal.value_at-requires
value_at-requires c = node_place c.requires.0

pub returns-then-kind-eq-BLOCK : goal.returns-then-kind-eq-BLOCK
returns-then-kind-eq-BLOCK c = let k = c.kind_at-kind.ensures in
    let v = c.value_at.ensures in
    record { how = λ t s a. rw (labelled_here (Some t) (rw (← k.how _ s (stands a)) (by_itself (goal.at.returns-then-kind-eq-BLOCK c).Else-passes)), ← k.how _ s (stands a), eq-eqb _ _ c.if-kind-eq-BLOCK.true, ← v.how _ s (stands a)) }

pub returns : goal.returns
returns c = let k = c.kind_at-kind.ensures in
    record { how = λ t s a. rw (labelled_here (Some t) (rw (← k.how _ s (stands a)) (by_itself (goal.at.returns c).Else-passes)), ← k.how _ s (stands a), ne_eqb _ _ c.if-kind-eq-BLOCK.false) }
