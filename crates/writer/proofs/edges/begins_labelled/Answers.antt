-- `writer::edges::begins_labelled` meets its contract. Assumes nothing.
use mathlib.Core.Path.{◌≡◌, sym, ◌∙◌}
use mathlib.Core.Bool.{Bool, true, false, ◌&&◌}
use mathlib.Core.List.{List}
use native.Mathlib.Omega.{arith}
use lib.Dec.{eqb, ltb}
use borrow.Author.Tests.{eq-eqb, ne_eqb}
use Rattle.std.specs.Prelude.{Option}
use Rattle.std.specs.Option.{option_map_or}
use Rattle.tree.specs.NodeKind
use Rattle.tree.specs.Tree.{Tree}
use Rattle.tables.specs.Kinds.{passes}
use Rattle.tables.specs.Children.{kind_in, value_in}
use Rattle.writer.specs.Stack.{Spot, Somewhere, Says}
use Rattle.tables.specs.Check.{begins_labelled}
use Rattle.writer.proofs.Chains.{down_place, down_kid, down_end, some_words, passes_some, labelled_down, labelled_here}
use Rattle.writer.proofs.edges.begins_labelled.Goals.{After-loop-q, At-loop-q, In-loop-q}
use Rattle.writer.proofs.edges.begins_labelled.Goals as goal

-- the tree at which the loop stands
module _ (c : At-loop-q) where
  reached : Somewhere c.args.records.now c.loop-q.q
  reached = down_place c.loop-q.invariant c.requires

-- it begins with its first child
module _ (c : In-loop-q) where
  first_begins : passes c.kind_at.result ≡ true
  first_begins = sym c.passes.ensures ∙ c.loop-q-test.true

-- it begins by itself
module _ (c : After-loop-q) where
  by_itself : {b : Bool} → ((m : Option Tree) (s : List Tree) → Spot c.args.records.now c.loop-q.q m s → b ≡ eqb (kind_in m) NodeKind.Block && ltb 0 (value_in m)) → Says c.args.records.now c.args.p (λ m. option_map_or begins_labelled m false) b
  by_itself f =
      let k = c.kind_at.ensures in
      down_end c.loop-q.invariant (record { how = λ m s h. f m s h ∙ sym (labelled_here m (rw (← k.how m s h) (sym c.passes.ensures ∙ c.loop-q-test.false))) })

pub loop-q-smaller : goal.loop-q-smaller
loop-q-smaller c = omega (arith, c.kid_of-q.ensures.below, some_words (reached (goal.at.loop-q-smaller c).At-loop-q) c.kind_at.ensures (passes_some (first_begins (goal.at.loop-q-smaller c).In-loop-q)))

pub loop-q-preserved : goal.loop-q-preserved
loop-q-preserved c = let k = c.kind_at.ensures in
    down_kid c.loop-q.invariant c.kid_of-q.ensures (λ m s h. labelled_down m (rw (← k.how m s h) (first_begins (goal.at.loop-q-preserved c).In-loop-q)))

pub returns-then-kind_at-eq-BLOCK : goal.returns-then-kind_at-eq-BLOCK
returns-then-kind_at-eq-BLOCK c = let k = c.kind_at-2.ensures in
    let v = c.value_at.ensures in
    by_itself (goal.at.returns-then-kind_at-eq-BLOCK c).After-loop-q λ m s h. rw (← k.how m s h, eq-eqb _ _ c.if-kind_at-eq-BLOCK.true, ← v.how m s h)

pub returns : goal.returns
returns c = let k = c.kind_at-2.ensures in
    by_itself (goal.at.returns c).After-loop-q λ m s h. rw (← k.how m s h, ne_eqb _ _ c.if-kind_at-eq-BLOCK.false)
