-- `writer::edges::ends_single` meets its contract. Assumes nothing.
use mathlib.Core.Path.{◌≡◌, sym, ◌∙◌}
use mathlib.Core.Bool.{Bool, false, ◌&&◌}
use mathlib.Core.List.{List}
use native.Mathlib.Omega.{arith}
use lib.Dec.{eqb}
use borrow.Author.Tests.{eq-eqb, ne_eqb}
use Rattle.std.specs.Prelude.{Option}
use Rattle.std.specs.Option.{option_map_or}
use Rattle.tree.specs.NodeKind
use Rattle.tree.specs.Tree.{Tree}
use Rattle.tables.specs.Children.{kind_in, count_in, last_in}
use Rattle.writer.specs.Stack.{Spot, Somewhere, Says}
use Rattle.tables.specs.Check.{ends_single}
use Rattle.writer.proofs.Places.{of_last}
use Rattle.writer.proofs.Chains.{down_place, down_last, down_end, some_words, single_down, single_here}
use Rattle.writer.proofs.edges.ends_single.Goals.{After-loop-q, At-loop-q}
use Rattle.writer.proofs.edges.ends_single.Goals as goal

-- the tree at which the loop stands
module _ (c : At-loop-q) where
  reached : Somewhere c.args.records.now c.loop-q.q
  reached = down_place c.loop-q.invariant c.requires

-- it ends by itself
module _ (c : After-loop-q) where
  by_itself : {b : Bool} → ((m : Option Tree) (s : List Tree) → Spot c.args.records.now c.loop-q.q m s → b ≡ eqb (kind_in m) NodeKind.Tuple && eqb (count_in (last_in m)) 1) → Says c.args.records.now c.args.p (λ m. option_map_or ends_single m false) b
  by_itself f =
      let k = c.kind_at.ensures in
      down_end c.loop-q.invariant (record { how = λ m s h. f m s h ∙ sym (single_here m (λ z. c.loop-q-test.false (k.how m s h ∙ z))) })

pub loop-q-smaller : goal.loop-q-smaller
loop-q-smaller c = omega (arith, c.last_of-q.ensures.below, some_words (reached (goal.at.loop-q-smaller c).At-loop-q) c.kind_at.ensures (λ e. omega arith))

pub loop-q-preserved : goal.loop-q-preserved
loop-q-preserved c = let k = c.kind_at.ensures in
    down_last c.loop-q.invariant c.last_of-q.ensures (λ m s h. single_down m (sym (k.how m s h) ∙ c.loop-q-test.true))

pub returns-then-kind_at-eq-TUPLE : goal.returns-then-kind_at-eq-TUPLE
returns-then-kind_at-eq-TUPLE c = let k = c.kind_at-2.ensures in
    let n = of_last c.last_of.ensures c.count_at.ensures in
    by_itself (goal.at.returns-then-kind_at-eq-TUPLE c).After-loop-q λ m s h. rw (← k.how m s h, eq-eqb _ _ c.if-kind_at-eq-TUPLE.true, ← n.how m s h)

pub returns : goal.returns
returns c = let k = c.kind_at-2.ensures in
    by_itself (goal.at.returns c).After-loop-q λ m s h. rw (← k.how m s h, ne_eqb _ _ c.if-kind_at-eq-TUPLE.false)
