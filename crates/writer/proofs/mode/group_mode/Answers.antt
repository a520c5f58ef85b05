-- `writer::mode::group_mode` meets its contract: each arm is the definition there. Assumes nothing.
use Rattle.tables.specs.Check.{group_mode}
use Rattle.tables.specs.Children.{kind_in, last_in}
use Rattle.writer.specs.Stack.{Says}
use Rattle.writer.proofs.Numbers.{tests}
use Rattle.writer.proofs.Places.{of_last}
use Rattle.writer.proofs.mode.group_mode.Goals.{After-kind_at}
use Rattle.writer.proofs.mode.group_mode.Goals as goal

-- the last child's kind
module _ (c : After-kind_at) where
  last_kind : Says c.args.records.now c.args.p (λ m. kind_in (last_in m)) c.kind_at.result
  last_kind = of_last c.last_of-inner.ensures c.kind_at.ensures

pub returns-then-kind_at-eq-ASSIGNMENT : goal.returns-then-kind_at-eq-ASSIGNMENT
unfolding group_mode
returns-then-kind_at-eq-ASSIGNMENT c = let v = of_last c.last_of-inner.ensures c.value_at.ensures in
    record { how = λ m s h. rw (← (last_kind (goal.at.returns-then-kind_at-eq-ASSIGNMENT c).After-kind_at).how m s h, ← v.how m s h) (search tests) }

pub returns : goal.returns
unfolding group_mode
returns c = record { how = λ m s h. rw (← (last_kind (goal.at.returns c).After-kind_at).how m s h) (search tests) }
