-- `writer::mode::body_mode` meets its contract: each arm is the definition there. Assumes nothing.
use Rattle.tables.specs.Check.{body_mode}
use Rattle.tables.specs.Children.{kind_in, last_in}
use Rattle.writer.specs.Stack.{Says, kid_in}
use Rattle.writer.proofs.Numbers.{tests}
use Rattle.writer.proofs.Places.{of_last, of_kid}
use Rattle.writer.proofs.mode.body_mode.Goals.{After-kind_at, After-kind_at-2}
use Rattle.writer.proofs.mode.body_mode.Goals as goal

-- the last child's kind, and that of the last statement
module _ (c : After-kind_at) where
  last_kind : Says c.args.records.now c.args.p (λ m. kind_in (last_in m)) c.kind_at.result
  last_kind = of_last c.last_of.ensures c.kind_at.ensures

module _ (c : After-kind_at-2) where
  ends_with : Says c.args.records.now c.args.p (λ m. kind_in (last_in (kid_in 1 m))) c.kind_at-2.result
  ends_with = of_kid c.kid_of-suite.ensures (of_last c.last_of-2.ensures c.kind_at-2.ensures)

pub returns-then-kind_at-ne-ABSENT : goal.returns-then-kind_at-ne-ABSENT
unfolding body_mode
returns-then-kind_at-ne-ABSENT c = record { how = λ m s h. rw (← (last_kind (goal.at.returns-then-kind_at-ne-ABSENT c).After-kind_at).how m s h) (search tests) }

pub returns-then-kind_at-eq-EXPRESSION : goal.returns-then-kind_at-eq-EXPRESSION
unfolding body_mode
returns-then-kind_at-eq-EXPRESSION c = record { how = λ m s h. rw (← (last_kind (goal.at.returns-then-kind_at-eq-EXPRESSION c).After-kind_at).how m s h, ← (ends_with (goal.at.returns-then-kind_at-eq-EXPRESSION c).After-kind_at-2).how m s h) (search tests) }

pub returns-else-kind_at-eq-EXPRESSION : goal.returns-else-kind_at-eq-EXPRESSION
unfolding body_mode
returns-else-kind_at-eq-EXPRESSION c = record { how = λ m s h. rw (← (last_kind (goal.at.returns-else-kind_at-eq-EXPRESSION c).After-kind_at).how m s h, ← (ends_with (goal.at.returns-else-kind_at-eq-EXPRESSION c).After-kind_at-2).how m s h) (search tests) }
