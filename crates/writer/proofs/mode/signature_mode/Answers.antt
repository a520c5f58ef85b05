-- `writer::mode::signature_mode` meets its contract: each arm is the definition there. Assumes nothing.
use Rattle.tables.specs.Check.{signature_mode}
use Rattle.tables.specs.Children.{kind_in, count_in, last_in}
use Rattle.writer.specs.Stack.{Says, kid_in}
use Rattle.writer.proofs.Numbers.{tests}
use Rattle.writer.proofs.Places.{of_last, of_kid}
use Rattle.writer.proofs.mode.signature_mode.Goals.{After-kind_at}
use Rattle.writer.proofs.mode.signature_mode.Goals as goal

-- the last child's kind, and how many defaults there are
module _ (c : After-kind_at) where
  last_kind : Says c.args.records.now c.args.p (λ m. kind_in (last_in m)) c.kind_at.result
  last_kind = of_last c.last_of.ensures c.kind_at.ensures

  defaults : Says c.args.records.now c.args.p (λ m. count_in (kid_in 2 m)) c.count_at-defaults.result
  defaults = of_kid c.kid_of.ensures c.count_at-defaults.ensures

pub returns-then-defaults-eq0 : goal.returns-then-defaults-eq0
unfolding signature_mode
returns-then-defaults-eq0 c = record { how = λ m s h. rw (← (last_kind (goal.at.returns-then-defaults-eq0 c).After-kind_at).how m s h, ← (defaults (goal.at.returns-then-defaults-eq0 c).After-kind_at).how m s h) (search tests) }

pub returns-else-defaults-eq0 : goal.returns-else-defaults-eq0
unfolding signature_mode
returns-else-defaults-eq0 c = record { how = λ m s h. rw (← (last_kind (goal.at.returns-else-defaults-eq0 c).After-kind_at).how m s h, ← (defaults (goal.at.returns-else-defaults-eq0 c).After-kind_at).how m s h) (search tests) }

pub returns-then-defaults-eq0-2 : goal.returns-then-defaults-eq0-2
unfolding signature_mode
returns-then-defaults-eq0-2 c = record { how = λ m s h. rw (← (last_kind (goal.at.returns-then-defaults-eq0-2 c).After-kind_at).how m s h, ← (defaults (goal.at.returns-then-defaults-eq0-2 c).After-kind_at).how m s h) (search tests) }

pub returns-else-defaults-eq0-2 : goal.returns-else-defaults-eq0-2
unfolding signature_mode
returns-else-defaults-eq0-2 c = record { how = λ m s h. rw (← (last_kind (goal.at.returns-else-defaults-eq0-2 c).After-kind_at).how m s h, ← (defaults (goal.at.returns-else-defaults-eq0-2 c).After-kind_at).how m s h) (search tests) }
