-- `writer::mode::mode` meets its contract: a list by its last member. Assumes nothing.
use mathlib.Core.Path.{◌∙◌}
use borrow.Author.Tests.{eq-eqb, ne_eqb}
use Rattle.tables.specs.Check.{mode_of}
use Rattle.writer.proofs.Places.{of_last, count_kids}
use Rattle.writer.proofs.mode.mode.Goals as goal

pub returns-then-kind_at-eq-LIST : goal.returns-then-kind_at-eq-LIST
unfolding mode_of
returns-then-kind_at-eq-LIST c = let k = c.kind_at.ensures in
    let n = c.count_at.ensures in
    let x = of_last c.last_of.ensures c.inner_class-c.ensures in
    record { how = λ m s h. rw (← k.how m s h, eq-eqb _ _ c.if-kind_at-eq-LIST.true, ← count_kids m, ← n.how m s h, ← x.how m s h) c.list_class.ensures }

pub returns : goal.returns
unfolding mode_of
returns c = let k = c.kind_at.ensures in
    let x = c.inner_mode.ensures in
    record { how = λ m s h. x.how m s h ∙ rw (← k.how m s h, ne_eqb _ _ c.if-kind_at-eq-LIST.false) }
