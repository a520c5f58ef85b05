-- `writer::target::function_serves` meets its contract. Assumes nothing.
use mathlib.Core.Path.{sym, ◌∙◌}
use Rattle.std.specs.Prelude.{Some}
use Rattle.tables.specs.Children.{children_in}
use Rattle.writer.proofs.Places.{stands, some_place, no_first, some_first}
use Rattle.writer.proofs.Keeping.{under_spot, under_place, no_name, a_name}
use Rattle.writer.proofs.target.function_serves.Goals as goal

pub count_at-requires : goal.count_at-requires
count_at-requires c = some_place c.requires.0

pub returns-then-count_at-eq0 : goal.returns-then-count_at-eq0
returns-then-count_at-eq0 c = record { how = λ t s a. sym (no_name (children_in (Some t)) _ (no_first t (sym (c.count_at.ensures.how _ s (stands a)) ∙ c.if-count_at-eq0.true))) }

pub gives_name_at-requires : goal.gives_name_at-requires
gives_name_at-requires c = let y = c.requires in
    under_place (y.2.how y.0.top y.0.rest y.0.here)

pub returns : goal.returns
returns c = let y = c.requires in
    record {
      how = λ t s a.
          let b = under_spot s (y.2.how t s a) in
          c.gives_name_at.ensures.how _ _ b.1 ∙ a_name (children_in (Some t)) _ (some_first t (λ e. c.if-count_at-eq0.false (c.count_at.ensures.how _ s (stands a) ∙ e))) (y.1.how _ s (stands a));
    }
