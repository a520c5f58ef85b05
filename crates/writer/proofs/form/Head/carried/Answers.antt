-- `writer::form::Head::carried` meets its contract. Assumes nothing.
use mathlib.Core.Path.{sym, ◌∙◌}
use Rattle.tables.specs.Tokens.{carried}
use Rattle.writer.proofs.Texts.{kind_none, kind_some}
use Rattle.writer.proofs.form.Head.carried.Goals as goal

pub returns-in-Some : goal.returns-in-Some
returns-in-Some c = λ k e. rw (← (kind_some (sym c.in-Some.is ∙ e)).0) c.carried_by.ensures

pub returns-in-None : goal.returns-in-None
unfolding carried
returns-in-None c = λ k e. rw (kind_none (sym c.in-None.is ∙ e))
