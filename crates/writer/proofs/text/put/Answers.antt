-- `writer::text::put` meets its contract. Assumes nothing.
use mathlib.Core.Path.{sym, ◌∙◌}
use Rattle.writer.proofs.Texts.{kind_none, kind_some, put_none, put_short, put_full}
use Rattle.writer.proofs.text.put.Goals as goal

pub returns-in_default : goal.returns-in_default
returns-in_default c = λ k e. put_none (kind_none (sym c.in_default.is ∙ e)) c.requires

pub returns-then-a-lt4 : goal.returns-then-a-lt4
returns-then-a-lt4 c = λ k e. put_short (kind_some (sym c.in-Some.is ∙ e)).1 c.if-a-lt4.true

pub returns : goal.returns
returns c = λ k e. let z = kind_some (sym c.in-Some.is ∙ e) in rw z.0 (put_full z.1 c.if-a-lt4.false c.requires)
