-- `nodes::records::target_name` meets its contract: by the kind of the tree before. Assumes nothing.
use mathlib.Core.Path.{sym, ◌∙◌}
use Rattle.nodes.proofs.Ends.{kind_read, named, unnamed}
use Rattle.nodes.proofs.records.target_name.Goals as goal

pub returns-then-kind_of-eq-IDENTIFIER_PATTERN : goal.returns-then-kind_of-eq-IDENTIFIER_PATTERN
returns-then-kind_of-eq-IDENTIFIER_PATTERN c = λ X t s text v. named t (kind_read c.args.store.now X c.args.a t s text c.requires.1) (sym c.kind_of.ensures ∙ c.if-kind_of-eq-IDENTIFIER_PATTERN.true) v

pub returns : goal.returns
returns c = λ X t s text v. unnamed t (kind_read c.args.store.now X c.args.a t s text c.requires.1) (λ x. c.if-kind_of-eq-IDENTIFIER_PATTERN.false (c.kind_of.ensures ∙ x))
