-- `operator::entry` meets its contract. Assumes nothing.
use mathlib.Core.Path.{sym, ◌∙◌}
use native.Mathlib.Omega.{arith}
use Rattle.operator.specs.Laws.{entry_is, decision_far}
use Rattle.operator.proofs.entry.Goals as goal

pub returns-then-kind-gt-LEXER_ERROR : goal.returns-then-kind-gt-LEXER_ERROR
returns-then-kind-gt-LEXER_ERROR c = sym (decision_far _ _ (omega arith))

pub returns : goal.returns
returns c = let p = c.requires in
    c.from.ensures ∙ entry_is _ p.0 _ _ (omega arith) p.1
