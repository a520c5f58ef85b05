-- `writer::records::last_of` meets its contract: the last child ends two words before its parent. Assumes nothing.
use mathlib.Core.Path.{sym, ◌∙◌}
use native.Mathlib.Omega.{arith}
use Rattle.writer.proofs.Spots.{no_last, a_last, two_before}
use Rattle.writer.proofs.records.last_of.Goals as goal

pub returns-then-count_at-eq0 : goal.returns-then-count_at-eq0
returns-then-count_at-eq0 c =
    let n = c.count_at.ensures in
    record { how = λ m s h. no_last m (sym (n.how m s h) ∙ c.if-count_at-eq0.true); below = omega arith }

pub overflow_sub-result : goal.overflow_sub-result
overflow_sub-result c =
    let y = c.requires in
    let n = c.count_at.ensures in
    let b = two_before y.tree y.rest (λ e. c.if-count_at-eq0.false (n.how y.tree y.rest y.spot ∙ e)) y.spot in
    omega arith

pub returns : goal.returns
returns c =
    let n = c.count_at.ensures in
    record { how = λ m s h. a_last m s (λ e. c.if-count_at-eq0.false (n.how m s h ∙ e)) h; below = omega arith }
