-- `writer::records::shape` meets its contract. Assumes nothing.
use mathlib.Core.Path.{◌≡◌}
use Prim.Native.Nat.{◌+◌, ◌*◌}
use native.Mathlib.Omega.{arith}
use borrow.Author.Tests.{ne_eqb}
use Rattle.writer.proofs.Laws.{at_many}
use Rattle.writer.proofs.Shaping.{shaping_start, shaping_bad, shaping_next, shaping_odd, shaping_end}
use Rattle.writer.proofs.records.shape.Goals as goal

pub loop-i-init : goal.loop-i-init
loop-i-init c = shaping_start _

pub returns-then-h-n : goal.returns-then-h-n
returns-then-h-n c = shaping_bad c.loop-i.invariant (omega (arith, c.loop-i-test.true)) c.if-h-n.true

pub overflow_add-h : goal.overflow_add-h
overflow_add-h c = let w = c.loop-i.invariant in
    let k = w.at.inside in
    let m = at_many w.at in
    let y = w.many in
    omega arith

pub loop-i-preserved : goal.loop-i-preserved
loop-i-preserved c = let e : 2 * c.loop-i.i + 2 ≡ 2 * (c.loop-i.i + 1) = omega arith in
    rw (← e) (shaping_next c.loop-i.invariant (omega (arith, c.loop-i-test.true)) c.if-h-n.false)

pub returns-then-records-eq0 : goal.returns-then-records-eq0
returns-then-records-eq0 c = shaping_end c.loop-i.invariant (omega (arith, c.loop-i-test.false, c.if-records-eq0.true))

pub returns-else-records-eq0 : goal.returns-else-records-eq0
returns-else-records-eq0 c = rw (ne_eqb _ 0 c.if-records-eq0.false) (shaping_odd c.loop-i.invariant (omega (arith, c.loop-i-test.false, c.if-records-eq0.false, c.loop-i.auto)) (omega (arith, c.loop-i-test.false, c.if-records-eq0.false)))
