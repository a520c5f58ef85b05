-- `writer::records::kid_of` meets its contract. Assumes nothing.
use mathlib.Core.Path.{◌≡◌}
use Prim.Native.Nat.{◌+◌, ◌-◌}
use native.Mathlib.Omega.{arith}
use Rattle.writer.proofs.Spots.{two_before}
use Rattle.writer.proofs.Kids.{no_kid, kids_start, kids_known, kids_next, kids_end}
use Rattle.writer.proofs.records.kid_of.Goals as goal

pub returns-then-n-j : goal.returns-then-n-j
returns-then-n-j c = let n = c.count_at-n.ensures in
    record { how = λ m s h. no_kid c.args.j m _ (omega (arith, n.how m s h)); below = omega arith }

pub overflow_sub-q : goal.overflow_sub-q
overflow_sub-q c = let y = c.requires.somewhere in
    let n = c.count_at-n.ensures.how y.tree y.rest y.spot in
    let b = two_before y.tree y.rest (λ e. omega arith) y.spot in
    omega arith

pub loop-init : goal.loop-init
loop-init c = let e : c.count_at-n.result + c.args.j - c.args.j ≡ c.count_at-n.result = omega arith in
    rw e (kids_start (omega arith) c.count_at-n.ensures)

pub skip-q-requires : goal.skip-q-requires
skip-q-requires c = kids_known c.loop.invariant (omega (arith, c.loop-test.true)) c.requires.somewhere

pub loop-preserved : goal.loop-preserved
loop-preserved c = let e : c.count_at-n.result + c.args.j - c.loop.counter - 1 ≡ c.count_at-n.result + c.args.j - (c.loop.counter + 1) = omega arith in
    rw (← e) (kids_next c.loop.invariant (omega (arith, c.loop-test.true)) c.requires.somewhere c.skip-q.ensures)

pub returns : goal.returns
returns c = let b = c.loop.auto.counter-end c.if-n-j.false in
    kids_end c.loop.invariant (omega (arith, b, c.loop-test.false, c.requires.le_j)) (omega (arith, b, c.loop-test.false))
