-- `pattern::moving::put_over` meets its contract: one record is put, or two. Assumes nothing.
use native.Mathlib.Omega.{arith}
use borrow.Author.Tests.{eq-eqb, ne_eqb}
use Rattle.pattern.proofs.Moved.{over_one, over_two}
use Rattle.pattern.proofs.moving.put_over.Goals as goal

pub returns-then-word-ne-UNPACK : goal.returns-then-word-ne-UNPACK
returns-then-word-ne-UNPACK c =
    over_two (omega arith) c.emit.ensures c.emit-then-word-ne-UNPACK.ensures (rw (ne_eqb _ _ c.if-word-ne-UNPACK.true))

pub returns-then-inner-eq-ABSENT : goal.returns-then-inner-eq-ABSENT
returns-then-inner-eq-ABSENT c =
    over_two (omega arith) c.emit-2.ensures c.emit-then-inner-eq-ABSENT.ensures
    (rw (eq-eqb _ _ c.if-word-ne-UNPACK.false, eq-eqb _ _ c.if-inner-eq-ABSENT.true))

pub returns : goal.returns
returns c =
    over_one (omega arith) c.emit-2.ensures (rw (eq-eqb _ _ c.if-word-ne-UNPACK.false, ne_eqb _ _ c.if-inner-eq-ABSENT.false))
