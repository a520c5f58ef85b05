-- What is left to show of `cycle::atom` in its cycle of calls. Assumes nothing.
use mathlib.Core.Path.{refl}
use native.Mathlib.Omega.{arith}
use Rattle.scan.proofs.Laws.{hands, way, here, taken, fails_unseen, later}
use Rattle.cycle.proofs.PathsPrimary.{atom_looks, atom_group, atom_literal}
use Rattle.cycle.proofs.Writing.{written}
use Rattle.cycle.proofs.+reading.Goals as goal

pub atom-returns-then-token-eq-OPEN_PAREN : goal.atom-returns-then-token-eq-OPEN_PAREN
atom-returns-then-token-eq-OPEN_PAREN t c = let tk = taken c.in_ok-token.ensures in
    later (atom_group _ _ tk c.if-token-eq-OPEN_PAREN.true) c.group.ensures (omega arith) (omega arith) (omega arith)

pub atom-returns : goal.atom-returns
atom-returns t c = let tk = taken c.in_ok-token.ensures in
    written (c.literal.ensures c.args.tokens.now tk.within) refl (way _ (atom_literal _ _ tk c.if-token-eq-OPEN_PAREN.false)) refl (omega arith)

pub atom-returns-in_err-token : goal.atom-returns-in_err-token
atom-returns-in_err-token t c = hands c.from_residual.ensures.1 (fails_unseen here (atom_looks _ _ _) c.in_err-token.ensures refl (omega arith))
