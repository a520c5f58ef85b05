-- `scan::tokens::try_label` meets its contract. Assumes nothing.
use mathlib.Core.Path.{refl}
use native.Mathlib.Omega.{arith}
use Rattle.scan.proofs.Laws.{handed, taken, not_seen}
use Rattle.scan.proofs.Looking.{through, label_small, label_is, label_not, label_looks}
use Rattle.scan.proofs.tokens.try_label.Goals as goal

pub returns-in_err-token : goal.returns-in_err-token
returns-in_err-token c = rw (handed c.from_residual.ensures.1) (record { how = through _ (λ q. label_looks q _) (not_seen c.in_err-token.ensures) })

pub returns-then-token-ne-LABEL : goal.returns-then-token-ne-LABEL
returns-then-token-ne-LABEL c = let tk = taken c.in_ok-token.ensures in
    record { how = record { got = record { what = _; same = λ q. label_not tk q c.if-token-ne-LABEL.true; on = omega arith; within = omega arith }; is = refl; below = omega arith } }

pub returns : goal.returns
returns c = let tk = taken c.in_ok-token.ensures in
    let small = label_small {v = c.in_ok-token.token.value} tk.fits c.if-token-ne-LABEL.false in
    record { how = record { got = record { what = _; same = λ q. label_is tk q c.if-token-ne-LABEL.false; on = omega arith; within = tk.within }; is = omega arith; below = omega arith } }
