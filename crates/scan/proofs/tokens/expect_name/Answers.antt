-- `scan::tokens::expect_name` meets its contract. Assumes nothing.
use mathlib.Core.Path.{refl}
use native.Mathlib.Omega.{arith}
use Rattle.scan.proofs.Laws.{handed, taken, not_seen}
use Rattle.scan.proofs.Looking.{through, name_small, expect_is, expect_not, expect_looks}
use Rattle.scan.proofs.tokens.expect_name.Goals as goal

pub returns-in_err-token : goal.returns-in_err-token
returns-in_err-token c = rw (handed c.from_residual.ensures.1) (record { how = through _ (λ q. expect_looks q _ _ _) (not_seen c.in_err-token.ensures) })

pub returns-then-token-ne-IDENTIFIER : goal.returns-then-token-ne-IDENTIFIER
returns-then-token-ne-IDENTIFIER c = let tk = taken c.in_ok-token.ensures in
    record { how = record { how = record { same = λ q. expect_not tk q _ _ c.if-token-ne-IDENTIFIER.true; on = omega arith; within = tk.within; far = omega arith } } }

pub returns : goal.returns
returns c = let tk = taken c.in_ok-token.ensures in
    record { how = record { got = record { what = _; same = λ q. expect_is tk q _ _ c.if-token-ne-IDENTIFIER.false; on = omega arith; within = tk.within }; is = refl; below = name_small tk.fits c.if-token-ne-IDENTIFIER.false } }
