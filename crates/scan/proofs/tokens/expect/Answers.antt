-- `scan::tokens::expect` meets its contract. Assumes nothing.
use native.Mathlib.Omega.{arith}
use Rattle.scan.proofs.Laws.{handed, taken, not_seen}
use Rattle.scan.proofs.Looking.{through, unread, expect_is, expect_not, expect_looks}
use Rattle.scan.proofs.tokens.expect.Goals as goal

pub returns-in_err-token : goal.returns-in_err-token
returns-in_err-token c = rw (handed c.from_residual.ensures.1) (unread (through _ (λ q. expect_looks q _ _ _) (not_seen c.in_err-token.ensures)))

pub returns-then-token-k : goal.returns-then-token-k
returns-then-token-k c = let tk = taken c.in_ok-token.ensures in
    record { how = record { how = record { same = λ q. expect_not tk q _ _ c.if-token-k.true; on = omega arith; within = tk.within; far = omega arith } } }

pub returns : goal.returns
returns c = let tk = taken c.in_ok-token.ensures in
    record { how = record { what = _; same = λ q. expect_is tk q _ _ (search); on = omega arith; within = tk.within } }
