-- `scan::tokens::assign_keyword` meets its contract. Assumes nothing.
use mathlib.Core.Path.{refl, sym}
use native.Mathlib.Omega.{arith}
use Rattle.scan.proofs.Laws.{handed, taken, not_seen}
use Rattle.scan.proofs.Looking.{through, keyword_is, keyword_not, keyword_looks, keyword_below}
use Rattle.scan.proofs.tokens.assign_keyword.Goals as goal

pub returns-in_err-look : goal.returns-in_err-look
returns-in_err-look c = rw (handed c.from_residual.ensures.1) (record { how = through _ (λ q. keyword_looks q _) (not_seen c.in_err-look.ensures) })

pub returns-in-Some : goal.returns-in-Some
returns-in-Some c = let tk = taken c.in_ok-look.ensures in
    let m = c.in-Some.ensures in
    record { how = record { got = record { what = _; same = λ q. keyword_is tk q (λ e. omega (arith, m, e)); on = omega arith; within = tk.within }; is = sym m; below = rw m (keyword_below c.in_ok-look.field-0.kind) } }

pub returns-in-None : goal.returns-in-None
returns-in-None c = let tk = taken c.in_ok-look.ensures in
    record { how = record { got = record { what = _; same = λ q. keyword_not tk q (sym c.in-None.ensures); on = omega arith; within = omega arith }; is = refl; below = omega arith } }
