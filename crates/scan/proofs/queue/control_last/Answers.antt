-- `scan::queue::control_last` meets its contract. Assumes nothing.
use mathlib.Core.Path.{refl, sym, ◌∙◌}
use Prim.Native.Nat.{◌+◌}
use native.Mathlib.Omega.{arith}
use lib.ListN.{drop}
use Rattle.grammar.specs.Reading.Result.{ok, then}
use Rattle.grammar.specs.Reading.Stmt.{control_last}
use Rattle.scan.proofs.Laws.{handed, way, here, link, taken, fails_unseen}
use Rattle.scan.proofs.Waiting.{chosen, other, pushed, unpushed, longer}
use Rattle.scan.proofs.queue.control_last.Goals as goal

pub returns-in_err-token : goal.returns-in_err-token
unfolding control_last
returns-in_err-token c = rw (handed c.from_residual.ensures.1) (record { how = fails_unseen here (record { go = _; is = refl }) c.in_err-token.ensures refl (omega arith) })

pub returns-then-ends : goal.returns-then-ends
unfolding control_last then
returns-then-ends c = let tk = taken c.in_ok-token.ensures in
    record { how = record { what = tt; same = way _ (rw tk.same (chosen _ _ (sym c.ends.ensures ∙ c.if-ends.true))); moved = omega arith } }

pub returns-in_err-try_push : goal.returns-in_err-try_push
unfolding control_last then
returns-in_err-try_push c = let tk = taken c.in_ok-token.ensures in
    let on = way _ (rw tk.same (other _ _ (sym c.ends.ensures ∙ c.if-ends.false))) in
    let e = c.not_last.ensures in
    rw (handed c.from_residual-in_err-try_push.ensures.1) (record { how = unpushed (λ q. ok tt (drop (c.args.pos + 2) c.args.tokens.now)) on (rw e at c.in_err-try_push.ensures) })

pub returns : goal.returns
unfolding control_last then
returns c = let tk = taken c.in_ok-token.ensures in
    let e = c.not_last.ensures in
    let u = rw e at c.in_ok-try_push.ensures in
    record { how = record { what = tt; same = link (way _ (rw tk.same (other _ _ (sym c.ends.ensures ∙ c.if-ends.false)))) (pushed (λ q. ok tt (drop (c.args.pos + 2) c.args.tokens.now)) u); moved = record { on = omega arith; within = tk.within; more = omega (arith, longer u) } } }
