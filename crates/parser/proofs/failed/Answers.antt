-- `parser::failed` meets its contract. Assumes nothing.
use mathlib.Core.Path.{refl}
use native.Mathlib.Omega.{arith}
use lib.ListN.{drop}
use Rattle.scan.proofs.Laws.{handed, way, goes, fails}
use Rattle.scan.proofs.Waiting.{unpushed, longer, fewer}
use Rattle.grammar.specs.Reading.Limit.{depth_limit}
use Rattle.parser.proofs.Next.{failed_push, failed_step}
use Rattle.parser.proofs.failed.Goals as goal

pub returns-in_err-try_push : goal.returns-in_err-try_push
returns-in_err-try_push c = rw (handed c.from_residual.ensures.1) (unpushed _ (way _ (failed_push depth_limit _ _ _)) c.in_err-try_push.ensures)

pub pop-error-requires : goal.pop-error-requires
pop-error-requires c = omega (arith, longer c.in_ok-try_push.ensures)

pub returns-in_err-pos : goal.returns-in_err-pos
returns-in_err-pos c =
    let more = longer c.in_ok-try_push.ensures in
    let less = fewer c.pop-error.ensures in
    let path = failed_step depth_limit (drop c.args.f.pos c.args.tokens.now) c.in_ok-try_push.ensures c.pop-error.ensures in
    rw (handed c.from_residual-in_err-pos.ensures.1) (fails _ path c.in_err-pos.ensures.how refl (omega (arith, more, less)))

pub returns : goal.returns
returns c =
    let more = longer c.in_ok-try_push.ensures in
    let less = fewer c.pop-error.ensures in
    let path = failed_step depth_limit (drop c.args.f.pos c.args.tokens.now) c.in_ok-try_push.ensures c.pop-error.ensures in
    let y = c.in_ok-pos.ensures.how in
    record { how = record { same = goes _ path y.same; moved = omega (arith, y.moved, more, less); far = omega (arith, y.moved); text = refl } }
