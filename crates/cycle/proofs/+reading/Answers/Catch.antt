-- What is left to show of `cycle::catch` in its cycle of calls. Assumes nothing.
use mathlib.Core.Path.{refl}
use native.Mathlib.Omega.{arith}
use lib.ListN.{drop}
use Rattle.grammar.specs.Reading.Depth.{at_depth}
use Rattle.scan.proofs.Laws.{handed, way, link, goes, fails, prefix}
use Rattle.scan.proofs.Waiting.{pushed, unpushed, longer}
use Rattle.cycle.proofs.PathsControl.{caught_go, caught_out, caught_push, resumes, resumes_not}
use Rattle.cycle.proofs.+reading.Goals as goal

pub catch-returns-then-f-eq-END_OF_TOKENS : goal.catch-returns-then-f-eq-END_OF_TOKENS
catch-returns-then-f-eq-END_OF_TOKENS t c = record { how = record { how = record { same = way _ (caught_out _ _ _ _ c.if-f-eq-END_OF_TOKENS.true); moved = omega arith; far = omega arith; text = refl } } }

pub catch-returns-in_err-try_push : goal.catch-returns-in_err-try_push
catch-returns-in_err-try_push t c = rw (handed c.from_residual.ensures.1) (record { how = unpushed _ (way _ (caught_push _ _ _ _ c.if-f-eq-END_OF_TOKENS.false)) c.in_err-try_push.ensures })

pub catch-returns-in_err-pos : goal.catch-returns-in_err-pos
catch-returns-in_err-pos t c = let u = c.in_ok-try_push.ensures in
    let path = link (way _ (caught_push _ _ _ _ c.if-f-eq-END_OF_TOKENS.false)) (pushed (caught_go (at_depth c.args.depth) (drop c.args.f.pos c.args.tokens.now)) u) in
    let more = longer u in
    rw (handed c.from_residual-in_err-pos.ensures.1) (record { how = fails _ path c.in_err-pos.ensures.how refl (omega (arith, more)) })

pub catch-returns-in_err-synchronized : goal.catch-returns-in_err-synchronized
catch-returns-in_err-synchronized t c = let u = c.in_ok-try_push.ensures in
    let s1 = c.in_ok-pos.ensures.how in
    let path = link (way _ (caught_push _ _ _ _ c.if-f-eq-END_OF_TOKENS.false)) (pushed (caught_go (at_depth c.args.depth) (drop c.args.f.pos c.args.tokens.now)) u) in
    let more = longer u in
    rw (handed c.from_residual-in_err-synchronized.ensures.1) (resumes_not (goes _ path s1.same) (prefix s1 (omega (arith, c.requires))) (omega (arith, more, s1.moved)) c.in_err-synchronized.ensures)

pub catch-returns : goal.catch-returns
catch-returns t c = let u = c.in_ok-try_push.ensures in
    let s1 = c.in_ok-pos.ensures.how in
    let path = link (way _ (caught_push _ _ _ _ c.if-f-eq-END_OF_TOKENS.false)) (pushed (caught_go (at_depth c.args.depth) (drop c.args.f.pos c.args.tokens.now)) u) in
    let more = longer u in
    resumes (goes _ path s1.same) (prefix s1 (omega (arith, c.requires))) (omega (arith, more, s1.moved)) c.in_ok-synchronized.ensures
