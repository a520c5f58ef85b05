-- `parser::statement` meets its contract. Assumes nothing.
use mathlib.Core.Path.{refl}
use native.Mathlib.Omega.{arith}
use Rattle.scan.proofs.Laws.{hands, way, loses, undone, missed, lacks, passed, unpassed, gets}
use Rattle.grammar.specs.Reading.Limit.{depth_limit}
use Rattle.grammar.specs.Reading.Next.{failed}
use Rattle.parser.proofs.Next.{next_go, next_step, ended, halted, at_last}
use Rattle.parser.proofs.statement.Goals as goal

pub returns-in_err-pos : goal.returns-in_err-pos
returns-in_err-pos c = hands c.from_residual.ensures.1 (lacks _ (unpassed c.in_err-pos.ensures) (way _ (next_step depth_limit _ c.args.tokens.now)) refl (omega (arith, c.requires)))

pub returns-in-Ok : goal.returns-in-Ok
returns-in-Ok c =
    let path = gets (next_go depth_limit) (passed c.in_ok-pos.ensures) (way _ (next_step depth_limit _ c.args.tokens.now)) in
    ended (failed depth_limit) path c.in-Ok.ensures

pub returns-in-Err-Fail : goal.returns-in-Err-Fail
returns-in-Err-Fail c =
    let path = gets (next_go depth_limit) (passed c.in_ok-pos.ensures) (way _ (next_step depth_limit _ c.args.tokens.now)) in
    let m = missed c.in-Err-Fail.field-0-is (undone c.in-Err-Fail.ensures) in
    at_last _ _ (loses _ _ path m.same) c.failed.ensures (omega (arith, m.moved))

pub returns-in-Err-Stop : goal.returns-in-Err-Stop
returns-in-Err-Stop c =
    let path = gets (next_go depth_limit) (passed c.in_ok-pos.ensures) (way _ (next_step depth_limit _ c.args.tokens.now)) in
    halted (failed depth_limit) path c.in-Err-Stop.field-0-is c.in-Err-Stop.ensures
