-- `scan::tokens::start` meets its contract. Assumes nothing.
use mathlib.Core.Path.{refl, ◌∙◌}
use Prim.Native.Nat.{◌-◌}
use native.Mathlib.Omega.{arith}
use lib.ListN.{length, drop, length-drop}
use Rattle.scan.proofs.Laws.{taken, unseen, unread_stop}
use Rattle.scan.proofs.Start.{start_stop, start_none, start_lexer, start_eof, start_semi, start_here}
use Rattle.scan.proofs.tokens.start.Goals as goal

pub loop-token-init : goal.loop-token-init
loop-token-init c = record { fuel = length (drop c.args.pos c.args.tokens.now); enough = rw length-drop (omega arith); same = λ q. refl; on = omega arith; within = c.requires }

pub look-requires : goal.look-requires
look-requires c = c.loop-token.invariant.within

pub returns-in-75 : goal.returns-in-75
returns-in-75 c = let g = c.loop-token.invariant in
    let tk = taken c.in-Ok.ensures in
    record { how = record { how = record { same = λ q. g.same q ∙ start_eof q g.fuel _ g.enough tk c.in-75.is; on = g.on; within = g.within; far = omega arith } } }

pub loop-token-smaller : goal.loop-token-smaller
loop-token-smaller c = let tk = taken c.in-Ok.ensures in
    omega arith

pub loop-token-preserved : goal.loop-token-preserved
loop-token-preserved c = let g = c.loop-token.invariant in
    let tk = taken c.in-Ok.ensures in
    record { fuel = g.fuel - 1; enough = omega arith; same = λ q. g.same q ∙ start_semi q g.fuel _ g.enough tk c.in-8.is; on = omega arith; within = tk.within }

pub returns-in_default : goal.returns-in_default
returns-in_default c = let g = c.loop-token.invariant in
    let tk = taken c.in-Ok.ensures in
    record { how = record { what = tt; same = λ q. g.same q ∙ start_here q g.fuel _ g.enough tk (search) (search); on = g.on; within = g.within } }

pub returns-then-failure-eq-END_OF_TOKENS : goal.returns-then-failure-eq-END_OF_TOKENS
returns-then-failure-eq-END_OF_TOKENS c = let g = c.loop-token.invariant in
    let ms = unseen c.in-Err-Fail.field-0-is c.in-Err-Fail.ensures in
    record { how = record { how = record { same = λ q. g.same q ∙ start_none q g.fuel _ g.enough ms c.if-failure-eq-END_OF_TOKENS.true; on = g.on; within = g.within; far = omega arith } } }

pub returns-in-Err-Fail : goal.returns-in-Err-Fail
returns-in-Err-Fail c = let g = c.loop-token.invariant in
    let ms = unseen c.in-Err-Fail.field-0-is c.in-Err-Fail.ensures in
    let past = ms.past c.if-failure-eq-END_OF_TOKENS.false in
    let within = ms.lacks.within in
    record { how = record { how = record { same = λ q. g.same q ∙ start_lexer q g.fuel _ g.enough ms c.if-failure-eq-END_OF_TOKENS.false; on = omega arith; within = within; far = omega arith } } }

pub returns-in-Err-Stop : goal.returns-in-Err-Stop
returns-in-Err-Stop c = let g = c.loop-token.invariant in
    record { how = record { how = λ q. g.same q ∙ start_stop q c.args.tokens.now g.fuel c.loop-token.pos g.enough _ (unread_stop c.in-Err-Stop.field-0-is c.in-Err-Stop.ensures) } }
