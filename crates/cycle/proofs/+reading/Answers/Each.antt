-- What is left to show of `cycle::each` in its cycle of calls. Assumes nothing.
use mathlib.Core.Path.{refl}
use native.Mathlib.Omega.{arith}
use Rattle.tree.specs.Tree.{records}
use Rattle.tree.specs.Node
use Rattle.scan.proofs.Laws.{hands, way, link, goes, done, undone, fails, lacks, passed, unpassed, gets, prefix, continued}
use Rattle.nodes.proofs.Made.{over_three}
use Rattle.cycle.proofs.PathsStmt.{whiles_as, for_step}
use Rattle.grammar.specs.Reading.Stmt.{stmt_list_of}
use Rattle.cycle.proofs.+reading.Goals as goal

pub each-returns-in_err-left : goal.each-returns-in_err-left
each-returns-in_err-left t c = let path = way _ (for_step _ _ _ _) in
    hands c.from_residual.ensures.1 (fails _ path (undone c.in_err-left.ensures) refl (omega arith))

pub each-returns-in_err-pos : goal.each-returns-in_err-pos
each-returns-in_err-pos t c = let w = done c.in_ok-left.ensures in
    let path = way _ (for_step _ _ _ _) in
    let on = goes _ path w.same in
    hands c.from_residual-in_err-pos.ensures.1 (lacks _ (unpassed c.in_err-pos.ensures) on (prefix w (omega arith)) (omega arith))

pub each-returns : goal.each-returns
each-returns t c =
    let w = done c.in_ok-left.ensures in
    let path = way _ (for_step _ _ _ _) in
    let on = goes _ path w.same in
    let ps = passed c.in_ok-pos.ensures in
    let g = ps in
    let gon = g.on in
    let gwithin = g.within in
    continued (λ x. Node.for_loop c.args.label w.what x.over (stmt_list_of x.run)) (records w.what) c.whiles.ensures (link (gets _ g on) (way _ (whiles_as _ _ _ (λ iter b. Node.for_loop c.args.label w.what iter (stmt_list_of b))))) w.text (λ x. over_three 5 _ _ _ _) (prefix w (omega (arith, c.requires, w.moved, w.room))) (omega (arith, c.requires, w.moved, w.room, gon, gwithin))
