-- What is left to show of `cycle::lhs` in its cycle of calls. Assumes nothing.
use mathlib.Core.Path.{refl, ap, ◌∙◌}
use native.Mathlib.Omega.{arith}
use lib.ListN.{take}
use Rattle.scan.proofs.Laws.{hands, way, goes, done, undone, fails, lacks, found, unfound, gets, prefix}
use Rattle.cycle.proofs.PathsStmt.{ended_text, modified_text, lvalue_step}
use Rattle.cycle.proofs.Shapes.{given}
use Rattle.cycle.proofs.Writing.{stored, unstored, stored_up, stands}
use Rattle.grammar.specs.Reading.Pattern.{modified}
use Rattle.grammar.proofs.Laws.Levels.Nonterminals.{tuple_leveled, depth_levels}
use Rattle.cycle.proofs.+reading.Goals as goal

pub lhs-returns-in_err-left : goal.lhs-returns-in_err-left
lhs-returns-in_err-left t c = let f = found c.in_ok-keyword.ensures in
    let g = f.got in
    let gon = g.on in
    let gwithin = g.within in
    let path = way _ (lvalue_step _ _ _) in
    let on = gets _ g path in
    hands c.from_residual-in_err-left.ensures.1 (fails _ on (undone c.in_err-left.ensures) refl (omega arith))

pub lhs-expect_pattern-requires : goal.lhs-expect_pattern-requires
lhs-expect_pattern-requires t c = let f = found c.in_ok-keyword.ensures in
    let g = f.got in
    let gon = g.on in
    let gwithin = g.within in
    let w = done c.in_ok-left.ensures in
    let small = (given (tuple_leveled _ (depth_levels _) _ _) w.same).small in
    record { tree = w.what; whole = stands w small (omega (arith, c.requires, gon, gwithin)) (omega (arith, c.requires, gon, gwithin, w.moved, w.room, c.tuple.auto.store)) }

pub lhs-returns-in_err-target : goal.lhs-returns-in_err-target
lhs-returns-in_err-target t c = let f = found c.in_ok-keyword.ensures in
    let g = f.got in
    let gon = g.on in
    let gwithin = g.within in
    let path = way _ (lvalue_step _ _ _) in
    let on = gets _ g path in
    let w = done c.in_ok-left.ensures in
    let on2 = goes _ on w.same in
    let small = (given (tuple_leveled _ (depth_levels _) _ _) w.same).small in
    let inside = stands w small (omega (arith, c.requires, gon, gwithin)) (omega (arith, c.requires, gon, gwithin, w.moved, w.room, c.tuple.auto.store)) in
    let ep = c.in_err-target.ensures w.what c.args.tokens.now inside w.moved.within in
    let u = unstored ep in
    hands c.from_residual-in_err-target.ensures.1 (lacks _ u.unread on2 (ap (take c.args.cursor.at) u.text ∙ prefix w (omega (arith, c.requires, gon, gwithin))) (omega (arith, c.requires, gon, gwithin, w.moved)))

pub lhs-modified-requires : goal.lhs-modified-requires
lhs-modified-requires t c = let f = found c.in_ok-keyword.ensures in
    let g = f.got in
    let gon = g.on in
    let gwithin = g.within in
    let w = done c.in_ok-left.ensures in
    let small = (given (tuple_leveled _ (depth_levels _) _ _) w.same).small in
    let inside = stands w small (omega (arith, c.requires, gon, gwithin)) (omega (arith, c.requires, gon, gwithin, w.moved, w.room, c.tuple.auto.store)) in
    let ep = c.in_ok-target.ensures w.what c.args.tokens.now inside w.moved.within in
    let st = stored ep in
    omega (arith, c.requires, gon, gwithin, w.moved, w.room, st.far, c.tuple.auto.store, c.expect_pattern.auto.store)

pub lhs-returns : goal.lhs-returns
lhs-returns t c = let f = found c.in_ok-keyword.ensures in
    let g = f.got in
    let gon = g.on in
    let gwithin = g.within in
    let path = way _ (lvalue_step _ _ _) in
    let on = gets _ g path in
    let w = done c.in_ok-left.ensures in
    let on2 = goes _ on w.same in
    let small = (given (tuple_leveled _ (depth_levels _) _ _) w.same).small in
    let inside = stands w small (omega (arith, c.requires, gon, gwithin)) (omega (arith, c.requires, gon, gwithin, w.moved, w.room, c.tuple.auto.store)) in
    let ep = c.in_ok-target.ensures w.what c.args.tokens.now inside w.moved.within in
    let st = stored ep in
    let md = c.modified.ensures in
    let up = stored_up c.args.cursor.at c.tuple.new.store st (omega (arith, c.requires, gon, gwithin, c.tuple.auto.store)) in
    let on3 = st.got.on in
    let in3 = st.got.within in
    record { how = record { what = modified g.what st.got.what; same = gets _ st.got on2; moved = omega (arith, c.requires, gon, gwithin, w.moved, on3, in3); room = omega (arith, c.requires, gon, gwithin, w.moved, w.room, st.far, md.up, md.far, up, on3, in3); text = modified_text st.got.what (ended_text md st) (prefix w (omega (arith, c.requires, gon, gwithin))) f.is } }

pub lhs-returns-in_err-keyword : goal.lhs-returns-in_err-keyword
lhs-returns-in_err-keyword t c = let path = way _ (lvalue_step _ _ _) in
    hands c.from_residual.ensures.1 (lacks _ (unfound c.in_err-keyword.ensures) path refl (omega arith))
