-- What is left to show of `cycle::expr` in its cycle of calls. Assumes nothing.
use mathlib.Core.Path.{refl, ap, ◌∙◌}
use mathlib.Core.List.{List, ◌++◌}
use Prim.Native.Nat.{ℕ}
use lib.Dec.{eqb}
use borrow.Author.Tests.{eqb-true, eqb-false}
use native.Mathlib.Omega.{arith}
use lib.ListN.{take}
use Rattle.operator.specs.Laws.{assignment_most}
use Rattle.tree.specs.Tree.{two, count, records}
use Rattle.grammar.specs.Reading.Depth.{at_depth}
use Rattle.scan.specs.Parts.{keyword_code, unassigned_result}
use Rattle.scan.proofs.Looking.{action_most}
use Rattle.scan.proofs.Laws.{hands, way, link, goes, done, undone, taken, fails, lacks, fails_unseen, found, unfound, gets, prefix, relabel}
use Rattle.cycle.proofs.PathsExpr.{expr_step, expr_plain, expr_alone, expr_assign}
use Rattle.cycle.proofs.Shapes.{given, shape_small, tuple_shape}
use Rattle.cycle.proofs.Writing.{stored, unstored, either_way, told, kids_two, made_over, stored_prefix, stored_up, unstored_fails, stands}
use Rattle.cycle.proofs.+reading.Goals as goal

pub expr-returns-in_err-left : goal.expr-returns-in_err-left
expr-returns-in_err-left t c = let x = found c.in_ok-keyword.ensures in
    let xo = x.got.on in
    let xw = x.got.within in
    let s0 = told _ x (way _ (expr_step _ _ _)) in
    hands c.from_residual-in_err-left.ensures.1 (fails _ s0 (undone c.in_err-left.ensures) refl (omega arith))

pub expr-returns-in_default : goal.expr-returns-in_default
unfolding unassigned_result
expr-returns-in_default t c = let x = found c.in_ok-keyword.ensures in
    let xo = x.got.on in
    let xw = x.got.within in
    let s0 = told _ x (way _ (expr_step _ _ _)) in
    let w = done c.in_ok-left.ensures in
    let s1 = goes _ s0 w.same in
    let tk = taken c.in_ok-token.ensures in
    either_way (eqb (keyword_code c.in_ok-keyword.keyword.action) 0)
    (λ e. record { how = relabel w w.what refl (link s1 (way _ (expr_plain (at_depth c.args.depth) (keyword_code c.in_ok-keyword.keyword.action) w.what _ tk c.which_assignment_op.ensures c.in_default.not-Some (eqb-true _ _ e)))) (omega (arith, c.requires, w.moved, xo)) (omega (arith, c.requires, w.moved, w.room, xo)) })
    (λ e. record { how = record { how = record { same = link s1 (way _ (expr_alone (at_depth c.args.depth) (keyword_code c.in_ok-keyword.keyword.action) w.what _ tk c.which_assignment_op.ensures c.in_default.not-Some (eqb-false _ _ e))); moved = omega (arith, c.requires, w.moved, xo); far = omega (arith, c.requires, w.moved, xo); text = prefix w (omega (arith, c.requires)) } } })
    c.unassigned.ensures

pub expr-expect_pattern-requires : goal.expr-expect_pattern-requires
expr-expect_pattern-requires t c = let x = found c.in_ok-keyword.ensures in
    let xo = x.got.on in
    let xw = x.got.within in
    let w = done c.in_ok-left.ensures in
    let tk = taken c.in_ok-token.ensures in
    let small = shape_small (given (tuple_shape _ _ _) w.same) in
    record { tree = w.what; whole = stands w small (omega (arith, c.requires)) (omega (arith, c.requires, w.moved, w.room, xo, xw, c.tuple.auto.store)) }

pub expr-returns-in_err-target : goal.expr-returns-in_err-target
expr-returns-in_err-target t c = let x = found c.in_ok-keyword.ensures in
    let xo = x.got.on in
    let xw = x.got.within in
    let s0 = told _ x (way _ (expr_step _ _ _)) in
    let w = done c.in_ok-left.ensures in
    let s1 = goes _ s0 w.same in
    let tk = taken c.in_ok-token.ensures in
    let small = shape_small (given (tuple_shape _ _ _) w.same) in
    let whole = stands w small (omega (arith, c.requires)) (omega (arith, c.requires, w.moved, w.room, xo, xw, c.tuple.auto.store)) in
    let q2 = link s1 (way _ (expr_assign (at_depth c.args.depth) (keyword_code c.in_ok-keyword.keyword.action) w.what _ tk c.which_assignment_op.ensures c.in-Some.is refl refl)) in
    let kept = prefix w (omega (arith, c.requires)) in
    hands c.from_residual-in_err-target.ensures.1 (unstored_fails _ (unstored (c.in_err-target.ensures w.what c.args.tokens.now whole tk.within)) q2 kept (omega (arith, c.requires, w.moved, xo)))

pub expr-rhs-requires : goal.expr-rhs-requires
expr-rhs-requires t c = let x = found c.in_ok-keyword.ensures in
    let xo = x.got.on in
    let xw = x.got.within in
    let w = done c.in_ok-left.ensures in
    let tk = taken c.in_ok-token.ensures in
    let small = shape_small (given (tuple_shape _ _ _) w.same) in
    let whole = stands w small (omega (arith, c.requires)) (omega (arith, c.requires, w.moved, w.room, xo, xw, c.tuple.auto.store)) in
    let pt = stored (c.in_ok-target.ensures w.what c.args.tokens.now whole tk.within) in
    let po = pt.got.on in
    let pw = pt.got.within in
    omega (arith, c.requires, w.moved, w.room, xo, xw, po, pw, pt.far, c.tuple.auto.store, c.expect_pattern.auto.store)

pub expr-returns-in_err-right : goal.expr-returns-in_err-right
expr-returns-in_err-right t c = let x = found c.in_ok-keyword.ensures in
    let xo = x.got.on in
    let xw = x.got.within in
    let s0 = told _ x (way _ (expr_step _ _ _)) in
    let w = done c.in_ok-left.ensures in
    let s1 = goes _ s0 w.same in
    let tk = taken c.in_ok-token.ensures in
    let small = shape_small (given (tuple_shape _ _ _) w.same) in
    let whole = stands w small (omega (arith, c.requires)) (omega (arith, c.requires, w.moved, w.room, xo, xw, c.tuple.auto.store)) in
    let pt = stored (c.in_ok-target.ensures w.what c.args.tokens.now whole tk.within) in
    let po = pt.got.on in
    let pw = pt.got.within in
    let q2 = link s1 (way _ (expr_assign (at_depth c.args.depth) (keyword_code c.in_ok-keyword.keyword.action) w.what _ tk c.which_assignment_op.ensures c.in-Some.is refl refl)) in
    let s3 = gets _ pt.got q2 in
    let kept = prefix w (omega (arith, c.requires)) in
    let stays = stored_prefix c.args.cursor.at c.tuple.new.store pt (omega (arith, c.requires, c.tuple.auto.store)) ∙ kept in
    let up = stored_up c.args.cursor.at c.tuple.new.store pt (omega (arith, c.requires, c.tuple.auto.store)) in
    hands c.from_residual-in_err-right.ensures.1 (fails _ s3 (undone c.in_err-right.ensures) stays (omega (arith, c.requires, w.moved, w.room, xo, xw, po, pw, up)))

pub expr-overflow_add-value : goal.expr-overflow_add-value
expr-overflow_add-value t c = let m = action_most c.action.result in
    let n = assignment_most c.in-Some.op in
    omega (arith, c.from.ensures, c.from-2.ensures)

pub expr-emit-requires : goal.expr-emit-requires
expr-emit-requires t c = let x = found c.in_ok-keyword.ensures in
    let xo = x.got.on in
    let xw = x.got.within in
    let w = done c.in_ok-left.ensures in
    let tk = taken c.in_ok-token.ensures in
    let small = shape_small (given (tuple_shape _ _ _) w.same) in
    let whole = stands w small (omega (arith, c.requires)) (omega (arith, c.requires, w.moved, w.room, xo, xw, c.tuple.auto.store)) in
    let pt = stored (c.in_ok-target.ensures w.what c.args.tokens.now whole tk.within) in
    let po = pt.got.on in
    let pw = pt.got.within in
    let u = done c.in_ok-right.ensures in
    omega (arith, c.requires, w.moved, w.room, xo, xw, po, pw, pt.far, u.moved, u.room, c.tuple.auto.store, c.expect_pattern.auto.store, c.rhs.auto.store)

pub expr-returns : goal.expr-returns
unfolding count
expr-returns t c =
    let x = found c.in_ok-keyword.ensures in
    let xo = x.got.on in
    let xw = x.got.within in
    let s0 = told _ x (way _ (expr_step _ _ _)) in
    let w = done c.in_ok-left.ensures in
    let s1 = goes _ s0 w.same in
    let tk = taken c.in_ok-token.ensures in
    let small = shape_small (given (tuple_shape _ _ _) w.same) in
    let whole = stands w small (omega (arith, c.requires)) (omega (arith, c.requires, w.moved, w.room, xo, xw, c.tuple.auto.store)) in
    let pt = stored (c.in_ok-target.ensures w.what c.args.tokens.now whole tk.within) in
    let po = pt.got.on in
    let pw = pt.got.within in
    let kept = prefix w (omega (arith, c.requires)) in
    let up = stored_up c.args.cursor.at c.tuple.new.store pt (omega (arith, c.requires, c.tuple.auto.store)) in
    let u = done c.in_ok-right.ensures in
    let q4 = link s1 (way _ (expr_assign (at_depth c.args.depth) (keyword_code c.in_ok-keyword.keyword.action) w.what _ tk c.which_assignment_op.ensures c.in-Some.is (c.from.ensures ∙ c.action.ensures) c.from-2.ensures)) in
    let e = c.emit.ensures in
    let en = e.next in
    let text = pt.text ∙ ap (λ (l : List ℕ). l ++ records pt.got.what) kept in
    record { how = made_over 14 (two pt.got.what u.what) e (kids_two (take c.args.cursor.at c.args.store.now) pt.got.what u.what text u.text) (goes _ (gets _ pt.got q4) u.same) (omega (arith, c.requires, w.moved, xo, po, u.moved)) (omega (arith, c.requires, w.moved, w.room, xo, xw, po, pw, pt.far, up, u.moved, u.room, en)) refl }

pub expr-returns-in_err-token : goal.expr-returns-in_err-token
expr-returns-in_err-token t c = let x = found c.in_ok-keyword.ensures in
    let xo = x.got.on in
    let xw = x.got.within in
    let s0 = told _ x (way _ (expr_step _ _ _)) in
    let w = done c.in_ok-left.ensures in
    let s1 = goes _ s0 w.same in
    hands c.from_residual-in_err-token.ensures.1 (fails_unseen s1 (record { go = _; is = refl }) c.in_err-token.ensures (prefix w (omega (arith, c.requires))) (omega (arith, c.requires, w.moved, xo)))

pub expr-returns-in_err-keyword : goal.expr-returns-in_err-keyword
expr-returns-in_err-keyword t c = hands c.from_residual.ensures.1 (lacks _ (unfound c.in_err-keyword.ensures) (way _ (expr_step _ _ _)) refl (omega arith))
