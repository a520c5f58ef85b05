-- What is left to show of `cycle::fun` in its cycle of calls. Assumes nothing.
use mathlib.Core.Path.{refl, sym, ◌∙◌}
use native.Mathlib.Omega.{arith}
use lib.ListN.{take}
use Rattle.grammar.proofs.Laws.Levels.Nonterminals.{target_leveled, depth_levels}
use Rattle.scan.proofs.Laws.{hands, way, here, link, goes, done, undone, taken, fails, fails_unseen, prefix, later}
use Rattle.scan.proofs.Looking.{name_small}
use Rattle.nodes.proofs.Made.{made_two}
use Rattle.cycle.proofs.PathsFunction.{decl_looks, decl_open, decl_target, decl_name, target_named}
use Rattle.cycle.proofs.Shapes.{given}
use Rattle.cycle.proofs.Writing.{taller}
use Rattle.nodes.proofs.Ends.{kind_read}
use Rattle.cycle.proofs.+reading.Goals as goal

pub fun-returns-then-token-eq-OPEN_PAREN : goal.fun-returns-then-token-eq-OPEN_PAREN
fun-returns-then-token-eq-OPEN_PAREN t c = let tk = taken c.in_ok-token.ensures in
    later (decl_open _ _ tk c.if-token-eq-OPEN_PAREN.true) c.def.ensures (omega arith) (omega arith) (omega arith)

pub fun-returns-in_err-target : goal.fun-returns-in_err-target
fun-returns-in_err-target t c = let tk = taken c.in_ok-token.ensures in
    let path = way _ (decl_target _ _ tk c.if-token-eq-OPEN_PAREN.false) in
    hands c.from_residual-in_err-target.ensures.1 (fails _ path (undone c.in_err-target.ensures) refl (omega (arith, c.requires)))

pub fun-target_name-name-requires : goal.fun-target_name-name-requires
fun-target_name-name-requires t c = let tk = taken c.in_ok-token.ensures in
    let g = done c.in_ok-target.ensures in
    let small = (given (target_leveled _ (depth_levels c.args.depth) _ _) g.same).small in
    let names = given (target_named _ _ tk c.if-token-eq-OPEN_PAREN.false) g.same in
    let l = taller g (omega (arith, c.requires)) in
    (omega (arith, l), omega (arith, c.requires, g.moved, g.room, c.dest.auto.store), λ e. name_small tk.fits (names (sym (kind_read c.dest.new.store (take c.args.cursor.at c.args.store.now) c.in_ok-target.target.at g.what small g.text (omega (arith, c.requires, g.moved, g.room, c.dest.auto.store))) ∙ e)).0)

pub fun-returns-in_err-function : goal.fun-returns-in_err-function
fun-returns-in_err-function t c = let tk = taken c.in_ok-token.ensures in
    let g = done c.in_ok-target.ensures in
    let path = way _ (decl_target _ _ tk c.if-token-eq-OPEN_PAREN.false) in
    let on = goes _ path g.same in
    let small = (given (target_leveled _ (depth_levels c.args.depth) _ _) g.same).small in
    let names = given (target_named _ _ tk c.if-token-eq-OPEN_PAREN.false) g.same in
    let name = c.target_name-name.ensures (take c.args.cursor.at c.args.store.now) g.what small g.text (λ e. (names e).1) in
    let last = link on (way _ (decl_name _ g.what name _ _)) in
    hands c.from_residual-in_err-function.ensures.1 (fails _ last (undone c.in_err-function.ensures) (prefix g (omega (arith, c.requires))) (omega (arith, c.requires, g.moved, g.room)))

pub fun-returns : goal.fun-returns
fun-returns t c = let tk = taken c.in_ok-token.ensures in
    let g = done c.in_ok-target.ensures in
    let h = done c.in_ok-function.ensures in
    let path = way _ (decl_target _ _ tk c.if-token-eq-OPEN_PAREN.false) in
    let on = goes _ path g.same in
    let small = (given (target_leveled _ (depth_levels c.args.depth) _ _) g.same).small in
    let names = given (target_named _ _ tk c.if-token-eq-OPEN_PAREN.false) g.same in
    let name = c.target_name-name.ensures (take c.args.cursor.at c.args.store.now) g.what small g.text (λ e. (names e).1) in
    let last = link on (way _ (decl_name _ g.what name _ _)) in
    let e = c.emit.ensures in
    record { how = made_two 14 g h e (goes _ last h.same) (omega (arith, c.requires, g.moved, h.moved)) (omega (arith, c.requires, g.moved, g.room, h.moved, h.room, e.next)) refl }

pub fun-returns-in_err-token : goal.fun-returns-in_err-token
fun-returns-in_err-token t c = hands c.from_residual.ensures.1 (fails_unseen here (decl_looks _ _ _) c.in_err-token.ensures refl (omega arith))
