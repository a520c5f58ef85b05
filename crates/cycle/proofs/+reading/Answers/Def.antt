-- What is left to show of `cycle::def` in its cycle of calls. Assumes nothing.
use mathlib.Core.Path.{refl, ap, ◌∙◌}
use mathlib.Core.List.{[], ◌∷◌, ◌++◌}
use Prim.Native.Nat.{◌≤◌}
use native.Mathlib.Omega.{arith}
use lib.ListN.{length, take}
use Rattle.nodes.specs.Parts.{signature_words}
use Rattle.scan.proofs.Laws.{hands, way, goes, done, undone, shorter, fails, lacks, passed, unpassed, gets, prefix}
use Rattle.nodes.proofs.Ends.{joins}
use Rattle.cycle.proofs.PathsBody.{closable, under, unlisted}
use Rattle.cycle.proofs.PathsFunction.{def_tree, def_step, def_words}
use Rattle.cycle.proofs.Writing.{stored, unstored, stored_prefix, stored_up}
use Rattle.cycle.proofs.+reading.Goals as goal

pub def-returns-in_err-pos : goal.def-returns-in_err-pos
def-returns-in_err-pos t c = hands c.from_residual.ensures.1 (lacks _ (unpassed c.in_err-pos.ensures) (way _ (def_step _ _ _ _)) refl (omega arith))

pub def-returns-in_err-parameters : goal.def-returns-in_err-parameters
def-returns-in_err-parameters t c = let o = passed c.in_ok-pos.ensures in
    let path = gets _ o (way _ (def_step _ _ _ _)) in
    hands c.from_residual-in_err-parameters.ensures.1 (fails _ path (undone c.in_err-parameters.ensures) refl (omega (arith, c.requires)))

pub def-returns-in_err-signature : goal.def-returns-in_err-signature
def-returns-in_err-signature t c = let o = passed c.in_ok-pos.ensures in
    let g = done c.in_ok-parameters.ensures in
    let path = gets _ o (way _ (def_step _ _ _ _)) in
    let on = goes _ path g.same in
    let u = unstored c.in_err-signature.ensures in
    hands c.from_residual-in_err-signature.ensures.1 (lacks _ u.unread on (ap (take c.args.cursor.at) u.text ∙ prefix g (omega (arith, c.requires))) (omega (arith, c.requires, o.on, g.moved)))

pub def-block_under-requires : goal.def-block_under-requires
def-block_under-requires t c = let o = passed c.in_ok-pos.ensures in
    let g = done c.in_ok-parameters.ensures in
    let s = stored c.in_ok-signature.ensures in
    let sg = s.got in
    closable _ c.in_ok-statements.ensures (omega (arith, c.requires, c.body.auto.store))

pub def-returns-in_err-statements : goal.def-returns-in_err-statements
def-returns-in_err-statements t c = let o = passed c.in_ok-pos.ensures in
    let g = done c.in_ok-parameters.ensures in
    let s = stored c.in_ok-signature.ensures in
    let sg = s.got in
    let x = c.args in
    let store = c.sig.new.store in
    let a = c.in_ok-parameters.parameters.at in
    let in_store : a ≤ length store = omega (arith, c.requires, o.on, g.moved, g.room, s.far, sg.on, sg.within, c.sig.auto.store, c.signature_end.auto.store) in
    let u = stored_up a store s in_store in
    let path = gets _ o (way _ (def_step _ _ _ _)) in
    let on = goes _ path g.same in
    hands c.from_residual-in_err-statements.ensures.1 (unlisted _ c.in_err-statements.ensures (gets _ s.got on) (shorter _ _ x.cursor.at _ g.room.up (stored_prefix a store s in_store) ∙ prefix g (omega (arith, c.requires))) (omega (arith, c.requires, o.on, g.moved, g.room, s.far, sg.on, sg.within, c.sig.auto.store, c.signature_end.auto.store, u)))

pub def-returns : goal.def-returns
def-returns t c = let o = passed c.in_ok-pos.ensures in
    let g = done c.in_ok-parameters.ensures in
    let s = stored c.in_ok-signature.ensures in
    let sg = s.got in
    let x = c.args in
    let store = c.sig.new.store in
    let a = c.in_ok-parameters.parameters.at in
    let in_store : a ≤ length store = omega (arith, c.requires, o.on, g.moved, g.room, s.far, sg.on, sg.within, c.sig.auto.store, c.signature_end.auto.store) in
    let u = stored_up a store s in_store in
    let path = gets _ o (way _ (def_step _ _ _ _)) in
    let on = goes _ path g.same in
    under (def_tree x.name g.what) (signature_words g.what ++ 792 ∷ x.name ∷ []) c.in_ok-statements.ensures c.block_under.ensures (gets _ s.got on) (joins (take x.cursor.at x.store.now) (signature_words g.what) (792 ∷ x.name ∷ []) s.text g.text) (def_words x.name g.what) (omega (arith, c.requires, o.on, g.moved, g.room, s.far, sg.on, sg.within, c.sig.auto.store, c.signature_end.auto.store, u))
