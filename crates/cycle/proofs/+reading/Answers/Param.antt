-- What is left to show of `cycle::param` in its cycle of calls. Assumes nothing.
use mathlib.Core.Path.{refl, sym}
use mathlib.Core.List.{append-nil}
use native.Mathlib.Omega.{arith}
use lib.ListN.{take}
use Rattle.nodes.specs.Parts.{h_required, h_variadic, h_default}
use Rattle.scan.proofs.Laws.{handed, way, goes, done, undone, fails, lacks}
use Rattle.cycle.proofs.PathsParams.{param_step, param_got, head_required, head_variadic, head_default, no_head, default_one}
use Rattle.cycle.proofs.Writing.{added_prefix}
use Rattle.nodes.specs.Parameters.{required_words}
use Rattle.cycle.proofs.+reading.Goals as goal

pub param-returns-in-Required : goal.param-returns-in-Required
param-returns-in-Required t c = let h = head_required c.in-Required.is c.in_ok-pos.ensures in
    let g = h.got in
    record { how = record { run = record { what = tt; same = way _ (param_got _ h_required c.args.cursor.pos h _); moved = omega arith; room = omega arith; text = sym (append-nil (take c.args.cursor.at c.args.store.now)) }; below = h.below } }

pub param-returns-in-Variadic : goal.param-returns-in-Variadic
param-returns-in-Variadic t c = let h = head_variadic c.in-Variadic.is c.in_ok-pos.ensures in
    let g = h.got in
    record { how = record { run = record { what = tt; same = way _ (param_got _ h_variadic c.args.cursor.pos h _); moved = omega arith; room = omega arith; text = sym (append-nil (take c.args.cursor.at c.args.store.now)) }; below = h.below } }

pub param-returns-in_ok-value-in-Default : goal.param-returns-in_ok-value-in-Default
param-returns-in_ok-value-in-Default t c = let h = head_default c.in-Default.is c.in_ok-pos.ensures in
    let hg = h.got in
    let b = c.required_end-at.ensures in
    let w = done c.in_ok-value-in-Default.ensures in
    let path = way _ (param_got _ h_default c.args.cursor.pos h _) in
    let x = c.args in
    let e = c.emit.ensures in
    record { how = record { what = record { name = c.in-Default.v; value = w.what }; same = goes _ path w.same; moved = omega (arith, c.requires, hg.on, w.moved); room = omega (arith, c.requires, hg.on, hg.within, b.up, b.far, w.room, w.moved, e.next); text = default_one (take x.cursor.at x.store.now) (required_words x.counts.required x.counts.default) c.in-Default.v w.what e w.text b.text } }

pub param-returns-in_err-value-in-Default : goal.param-returns-in_err-value-in-Default
param-returns-in_err-value-in-Default t c = let h = head_default c.in-Default.is c.in_ok-pos.ensures in
    let hg = h.got in
    let b = c.required_end-at.ensures in
    let path = way _ (param_got _ h_default c.args.cursor.pos h _) in
    rw (handed c.from_residual-in_err-value-in-Default.ensures.1) (record { how = fails _ path (undone c.in_err-value-in-Default.ensures) (added_prefix b (omega arith)) (omega arith) })

pub param-returns-in_err-pos : goal.param-returns-in_err-pos
param-returns-in_err-pos t c = rw (handed c.from_residual.ensures.1) (record { how = lacks _ (no_head c.in_err-pos.ensures) (way _ (param_step _ _ _)) refl (omega arith) })
