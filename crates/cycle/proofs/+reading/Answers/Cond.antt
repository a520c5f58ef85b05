-- What is left to show of `cycle::cond` in its cycle of calls. Assumes nothing.
use mathlib.Core.Path.{refl, sym}
use mathlib.Core.List.{append-nil}
use Prim.Native.Nat.{◌-◌}
use native.Mathlib.Omega.{arith}
use lib.ListN.{length, take, drop, length-drop}
use Rattle.tree.specs.Tree.{none, snoc, count, records}
use Rattle.tree.specs.Node
use Rattle.scan.proofs.Laws.{hands, way, here, link, goes, done, undone, taken, fails, fails_unseen, prefix}
use Rattle.nodes.proofs.Made.{over_two}
use Rattle.cycle.proofs.PathsBody.{closable, under, unlisted}
use Rattle.cycle.proofs.PathsCond.{branches_step, behind_looks, behind_end, behind_else, behind_more, arm_text, arm_count, if_text, else_text, arm_before, else_before}
use Rattle.grammar.specs.Reading.Block.{block_of}
use Rattle.cycle.proofs.+reading.Goals as goal

pub cond-loop-branch-init : goal.cond-loop-branch-init
unfolding records count
cond-loop-branch-init t c = record { fuel = length (drop c.args.cursor.pos c.args.tokens.now); enough = rw length-drop (omega arith); run = record { what = none; same = here; moved = omega arith; room = omega arith; text = sym (append-nil (take c.args.cursor.at c.args.store.now)) }; many = refl; short = omega arith; kept = refl }

pub cond-returns-in_err-branch : goal.cond-returns-in_err-branch
cond-returns-in_err-branch t c = let g = c.loop-branch.invariant in
    let gr = g.run in
    let gs = g.short in
    let gk = g.kept in
    let step = link gr.same (way _ (branches_step _ g.fuel gr.what _ _ _ g.enough)) in
    hands c.from_residual.ensures.1 (fails _ step (undone c.in_err-branch.ensures) (prefix gr (omega (arith, c.requires))) (omega (arith, gr.moved, gr.room)))

pub cond-returns-in-68 : goal.cond-returns-in-68
cond-returns-in-68 t c = let g = c.loop-branch.invariant in
    let gr = g.run in
    let gs = g.short in
    let gk = g.kept in
    let b = done c.in_ok-branch.ensures in
    let tk = taken c.in_ok-token.ensures in
    let step = link gr.same (way _ (branches_step _ g.fuel gr.what _ _ _ g.enough)) in
    let on = goes _ step b.same in
    let e = c.if_end.ensures in
    record { how = record { what = Node.if_expr (snoc gr.what b.what) Node.absent; same = link on (way _ (behind_end _ _ _ _ _ tk c.in-68.is)); moved = omega (arith, gr.moved, b.moved, tk.within); room = omega (arith, gr.moved, gr.room, b.moved, b.room, tk.within, e.up, e.far); text = if_text gr b e g.many } }

pub cond-block_under-requires : goal.cond-block_under-requires
cond-block_under-requires t c = let g = c.loop-branch.invariant in
    let gr = g.run in
    let gs = g.short in
    let gk = g.kept in
    let b = done c.in_ok-branch.ensures in
    let tk = taken c.in_ok-token.ensures in
    let le = c.list_end-at.ensures in
    closable _ c.in_ok-otherwise-in-55.ensures (omega (arith, c.requires, gr.moved, gr.room, gk, b.moved, b.room, tk.within, le.next, le.whole, c.arm.auto.store, c.list_end-at.auto.store, c.body.auto.store))

pub cond-returns-in_err-otherwise-in-55 : goal.cond-returns-in_err-otherwise-in-55
cond-returns-in_err-otherwise-in-55 t c = let g = c.loop-branch.invariant in
    let gr = g.run in
    let gs = g.short in
    let gk = g.kept in
    let b = done c.in_ok-branch.ensures in
    let tk = taken c.in_ok-token.ensures in
    let step = link gr.same (way _ (branches_step _ g.fuel gr.what _ _ _ g.enough)) in
    let on = goes _ step b.same in
    let le = c.list_end-at.ensures in
    hands c.from_residual-in_err-otherwise-in-55.ensures.1 (unlisted _ c.in_err-otherwise-in-55.ensures (link on (way _ (behind_else _ _ _ _ _ tk c.in-55.is))) (else_before gr b le g.many (omega (arith, c.requires))) (omega (arith, c.requires, gr.moved, gr.room, gk, b.moved, b.room, tk.within, le.next, le.whole, c.arm.auto.store, c.list_end-at.auto.store)))

pub cond-returns-in-55 : goal.cond-returns-in-55
cond-returns-in-55 t c = let g = c.loop-branch.invariant in
    let gr = g.run in
    let gs = g.short in
    let gk = g.kept in
    let b = done c.in_ok-branch.ensures in
    let tk = taken c.in_ok-token.ensures in
    let step = link gr.same (way _ (branches_step _ g.fuel gr.what _ _ _ g.enough)) in
    let on = goes _ step b.same in
    let le = c.list_end-at.ensures in
    let y = else_text gr b le g.many in
    under (λ s. Node.if_expr (snoc gr.what b.what) (block_of s)) (records (Node.list (snoc gr.what b.what))) c.in_ok-otherwise-in-55.ensures c.block_under.ensures (link on (way _ (behind_else _ _ _ _ _ tk c.in-55.is))) y (λ s. over_two 18 _ _ _) (omega (arith, c.requires, gr.moved, gr.room, gk, b.moved, b.room, tk.within, le.next, le.whole, c.arm.auto.store, c.list_end-at.auto.store))

pub cond-loop-branch-preserved : goal.cond-loop-branch-preserved
cond-loop-branch-preserved t c = let g = c.loop-branch.invariant in
    let gr = g.run in
    let gs = g.short in
    let gk = g.kept in
    let b = done c.in_ok-branch.ensures in
    let tk = taken c.in_ok-token.ensures in
    let step = link gr.same (way _ (branches_step _ g.fuel gr.what _ _ _ g.enough)) in
    let on = goes _ step b.same in
    record { fuel = g.fuel - 1; enough = omega (arith, g.enough, b.moved); run = record { what = snoc gr.what b.what; same = link on (way _ (behind_more _ _ _ _ _ tk (search) (search))); moved = omega (arith, gr.moved, b.moved, tk.within); room = omega (arith, gr.moved, gr.room, b.moved, b.room, tk.within); text = arm_text gr b }; many = arm_count gr b g.many; short = omega (arith, gs, b.moved); kept = omega (arith, gk, c.arm.auto.store) }

pub cond-returns-in_err-token : goal.cond-returns-in_err-token
cond-returns-in_err-token t c = let g = c.loop-branch.invariant in
    let gr = g.run in
    let gs = g.short in
    let gk = g.kept in
    let b = done c.in_ok-branch.ensures in
    let step = link gr.same (way _ (branches_step _ g.fuel gr.what _ _ _ g.enough)) in
    let on = goes _ step b.same in
    hands c.from_residual-in_err-token.ensures.1 (fails_unseen on (behind_looks _ _ _ _ _ _) c.in_err-token.ensures (arm_before gr b (omega (arith, c.requires))) (omega (arith, c.requires, gr.moved, b.moved)))
