-- `tree::skip` meets its contract: each record that is passed is a tree less and its children more. Assumes nothing.
use mathlib.Core.List.{List}
use Prim.Native.Nat.{ℕ, ◌-◌, ◌≤◌, ◌<◌}
use native.Mathlib.Omega.{arith}
use native.Mathlib.Nat.{le_trans, sub-le}
use lib.ListN.{length, take}
use Rattle.tree.specs.Rows.{Trees, Ended, ScanStep, scan_step, enough, ended}
use Rattle.tree.proofs.skip.Goals as goal

-- a turn: the last of the trees is taken apart
turn : (S : List ℕ) (to n i need : ℕ) (e : Ended (take to S) n) → (i ≤ length S) × ((B : List ℕ) → Trees B (take to S) n → Trees B (take i S) need) → 0 < need → ScanStep e.base S i need
turn S to n i need e v h = scan_step e.base S i need v.0 (v.1 _ e.trees) h

pub overflow_add-need : goal.overflow_add-need
overflow_add-need c =
    let l = c.loop-need in
    omega (arith, enough _ c.args.store.now (l.i - 2) _ (le_trans (sub-le _ 2) l.invariant.0) (turn _ _ _ _ _ c.requires.1 l.invariant c.loop-need-test.true).rest)

pub prove-unreachable-requires : goal.prove-unreachable-requires
prove-unreachable-requires c = omega (arith, (turn _ _ _ _ _ c.requires.1 c.loop-need.invariant c.loop-need-test.true).room)

pub loop-need-preserved : goal.loop-need-preserved
loop-need-preserved c =
    let l = c.loop-need in
    (omega arith, λ B t. (scan_step B c.args.store.now l.i l.need l.invariant.0 (l.invariant.1 B t) c.loop-need-test.true).rest)

pub returns : goal.returns
returns c =
    let l = c.loop-need in
    λ B t. ended B c.args.store.now _ _ l.invariant.0 (l.invariant.1 B t) (omega arith)
