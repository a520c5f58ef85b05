-- `read_sheet`: the bytes of the reads, one after the other, come to what the sheet says. Assumes nothing.
use Rattle.std.proofs.Common.{rules}
use Rattle.treelist.proofs.Inputs.{begun, fed, over, ended}
use Rattle.treelist.proofs.input.read_sheet.Goals as goal

pub loop-init : goal.loop-init
loop-init g c = begun _ _ c.new-sheet.ensures

pub returns-then-not-goes_on : goal.returns-then-not-goes_on
returns-then-not-goes_on g c =
    let read = c.read-got.ensures in
    let feeds = c.in_ok-goes_on.ensures in
    ended _ _ _ _ (fed _ _ _ _ _ _ _ _ c.loop.invariant read.bound read.bytes feeds) (over _ _ _ _ _ _ (search rules) read.bytes (rw c.if-not-goes_on.true at feeds)) c.finish.ensures

pub loop-preserved : goal.loop-preserved
loop-preserved g c =
    let read = c.read-got.ensures in
    fed _ _ _ _ _ _ _ _ c.loop.invariant read.bound read.bytes c.in_ok-goes_on.ensures
