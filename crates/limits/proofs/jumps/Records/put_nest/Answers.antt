-- `Records::put_nest`: the words are the outermost loop's. Assumes nothing.
use Rattle.std.proofs.Common.{[], ◌∷◌, ◌-◌, append_assoc}
use Rattle.tree.specs.Tree.{records, count}
use Rattle.limits.specs.Nests.{outermost, innermost}
use Rattle.limits.proofs.Looped.{whole, innermost_is}
use Rattle.limits.proofs.jumps.Records.put_nest.Goals as goal

pub returns : goal.returns
unfolding records count
returns c =
    let jump = c.args.jump in
    let all = whole (c.args.times - 1) (innermost jump) (259 ∷ outermost ∷ []) (innermost_is jump) in
    simp append_assoc (rw all at (simp (c.in_ok-put_loops.ensures, c.in_ok-put_innermost.ensures, append_assoc) at c.put_loop.ensures))
