-- `Records::put_behind`: the words are the tree's. Assumes nothing.
use Rattle.std.proofs.Common.{append_assoc}
use Rattle.tree.specs.Tree.{records, count}
use Rattle.limits.proofs.jumps.Records.put_behind.Goals as goal

pub returns : goal.returns
unfolding records count
returns c = simp append_assoc (simp (c.in_ok-put.ensures, c.in_ok-put_nest.ensures, append_assoc) at c.put_loop.ensures)
