-- `Records::put_statement`: the words are the tree's. Assumes nothing.
use Rattle.std.proofs.Common.{append_assoc}
use Rattle.tree.specs.Tree.{records, count}
use Rattle.limits.proofs.jumps.Records.put_statement.Goals as goal

pub returns : goal.returns
unfolding records count
returns c = simp append_assoc (simp (c.in_ok-put_if.ensures, append_assoc) at c.put.ensures)
