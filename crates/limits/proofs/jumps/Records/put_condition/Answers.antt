-- `Records::put_condition`: the words are those before the list's record. Assumes nothing.
use Rattle.std.proofs.Common.{append_assoc}
use Rattle.tree.specs.Tree.{records, count}
use Rattle.limits.proofs.jumps.Records.put_condition.Goals as goal

pub returns : goal.returns
unfolding records count
returns c = simp append_assoc (simp (c.in_ok-put.ensures, c.in_ok-put_list.ensures, c.in_ok-put_if.ensures, append_assoc) at c.put_list-2.ensures)
