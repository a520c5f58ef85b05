-- `Records::put_jump`: the words are those before the list's record. Assumes nothing.
use Rattle.tree.specs.Tree.{records, count}
use Rattle.limits.proofs.jumps.Records.put_jump.Goals as goal

pub returns-in-Break : goal.returns-in-Break
unfolding records count
returns-in-Break c = rw c.in-Break.is c.put.ensures

pub returns-in-Continue : goal.returns-in-Continue
unfolding records count
returns-in-Continue c = rw c.in-Continue.is c.put-in-Continue.ensures
