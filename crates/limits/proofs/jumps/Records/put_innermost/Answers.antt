-- `Records::put_innermost`: no jump, an empty list. Assumes nothing.
use Rattle.tree.specs.Tree.{records, count}
use Rattle.limits.proofs.jumps.Records.put_innermost.Goals as goal

pub returns-in-None : goal.returns-in-None
unfolding records count
returns-in-None c = rw c.in-None.is c.put_list.ensures
