-- `Sheet::new`: the definition's start. Assumes nothing.
use Rattle.treelist.proofs.lines.Sheet.new.Goals as goal

pub returns : goal.returns
returns c = rw (c.new.ensures, c.start.ensures 0)
