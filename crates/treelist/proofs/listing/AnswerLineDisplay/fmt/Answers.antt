-- An answer's line: its pieces are the definition's. Assumes nothing.
use Rattle.std.proofs.Common.{arith}
use Rattle.treelist.specs.Text.{bytes}
use Rattle.treelist.proofs.Texts.{wrote_answer}
use Rattle.treelist.proofs.listing.AnswerLineDisplay.fmt.Goals as goal

pub returns-in-Tree-clause-writes : goal.returns-in-Tree-clause-writes
returns-in-Tree-clause-writes g c p o =
    rw c.in-Tree.is (wrote_answer (bytes "answer=tree nodes=") c.in-Tree.nodes (omega arith) (c.writeln.ensures.writes p o))

pub returns-in-Error-clause-writes : goal.returns-in-Error-clause-writes
returns-in-Error-clause-writes g c p o =
    rw (c.in-Error.is, ← c.from.ensures)
    (wrote_answer (bytes "answer=error number=") c.from.result (omega arith) (c.writeln-in-Error.ensures.writes p o))

pub returns-in-Stopped-clause-writes : goal.returns-in-Stopped-clause-writes
returns-in-Stopped-clause-writes g c p o =
    rw c.in-Stopped.is (wrote_answer (bytes "answer=stopped number=") c.in-Stopped.number (omega arith) (c.writeln-in-Stopped.ensures.writes p o))

pub returns-in-Refused-clause-writes : goal.returns-in-Refused-clause-writes
returns-in-Refused-clause-writes g c p o =
    rw c.in-Refused.is (wrote_answer (bytes "answer=refused number=") c.in-Refused.number (omega arith) (c.writeln-in-Refused.ensures.writes p o))
