-- What the loops of `writer::standing::Standing::kids_fit` keep. Assumes nothing.
use Rattle.writer.proofs.Walk.{Walk}
use Rattle.writer.proofs.standing.Standing.kids_fit.Given as goal

abbrev pub invariant-loop-j : goal.invariant-loop-j
invariant-loop-j l = Walk l.self.records.now l.self.kept.now l.self.base l.self.count l.p l.m l.kind l.value l.j l.i l.q l.first l.items
