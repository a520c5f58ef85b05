-- The parts of a call, one after the other. Assumes nothing.
use Rattle.std.proofs.Common.{rules}
use Rattle.compared.proofs.Counted.{counted}
use Rattle.compared.proofs.trial.Trial.called_in.Goals as goal

pub returns : goal.returns
returns g c =
    counted c.args.call c.args.want {r = record { step = c.next_stmt-step.result; store = c.next_stmt-step.new.store }} c.parts.result c.args.self.now c.parts.new.self
    (search rules) c.next_stmt-step.ensures c.from.ensures c.eq-reader.ensures c.holds.ensures c.parts.ensures
