-- The parts of a call of the writer, one after the other. Assumes nothing.
use Rattle.std.proofs.Common.{rules}
use Rattle.compared.proofs.Counted.{outputs}
use Rattle.compared.proofs.trial.Trial.on_output.Goals as goal

pub returns : goal.returns
returns g c =
    outputs c.args.writing.records.now c.args.want c.args.text.now {w = record { answer = c.write_stmt.result; output = c.write_stmt.new.output }} c.outputs.result c.args.self.now c.outputs.new.self
    (search rules) (search rules) c.write_stmt.ensures c.from-said.ensures c.holds.ensures c.outputs.ensures
