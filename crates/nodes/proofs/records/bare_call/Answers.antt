-- `nodes::records::bare_call` meets its contract: two records more. Assumes nothing.
use mathlib.Core.Path.{◌∙◌}
use native.Mathlib.Omega.{arith}
use Rattle.tree.specs.Tree.{count, records}
use Rattle.tree.specs.Written.{two_written}
use Rattle.nodes.proofs.records.bare_call.Goals as goal

pub returns : goal.returns
unfolding records count
returns c = let a = c.list_end-b.ensures in
    let b = c.emit.ensures in
    record { up = omega arith; far = omega arith; text = two_written a b; whole = b.whole ∙ a.whole }
