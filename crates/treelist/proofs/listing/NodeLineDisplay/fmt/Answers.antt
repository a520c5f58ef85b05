-- A node's line: its pieces are the definition's. Assumes nothing.
use Rattle.std.proofs.Common.{refl, arith, ◌∙◌, ◌%◌}
use Rattle.std.proofs.Output.{has_written_of_eq}
use Rattle.treelist.specs.Listing.{names}
use Rattle.treelist.proofs.Texts.{name_found, node_line_same}
use Rattle.treelist.proofs.listing.NodeLineDisplay.fmt.Goals as goal

pub returns-clause-writes : goal.returns-clause-writes
unfolding names
returns-clause-writes g c p o =
    let node = c.args.self.now in
    let named = c.name_at-name.ensures ∙ name_found _ names (node.first % 256) refl refl in
    has_written_of_eq _ _ _ _ _ (node_line_same _ node.first node.value named (omega arith) (omega arith)) (c.writeln.ensures.writes p o)
