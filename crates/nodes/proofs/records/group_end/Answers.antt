-- `nodes::records::group_end` meets its contract: the action is handed on, and the group's record goes behind. Assumes nothing.
use mathlib.Core.List.{[], ◌∷◌}
use native.Mathlib.Omega.{arith}
use Rattle.tree.specs.NodeKind
use Rattle.tree.specs.Tree.{records}
use Rattle.grammar.specs.Reading.Primary.{with_action}
use Rattle.scan.specs.Parts.{keyword_code}
use Rattle.nodes.proofs.Ends.{joins}
use Rattle.nodes.proofs.Made.{over_one}
use Rattle.nodes.proofs.records.group_end.Goals as goal

pub returns : goal.returns
returns c = let e = c.emit.ensures in
    let m = keyword_code c.args.modifier in
    let put = e.text in
    record { up = omega arith; far = omega arith; text = λ X t s text. rw (over_one NodeKind.Group m (with_action m t)) (joins X (records (with_action m t)) (292 ∷ m ∷ []) (rw c.modifier_value.ensures at put) (c.with_action.ensures X t s text)) }
