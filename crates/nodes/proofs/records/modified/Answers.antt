-- `nodes::records::modified` meets its contract: by the modifier, nothing or one record more. Assumes nothing.
use mathlib.Core.List.{[], ◌∷◌}
use native.Mathlib.Omega.{arith}
use Rattle.tree.specs.NodeKind
use Rattle.tree.specs.Tree.{records}
use Rattle.scan.specs.Parts.{action_number}
use Rattle.nodes.proofs.Ends.{joins}
use Rattle.nodes.proofs.Made.{over_one}
use Rattle.nodes.proofs.records.modified.Goals as goal

pub returns-in-Some : goal.returns-in-Some
returns-in-Some c = let e = c.emit.ensures in
    let n = action_number c.in-Some.action in
    record { up = omega arith; far = omega arith; text = λ X t s text. rw (c.in-Some.is, over_one NodeKind.Modifier n t, ← c.from.ensures) (joins X (records t) (302 ∷ c.from.result ∷ []) e.text text) }
