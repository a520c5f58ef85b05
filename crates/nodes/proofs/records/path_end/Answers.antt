-- `nodes::records::path_end` meets its contract: by the count of the items, nothing or two records more. Assumes nothing.
use mathlib.Core.Path.{◌∙◌}
use mathlib.Core.List.{[], ◌∷◌}
use Prim.Native.Nat.{◌+◌, ◌*◌}
use native.Mathlib.Omega.{arith}
use Rattle.tree.specs.NodeKind
use Rattle.tree.specs.Tree.{all_records}
use Rattle.nodes.proofs.Ends.{joins, path_none, path_some}
use Rattle.tree.specs.Written.{two_written}
use Rattle.nodes.proofs.records.path_end.Goals as goal

pub returns-then-n-eq0 : goal.returns-then-n-eq0
returns-then-n-eq0 c = record { up = omega arith; far = omega arith; text = λ X f s text. rw (path_none f (s ∙ c.if-n-eq0.true)) text }

pub returns : goal.returns
returns c = let a = c.list_end-b.ensures in
    let b = c.emit.ensures in
    let n = c.args.n in
    record { up = omega arith; far = omega arith; text = λ X f s text. rw (path_some f n s c.if-n-eq0.false) (joins X (all_records f) ((1 + 256 * n) ∷ 0 ∷ (NodeKind.Primary + 512) ∷ 0 ∷ []) (two_written a b) text) }
