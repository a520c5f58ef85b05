-- `nodes::records::block_under` meets its contract: the list's records by its variant, and one more. Assumes nothing.
use mathlib.Core.List.{[], ◌∷◌}
use native.Mathlib.Omega.{arith}
use lib.ListN.{take}
use Rattle.nodes.proofs.Ends.{joins, held_text, node_over}
use Rattle.nodes.proofs.records.block_under.Goals.{in-Suite, in-Control}
use Rattle.nodes.proofs.records.block_under.Goals as goal

pub returns : goal.returns
returns c = elim c.match-list.branch [
  | in-Suite w ↦
      let b = w.block_end.ensures in
      let far = b.far in
      node_over w.in-Suite.is w.block-is w.store-is b.up (omega arith) b.text c.emit.ensures
  | in-Control w ↦
      let l = w.emit-at.ensures in
      let r = w.resultless.ensures in
      node_over w.in-Control.is w.block-is w.store-is (omega arith) (omega arith) (λ s X st. held_text st (joins (take w.in-Control.end.at c.args.store.now) (519 ∷ 0 ∷ []) (0 ∷ 0 ∷ 534 ∷ 0 ∷ []) r.text l.text)) c.emit.ensures
]
