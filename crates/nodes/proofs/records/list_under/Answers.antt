-- `nodes::records::list_under` meets its contract: the list's records by its variant, and one more. Assumes nothing.
use native.Mathlib.Omega.{arith}
use Rattle.nodes.proofs.Ends.{listed_text, held_list, closing, node_over}
use Rattle.nodes.proofs.records.list_under.Goals.{in-Suite, in-Control}
use Rattle.nodes.proofs.records.list_under.Goals as goal

pub returns : goal.returns
returns c = elim c.match-list.branch [
  | in-Suite w ↦
      let b = w.suite_end.ensures in
      let k = closing w.in-Suite.is c.requires in
      node_over w.in-Suite.is w.body-is w.store-is b.up (omega arith) (λ s X st. listed_text st (omega arith) b.text) c.emit-2.ensures
  | in-Control w ↦
      let b = w.emit.ensures in
      node_over w.in-Control.is w.body-is w.store-is (omega arith) (omega arith) (λ s X st. held_list st b.text) c.emit-2.ensures
]
