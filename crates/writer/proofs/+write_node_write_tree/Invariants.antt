-- What the loops of the cycle `writer::write_node` and `writer::write_tree` keep, and what falls along its calls. Assumes nothing.
use mathlib.Core.Path.{◌≡◌}
use mathlib.Core.List.{List, ◌∷◌}
use Prim.Native.Nat.{ℕ, ◌+◌, ◌*◌}
use lib.ListN.{length}
use Rattle.tree.specs.Tree.{Tree}
use Rattle.tables.specs.Layout.{text, within, closed}
use Rattle.output.specs.Text.{Holds}
use Rattle.writer.specs.Form.{place_number, form_of_head}
use Rattle.writer.specs.Stack.{At}
use Rattle.writer.proofs.Nodes.{Left}
use Rattle.writer.proofs.Sides.{Stage}
use Rattle.writer.proofs.+write_node_write_tree.Given as goal

abbrev pub decreases-write_node : goal.decreases-write_node
decreases-write_node l = 2 * l.from.records

abbrev pub decreases-write_tree : goal.decreases-write_tree
decreases-write_tree l = 2 * l.from.records + 1

-- of `write_node`: whatever tree ends at p, where the loop stands in its root's children. It began with the text at a₀, what stands behind them included
pub record Children (L O₀ : List ℕ) (d place p k v m n a₀ : ℕ) (O : List ℕ) (j q a : ℕ) : Type 0 where
  pub go : (t : Tree) (s : List Tree) (X : List ℕ) → At L p (t ∷ s) → Holds a₀ O₀ (closed k v m X) → Left L s (text t place X) (within t place d) d k v m n p O j q a
  pub kept : length O ≡ length O₀

abbrev pub invariant-write_node-loop-j : goal.invariant-write_node-loop-j
invariant-write_node-loop-j l = Children l.records l.initial.output l.depth (place_number l.fn.place) l.fn.from.records l.head.kind l.head.value (form_of_head l.head) l.n l.initial.step.words l.output l.j l.step.records l.step.words

-- of `write_tree`: whatever tree ends at `from`, where the loop stands in it
pub record Chain (L O₀ : List ℕ) (d place from end : ℕ) (O : List ℕ) (at p a : ℕ) : Type 0 where
  pub go : (t : Tree) (s : List Tree) (X : List ℕ) → At L from (t ∷ s) → Holds end O₀ X → Stage L s (text t place X) (within t place d) d from O at p a
  pub kept : length O ≡ length O₀

abbrev pub invariant-write_tree-loop-step : goal.invariant-write_tree-loop-step
invariant-write_tree-loop-step l = Chain l.records l.initial.output l.depth (place_number l.fn.place) l.fn.from.records l.fn.from.words l.output (place_number l.at) l.step.records l.step.words

abbrev pub decreases-write_tree-loop-step : goal.decreases-write_tree-loop-step
decreases-write_tree-loop-step l = l.step.records
