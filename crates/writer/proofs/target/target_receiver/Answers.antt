-- `writer::target::target_receiver` meets its contract. Assumes nothing.
use mathlib.Core.Path.{sym, ◌∙◌}
use mathlib.Core.Bool.{and-true, and-false}
use native.Mathlib.Omega.{arith}
use Rattle.tree.specs.Tree.{head_kind}
use Rattle.grammar.specs.Canonical.Write.{tail_of, target_atom}
use Rattle.writer.specs.Stack.{kid_in}
use Rattle.tables.specs.Children.{children_in}
use Rattle.writer.proofs.Spots.{spot_none}
use Rattle.writer.proofs.Targets.{head_is, no_path, good_path}
use Rattle.writer.proofs.target.target_receiver.Goals as goal

pub returns-then-path-eq0 : goal.returns-then-path-eq0
returns-then-path-eq0 c = record { how = λ m s h. rw (no_path (tail_of (children_in m)) (spot_none _ _ (omega arith) (c.kid_of-path.ensures.how m s h))) (sym (and-false (target_atom (head_kind (children_in m))))) }

pub kind_at-requires : goal.kind_at-requires
kind_at-requires c = let y = c.requires in
    let x = good_path c.kid_of-path.ensures c.if-path-eq0.false c.target_items.ensures c.in-Some.is y.tree y.rest y.spot in
    record { tree = kid_in 1 y.tree; rest = y.rest; spot = x.1 }

pub returns-in-Some : goal.returns-in-Some
returns-in-Some c = record {
  how = λ m s h.
      let x = good_path c.kid_of-path.ensures c.if-path-eq0.false c.target_items.ensures c.in-Some.is m s h in
      let k = c.kind_at.ensures.how _ _ x.1 in
      rw (x.0, ← head_is (children_in m), ← k) (c.target_atom.ensures ∙ sym (and-true _));
}
