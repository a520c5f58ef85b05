-- `writer::standing::Standing::primary_by` meets its contract. Assumes nothing.
use mathlib.Core.Path.{◌≡◌, sym, ◌∙◌}
use mathlib.Core.Bool.{Bool, and-true, and-false}
use native.Mathlib.Omega.{arith}
use Rattle.tree.specs.Tree.{none, more, head_kind}
use Rattle.grammar.specs.Canonical.Write.{target_atom, target_path}
use Rattle.writer.specs.Standing.{serves_as}
use Rattle.writer.proofs.Places.{stands}
use Rattle.writer.proofs.Targets.{head_is}
use Rattle.writer.proofs.Functions.{path_is}
use Rattle.writer.proofs.Keeping.{Two, a_pair, two_last, two_first, two_room, tells_one, says_tells, serves_known, on_place, node_place}
use Rattle.writer.proofs.standing.Standing.primary_by.Goals.{After-serves_of, Start}
use Rattle.writer.proofs.standing.Standing.primary_by.Goals as goal

-- its children
module _ (c : Start) where
  pair : Two c.args.self.now.records.now c.args.self.now.kept.now c.args.self.now.base c.args.self.now.count c.args.p
  pair = a_pair c.requires.0 c.requires.1

-- the second is a list
module _ (c : After-serves_of) where
  abbrev both : Two c.args.self.now.records.now c.args.self.now.kept.now c.args.self.now.base c.args.self.now.count c.args.p
  both = pair (goal.at.After-serves_of c).Start

  path : {b : Bool} → c.serves_of.result ≡ b → target_path (more both.second none) ≡ b
  unfolding serves_as
  path e = path_is both.second ∙ sym ((serves_known c.kind_at.ensures c.if-kind_at-ne-LIST.false c.serves_of.ensures).how _ _ both.last) ∙ e

pub overflow_sub-path : goal.overflow_sub-path
overflow_sub-path c = omega (arith, two_room (pair (goal.at.overflow_sub-path c).Start))

pub kind_at-requires : goal.kind_at-requires
kind_at-requires c = on_place (two_last (pair (goal.at.kind_at-requires c).Start))

pub target_receiver-requires : goal.target_receiver-requires
target_receiver-requires c = node_place c.requires.0

pub returns-then-kind_at-ne-LIST : goal.returns-then-kind_at-ne-LIST
returns-then-kind_at-ne-LIST c = says_tells c.target_receiver.ensures

pub overflow_sub-self : goal.overflow_sub-self
overflow_sub-self c = omega (arith, two_room (pair (goal.at.overflow_sub-self c).Start))

pub serves_of-requires : goal.serves_of-requires
serves_of-requires c = two_last (pair (goal.at.serves_of-requires c).Start)

pub returns-then-not-serves_of : goal.returns-then-not-serves_of
returns-then-not-serves_of c = let y = both (goal.at.returns-then-not-serves_of c).After-serves_of in
    tells_one y.here (rw (path (goal.at.returns-then-not-serves_of c).After-serves_of c.if-not-serves_of.true) (sym (and-false (target_atom (head_kind (more y.first (more y.second none)))))))

pub overflow_sub-self-2 : goal.overflow_sub-self-2
overflow_sub-self-2 c = omega (arith, two_room (pair (goal.at.overflow_sub-self-2 c).Start))

pub begin_of-atom-requires : goal.begin_of-atom-requires
begin_of-atom-requires c = two_last (pair (goal.at.begin_of-atom-requires c).Start)

pub kind_at-requires-2 : goal.kind_at-requires-2
kind_at-requires-2 c = on_place (two_first (pair (goal.at.kind_at-requires-2 c).Start) c.begin_of-atom.ensures)

pub returns : goal.returns
returns c = let y = both (goal.at.returns c).After-serves_of in
    let k = c.kind_at-2.ensures.how _ _ (stands (c.begin_of-atom.ensures.how _ _ y.last)) in
    tells_one y.here (c.target_atom.ensures ∙ rw (path (goal.at.returns c).After-serves_of c.if-not-serves_of.false, ← head_is (more y.first (more y.second none)), ← k) (sym (and-true _)))
