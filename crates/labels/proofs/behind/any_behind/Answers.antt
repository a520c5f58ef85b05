-- `labels::behind::any_behind` meets its contract. Assumes nothing.
use mathlib.Core.Path.{◌≡◌, sym, ap, ◌∙◌}
use Rattle.labels.specs.Offences.{any_serves, inside}
use Rattle.labels.specs.Entries.{kind_of}
use Rattle.labels.specs.Behind.{enclosing}
use Rattle.labels.proofs.Kept.{none_serves, node_does, node_does_not}
use Rattle.labels.proofs.behind.any_behind.Goals.{In-Some}
use Rattle.labels.proofs.behind.any_behind.Goals as goal

-- the node that is asked
module _ (c : In-Some) where
  whole : any_serves (kind_of c.args.jump.kind) c.args.jump.label (enclosing 1 c.args.records.now)
      ≡ any_serves (kind_of c.args.jump.kind) c.args.jump.label (inside c.in-Some.node.kind c.in-Some.node.label (enclosing 1 c.in-Some.node.behind.now))
  whole = c.loop-node.invariant ∙ ap (any_serves (kind_of c.args.jump.kind) c.args.jump.label) c.in-Some.ensures.how.here

pub returns-then-node-eq-FUNCTION_DEF : goal.returns-then-node-eq-FUNCTION_DEF
returns-then-node-eq-FUNCTION_DEF c = sym (whole (goal.at.returns-then-node-eq-FUNCTION_DEF c).In-Some ∙ none_serves _ _ _ _ _ c.if-node-eq-FUNCTION_DEF.true)

pub returns-then-node_serves : goal.returns-then-node_serves
returns-then-node_serves c = sym (whole (goal.at.returns-then-node_serves c).In-Some ∙ node_does _ _ _ _ _ c.if-node-eq-FUNCTION_DEF.false (sym c.node_serves.ensures ∙ c.if-node_serves.true))

pub loop-node-preserved : goal.loop-node-preserved
loop-node-preserved c = whole (goal.at.loop-node-preserved c).In-Some ∙ node_does_not _ _ _ _ _ c.if-node-eq-FUNCTION_DEF.false (sym c.node_serves.ensures ∙ c.if-node_serves.false)
