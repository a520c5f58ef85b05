-- `writer::target::function_form` meets its contract. Assumes nothing.
use mathlib.Core.Path.{◌≡◌, refl, sym, ◌∙◌}
use mathlib.Core.Bool.{Bool, cond}
use native.Mathlib.Omega.{arith}
use lib.Dec.{eqb}
use borrow.Author.Tests.{eq-eqb, ne_eqb}
use Rattle.tables.specs.Children.{children_in}
use Rattle.tables.specs.Check.{function_form}
use Rattle.writer.specs.Stack.{Somewhere, Says}
use Rattle.writer.proofs.Places.{of_kid}
use Rattle.writer.proofs.Spots.{spot_none}
use Rattle.writer.proofs.Targets.{Behind, no_function, no_signature, behind, target_place, unnamed, named}
use Rattle.writer.proofs.target.function_form.Goals.{After-is_target, After-value_at-name}
use Rattle.writer.proofs.target.function_form.Goals as goal

-- the target, of the function whose signature has the name that was found
module _ (c : After-value_at-name) where
  function_behind : Behind c.args.records.now c.args.p c.skip-target.result c.value_at-name.result
  function_behind =
      behind c.kid_of-function.ensures c.kid_of-signature.ensures c.kind_at.ensures c.if-kind_at-ne-FUNCTION_DEF.false c.if-signature-eq0.false c.skip-target.ensures c.value_at-name.ensures

  found_target : Somewhere c.args.records.now c.skip-target.result
  found_target = target_place function_behind c.requires

-- the name is the target's: then by whether there is one, and by whether the target can be one
module _ (c : After-is_target) where
  by_target : {a z : Bool} → a ≡ c.is_target.result → z ≡ eqb c.value_at-name.result 0 → Says c.args.records.now c.args.p (λ m. function_form (children_in m)) (cond a (cond z 1 2) 0)
  by_target =
      named (function_behind (goal.at.After-is_target c).After-value_at-name) c.gives_name_at.ensures c.if-not-gives_name_at.false c.is_target.ensures

pub returns-then-kind_at-ne-FUNCTION_DEF : goal.returns-then-kind_at-ne-FUNCTION_DEF
unfolding function_form
returns-then-kind_at-ne-FUNCTION_DEF c = let k = of_kid c.kid_of-function.ensures c.kind_at.ensures in
    record { how = λ m s h. rw (no_function (children_in m) (λ e. c.if-kind_at-ne-FUNCTION_DEF.true (k.how m s h ∙ e))) }

pub returns-then-signature-eq0 : goal.returns-then-signature-eq0
unfolding function_form
returns-then-signature-eq0 c = record { how = λ m s h. rw (no_signature (children_in m) (spot_none _ _ (omega arith) (c.kid_of-signature.ensures.how _ _ (c.kid_of-function.ensures.how m s h)))) }

pub gives_name_at-requires : goal.gives_name_at-requires
gives_name_at-requires c = found_target (goal.at.gives_name_at-requires c).After-value_at-name

pub returns-then-not-gives_name_at : goal.returns-then-not-gives_name_at
returns-then-not-gives_name_at c = unnamed (function_behind (goal.at.returns-then-not-gives_name_at c).After-value_at-name) c.gives_name_at.ensures c.if-not-gives_name_at.true

pub is_target-requires : goal.is_target-requires
is_target-requires c = found_target (goal.at.is_target-requires c).After-value_at-name

pub returns-then-not-is_target : goal.returns-then-not-is_target
returns-then-not-is_target c = by_target (goal.at.returns-then-not-is_target c).After-is_target (sym c.if-not-is_target.true) refl

pub returns-then-name-eq0 : goal.returns-then-name-eq0
returns-then-name-eq0 c = by_target (goal.at.returns-then-name-eq0 c).After-is_target (sym c.if-not-is_target.false) (sym (eq-eqb _ _ c.if-name-eq0.true))

pub returns : goal.returns
returns c = by_target (goal.at.returns c).After-is_target (sym c.if-not-is_target.false) (sym (ne_eqb _ _ c.if-name-eq0.false))
