-- `writer::standing::Standing::form_by` meets its contract. Assumes nothing.
use mathlib.Core.Path.{◌≡◌, refl, sym, ◌∙◌}
use mathlib.Core.Bool.{Bool, true, cond}
use mathlib.Core.List.{◌∷◌}
use native.Mathlib.Omega.{arith}
use lib.Dec.{eqb}
use Rattle.std.specs.Prelude.{Some}
use Rattle.tree.specs.NodeKind
use Rattle.tree.specs.Tree.{none, more}
use Rattle.grammar.specs.Canonical.Write.{is_target}
use Rattle.tables.specs.Children.{kind_in, value_in, children_in, first_tree}
use Rattle.tables.specs.Check.{function_form}
use Rattle.writer.specs.Stack.{Says}
use Rattle.writer.specs.Standing.{serves}
use Rattle.writer.proofs.Places.{stands}
use Rattle.writer.proofs.Targets.{no_function}
use Rattle.writer.proofs.Functions.{some_name, zero_name, form_is}
use Rattle.writer.proofs.Keeping.{Two, a_pair, two_last, two_first, two_room, says_one, on_place}
use Rattle.writer.proofs.standing.Standing.form_by.Goals.{After-target_by, Else-kind_at-ne-FUNCTION_DEF, Else-not-serves_of, Start}
use Rattle.writer.proofs.standing.Standing.form_by.Goals as goal

-- its children
module _ (c : Start) where
  pair : Two c.args.self.now.records.now c.args.self.now.kept.now c.args.self.now.base c.args.self.now.count c.args.p
  pair = a_pair c.requires.0 c.requires.1

-- the second is a function
module _ (c : Else-kind_at-ne-FUNCTION_DEF) where
  abbrev both : Two c.args.self.now.records.now c.args.self.now.kept.now c.args.self.now.base c.args.self.now.count c.args.p
  both = pair (goal.at.Else-kind_at-ne-FUNCTION_DEF c).Start

  function : kind_in (Some both.second) ≡ NodeKind.FunctionDef
  function = sym (c.kind_at.ensures.how _ _ (stands both.last)) ∙ c.if-kind_at-ne-FUNCTION_DEF.false

-- it serves
module _ (c : Else-not-serves_of) where
  served : true ≡ serves (both (goal.at.Else-not-serves_of c).Else-kind_at-ne-FUNCTION_DEF).second ((both (goal.at.Else-not-serves_of c).Else-kind_at-ne-FUNCTION_DEF).first ∷ (both (goal.at.Else-not-serves_of c).Else-kind_at-ne-FUNCTION_DEF).rest)
  served = sym c.if-not-serves_of.false ∙ c.serves_of.ensures.how _ _ (both (goal.at.Else-not-serves_of c).Else-kind_at-ne-FUNCTION_DEF).last

-- it was asked whether the first can be a target
module _ (c : After-target_by) where
  aimed : {b : Bool} → c.target_by.result ≡ b → b ≡ is_target (both (goal.at.After-target_by c).Else-kind_at-ne-FUNCTION_DEF).first
  aimed e = sym e ∙ c.target_by.ensures.how _ _ (c.begin_of-target.ensures.how _ _ (both (goal.at.After-target_by c).Else-kind_at-ne-FUNCTION_DEF).last)

  by_name : {b z : Bool} → c.target_by.result ≡ b → eqb (value_in (first_tree (children_in (Some (both (goal.at.After-target_by c).Else-kind_at-ne-FUNCTION_DEF).second)))) 0 ≡ z → Says c.args.self.now.records.now c.args.p (λ m. function_form (children_in m)) (cond b (cond z 1 2) 0)
  by_name e n = let y = both (goal.at.After-target_by c).Else-kind_at-ne-FUNCTION_DEF in says_one y.here (form_is y.first y.second y.rest (function (goal.at.After-target_by c).Else-kind_at-ne-FUNCTION_DEF) (served (goal.at.After-target_by c).Else-not-serves_of) (aimed e) n)

pub overflow_sub-function : goal.overflow_sub-function
overflow_sub-function c = omega (arith, two_room (pair (goal.at.overflow_sub-function c).Start))

pub kind_at-requires : goal.kind_at-requires
kind_at-requires c = on_place (two_last (pair (goal.at.kind_at-requires c).Start))

pub returns-then-kind_at-ne-FUNCTION_DEF : goal.returns-then-kind_at-ne-FUNCTION_DEF
unfolding function_form
returns-then-kind_at-ne-FUNCTION_DEF c = let y = pair (goal.at.returns-then-kind_at-ne-FUNCTION_DEF c).Start in
    says_one y.here (rw (no_function (more y.first (more y.second none)) (λ e. c.if-kind_at-ne-FUNCTION_DEF.true (c.kind_at.ensures.how _ _ (stands y.last) ∙ e))))

pub overflow_sub-self : goal.overflow_sub-self
overflow_sub-self c = omega (arith, two_room (pair (goal.at.overflow_sub-self c).Start))

pub serves_of-requires : goal.serves_of-requires
serves_of-requires c = two_last (pair (goal.at.serves_of-requires c).Start)

pub returns-then-not-serves_of : goal.returns-then-not-serves_of
returns-then-not-serves_of c = let y = both (goal.at.returns-then-not-serves_of c).Else-kind_at-ne-FUNCTION_DEF in
    says_one y.here (form_is y.first y.second y.rest (function (goal.at.returns-then-not-serves_of c).Else-kind_at-ne-FUNCTION_DEF) (sym c.if-not-serves_of.true ∙ c.serves_of.ensures.how _ _ y.last) refl refl)

pub overflow_sub-self-2 : goal.overflow_sub-self-2
overflow_sub-self-2 c = omega (arith, two_room (pair (goal.at.overflow_sub-self-2 c).Start))

pub begin_of-target-requires : goal.begin_of-target-requires
begin_of-target-requires c = two_last (pair (goal.at.begin_of-target-requires c).Start)

pub overflow_sub-self-3 : goal.overflow_sub-self-3
overflow_sub-self-3 c = omega (arith, two_room (pair (goal.at.overflow_sub-self-3 c).Start))

pub target_by-requires : goal.target_by-requires
target_by-requires c = two_first (pair (goal.at.target_by-requires c).Start) c.begin_of-target.ensures

pub returns-then-not-target_by : goal.returns-then-not-target_by
returns-then-not-target_by c = by_name (goal.at.returns-then-not-target_by c).After-target_by c.if-not-target_by.true refl

pub overflow_sub-self-4 : goal.overflow_sub-self-4
overflow_sub-self-4 c = omega (arith, two_room (pair (goal.at.overflow_sub-self-4 c).Start))

pub class_of-requires : goal.class_of-requires
class_of-requires c = two_last (pair (goal.at.class_of-requires c).Start)

pub returns-then-class_of-eq-NAMED : goal.returns-then-class_of-eq-NAMED
returns-then-class_of-eq-NAMED c = let y = both (goal.at.returns-then-class_of-eq-NAMED c).Else-kind_at-ne-FUNCTION_DEF in
    by_name (goal.at.returns-then-class_of-eq-NAMED c).After-target_by c.if-not-target_by.false (some_name y.second (function (goal.at.returns-then-class_of-eq-NAMED c).Else-kind_at-ne-FUNCTION_DEF) (c.class_of.ensures.how _ _ y.last) c.if-class_of-eq-NAMED.true)

pub returns : goal.returns
returns c = let y = both (goal.at.returns c).Else-kind_at-ne-FUNCTION_DEF in
    by_name (goal.at.returns c).After-target_by c.if-not-target_by.false (zero_name y.second (function (goal.at.returns c).Else-kind_at-ne-FUNCTION_DEF) (c.class_of.ensures.how _ _ y.last) c.if-class_of-eq-NAMED.false)
