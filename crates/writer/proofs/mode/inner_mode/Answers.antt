-- `writer::mode::inner_mode` meets its contract: each arm is the definition there. Assumes nothing.
use mathlib.Core.Path.{◌≡◌, refl}
use Prim.Native.Nat.{ℕ}
use Rattle.tables.specs.Check.{inner_mode}
use Rattle.tables.specs.Children.{kind_in, children_in}
use Rattle.writer.specs.Stack.{Says}
use Rattle.writer.proofs.Numbers.{tests}
use Rattle.writer.proofs.Places.{by_kind, of_last, of_kid}
use Rattle.writer.proofs.mode.inner_mode.Goals.{After-kind_at}
use Rattle.writer.proofs.mode.inner_mode.Goals as goal

-- an arm of the match
module _ (c : After-kind_at) where
  arm : {n r : ℕ} → c.kind_at.result ≡ n → Says c.args.records.now c.args.p (λ m. inner_mode n (children_in m)) r → Says c.args.records.now c.args.p (λ m. inner_mode (kind_in m) (children_in m)) r
  arm = by_kind (λ k m. inner_mode k (children_in m)) c.kind_at.ensures

pub returns-in-1 : goal.returns-in-1
unfolding inner_mode
returns-in-1 c = arm (goal.at.returns-in-1 c).After-kind_at c.in-1.is (record { how = λ m s h. refl })

pub returns-in-7 : goal.returns-in-7
unfolding inner_mode
returns-in-7 c = arm (goal.at.returns-in-7 c).After-kind_at c.in-7.is c.body_mode.ensures

pub returns-in-11 : goal.returns-in-11
unfolding inner_mode
returns-in-11 c = arm (goal.at.returns-in-11 c).After-kind_at c.in-11.is (of_last c.last_of.ensures c.count_at.ensures)

pub returns-in-14 : goal.returns-in-14
unfolding inner_mode
returns-in-14 c = arm (goal.at.returns-in-14 c).After-kind_at c.in-14.is c.function_form.ensures

pub returns-in-15 : goal.returns-in-15
unfolding inner_mode
returns-in-15 c = arm (goal.at.returns-in-15 c).After-kind_at c.in-15.is (of_last c.last_of-in-15.ensures c.kind_at-in-15.ensures)

pub returns-in-18 : goal.returns-in-18
unfolding inner_mode
returns-in-18 c = arm (goal.at.returns-in-18 c).After-kind_at c.in-18.is (of_last c.last_of-in-18.ensures c.kind_at-in-18.ensures)

pub returns-in-20 : goal.returns-in-20
unfolding inner_mode
returns-in-20 c = arm (goal.at.returns-in-20 c).After-kind_at c.in-20.is (of_kid c.kid_of.ensures c.value_at.ensures)

pub returns-in-22 : goal.returns-in-22
unfolding inner_mode
returns-in-22 c = arm (goal.at.returns-in-22 c).After-kind_at c.in-22.is (of_last c.last_of-in-22.ensures c.kind_at-in-22.ensures)

pub returns-in-24 : goal.returns-in-24
unfolding inner_mode
returns-in-24 c = arm (goal.at.returns-in-24 c).After-kind_at c.in-24.is c.signature_mode.ensures

pub returns-in-36 : goal.returns-in-36
unfolding inner_mode
returns-in-36 c = arm (goal.at.returns-in-36 c).After-kind_at c.in-36.is c.group_mode.ensures

pub returns-in-45 : goal.returns-in-45
unfolding inner_mode
returns-in-45 c = arm (goal.at.returns-in-45 c).After-kind_at c.in-45.is (of_last c.last_of-in-45.ensures c.kind_at-in-45.ensures)

pub returns-in_default : goal.returns-in_default
unfolding inner_mode
returns-in_default c = arm (goal.at.returns-in_default c).After-kind_at refl (record { how = λ m s h. search tests })
