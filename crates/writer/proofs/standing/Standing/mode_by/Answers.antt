-- `writer::standing::Standing::mode_by` meets its contract: each arm is the definition there. Assumes nothing.
use mathlib.Core.Path.{◌≡◌, ◌∙◌}
use Prim.Native.Nat.{ℕ}
use native.Mathlib.Omega.{arith}
use Rattle.tables.specs.Children.{kind_in, children_in}
use Rattle.tables.specs.Sound.{arity}
use Rattle.tables.specs.Check.{inner_mode, mode_of}
use Rattle.writer.specs.Stack.{Says}
use Rattle.writer.proofs.Numbers.{tests}
use Rattle.writer.proofs.Places.{by_kind, count_kids}
use Rattle.writer.proofs.Keeping.{node_place, arity_at}
use Rattle.writer.proofs.standing.Standing.mode_by.Goals.{After-kind_at}
use Rattle.writer.proofs.standing.Standing.mode_by.Goals as goal

-- an arm of the match
module _ (c : After-kind_at) where
  arm : {n r : ℕ} → c.kind_at.result ≡ n → Says c.args.self.now.records.now c.args.p (λ m. mode_of n (children_in m)) r → Says c.args.self.now.records.now c.args.p (λ m. mode_of (kind_in m) (children_in m)) r
  arm = by_kind (λ k m. mode_of k (children_in m)) c.kind_at.ensures

pub kind_at-requires : goal.kind_at-requires
kind_at-requires c = node_place c.requires.0

pub form_by-requires : goal.form_by-requires
unfolding arity
form_by-requires c = let y = c.requires in
    (y.0, arity_at y.0 y.1 c.kind_at.ensures c.in-14.is (λ e. omega arith))

pub name_by-requires : goal.name_by-requires
unfolding arity
name_by-requires c = let y = c.requires in
    (y.0, arity_at y.0 y.1 c.kind_at.ensures c.in-20.is (λ e. omega arith))

pub inner_mode-requires : goal.inner_mode-requires
inner_mode-requires c = node_place c.requires.0

pub returns-in-1 : goal.returns-in-1
unfolding mode_of
returns-in-1 c = arm (goal.at.returns-in-1 c).After-kind_at c.in-1.is (record { how = λ m s h. c.list_by.ensures.how m s h ∙ rw (count_kids m) })

pub returns-in-14 : goal.returns-in-14
unfolding mode_of inner_mode
returns-in-14 c = arm (goal.at.returns-in-14 c).After-kind_at c.in-14.is c.form_by.ensures

pub returns-in-20 : goal.returns-in-20
unfolding mode_of inner_mode
returns-in-20 c = arm (goal.at.returns-in-20 c).After-kind_at c.in-20.is c.name_by.ensures

pub returns-in_default : goal.returns-in_default
unfolding mode_of
returns-in_default c = let k = c.kind_at.ensures in
    record { how = λ m s h. c.inner_mode.ensures.how m s h ∙ rw (← k.how m s h) (search tests) }
