-- `writer::mode::form_at` meets its contract: each arm is the definition there. Assumes nothing.
use mathlib.Core.Path.{◌≡◌, refl, sym, ◌∙◌}
use mathlib.Core.Bool.{Bool, true, false, not, ◌&&◌}
use mathlib.Core.List.{List}
use mathlib.Core.Logic.{◌⊎◌, inl, inr}
use Prim.Native.Nat.{ℕ}
use lib.Dec.{eqb}
use mir.Val.{bool_byte}
use Rattle.std.specs.Prelude.{Option}
use Rattle.tree.specs.NodeKind
use Rattle.tree.specs.Tree.{Tree}
use Rattle.tables.specs.Choice.{when◌then◌else◌}
use Rattle.tables.specs.Form.{Fun, fun_gives}
use Rattle.tables.specs.Check.{function_form}
use Rattle.tables.specs.Layout.{assignment_form, form_of}
use Rattle.tables.specs.Children.{kind_in, value_in, children_in}
use Rattle.writer.specs.declared.form.Form.{Form}
use Rattle.writer.specs.Form.{place_number, form_number, FormAt}
use Rattle.writer.specs.Stack.{Spot}
use Rattle.writer.proofs.Numbers.{tests}
use Rattle.writer.proofs.Places.{of_last}
use Rattle.writer.proofs.mode.form_at.Goals.{After-kind_at}
use Rattle.writer.proofs.mode.form_at.Goals as goal

-- an arm of the match
module _ (c : After-kind_at) where
  arm : {n : ℕ} {form : Form} → c.kind_at.result ≡ n
      → ((m : Option Tree) (s : List Tree) → Spot c.args.records.now c.args.p m s → form_number n form ≡ form_of n (value_in m) (children_in m) (place_number c.args.place))
      → FormAt c.args.records.now c.args.p c.args.place form
  arm {n} e x = record {
    how = λ m s h.
        let k : n ≡ kind_in m = sym e ∙ c.kind_at.ensures.how m s h in
        rw (← k) (x m s h);
  }

-- by whether `fun` gives an action at the place, and whether it can't give the function
by_both : (g z : Bool) (n : ℕ) → (when eqb (bool_byte (g && not z)) 0 then n else Fun) ≡ when g then (when z then n else Fun) else n
by_both true true n = refl
by_both true false n = refl
by_both false z n = refl

pub returns-in-14 : goal.returns-in-14
unfolding form_of assignment_form
returns-in-14 c = arm (goal.at.returns-in-14 c).After-kind_at c.in-14.is λ m s h.
    rw (c.from.ensures, c.given_by_fun.ensures.how m s h) (by_both (fun_gives (place_number c.args.place) (value_in m)) (eqb (function_form (children_in m)) 0) (place_number c.args.place))

pub returns-in-18 : goal.returns-in-18
unfolding form_of
returns-in-18 c =
    let y = (goal.at.returns-in-18 c).After-kind_at in
    let last = (of_last c.last_of.ensures c.kind_at-in-18.ensures).how in
    elim c.in-18.is [ inl e ↦ arm y e last | inr o ↦ elim o [ inl e ↦ arm y e last | inr e ↦ arm y e last ] ]

pub returns-in-24 : goal.returns-in-24
unfolding form_of
returns-in-24 c = arm (goal.at.returns-in-24 c).After-kind_at c.in-24.is c.signature_mode.ensures.how

pub returns-in_default : goal.returns-in_default
unfolding form_of
returns-in_default c =
    let k : ℕ = c.kind_at.result in
    let others : ((k ≡ NodeKind.IfExpr) ⊎ ((k ≡ NodeKind.ExprBlock) ⊎ (k ≡ NodeKind.Pack))) → ⊥ = search c in
    let x : k ≡ NodeKind.IfExpr → ⊥ = λ e. others (inl e) in
    let y : k ≡ NodeKind.ExprBlock → ⊥ = λ e. others (inr (inl e)) in
    let z : k ≡ NodeKind.Pack → ⊥ = λ e. others (inr (inr e)) in
    arm (goal.at.returns-in_default c).After-kind_at refl λ m s h. search tests
