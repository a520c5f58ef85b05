-- What is asked of a node's own children: lists by their last member, functions behind their targets, and targets. Assumes nothing.
use mathlib.Core.Path.{◌≡◌, refl, sym, ◌∙◌}
use mathlib.Core.Bool.{Bool, true, false, cond, ◌&&◌, and-false}
use mathlib.Core.List.{List, ◌∷◌}
use Prim.Native.Nat.{ℕ}
use native.Mathlib.Omega.{arith}
use native.Mathlib.Decide.{ℕ_discrete}
use lib.Dec.{eqb}
use borrow.Author.Tests.{eq-eqb, ne_eqb}
use Rattle.std.specs.Prelude.{Some}
use Rattle.tree.specs.NodeKind
use Rattle.tree.specs.Tree.{Tree, node, none, more}
use Rattle.grammar.specs.Canonical.Write.{target_items, target_path, is_target, has_function}
use Rattle.tables.specs.Choice.{where_zero}
use Rattle.tables.specs.Class as Class
use Rattle.tables.specs.Class.{class}
use Rattle.tables.specs.Children.{kind_in, value_in, children_in, first_tree}
use Rattle.tables.specs.Check.{function_form, inner_mode, inner_class, mode_of, class_of}
use Rattle.writer.specs.Standing.{serves_as, serves}
use Rattle.writer.proofs.Targets.{has_is}

-- ---------------------------------------------------------------- the class of a list's last member
pub inner_list : (t : Tree) → kind_in (Some t) ≡ NodeKind.List → inner_class (Some t) ≡ Class.Nothing
unfolding class inner_mode
inner_list (node k v f) e = rw e

pub inner_other : (t : Tree) → (kind_in (Some t) ≡ NodeKind.List → ⊥) → class_of t ≡ inner_class (Some t)
unfolding mode_of
inner_other (node k v f) n = rw (ne_eqb k NodeKind.List n)

-- ---------------------------------------------------------------- a function behind its target
abbrev name_of : Tree → ℕ
name_of t = value_in (first_tree (children_in (Some t)))

class_named : (t : Tree) → kind_in (Some t) ≡ NodeKind.FunctionDef → class_of t ≡ where_zero (name_of t) Class.Tight Class.Named
unfolding class mode_of inner_mode
class_named (node k v f) e = rw e

module _ (t : Tree) (e : kind_in (Some t) ≡ NodeKind.FunctionDef) {c : ℕ} (ce : c ≡ class_of t) where
  pub some_name : c ≡ Class.Named → eqb (name_of t) 0 ≡ false
  unfolding where_zero
  some_name n = go (ℕ_discrete (name_of t) 0) (sym n ∙ ce ∙ class_named t e)
    where
      go : Dec (name_of t ≡ 0) → Class.Named ≡ where_zero (name_of t) Class.Tight Class.Named → eqb (name_of t) 0 ≡ false
      go (yes z) x =
          let y : Class.Named ≡ Class.Tight = x ∙ rw (eq-eqb (name_of t) 0 z) in
          absurd (omega arith)
      go (no z) x = ne_eqb (name_of t) 0 z

  pub zero_name : (c ≡ Class.Named → ⊥) → eqb (name_of t) 0 ≡ true
  unfolding where_zero
  zero_name n = go (ℕ_discrete (name_of t) 0)
    where
      go : Dec (name_of t ≡ 0) → eqb (name_of t) 0 ≡ true
      go (yes z) = eq-eqb (name_of t) 0 z
      go (no z) = absurd (n (ce ∙ class_named t e ∙ rw (ne_eqb (name_of t) 0 z)))

has_serves : (a b : Tree) (s : List Tree) → kind_in (Some b) ≡ NodeKind.FunctionDef → has_function (more a (more b none)) ≡ serves b (a ∷ s) && is_target a
unfolding serves_as
has_serves a (node k v none) s e = rw e (and-false (is_target a))
has_serves a (node k v (more t g)) s e = has_is (more a (more (node k v (more t g)) none)) e (λ z. let y : ◌≡◌ {A = ℕ} 0 1 = cc in omega arith) ∙ rw e

-- by whether the function serves, whether the target can be one, and whether there is a name
pub form_is : (a b : Tree) (s : List Tree) {x y z : Bool} → kind_in (Some b) ≡ NodeKind.FunctionDef → x ≡ serves b (a ∷ s) → y ≡ is_target a → eqb (name_of b) 0 ≡ z → cond (x && y) (cond z 1 2) 0 ≡ function_form (more a (more b none))
unfolding function_form
form_is a b s e xe ye ze = rw (has_serves a b s e, xe, ye, ze)

-- ---------------------------------------------------------------- targets
pub path_is : (t : Tree) → target_path (more t none) ≡ target_items (children_in (Some t))
path_is (node k v f) = refl
