-- What the code asks of places is what grammar asks of the target of a `fun`. Assumes nothing.
use mathlib.Core.Path.{◌≡◌, refl, sym, ap, ◌∙◌}
use mathlib.Core.Bool.{Bool, true, false, cond, ◌&&◌, ◌||◌, and-false, and_comm}
use mathlib.Core.List.{List, ◌∷◌}
use Prim.Native.Nat.{ℕ, suc, ◌-◌}
use native.Mathlib.Omega.{arith}
use native.Mathlib.Decide.{ℕ_discrete}
use lib.Dec.{eqb}
use borrow.Author.Tests.{eq-eqb, ne_eqb}
use Rattle.std.specs.Prelude.{Option, Some, None}
use Rattle.std.specs.Option.{option_map_or}
use Rattle.tree.specs.NodeKind
use Rattle.tree.specs.Tree.{Tree, Forest, node, none, more, kind_of, head_kind}
use Rattle.grammar.specs.Canonical.Write.{tail_of, target_atom, target_items, target_path, target_receiver, is_target, has_function}
use Rattle.grammar.specs.Reading.Function.{target_name}
use Rattle.tables.specs.Kinds.{target_item, name_is, gives_name}
use Rattle.writer.specs.Stack.{Skipped, SpotAs, Spot, Somewhere, Says, KidOf, nth_tree, kid_in, push}
use Rattle.tables.specs.Children.{kind_in, value_in, children_in, first_tree}
use Rattle.tables.specs.Check.{name_given, function_form}
use Rattle.writer.specs.Verdict.{Fit}
use Rattle.writer.proofs.Spots.{spot_zero}
use Rattle.writer.proofs.Places.{of_kid}
use Rattle.writer.proofs.Kids.{from_first}
use Rattle.writer.proofs.Fitted.{fit_at}

-- the items of a path, one by one
abbrev pub item : ℕ → Tree → Bool
item j t = target_item (kind_in (Some t))

item_is : (t : Tree) → eqb (kind_of t) NodeKind.Attribute || eqb (kind_of t) NodeKind.Index ≡ target_item (kind_in (Some t))
unfolding target_item
item_is (node k v f) = go (eqb k NodeKind.Attribute) (eqb k NodeKind.Index)
  where
    go : (a b : Bool) → a || b ≡ cond a true (cond b true false)
    go true b = refl
    go false true = refl
    go false false = refl

pub items_all : (f : Forest) (j : ℕ) → target_items f ≡ from_first item j f
unfolding target_items from_first
items_all none j = refl
items_all (more t f) j = ap (λ b. b && target_items f) (item_is t) ∙ ap (λ b. item j t && b) (items_all f (suc j))

-- the first tree's kind
pub head_is : (f : Forest) → kind_in (first_tree f) ≡ head_kind f
head_is none = refl
head_is (more (node k v f) g) = refl

-- a path that is not there
pub no_path : (f : Forest) → first_tree f ≡ None → target_path f ≡ false
no_path none e = refl
no_path (more (node k v f) g) e =
    let z : ◌≡◌ {A = ℕ} 0 1 = cc in
    absurd (omega arith)

-- the receiver's path ends at q, and its items were tested one by one
module _ {L : List ℕ} {p q : ℕ} (path : KidOf L p 2 q) (some : q ≡ 0 → ⊥) {r : Option ℕ} (w : Fit L q (λ t. target_items (children_in (Some t))) r) where
  -- the atom ends where the path begins
  pub good_path : {b : ℕ} → r ≡ Some b → (m : Option Tree) (s : List Tree) → Spot L p m s → (target_path (tail_of (children_in m)) ≡ true) × Spot L b (kid_in 1 m) s
  good_path {b} e m s h = go (children_in m) (path.how m s h).how
    where
      go : (f : Forest) → SpotAs L q (nth_tree 1 f) (push 1 f s) → (target_path (tail_of f) ≡ true) × Spot L b (first_tree f) s
      go none z = absurd (some z)
      go (more x none) z = absurd (some z)
      go (more x (more (node k v g) f)) a = let y = fit_at w (node k v g) _ a e in (y.0, record { how = y.1 })

pub receiver_is : (f : Forest) → target_receiver f ≡ target_atom (head_kind (children_in (first_tree f))) && target_path (tail_of (children_in (first_tree f)))
receiver_is none = refl
receiver_is (more (node k v f) g) = refl

pub target_is : (m : Option Tree) → option_map_or is_target m false ≡ eqb (kind_in m) NodeKind.IdentifierPattern || ((eqb (kind_in m) NodeKind.AttributePattern || eqb (kind_in m) NodeKind.IndexPattern) && target_receiver (children_in m))
target_is None = refl
target_is (Some (node k v f)) = refl

-- ---------------------------------------------------------------- the function behind its target
pub no_function : (f : Forest) → (kind_in (first_tree (tail_of f)) ≡ NodeKind.FunctionDef → ⊥) → has_function f ≡ false
no_function none n = refl
no_function (more p none) n = refl
no_function (more p (more (node k v g) f)) n = rw (ne_eqb k NodeKind.FunctionDef n) (and-false (is_target p))

pub no_signature : (f : Forest) → first_tree (children_in (first_tree (tail_of f))) ≡ None → has_function f ≡ false
no_signature none n = refl
no_signature (more p none) n = refl
no_signature (more p (more (node k v none) f)) n = ap (λ b. is_target p && b) (and-false (eqb k NodeKind.FunctionDef)) ∙ and-false (is_target p)
no_signature (more p (more (node k v (more t g)) f)) n =
    let z : ◌≡◌ {A = ℕ} 0 1 = cc in
    absurd (omega arith)

-- a name is that of the target
name_same : (k v n : ℕ) → eqb n (cond (eqb k NodeKind.IdentifierPattern) (suc v) 0) ≡ gives_name k v n
unfolding gives_name name_is
name_same k v n = go (eqb k NodeKind.IdentifierPattern)
  where
    named : Dec (n ≡ 0) → Dec (n - 1 ≡ v) → eqb n (suc v) ≡ cond (eqb n 0) false (eqb (n - 1) v)
    named (yes z) d = rw (eq-eqb n 0 z, ne_eqb n (suc v) (λ e. omega arith))
    named (no z) (yes e) = rw (ne_eqb n 0 z, eq-eqb (n - 1) v e, eq-eqb n (suc v) (omega arith))
    named (no z) (no e) = rw (ne_eqb n 0 z, ne_eqb (n - 1) v e, ne_eqb n (suc v) (λ x. e (omega arith)))

    go : (b : Bool) → eqb n (cond b (suc v) 0) ≡ cond b (cond (eqb n 0) false (eqb (n - 1) v)) (eqb n 0)
    go true = named (ℕ_discrete n 0) (ℕ_discrete (n - 1) v)
    go false = refl

pub has_is : (f : Forest) → kind_in (first_tree (tail_of f)) ≡ NodeKind.FunctionDef → (first_tree (children_in (first_tree (tail_of f))) ≡ None → ⊥)
    → has_function f ≡ gives_name (kind_in (first_tree f)) (value_in (first_tree f)) (name_given f) && option_map_or is_target (first_tree f) false
has_is none e n = absurd (n refl)
has_is (more p none) e n = absurd (n refl)
has_is (more p (more (node k v none) f)) e n = absurd (n refl)
has_is (more (node k v h) (more (node j w (more (node a b c) d)) f)) e n = ap (λ (x : ℕ). is_target (node k v h) && (eqb x NodeKind.FunctionDef && eqb b (target_name (node k v h)))) e ∙ ap (λ x. is_target (node k v h) && x) (name_same k v b) ∙ and_comm (is_target (node k v h)) (gives_name k v b)

-- ---------------------------------------------------------------- the same of places: p is an assignment's, b its target's
-- the assignment's second child is a function whose signature has the name n, and its first child ends at b
pub record Behind (L : List ℕ) (p b n : ℕ) : Type 0 where
  pub target : (m : Option Tree) (s : List Tree) → Spot L p m s → Spot L b (kid_in 1 m) s
  pub name : Says L p (λ m. value_in (kid_in 1 (kid_in 2 m))) n
  pub form : (m : Option Tree) (s : List Tree) → Spot L p m s → has_function (children_in m) ≡ gives_name (kind_in (kid_in 1 m)) (value_in (kid_in 1 m)) n && option_map_or is_target (kid_in 1 m) false

-- the target's records end where those of the function begin, which begin with its signature's
pub behind : {L : List ℕ} {p q z b k n : ℕ} → KidOf L p 2 q → KidOf L q 1 z → Says L q kind_in k → k ≡ NodeKind.FunctionDef → (z ≡ 0 → ⊥) → Skipped L z b → Says L z value_in n → Behind L p b n
behind {L} {p} {q} {z} {b} {k} {n} function signature ke function_kind some skipped ne =
    record {
      target = λ m s h. go s m (signature.how (kid_in 2 m) (push 1 (children_in m) s) (function.how m s h)).how;
      name = name;
      form = λ m s h.
          has_is (children_in m) (sym ((of_kid function ke).how m s h) ∙ function_kind) (λ e. some (spot_zero e (signature.how _ _ (function.how m s h)))) ∙ rw (← name.how m s h);
    }
  where
    name : Says L p (λ m. value_in (kid_in 1 (kid_in 2 m))) n
    name = of_kid function (of_kid signature ne)

    go : (s : List Tree) (m : Option Tree) → SpotAs L z (kid_in 1 (kid_in 2 m)) (push 1 (children_in m) s) → Spot L b (kid_in 1 m) s
    go s None e = absurd (some e)
    go s (Some (node k v none)) e = absurd (some e)
    go s (Some (node k v (more t none))) e = absurd (some e)
    go s (Some (node k v (more t (more (node j w none) f)))) e = absurd (some e)
    go s (Some (node k v (more t (more (node j w (more y g)) f)))) a = record { how = skipped.how y (t ∷ s) a }

module _ {L : List ℕ} {p b n : ℕ} (w : Behind L p b n) where
  pub target_place : Somewhere L p → Somewhere L b
  target_place y = record { tree = kid_in 1 y.tree; rest = _; spot = w.target y.tree y.rest y.spot }

  module _ {g : Bool} (ge : Says L b (λ m. gives_name (kind_in m) (value_in m) n) g) where
    -- the name is not that of the target
    pub unnamed : g ≡ false → Says L p (λ m. function_form (children_in m)) 0
    unfolding function_form
    unnamed e = record { how = λ m s h. rw (w.form m s h, ← ge.how _ _ (w.target m s h), e) }

    -- it is: then by whether the target can be one, and by whether there is a name
    pub named : {r a z : Bool} → g ≡ true → Says L b (λ m. option_map_or is_target m false) r → a ≡ r → z ≡ eqb n 0 → Says L p (λ m. function_form (children_in m)) (cond a (cond z 1 2) 0)
    unfolding function_form
    named e t ae ze =
        record {
          how = λ m s h. let x = w.target m s h in rw (w.form m s h, ← ge.how _ _ x, e, ← t.how _ _ x, ae, ze, ← w.name.how m s h);
        }
