-- Validity node by node: what is asked of each child and each node, and all nodes from the first to the last. Assumes nothing.
use mathlib.Core.Path.{◌≡◌, refl, sym, ap, ◌∙◌, subst}
use mathlib.Core.Bool.{Bool, true, false, not, ◌&&◌, ◌||◌, and-true, and-false, and_assoc, and_comm}
use mathlib.Core.List.{List, [], ◌∷◌}
use Prim.Native.Nat.{ℕ, zero, suc, ◌+◌, ◌-◌, ◌≤◌, ◌<◌}
use native.Mathlib.Omega.{arith}
use lib.Dec.{eqb}
use lib.ListN.{length}
use Rattle.std.specs.Prelude.{Some}
use Rattle.std.specs.Option.{option_map_or}
use Rattle.tree.specs.Tree.{Tree, Forest, node, none, more}
use Rattle.tree.specs.Records.{stack_records, back}
use Rattle.tables.specs.Demand.{demand, fits}
use Rattle.tables.specs.Kinds.{unlabelled, closed}
use Rattle.tables.specs.Sound.{sound}
use Rattle.tables.specs.Class as Class
use Rattle.writer.specs.Stack.{At}
use Rattle.tables.specs.Children.{kind_in, count_in, value_in, children_in}
use Rattle.tables.specs.Check.{class_of, mode_of, begins_labelled, ends_single, banned, kids_fit, node_fits, all_fit, all_fits, legal_tree}
use Rattle.writer.proofs.Laws.{pop, at_many, at_length}
use Rattle.writer.proofs.Kids.{from_first}

-- ---------------------------------------------------------------- one child
not_or : (a b : Bool) → not (a || b) ≡ not a && not b
not_or true b = refl
not_or false b = refl

-- by what was asked in turn: the class, how it begins, how it ends
pub kid_is : (t : Tree) (asked k v : ℕ) {c : ℕ} {g a b : Bool} → c ≡ class_of t → g ≡ fits asked c → a ≡ unlabelled k v && begins_labelled t
    → b ≡ not (closed k) && option_map_or ends_single (Some t) false → g && (not a && not b) ≡ fits asked (class_of t) && not (banned k v t)
kid_is t asked k v {a = a} {b = b} ce ge ae be = rw (← not_or a b, ge, ae, be, ce)

-- ---------------------------------------------------------------- one node
abbrev pub kid_test : ℕ → ℕ → ℕ → ℕ → Tree → Bool
kid_test k v m j t = fits (demand k v m j) (class_of t) && not (banned k v t)

pub kids_all : (k v m : ℕ) (f : Forest) (j : ℕ) → kids_fit k v m j f ≡ from_first (kid_test k v m) j f
unfolding kids_fit from_first
kids_all k v m none j = refl
kids_all k v m (more t f) j = ap (λ b. kid_test k v m j t && b) (kids_all k v m f (suc j))

module _ (t : Tree) {k v n : ℕ} (ke : k ≡ kind_in (Some t)) (ve : v ≡ value_in (Some t)) (ne : n ≡ count_in (Some t)) where
  pub node_unsound : sound k v n ≡ false → node_fits t ≡ false
  node_unsound e = go t ke ve ne
    where
      go : (t : Tree) → k ≡ kind_in (Some t) → v ≡ value_in (Some t) → n ≡ count_in (Some t) → node_fits t ≡ false
      go (node k' v' f) ke ve ne = rw (← ke, ← ve, ← ne, e)

  pub node_sound : {m : ℕ} → sound k v n ≡ true → m ≡ mode_of (kind_in (Some t)) (children_in (Some t)) → node_fits t ≡ kids_fit (kind_in (Some t)) (value_in (Some t)) m 1 (children_in (Some t))
  node_sound {m} e = go t ke ve ne
    where
      go : (t : Tree) → k ≡ kind_in (Some t) → v ≡ value_in (Some t) → n ≡ count_in (Some t) → m ≡ mode_of (kind_in (Some t)) (children_in (Some t)) → node_fits t ≡ kids_fit (kind_in (Some t)) (value_in (Some t)) m 1 (children_in (Some t))
      go (node k' v' f) ke ve ne me = rw (← me, ← ke, ← ve, ← ne, e)

-- ---------------------------------------------------------------- all nodes, from the first: the stacks on the way to the root
unfoldable pub stack_fits : List Tree → Bool
stack_fits [] = true
stack_fits (t ∷ s) = all_fit t && stack_fits s

stack_back : (f : Forest) (s : List Tree) → stack_fits (back f s) ≡ all_fits f && stack_fits s
unfolding stack_fits all_fit back
stack_back none s = refl
stack_back (more t f) s = stack_back f (t ∷ s) ∙ sym (and_assoc (all_fits f) (all_fit t) (stack_fits s)) ∙ rw (and_comm (all_fits f) (all_fit t))

stack_node : (k v : ℕ) (f : Forest) (s : List Tree) → stack_fits (node k v f ∷ s) ≡ node_fits (node k v f) && stack_fits (back f s)
unfolding stack_fits all_fit
stack_node k v f s = and_assoc (node_fits (node k v f)) (all_fits f) (stack_fits s) ∙ ap (λ b. node_fits (node k v f) && b) (sym (stack_back f s))

pub data Way (L : List ℕ) (T : Tree) : ℕ → List Tree → Type 0 where
  there : At L (length L) (T ∷ []) → Way L T (length L) (T ∷ [])
  on : {p k v : ℕ} {f : Forest} {s : List Tree} → At L (p + 2) (node k v f ∷ s) → At L p (back f s) → Way L T (p + 2) (node k v f ∷ s) → Way L T p (back f s)

pub way_at : {L : List ℕ} {T : Tree} {p : ℕ} {s : List Tree} → Way L T p s → At L p s
way_at (there a) = a
way_at (on a b w) = b

-- from the root back to where there is no tree
way_back : {L : List ℕ} {T : Tree} (n p : ℕ) (s : List Tree) → p ≤ n → At L p s → Way L T p s → (u : List Tree) × Way L T 0 u × At L 0 u
unfolding stack_records
way_back {L} {T} zero p s h a w =
    let e : p ≡ 0 = omega arith in
    (s, subst (λ (x : ℕ). Way L T x s) e w, subst (λ (x : ℕ). At L x s) e a)
way_back {L} {T} (suc n) zero s h a w = (s, w, a)
way_back {L} {T} (suc n) (suc p) [] h a w = absurd (omega (arith, at_length a))
way_back {L} {T} (suc n) (suc p) (node k v f ∷ s) h a w =
    let x = pop a in
    let t = x.two in
    let e : suc p ≡ suc p - 2 + 2 = omega arith in
    way_back n (suc p - 2) (back f s) (omega arith) x.under (on (subst (λ (z : ℕ). At L z (node k v f ∷ s)) e a) x.under (subst (λ (z : ℕ). Way L T z (node k v f ∷ s)) e w))

way_false : {L : List ℕ} {T : Tree} {p : ℕ} {s : List Tree} → Way L T p s → stack_fits s ≡ false → stack_fits (T ∷ []) ≡ false
way_false (there a) e = e
way_false (on {k = k} {v = v} {f = f} {s = s} a b w) e = way_false w (stack_node k v f s ∙ rw (e, and-false (node_fits (node k v f))))

-- where the pass stands: all nodes up to p fit
pub record Passed (L : List ℕ) (T : Tree) (p : ℕ) : Type 0 where
  pub stack : List Tree
  pub way : Way L T p stack
  pub good : stack_fits stack ≡ true

-- the node behind the trees that stand
pub record Next (L : List ℕ) (T : Tree) (p : ℕ) (stack : List Tree) : Type 0 where
  pub kind : ℕ
  pub value : ℕ
  pub kids : Forest
  pub rest : List Tree
  pub is : stack ≡ back kids rest
  pub at : At L (p + 2) (node kind value kids ∷ rest)
  pub bad : node_fits (node kind value kids) ≡ false → stack_fits (T ∷ []) ≡ false
  pub fits : node_fits (node kind value kids) ≡ true → (x : Passed L T (p + 2)) × (x.stack ≡ node kind value kids ∷ rest)

pub passed_start : {L : List ℕ} {T : Tree} → At L (length L) (T ∷ []) → Passed L T 0
unfolding stack_fits
passed_start {L} {T} a =
    let x = way_back (length L) (length L) (T ∷ []) (omega arith) a (there a) in
    record { stack = x.0; way = x.1; good = empty x.0 x.2 }
  where
    empty : (u : List Tree) → At L 0 u → stack_fits u ≡ true
    empty [] b = refl
    empty (t ∷ u) b = absurd (omega (arith, at_many b))

pub passed_next : {L : List ℕ} {T : Tree} {p : ℕ} (w : Passed L T p) → p < length L → Next L T p w.stack
passed_next {L} {T} {p} w h = go w.way w.good h
  where
    go : {p : ℕ} {s : List Tree} → Way L T p s → stack_fits s ≡ true → p < length L → Next L T p s
    go (there a) e h = absurd (omega arith)
    go (on {p = q} {k = k} {v = v} {f = f} {s = s} a b x) e h =
        record {
          kind = k;
          value = v;
          kids = f;
          rest = s;
          is = refl;
          at = a;
          bad = λ g. way_false x (stack_node k v f s ∙ rw g);
          fits = λ g. (record { stack = node k v f ∷ s; way = x; good = stack_node k v f s ∙ rw (g, e) }, refl);
        }

pub passed_end : {L : List ℕ} {T : Tree} {p : ℕ} → Passed L T p → length L ≤ p → stack_fits (T ∷ []) ≡ true
passed_end {L} {T} {p} w h = go w.way w.good h
  where
    go : {p : ℕ} {s : List Tree} → Way L T p s → stack_fits s ≡ true → length L ≤ p → stack_fits (T ∷ []) ≡ true
    go (there a) e h = e
    go (on a b x) e h = absurd (omega (arith, a.inside))

-- ---------------------------------------------------------------- the whole
pub whole_bad : (t : Tree) → stack_fits (t ∷ []) ≡ false → legal_tree t ≡ false
unfolding legal_tree stack_fits
whole_bad t e =
    let a : all_fit t ≡ false = sym (and-true (all_fit t)) ∙ e in
    rw a

pub whole_good : (t : Tree) {c : ℕ} → stack_fits (t ∷ []) ≡ true → c ≡ class_of t → legal_tree t ≡ eqb c Class.Statement
unfolding legal_tree stack_fits
whole_good t e ce =
    let a : all_fit t ≡ true = sym (and-true (all_fit t)) ∙ e in
    rw (a, ce)
