-- Laws of the entries that are kept: which stand, what they enclose, and one entry more. Assumes nothing.
use mathlib.Core.Path.{◌≡◌, refl, sym, ap, ◌∙◌}
use mathlib.Core.Bool.{Bool, true, false, true≢false, ◌||◌}
use mathlib.Core.List.{List, [], ◌∷◌}
use Prim.Native.Nat.{ℕ, zero, suc, ◌+◌, ◌*◌, ◌-◌, ◌≤◌, ◌<◌}
use native.Mathlib.Numerals.{add-one}
use native.Mathlib.Omega.{arith}
use lib.Dec.{eqb, ltb}
use lib.ListN.{length, get_or, set, length-set}
use lib.Seq.{get_or-set_same, get_or-set_other}
use borrow.Author.Tests.{lt-ltb, le-ltb, ltb-true, ltb-false, ne_eqb, eqb-false}
use Rattle.tree.specs.NodeKind
use Rattle.grammar.proofs.Laws.Facts.{by_test}
use Rattle.labels.specs.Offences.{Enclosing, any_serves, inside}
use Rattle.labels.specs.Entries.{Entry, held, around, standing, encloses, node_serves, Full, entered}

-- ---------------------------------------------------------------- the words that hold entries
pub length_held : (F : List ℕ) (n : ℕ) → length (held F n) ≡ n
unfolding held
length_held F zero = refl
length_held F (suc n) = ap suc (length_held F n)

pub held_last : (F : List ℕ) (n : ℕ) → 0 < n → held F n ≡ record { kind = get_or F (3 * (n - 1)) 0; label = get_or F (3 * (n - 1) + 1) 0; from = get_or F (3 * (n - 1) + 2) 0 } ∷ held F (n - 1)
unfolding held
held_last F zero l = absurd (omega arith)
held_last F (suc n) l =
    let e : suc n - 1 ≡ n = omega arith in
    rw e

pub held_none : (F : List ℕ) (n : ℕ) → n ≤ 0 → held F n ≡ []
unfolding held
held_none F n l =
    let e : n ≡ 0 = omega arith in
    rw e

-- words that are the same below the last entry's end hold the same
pub held_same : (F G : List ℕ) (n : ℕ) → ((i : ℕ) → i < 3 * n → get_or G i 0 ≡ get_or F i 0) → held G n ≡ held F n
unfolding held
held_same F G zero h = refl
held_same F G (suc n) h = rw (h (3 * n) (omega arith), h (3 * n + 1) (omega arith), h (3 * n + 2) (omega arith), held_same F G n (λ i l. h i (omega arith)))

-- what the test for room says
module _ (F : List ℕ) (n : ℕ) {b : Bool} (e : b ≡ ltb (length F - 3 * n) 3) where
  pub is_full : b ≡ true → Full (length F) (held F n)
  is_full t = omega (arith, length_held F n, ltb-true (length F - 3 * n) 3 (sym e ∙ t))

  pub has_room : b ≡ false → 3 * n + 3 ≤ length F
  has_room t = omega (arith, ltb-false (length F - 3 * n) 3 (sym e ∙ t))

-- one more is stored behind them
pub held_stored : (F : List ℕ) (n k l h : ℕ) → 3 * n + 3 ≤ length F → held (set (set (set F (3 * n) k) (3 * n + 1) l) (3 * n + 2) h) (n + 1) ≡ record { kind = k; label = l; from = h } ∷ held F n
unfolding held
held_stored F n k l h r =
    let A : List ℕ = set F (3 * n) k in
    let B : List ℕ = set A (3 * n + 1) l in
    let C : List ℕ = set B (3 * n + 2) h in
    let a : length A ≡ length F = length-set F (3 * n) k in
    let b : length B ≡ length A = length-set A (3 * n + 1) l in
    let kind : get_or C (3 * n) 0 ≡ k = get_or-set_other B (3 * n + 2) (3 * n) h 0 (λ e. omega arith) ∙ get_or-set_other A (3 * n + 1) (3 * n) l 0 (λ e. omega arith) ∙ get_or-set_same F (3 * n) k 0 (omega arith) in
    let label : get_or C (3 * n + 1) 0 ≡ l = get_or-set_other B (3 * n + 2) (3 * n + 1) h 0 (λ e. omega arith) ∙ get_or-set_same A (3 * n + 1) l 0 (omega arith) in
    let from : get_or C (3 * n + 2) 0 ≡ h = get_or-set_same B (3 * n + 2) h 0 (omega arith) in
    let others : held C n ≡ held F n = held_same F C n (λ i j. get_or-set_other B (3 * n + 2) i h 0 (λ e. omega arith) ∙ get_or-set_other A (3 * n + 1) i l 0 (λ e. omega arith) ∙ get_or-set_other F (3 * n) i k 0 (λ e. omega arith)) in
    rw (add-one n, kind, label, from, others)

-- ---------------------------------------------------------------- what a node encloses
-- a node of another kind encloses nothing
encloses_not : (k l : ℕ) (r : List Enclosing) → encloses k ≡ false → inside k l r ≡ r
unfolding encloses inside
encloses_not k l r e =
    by_test (eqb k NodeKind.Loop) (λ a. absurd (true≢false (rw a at e))) λ a.
    by_test (eqb k NodeKind.WhileLoop) (λ b. absurd (true≢false (rw (a, b) at e))) λ b.
    by_test (eqb k NodeKind.ForLoop) (λ c. absurd (true≢false (rw (a, b, c) at e))) λ c.
    by_test (eqb k NodeKind.Block) (λ d. absurd (true≢false (rw (a, b, c, d) at e))) λ d.
    by_test (eqb k NodeKind.FunctionDef) (λ f. absurd (true≢false (rw (a, b, c, d, f) at e))) λ f.
    rw (a, b, c, d, f)

-- what serves inside of a node: nothing in a function, else the node, or what encloses it
module _ (k l j m : ℕ) (r : List Enclosing) where
  pub none_serves : j ≡ NodeKind.FunctionDef → any_serves k l (inside j m r) ≡ false
  unfolding inside
  none_serves e = rw e

  serves_inside : (j ≡ NodeKind.FunctionDef → ⊥) → any_serves k l (inside j m r) ≡ node_serves k l j m || any_serves k l r
  unfolding inside node_serves
  serves_inside n =
      by_test (eqb j NodeKind.Loop) (λ a. rw a) λ a.
      by_test (eqb j NodeKind.WhileLoop) (λ b. rw (a, b)) λ b.
      by_test (eqb j NodeKind.ForLoop) (λ c. rw (a, b, c)) λ c.
      by_test (eqb j NodeKind.Block) (λ d. rw (a, b, c, d)) λ d.
      rw (a, b, c, d, ne_eqb j NodeKind.FunctionDef n)

  pub node_does : (j ≡ NodeKind.FunctionDef → ⊥) → node_serves k l j m ≡ true → any_serves k l (inside j m r) ≡ true
  node_does n e = serves_inside n ∙ rw e

  pub node_does_not : (j ≡ NodeKind.FunctionDef → ⊥) → node_serves k l j m ≡ false → any_serves k l (inside j m r) ≡ any_serves k l r
  node_does_not n e = serves_inside n ∙ rw e

-- ---------------------------------------------------------------- the entries that stand
pub standing_less : (i h : ℕ) → i ≤ h → (es : List Entry) → standing i (standing h es) ≡ standing i es
unfolding standing
standing_less i h l [] = refl
standing_less i h l (e ∷ es) =
    by_test (ltb h e.from)
    (λ t. rw (t, lt-ltb i e.from (omega (arith, ltb-true h e.from t))) (standing_less i h l es))
    (λ t. rw t)

pub standing_more : (i h : ℕ) → h ≤ i → (es : List Entry) → standing i (standing h es) ≡ standing h es
unfolding standing
standing_more i h l [] = refl
standing_more i h l (e ∷ es) =
    by_test (ltb h e.from)
    (λ t. rw t (standing_more i h l es))
    (λ t. rw (t, le-ltb i e.from (omega (arith, ltb-false h e.from t))))

-- the tree number i lies outside of the last entry
abbrev pub Outside : ℕ → List Entry → Type 0
Outside i [] = ⊥
Outside i (e ∷ es) = i < e.from

-- the last of h trees lies inside of the entries that stand round it, and so does what is further in
pub standing_inside : (i h : ℕ) → h ≤ i → (es : List Entry) → Outside i (standing h es) → ⊥
unfolding standing
standing_inside i h l [] o = o
standing_inside i h l (e ∷ es) o =
    by_test (ltb h e.from)
    (λ t. standing_inside i h l es (rw t at o))
    (λ t. omega (arith, ltb-false h e.from t, rw t at o))

-- ---------------------------------------------------------------- one entry more
module _ (m k l c h : ℕ) (es : List Entry) where
  pub entered_full : Full m es → entered m k l c h es ≡ es
  unfolding entered
  entered_full f =
      by_test (eqb c 0) (λ a. rw a) λ a.
      by_test (encloses k) (λ b. rw (a, b, lt-ltb (m - 3 * length es) 3 (omega arith))) λ b.
      rw (a, b)

  pub entered_none : c ≡ 0 → entered m k l c h es ≡ es
  unfolding entered
  entered_none e = rw e

  pub entered_not : encloses k ≡ false → entered m k l c h es ≡ es
  unfolding entered
  entered_not e = by_test (eqb c 0) (λ a. rw a) λ a. rw (a, e)

  pub entered_one : (c ≡ 0 → ⊥) → encloses k ≡ true → 3 * length es + 3 ≤ m → entered m k l c h es ≡ record { kind = k; label = l; from = h } ∷ es
  unfolding entered
  entered_one n e r = rw (ne_eqb c 0 n, e, le-ltb (m - 3 * length es) 3 (omega arith))

  -- a tree outside of it, where there is one, sees the others
  pub entered_outside : (i : ℕ) → (1 ≤ c → i < h) → standing i (entered m k l c h es) ≡ standing i es
  unfolding entered standing
  entered_outside i o =
      by_test (eqb c 0) (λ a. rw a) λ a.
      by_test (encloses k)
      (λ b. by_test (ltb (m - 3 * length es) 3) (λ d. rw (a, b, d)) λ d.
      let n : i < h = o (omega (arith, eqb-false c 0 a)) in
      rw (a, b, d, lt-ltb i h n))
      λ b. rw (a, b)

  -- its own last child sees it too
  pub entered_last : 1 ≤ c → (Full m es → ⊥) → standing h es ≡ es → around (standing h (entered m k l c h es)) ≡ inside k l (around es)
  unfolding entered standing around
  entered_last p f s =
      let a : eqb c 0 ≡ false = ne_eqb c 0 (omega arith) in
      by_test (encloses k)
      (λ b. by_test (ltb (m - 3 * length es) 3) (λ d. absurd (f (omega (arith, ltb-true (m - 3 * length es) 3 d)))) λ d.
      rw (a, b, d, le-ltb h h (omega arith)))
      λ b. rw (a, b, s) (sym (encloses_not k l (around es) b))
