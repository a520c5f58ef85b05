-- What encloses a tree by the words behind it is what encloses it in the tree above it: the offences of a tree's records are the tree's. Assumes nothing.
use Rattle.std.specs.Prelude.{◌≡◌, refl, true, false, List, [], ◌∷◌, ◌++◌, ℕ, suc, ◌+◌, ◌*◌, ◌-◌, ◌/◌, ◌%◌, ◌≤◌, ◌<◌, eqb, ltb, length, get_or, take, drop}
use Rattle.std.proofs.Common.{sym, ap, ◌∙◌, append_assoc, append-nil, arith, drop-cons}
use lib.Seq.{take-length}
use borrow.Author.Tests.{lt-ltb, le-ltb, ltb-true, ne_eqb, eqb-true}
use Rattle.tree.specs.Tree.{Tree, Forest, node, none, more, count, records, all_records}
use Rattle.tree.specs.Records.{Small, Smalls}
use Rattle.grammar.specs.Reading.Result.{ifb}
use Rattle.grammar.proofs.Laws.Facts.{by_test}
use Rattle.std.specs.declared.option.Option.{Option}
use Rattle.labels.specs.declared.Offence.{Offence}
use Rattle.labels.specs.Offences.{Enclosing, inside, offences, all_offences}
use Rattle.labels.specs.Behind.{further, is_last, enclosing, behind}

-- ---------------------------------------------------------------- one record further
module _ (w v : ℕ) (x : List ℕ) where
  -- its children are all behind the tree
  pub passed : (h : ℕ) → w / 256 < h → enclosing h (w ∷ v ∷ x) ≡ enclosing (h - w / 256 + 1) x
  unfolding enclosing ifb is_last further
  passed h l =
      by_test (eqb h 1)
      (λ o. rw (o, le-ltb 0 (w / 256) (omega (arith, eqb-true h 1 o)), lt-ltb (w / 256) h l))
      λ o. rw (o, lt-ltb (w / 256) h l)

  -- the tree is its last child
  pub last_child : 1 ≤ w / 256 → enclosing 1 (w ∷ v ∷ x) ≡ inside (w % 256) v (enclosing 1 x)
  unfolding enclosing ifb is_last
  last_child l = rw (lt-ltb 0 (w / 256) l)

  -- the tree is another child
  pub other_child : (h : ℕ) → h ≤ w / 256 → 1 < h → enclosing h (w ∷ v ∷ x) ≡ enclosing 1 x
  unfolding enclosing ifb is_last further
  other_child h l m = rw (ne_eqb h 1 (omega arith), le-ltb (w / 256) h l)

  pub above : (h : ℕ) → is_last (w / 256) h ≡ true → enclosing h (w ∷ v ∷ x) ≡ inside (w % 256) v (enclosing 1 x)
  unfolding enclosing ifb
  above h e = rw e

  pub on : (h : ℕ) → is_last (w / 256) h ≡ false → enclosing h (w ∷ v ∷ x) ≡ enclosing (further (w / 256) h) x
  unfolding enclosing ifb
  on h e = rw e

pub further_bounds : (n h : ℕ) → 1 ≤ h → (1 ≤ further n h) × (further n h ≤ h + 1)
unfolding further
further_bounds n h l = by_test (ltb n h) (λ t. rw t (omega (arith, ltb-true n h t), omega arith)) λ t. rw t (omega arith, omega arith)

-- no record is left
pub none_left : (h : ℕ) (x : List ℕ) → length x ≤ 1 → enclosing h x ≡ []
unfolding enclosing
none_left h [] l = refl
none_left h (w ∷ []) l = refl
none_left h (w ∷ v ∷ x) l = absurd (omega arith)

-- a record of some words, and what stands behind it
pub two_words : (L : List ℕ) (q : ℕ) → q + 2 ≤ length L → drop q L ≡ get_or L q 0 ∷ get_or L (q + 1) 0 ∷ drop (q + 2) L
two_words L q l =
    let a : q < length L = omega arith in
    let b : suc q < length L = omega arith in
    let c : q + 1 ≡ suc q = omega arith in
    let d : q + 2 ≡ suc (suc q) = omega arith in
    rw (c, d) (drop-cons L q 0 a ∙ ap (λ (y : List ℕ). get_or L q 0 ∷ y) (drop-cons L (suc q) 0 b))

-- the words behind a first record
abbrev pub after : List ℕ → List ℕ
after L = take (length L - 2) (drop 2 L)

pub first_two : (L : List ℕ) → 2 ≤ length L → (L ≡ get_or L 0 0 ∷ get_or L 1 0 ∷ after L) × (length (after L) + 2 ≡ length L)
first_two [] l = absurd (omega arith)
first_two (w ∷ []) l = absurd (omega arith)
first_two (w ∷ v ∷ x) l =
    let n : suc (suc (length x)) - 2 ≡ length x = omega arith in
    (rw (n, take-length x), rw (n, take-length x) (omega arith))

-- ---------------------------------------------------------------- one tree further
mutual
  unfolding records count Small

  over_tree : (t : Tree) → Small t → (h : ℕ) (x : List ℕ) → 1 ≤ h → enclosing h (records t ++ x) ≡ enclosing (h + 1) x
  over_tree (node k v f) = λ s h x l.
      let w : ℕ = k + 256 * count f in
      let many : w / 256 ≡ count f = omega (arith, s.0) in
      let n : h + count f - w / 256 + 1 ≡ h + 1 = omega arith in
      rw append_assoc (over_trees f s.1 h (w ∷ v ∷ x) l ∙ passed w v x (h + count f) (omega arith) ∙ ap (λ (i : ℕ). enclosing i x) n)

  over_trees : (f : Forest) → Smalls f → (h : ℕ) (x : List ℕ) → 1 ≤ h → enclosing h (all_records f ++ x) ≡ enclosing (h + count f) x
  over_trees none = λ s h x l.
      let n : h + 0 ≡ h = omega arith in
      rw n
  over_trees (more t f) = λ s h x l.
      let n : h + 1 + count f ≡ h + suc (count f) = omega arith in
      rw append_assoc (over_tree t s.0 h (all_records f ++ x) l ∙ over_trees f s.1 (h + 1) x (omega arith) ∙ ap (λ (i : ℕ). enclosing i x) n)

-- ---------------------------------------------------------------- the offences of a tree's records
mutual
  unfolding records count Small behind offences

  behind_tree : (t : Tree) → Small t → (x : List ℕ) → behind (records t ++ x) ≡ offences (enclosing 1 x) t ++ behind x
  behind_tree (node k v f) = λ s x.
      let w : ℕ = k + 256 * count f in
      let kind : w % 256 ≡ k = omega (arith, s.0) in
      let many : w / 256 ≡ count f = omega (arith, s.0) in
      rw (append_assoc, append_assoc) (behind_trees f s.1 w v x (omega arith) ∙ rw kind)

  behind_trees : (f : Forest) → Smalls f → (w v : ℕ) (x : List ℕ) → count f ≤ w / 256
      → behind (all_records f ++ w ∷ v ∷ x) ≡ all_offences (enclosing 1 x) (inside (w % 256) v (enclosing 1 x)) f ++ behind (w ∷ v ∷ x)
  behind_trees none = λ s w v x l. refl
  behind_trees (more t none) = λ s w v x l. rw append_assoc (behind_tree t s.0 (w ∷ v ∷ x) ∙ rw (last_child w v x (omega arith)))
  behind_trees (more t (more u f)) = λ s w v x l.
      let X : List ℕ = w ∷ v ∷ x in
      let e = over_trees (more u f) s.1 1 X (omega arith) ∙ other_child w v x (1 + count (more u f)) (omega arith) (omega arith) in
      ap behind (append_assoc (records t) (all_records (more u f)) X) ∙ behind_tree t s.0 (all_records (more u f) ++ X)
      ∙ ap (λ (r : List Enclosing). offences r t ++ behind (all_records (more u f) ++ X)) e
      ∙ ap (λ (y : List (Option Offence)). offences (enclosing 1 x) t ++ y) (behind_trees (more u f) s.1 w v x (omega arith))
      ∙ sym (append_assoc (offences (enclosing 1 x) t) (all_offences (enclosing 1 x) (inside (w % 256) v (enclosing 1 x)) (more u f)) (behind X))

-- of all records of one tree
pub behind_records : (t : Tree) → Small t → behind (records t) ≡ offences [] t
unfolding enclosing behind
behind_records t s = ap behind (sym (append-nil (records t))) ∙ behind_tree t s [] ∙ append-nil (offences [] t)
