-- What document 02 says of the check, of the definition `check_labels`, which `check_labels` is equal to. Assumes nothing.
-- Of any words the answer is, in this order:
-- 65 with the record number 0, exactly if no tokens' clean reading, limits aside, gives a tree with these records, so exactly where the writer answers 65;
-- the number of an offence and the number of its record, exactly if that record offends and none before it in store order does: 67 if it has a label, 68 if it has none;
-- else that nothing is wrong.
use Rattle.std.specs.Prelude.{◌≡◌, ◌↔◌, true, List, [], ◌∷◌, ℕ, zero, suc, ◌+◌, ◌*◌, ◌%◌, ◌<◌, get_or, Option, Some, None}
use Rattle.std.proofs.Math.Path.{refl}
use Rattle.std.proofs.Common.{sym, ap, ◌∙◌, subst, true≢false, arith}
use Rattle.tree.specs.Tree.{Tree, records}
use Rattle.tree.specs.Decode.{decode}
use Rattle.grammar.specs.Reading.Limit.{no_statement}
use Rattle.grammar.specs.Reading.Result.{ifb}
use Rattle.grammar.specs.Canonical.Writing.{readable, write_stmt}
use Rattle.grammar.proofs.Laws.Facts.{not_true, by_test}
use Rattle.grammar.specs.Given.{Given}
use Rattle.grammar.proofs.Laws.Small.{valid_small}
use Rattle.writer.specs.Promise.{said, answers_65 as writer_answers_65, given_valid, readable_given, given_decoded, decoded_given}
use Rattle.std.specs.declared.result.Result.TheVariants.{Ok, Err}
use Rattle.std.proofs.lemmas.Option.{none-some, same_Some}
use Rattle.labels.specs.declared.Offence.{Offence}
use Rattle.labels.specs.declared.Offence.TheVariants.{Labelled, Unlabelled}
use Rattle.labels.specs.declared.Refusal.TheVariants.{NoStatement, Offends}
use Rattle.labels.specs.Offences.{Enclosing, Labels, any_serves, is_jump, offender, offence, offences, first, check_labels, offence_number, number}
use Rattle.labels.specs.Behind.{enclosing, behind}
use Rattle.labels.proofs.Words.{behind_records}

-- the record number i of a tree offends so, and none before it in store order does
pub record First (t : Tree) (i : ℕ) (o : Offence) : Type 0 where
  pub offends : get_or (offences [] t) i None ≡ Some o
  pub before : (j : ℕ) → j < i → get_or (offences [] t) j None ≡ None

-- none does
abbrev pub Clean : Tree → Type 0
Clean t = (i : ℕ) → get_or (offences [] t) i None ≡ None

-- what can be answered
pub data Outcome (words : List ℕ) : Labels → Type 0 where
  not_given : (Given words → ⊥) → Outcome words (Err NoStatement)
  offends : (g : Given words) {i : ℕ} {o : Offence} → First g.tree i o → Outcome words (Err (Offends o i))
  fine : (g : Given words) → Clean g.tree → Outcome words (Ok tt)

-- ---------------------------------------------------------------- the first of some offences
pub data FirstAs (k : ℕ) (os : List (Option Offence)) : Labels → Type 0 where
  one : {o : Offence} (i : ℕ) → get_or os i None ≡ Some o → ((j : ℕ) → j < i → get_or os j None ≡ None) → FirstAs k os (Err (Offends o (k + i)))
  none : ((i : ℕ) → get_or os i None ≡ None) → FirstAs k os (Ok tt)

-- one record more in front, which does not offend
module _ (k : ℕ) (os : List (Option Offence)) where
  below : (i : ℕ) → ((j : ℕ) → j < i → get_or os j None ≡ None) → (j : ℕ) → j < suc i → get_or (None ∷ os) j None ≡ None
  below i b zero l = refl
  below i b (suc j) l = b j (omega arith)

  anywhere : ((j : ℕ) → get_or os j None ≡ None) → (j : ℕ) → get_or (None ∷ os) j None ≡ None
  anywhere b zero = refl
  anywhere b (suc j) = b j

  later : {a : Labels} → FirstAs (suc k) os a → FirstAs k (None ∷ os) a
  later (one {o} i h b) =
      let z : k + suc i ≡ suc k + i = omega arith in
      subst (λ (x : ℕ). FirstAs k (None ∷ os) (Err (Offends o x))) z (one (suc i) h (below i b))
  later (none h) = none (anywhere h)

first_is : (k : ℕ) (os : List (Option Offence)) → FirstAs k os (first k os)
unfolding first
first_is k [] = none (λ i. refl)
first_is k (None ∷ os) = later k os (first_is (suc k) os)
first_is k (Some o ∷ os) =
    let z : k + 0 ≡ k = omega arith in
    subst (λ (x : ℕ). FirstAs k (Some o ∷ os) (Err (Offends o x))) z (one 0 refl (λ j l. absurd (omega arith)))

-- there is no other
first_one : (k : ℕ) (os : List (Option Offence)) (i : ℕ) (o : Offence) → get_or os i None ≡ Some o → ((j : ℕ) → j < i → get_or os j None ≡ None) → first k os ≡ Err (Offends o (k + i))
unfolding first
first_one k [] i o h b = absurd (none-some _ h)
first_one k (m ∷ os) zero o h b =
    let z : k + 0 ≡ k = omega arith in
    rw (z, h)
first_one k (m ∷ os) (suc i) o h b =
    let z : k + suc i ≡ suc k + i = omega arith in
    rw (z, b 0 (omega arith)) (first_one (suc k) os i o h (λ j l. b (suc j) (omega arith)))

first_none : (k : ℕ) (os : List (Option Offence)) → ((i : ℕ) → get_or os i None ≡ None) → first k os ≡ Ok tt
unfolding first
first_none k [] h = refl
first_none k (m ∷ os) h = rw (h 0) (first_none (suc k) os (λ i. h (suc i)))

-- ---------------------------------------------------------------- the answer is one of these
module _ (words : List ℕ) where
  checked_given : (g : Given words) → check_labels words ≡ first 0 (offences [] g.tree)
  unfolding check_labels ifb
  checked_given g = rw (given_decoded g, readable_given g)

  not_given_is : (Given words → ⊥) → check_labels words ≡ Err NoStatement
  unfolding check_labels ifb
  not_given_is n = go (decode words) refl
    where
      go : (d : Option Tree) → decode words ≡ d → check_labels words ≡ Err NoStatement
      go None d = rw d
      go (Some t) d = rw (d, not_true (readable t) (λ r. n (decoded_given d r)))

  -- the check's answer is that of any outcome that there can be
  pub sole : {a : Labels} → Outcome words a → check_labels words ≡ a
  sole (not_given n) = not_given_is n
  sole (offends g {i} {o} f) =
      let z : 0 + i ≡ i = omega arith in
      checked_given g ∙ first_one 0 (offences [] g.tree) i o f.offends f.before ∙ rw z
  sole (fine g h) = checked_given g ∙ first_none 0 (offences [] g.tree) h

  is : {a : Labels} → Outcome words a → Outcome words (check_labels words)
  is o = subst (Outcome words) (sym (sole o)) o

  given_outcome : (g : Given words) {a : Labels} → FirstAs 0 (offences [] g.tree) a → Outcome words (check_labels words)
  given_outcome g (one i h b) = is (offends g {i = i} (record { offends = h; before = b }))
  given_outcome g (none h) = is (fine g h)

  pub outcome : Outcome words (check_labels words)
  outcome = go (decode words) refl
    where
      go : (d : Option Tree) → decode words ≡ d → Outcome words (check_labels words)
      go None e = is (not_given (λ g. absurd (none-some _ (sym e ∙ given_decoded g))))
      go (Some t) e =
          by_test (readable t)
          (λ r. let g = decoded_given e r in given_outcome g (first_is 0 (offences [] g.tree)))
          (λ r. is (not_given (λ g. true≢false (sym (readable_given g) ∙ ap readable (same_Some _ _ (sym (given_decoded g) ∙ e)) ∙ r))))

-- ---------------------------------------------------------------- the record that is answered
-- it is a break or a continue, and the offence says whether it has a label
pub record Points (words : List ℕ) (i : ℕ) (o : Offence) : Type 0 where
  pub jump : is_jump (get_or words (2 * i) 0 % 256) ≡ true
  pub label : o ≡ offender (get_or words (2 * i + 1) 0)

offence_says : (r : List Enclosing) (k l : ℕ) {o : Offence} → offence r k l ≡ Some o → (is_jump k ≡ true) × (o ≡ offender l)
unfolding offence
offence_says r k l {o} e =
    by_test (is_jump k)
    (λ j. by_test (any_serves k l r) (λ a. absurd (none-some _ (sym (rw (j, a)) ∙ e))) λ a. let s : Some o ≡ Some (offender l) = sym e ∙ rw (j, a) in (j, cc))
    (λ j. absurd (none-some _ (sym (rw j) ∙ e)))

behind_at : (L : List ℕ) (i : ℕ) {o : Offence} → get_or (behind L) i None ≡ Some o → Points L i o
unfolding behind
behind_at [] i e = absurd (none-some _ e)
behind_at (w ∷ []) i e = absurd (none-some _ e)
behind_at (w ∷ v ∷ r) zero e = let o = offence_says (enclosing 1 r) (w % 256) v e in record { jump = o.0; label = o.1 }
behind_at (w ∷ v ∷ r) (suc i) e =
    let p = behind_at r i e in
    let a : 2 * suc i ≡ suc (suc (2 * i)) = omega arith in
    let b : 2 * suc i + 1 ≡ suc (suc (2 * i + 1)) = omega arith in
    record { jump = rw a p.jump; label = rw b p.label }

pub points_at : {words : List ℕ} (g : Given words) {i : ℕ} {o : Offence} → First g.tree i o → Points words i o
points_at g {i} {o} f = subst (λ (L : List ℕ). Points L i o) g.text (behind_at (records g.tree) i (ap (λ (os : List (Option Offence)). get_or os i None) (behind_records g.tree (valid_small (given_valid g))) ∙ f.offends))

-- ---------------------------------------------------------------- each number exactly in its case
-- a statement whose first offender's offence has this number; one of which none offends
pub record Offending (words : List ℕ) (n : ℕ) : Type 0 where
  pub given : Given words
  pub at : ℕ
  pub offence : Offence
  pub first : First given.tree at offence
  pub number : offence_number offence ≡ n

pub record Sound (words : List ℕ) : Type 0 where
  pub given : Given words
  pub none : Clean given.tree

above : (o : Offence) → no_statement < offence_number o
above Labelled = omega arith
above Unlabelled = omega arith

module _ (words : List ℕ) where
  pub answers_65 : (number (check_labels words) ≡ no_statement) ↔ (Given words → ⊥)
  answers_65 = (to (outcome words), λ n. ap number (sole words (not_given n)))
    where
      to : {a : Labels} → Outcome words a → number a ≡ no_statement → Given words → ⊥
      to (not_given n) e = n
      to (offends g {o = o} f) e = absurd (omega (arith, above o))
      to (fine g h) e = absurd (omega arith)

  -- so exactly where the writer answers 65, whatever its output
  pub as_the_writer : (m : ℕ) → (number (check_labels words) ≡ no_statement) ↔ (said (write_stmt words m) ≡ no_statement)
  as_the_writer m = ((λ e. (writer_answers_65 words m).1 (answers_65.0 e)), λ e. answers_65.1 ((writer_answers_65 words m).0 e))

  -- 67 and 68
  pub answers_offence : (n : ℕ) → no_statement < n → (number (check_labels words) ≡ n) ↔ Offending words n
  answers_offence n l = (to (outcome words), λ o. ap number (sole words (offends o.given o.first)) ∙ o.number)
    where
      to : {a : Labels} → Outcome words a → number a ≡ n → Offending words n
      to (not_given z) e = absurd (omega arith)
      to (offends g {i} {o} f) e = record { given = g; at = i; offence = o; first = f; number = e }
      to (fine g h) e = absurd (omega arith)

  pub answers_none : (number (check_labels words) ≡ 0) ↔ Sound words
  answers_none = (to (outcome words), λ o. ap number (sole words (fine o.given o.none)))
    where
      to : {a : Labels} → Outcome words a → number a ≡ 0 → Sound words
      to (not_given z) e = absurd (omega arith)
      to (offends g {o = o} f) e = absurd (omega (arith, above o))
      to (fine g h) e = record { given = g; none = h }
