-- Words that read cleanly at the depth limit to some trees and then the end: calls on them answer these, and nothing else (`clean_reads`, `clean_only`); and words
-- that are read without a fault read cleanly (`faultless`). Assumes nothing.
use Rattle.std.specs.Prelude.{◌≡◌, Bool, length, take, replicate}
use Rattle.std.proofs.Math.Path.{refl, sym, ap, subst}
use Rattle.std.proofs.Common.{◌∙◌, true≢false, arith, eqb-true}
use Rattle.std.proofs.Math.Bool.{true, false}
use Rattle.std.proofs.lemmas.Bool.{false≢true}
use mathlib.Core.List.{List, [], ◌∷◌, ◌++◌}
use Prim.Native.Nat.{ℕ, ◌-◌, ◌*◌, ◌/◌}
use Rattle.std.proofs.Math.Dec.{eqb}
use Rattle.std.proofs.Math.Seq.{take-append_seam}
use Rattle.tree.specs.Tree.{Tree, Forest, none, more, records}
use Rattle.tree.specs.Records.{records_length}
use Rattle.grammar.specs.Reading.Limit.{depth_limit, store_share}
use Rattle.grammar.specs.Reading.Result.{Error, Res, ok, bad, fail, stop, ifb}
use Rattle.grammar.specs.Reading.Next.{error_answer, error_kind, reader_at, Called, called, next_stmt, next}
use Rattle.grammar.proofs.Laws.Top.{bad_waits}
use Rattle.grammar.proofs.Promise.{Outcome, no_sheet, no_reader, stopped as was_stopped, waited, short, reads, outcome}
use Rattle.grammar.specs.declared.Answer.TheVariants.{Error as AError, End}
use Rattle.grammar.specs.declared.Reader.{Reader}
use Rattle.agreement.specs.Calls.{unread}
use Rattle.agreement.specs.Answers.{Seen, tree, error, stopped, refused, end, seen, Roomy, seen_of, is_last, Reads, last, then, NoFault, no_answer, a_tree, an_end, answers_of}
use Rattle.agreement.proofs.Laws.Step.{Before, call_is, before_next}

-- the words ts read cleanly to these trees
pub data Clean : List ℕ → Forest → Type 0 where
  c_end : {ts r : List ℕ} {q : List Error} → next depth_limit [] ts ≡ fail 0 q r → Clean ts none
  c_tree : {ts r : List ℕ} {t : Tree} {f : Forest} → next depth_limit [] ts ≡ ok t r → Clean r f → Clean ts (more t f)

-- what is seen of a tree is its records
pub seen_tree : (m : ℕ) (t : Tree) → tree (take (2 * (length (records t) / 2)) (records t ++ replicate (m - length (records t)) 0)) ≡ tree (records t)
seen_tree m t =
    let e : 2 * (length (records t) / 2) ≡ length (records t) = let z = records_length t in omega arith in
    ap tree (rw e (take-append_seam (records t) (replicate (m - length (records t)) 0)))

-- what is seen of a call that reads the words ts
data Told (ts : List ℕ) : Seen → Type 0 where
  told_tree : {t : Tree} {r ws : List ℕ} → next depth_limit [] ts ≡ ok t r → ws ≡ records t → Told ts (tree ws)
  told_bad : {t : Tree} {q : List Error} {r ws : List ℕ} → next depth_limit [] ts ≡ bad t q r → Told ts (tree ws)
  told_end : {q : List Error} {r : List ℕ} → next depth_limit [] ts ≡ fail 0 q r → Told ts end
  told_error : {n : ℕ} → Told ts (error n)
  told_stopped : {n : ℕ} → Told ts (stopped n)

-- words that were read without a fault: the trees, and that they were answered
pub record Faultless (ts : List ℕ) (xs : List Seen) : Type 0 where
  pub trees : Forest
  pub clean : Clean ts trees
  pub answered : xs ≡ answers_of trees

abbrev is_fault : Seen → Bool
is_fault (tree ws) = false
is_fault (error n) = true
is_fault (stopped n) = true
is_fault (refused n) = true
is_fault end = false

fault : {a : Seen} {xs : List Seen} → NoFault (a ∷ xs) → is_fault a ≡ true → ⊥
fault (a_tree g) e = false≢true e
fault (an_end g) e = false≢true e

module _ {T : List ℕ} where
  -- the call that reads the words ts
  pub step_is : {ts : List ℕ} {R : Reader} (m : ℕ) {d : Res Tree} → Before T R ts → Roomy T R m → next depth_limit [] ts ≡ d → next_stmt R T m ≡ called (length T / 2) m R.position d
  step_is {R = R} m b h e = call_is m b h ∙ ap (called (length T / 2) m R.position) e

  -- calls on words that read cleanly give the trees and then the end, and nothing else
  pub clean_reads : {ts : List ℕ} {R : Reader} {f : Forest} → Clean ts f → Before T R ts → Reads T R (answers_of f)
  unfolding answers_of error_answer ifb
  clean_reads {R = R} (c_end e) b =
      let m : ℕ = store_share * (length T / 2 - R.position) in
      last {R = R} m (omega arith) (ap seen_of (step_is m b (omega arith) e)) refl
  clean_reads {R = R} (c_tree {t = t} {f = f} e c) b =
      let m : ℕ = store_share * (length T / 2 - R.position) in
      let s = step_is m b (omega arith) e in
      then {R = R} m (omega arith) (ap seen_of s ∙ seen_tree m t) refl (subst (λ x. Reads T x.step.reader (answers_of f)) (sym s) (clean_reads c (before_next b e)))

  pub clean_only : {ts : List ℕ} {R : Reader} {f : Forest} {xs : List Seen} → Clean ts f → Before T R ts → Reads T R xs → xs ≡ answers_of f
  unfolding answers_of error_answer ifb
  clean_only (c_end e) b (last m h i l) = ap (λ a. a ∷ []) (sym i ∙ ap seen_of (step_is m b h e))
  clean_only (c_end e) b (then m h i l n) = absurd (true≢false (ap is_last (sym (ap seen_of (step_is m b h e)) ∙ i) ∙ l))
  clean_only (c_tree {t = t} e c) b (last m h i l) = absurd (true≢false (sym l ∙ ap is_last (sym i ∙ ap seen_of (step_is m b h e) ∙ seen_tree m t)))
  clean_only (c_tree {r = r} {t = t} {f = f} e c) b (then {a = a} {xs = ys} m h i l n) =
      let s = step_is m b h e in
      let x : a ≡ tree (records t) = sym i ∙ ap seen_of s ∙ seen_tree m t in
      let y : ys ≡ answers_of f = clean_only c (before_next b e) (subst (λ x. Reads T x.step.reader ys) s n) in
      cc

  told : {ts : List ℕ} {R : Reader} {a : Seen} (m : ℕ) → Before T R ts → Roomy T R m → seen_of (next_stmt R T m) ≡ a → Told ts a
  unfolding error_answer ifb
  told {ts} {R} {a} m b h i = subst (Told ts) (sym (ap seen_of (call_is m b h)) ∙ i) (go (next depth_limit [] ts) refl)
    where
      go : (d : Res Tree) → next depth_limit [] ts ≡ d → Told ts (seen_of (called (length T / 2) m R.position d))
      go (ok t r) e = subst (Told ts) (sym (seen_tree m t)) (told_tree e refl)
      go (bad t q r) e = told_bad e
      go (fail n q r) e = at_fail (eqb n 0) refl
        where
          at_fail : (c : Bool) → eqb n 0 ≡ c → Told ts (seen (ifb c (λ _. End) (λ _. AError (error_kind n))) (replicate m 0))
          at_fail true z = told_end (e ∙ ap (λ x. fail x q r) (eqb-true n 0 z))
          at_fail false z = told_error
      go (stop k) e = told_stopped

  -- a call without a fault was made on a sheet of whole tokens within the limit, with nothing waiting
  faultless_call : (p : ℕ) (q : List Error) {m : ℕ} {c : Called} {xs : List Seen} → Outcome (reader_at p q) T m c → NoFault (seen_of c ∷ xs) → Before T (reader_at p q) (unread T (reader_at p q))
  faultless_call p q (no_sheet n) g = absurd (fault g refl)
  faultless_call p q (no_reader s n) g = absurd (fault g refl)
  faultless_call p q (was_stopped s a h) g = absurd (fault g refl)
  faultless_call p [] (waited y h) g = absurd (omega arith)
  faultless_call p (e ∷ q) (waited y h) g = absurd (fault g refl)
  faultless_call p q (short y w l) g = absurd (fault g refl)
  faultless_call p q (reads y w l) g = record { going = y; none_waits = w; left = refl }

  pub faultless_before : (p : ℕ) (q : List Error) {xs : List Seen} → Reads T (reader_at p q) xs → NoFault xs → Before T (reader_at p q) (unread T (reader_at p q))
  faultless_before p q (last m w i k) g = faultless_call p q (outcome (reader_at p q) T m) (subst (λ a. NoFault (a ∷ [])) (sym i) g)
  faultless_before p q (then {xs = xs} m w i k r) g = faultless_call p q (outcome (reader_at p q) T m) (subst (λ a. NoFault (a ∷ xs)) (sym i) g)

  -- answers without a fault are those of a clean reading
  pub faultless : {ts : List ℕ} {R : Reader} {xs : List Seen} → Reads T R xs → NoFault xs → Before T R ts → Faultless ts xs
  unfolding answers_of
  faultless (last m h i l) (an_end no_answer) b = ended (told m b h i)
    where
      ended : {ts : List ℕ} → Told ts end → Faultless ts (end ∷ [])
      ended (told_end e) = record { trees = none; clean = c_end e; answered = refl }
  faultless (last m h i l) (a_tree g) b = absurd (true≢false (sym l))
  faultless (then m h i l n) (an_end g) b = absurd (true≢false l)
  faultless {ts} {R} (then {xs = ys} m h i l n) (a_tree {ws = ws} g) b =
      step (told m b h i) λ t r e. faultless {ts = r} (subst (λ x. Reads T x.step.reader ys) (step_is m b h e) n) g (before_next b e)
    where
      not_bad : {t : Tree} {q : List Error} {r : List ℕ} → next depth_limit [] ts ≡ bad t q r → ⊥
      not_bad {q = q} e = omega (arith, bad_waits depth_limit ts e, (faultless_before _ q (subst (λ c. Reads T c.step.reader ys) (step_is m b h e) n) g).none_waits)

      step : Told ts (tree ws) → ((t : Tree) (r : List ℕ) → next depth_limit [] ts ≡ ok t r → Faultless r ys) → Faultless ts (tree ws ∷ ys)
      step (told_tree {t = t} {r = r} e z) k = let f = k t r e in record { trees = more t f.trees; clean = c_tree e f.clean; answered = cc f.answered }
      step (told_bad e) k = absurd (not_bad e)
