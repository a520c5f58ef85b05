-- Calls from a reader in which only errors J wait, where J holds of each error that can be met, answer only errors J, and leave only such errors waiting. Assumes nothing.
use Rattle.std.specs.Prelude.{◌≡◌, refl, ℕ, length}
use Rattle.std.proofs.Common.{sym, ap, ◌∙◌, subst}
use Rattle.std.proofs.lemmas.Bool.{false≢true}
use mathlib.Core.List.Memᴰ
use mathlib.Core.List.{List, [], Memᴰ}
use Rattle.tree.specs.Tree.{Tree}
use Rattle.grammar.specs.Reading.Limit.{depth_limit, queue_limit}
use Rattle.grammar.specs.Reading.Result.{Error, fail}
use Rattle.grammar.specs.Reading.Next.{fresh, waiting_in, Accepted, Called, next_stmt}
use Rattle.grammar.proofs.Laws.Waits.{IsError, All, a_nil, a_cons, Waits, waits_none, waits_front, n_fail}
use Rattle.grammar.proofs.Laws.Top.{Covers, Top, t_end, t_num, next_numbers}
use Rattle.grammar.proofs.Laws.Returned.{fresh_accepted, returned_accepted, returned_whole, returned_waits}
use Rattle.grammar.proofs.Promise.{ErrorCause, front_waits, reading_fails, said, answers_error}
use Rattle.grammar.specs.declared.Reader.{Reader}
use Rattle.agreement.specs.Calls.{Call, Gives, Run, no_call, a_call, unread}
use Rattle.agreement.proofs.Laws.Calls.{given_is}

-- a reader that 61 does not refuse, with 96 places for errors, in which only errors J wait
pub record Only (J : Error → Type 0) (T : List ℕ) (R : Reader) : Type 0 where
  accepted : Accepted T R
  whole : length R.errors ≡ queue_limit
  pub waits : Waits J 0 (waiting_in R)

pub only_fresh : {J : Error → Type 0} (T : List ℕ) → Only J T fresh
only_fresh T = record { accepted = fresh_accepted T; whole = refl; waits = waits_none }

-- what waits is J
pub one_of : {J : Error → Type 0} {q : List Error} {e : Error} → All J q → Memᴰ e q → J e
one_of a_nil m = absurd (Memᴰ.not-nil m)
one_of {J} (a_cons j a) (Memᴰ.head x) = subst J (sym x) j
one_of (a_cons j a) (Memᴰ.tail m) = one_of a m

-- what a reading fails with is J, but for the end
fails_with : {J : Error → Type 0} {X : List ℕ → Type 0} {e : Error} {q : List Error} {r : List ℕ} → IsError e → Top {A = Tree} J X 0 [] (fail e q r) → J e
fails_with i (t_end x) = absurd (false≢true i)
fails_with i (t_num (n_fail j w)) = j

module _ {J : Error → Type 0} (M : Covers J) {T : List ℕ} where
  only_next : {R : Reader} (c : Call) (g : Called) → Gives c.entry R T c.store g → Only J T R → Only J T g.step.reader
  only_next {R} c g k h =
      let m : ℕ = length c.store in
      let a = h.accepted in
      rw (given_is c.entry R T c.store g k) (record { accepted = returned_accepted R T m a; whole = returned_whole R T m a h.whole; waits = returned_waits M R T m a h.waits })

  -- an error that is answered waited, or the reading failed with it
  caused : {R : Reader} {m : ℕ} {e : Error} → IsError e → Only J T R → ErrorCause R T m e → J e
  caused i h (front_waits g q w) = (waits_front (subst (Waits J 0) w h.waits)).0
  caused {R} i h (reading_fails y q r x) = fails_with i (rw x at (next_numbers M depth_limit 0 [] (unread T R) waits_none))

  answers_met : {R : Reader} (m : ℕ) {e : Error} → IsError e → Only J T R → said (next_stmt R T m) ≡ e → J e
  answers_met {R} m {e} i h x = caused i h ((answers_error R h.whole T m e i).0 x)

  pub run_only : {R S : Reader} {cs : List Call} {gs : List Called} → Only J T R → Run T R cs gs S → Only J T S
  run_only h no_call = h
  run_only h (a_call {c = c} {g = g} k r) = run_only (only_next c g k h) r

  pub run_met : {R S : Reader} {cs : List Call} {gs : List Called} → Only J T R → Run T R cs gs S → (g : Called) → Memᴰ g gs → {e : Error} → IsError e → said g ≡ e → J e
  run_met h no_call g m i x = absurd (Memᴰ.not-nil m)
  run_met {R} h (a_call {c = c} {g = first} k r) g (Memᴰ.head e) i x = answers_met (length c.store) i h (ap said (sym (given_is c.entry R T c.store first k)) ∙ ap said (sym e) ∙ x)
  run_met h (a_call {c = c} {g = first} k r) g (Memᴰ.tail m) i x = run_met (only_next c first k h) r g m i x
