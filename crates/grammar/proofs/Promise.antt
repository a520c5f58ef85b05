-- What document 01's table says of a reading call, of the definition `next_stmt`, which both entries are equal to. Assumes nothing.
-- Of any reader, any words and a store of m words the answer is, in this order:
-- 60, if the words are no whole tokens or over 65,536 tokens; 61, if the reader is not `Accepted`; the reader's stop, if it is stopped; the error that waited
-- longest, if one waits; 63, if the store has less than 16 words for each unread token; else what the reading of the unread part comes to.
-- `outcome` and `sole` say what each leaves, whole, and `sole_looks` the furthest token that it looks at too; `answers-..` say of each number when it is answered, in both
-- directions, of a reader whose array has 96 places, as every reader's has.
use Rattle.std.specs.Prelude.{◌≡◌, ◌↔◌, Bool, true, false, ◌&&◌, ◌||◌, List, [], ◌∷◌, ℕ, suc, ◌+◌, ◌-◌, ◌*◌, ◌/◌, ◌%◌, ◌≤◌, ◌<◌, eqb, ltb, length, take, drop}
use Rattle.std.proofs.Math.Path.{refl, subst}
use Rattle.std.proofs.Common.{sym, ap, ◌∙◌, true≢false, arith, length-take}
use Rattle.std.proofs.lemmas.Bool.{false≢true}
use borrow.Author.Tests.{eqb-true, eqb-false, ltb-true, ltb-false, lt-ltb, le-ltb, ne_eqb}
use Rattle.tree.specs.Tree.{Tree}
use Rattle.grammar.specs.Reading.Limit.{depth_limit, length_limit, queue_limit, store_share, malformed, too_deep, queue_full, bad_reader, short_store}
use Rattle.grammar.specs.Reading.Number
use Rattle.grammar.specs.Reading.Result.{Error, Res, ok, bad, fail, stop, ifb}
use Rattle.grammar.specs.Reading.Next.{next, kind_number, number, error_kind, is_error, is_stop, queue_fits, Accepted, Called, bare, halted, error_answer, called, answered, next_stmt}
use Rattle.grammar.specs.Reading.Looked.{looks, call_looks}
use Rattle.grammar.proofs.Laws.Facts.{and_l, and_r, or_true, not_true, apart, by_test}
use Rattle.grammar.proofs.Laws.Waits.{IsError, IsStop, All, a_cons, waits_none, n_fail, n_stop}
use Rattle.grammar.proofs.Laws.Top.{Top, t_end, t_num, covers_errors, next_numbers}
use Rattle.grammar.proofs.Laws.Returned.{fits_all}
use Rattle.grammar.specs.declared.Answer.TheVariants.{Stopped, Refused}
use Rattle.grammar.specs.declared.Reader.{Reader}

-- words that the length test passes: whole tokens, at most 65,536
pub record Sheet (T : List ℕ) : Type 0 where
  pub even : length T % 2 ≡ 0
  pub within : length T ≤ 2 * length_limit

-- a reader that is looked at further: nothing stands against its sheet or itself, and it is not stopped
pub record Going (T : List ℕ) (R : Reader) : Type 0 where
  pub sheet : Sheet T
  pub accepted : Accepted T R
  pub going : R.stopped ≡ 0

-- the words that a store must have
abbrev pub share : List ℕ → Reader → ℕ
share T R = store_share * (length T / 2 - R.position)

-- what the unread part is read to
abbrev pub reading : List ℕ → Reader → Res Tree
reading T R = next depth_limit [] (drop (2 * R.position) T)

-- what can be answered and left
pub data Outcome (R : Reader) (T : List ℕ) (m : ℕ) : Called → Type 0 where
  no_sheet : (Sheet T → ⊥) → Outcome R T m (halted m R.position malformed)
  no_reader : Sheet T → (Accepted T R → ⊥) → Outcome R T m (bare m (Refused bad_reader) R)
  stopped : Sheet T → Accepted T R → 0 < R.stopped → Outcome R T m (bare m (Stopped R.stopped) R)
  waited : Going T R → 0 < R.waiting → Outcome R T m (answered m R (take R.waiting R.errors))
  short : Going T R → R.waiting ≡ 0 → m < share T R → Outcome R T m (bare m (Refused short_store) R)
  reads : Going T R → R.waiting ≡ 0 → share T R ≤ m → Outcome R T m (called (length T / 2) m R.position (reading T R))

-- the furthest token that a call with this outcome looks at, as `call_looks` counts it
abbrev pub looked_at : {R : Reader} {T : List ℕ} {m : ℕ} {c : Called} → Outcome R T m c → ℕ
looked_at {T = T} (no_sheet n) = suc (length T / 2)
looked_at (no_reader s n) = 0
looked_at (stopped s a h) = 0
looked_at (waited g h) = 0
looked_at {T = T} (short g w l) = suc (length T / 2)
looked_at {R = R} {T = T} (reads g w l) = R.position + looks (next depth_limit []) (drop (2 * R.position) T)

-- ---------------------------------------------------------------- the tests say so
or_left : (a b : Bool) → a || b ≡ false → a ≡ false
or_left false b h = refl
or_left true b h = absurd (true≢false h)

or_right : (a b : Bool) → a || b ≡ false → b ≡ false
or_right false b h = h
or_right true b h = absurd (true≢false h)

abbrev too_long : List ℕ → Bool
too_long T = eqb (length T % 2) 1 || ltb (2 * length_limit) (length T)

abbrev past_range : List ℕ → Reader → Bool
past_range T R = ltb (length T / 2) R.position || ltb queue_limit R.waiting

abbrev well_made : Reader → Bool
well_made R = is_stop R.stopped && queue_fits R.waiting R.errors

sheet_is : (T : List ℕ) → too_long T ≡ false → Sheet T
sheet_is T x =
    let z = eqb-false (length T % 2) 1 (or_left (eqb (length T % 2) 1) (ltb (2 * length_limit) (length T)) x) in
    record { even = omega arith; within = ltb-false _ _ (or_right (eqb (length T % 2) 1) (ltb (2 * length_limit) (length T)) x) }

sheet_tested : {T : List ℕ} → Sheet T → too_long T ≡ false
sheet_tested {T} s = rw (ne_eqb (length T % 2) 1 (λ z. omega (arith, s.even)), le-ltb _ _ s.within)

accepted_is : (T : List ℕ) (R : Reader) → past_range T R ≡ false → well_made R ≡ true → Accepted T R
accepted_is T R x y =
    record {
      within = ltb-false _ _ (or_left (ltb (length T / 2) R.position) (ltb queue_limit R.waiting) x);
      few = ltb-false _ _ (or_right (ltb (length T / 2) R.position) (ltb queue_limit R.waiting) x);
      stops = and_l (is_stop R.stopped) (queue_fits R.waiting R.errors) y;
      queue = and_r (is_stop R.stopped) (queue_fits R.waiting R.errors) y;
    }

range_tested : {T : List ℕ} {R : Reader} → Accepted T R → past_range T R ≡ false
range_tested a = rw (le-ltb _ _ a.within, le-ltb _ _ a.few)

made_tested : {T : List ℕ} {R : Reader} → Accepted T R → well_made R ≡ true
made_tested a = rw (a.stops, a.queue)

-- ---------------------------------------------------------------- the call is one of these
not_false : (b : Bool) → (b ≡ false → ⊥) → b ≡ true
not_false true h = refl
not_false false h = absurd (h refl)

module _ (R : Reader) (T : List ℕ) (m : ℕ) where
  -- a call's answer, reader and store, and what it looks at, are those of any outcome that there can be
  pub sole_looks : {c : Called} (o : Outcome R T m c) → (next_stmt R T m ≡ c) × (call_looks R T m ≡ looked_at o)
  unfolding next_stmt call_looks ifb
  sole_looks (no_sheet n) = rw (not_false (too_long T) (λ x. n (sheet_is T x))) (refl, refl)
  sole_looks (no_reader s n) =
      by_test (past_range T R) (λ x. rw (sheet_tested s, x) (refl, refl)) λ x.
      rw (sheet_tested s, x, not_true (well_made R) (λ y. n (accepted_is T R x y))) (refl, refl)
  sole_looks (stopped s a h) = rw (sheet_tested s, range_tested a, made_tested a, lt-ltb 0 R.stopped h) (refl, refl)
  sole_looks (waited g h) =
      rw (sheet_tested g.sheet, range_tested g.accepted, made_tested g.accepted, le-ltb 0 R.stopped (omega (arith, g.going)), lt-ltb 0 R.waiting h) (refl, refl)
  sole_looks (short g w l) =
      rw (sheet_tested g.sheet, range_tested g.accepted, made_tested g.accepted, le-ltb 0 R.stopped (omega (arith, g.going)), le-ltb 0 R.waiting (omega (arith, w)), lt-ltb m (share T R) l)
      (refl, refl)
  sole_looks (reads g w l) =
      rw (sheet_tested g.sheet, range_tested g.accepted, made_tested g.accepted, le-ltb 0 R.stopped (omega (arith, g.going)), le-ltb 0 R.waiting (omega (arith, w)), le-ltb m (share T R) l)
      (refl, refl)

  pub sole : {c : Called} → Outcome R T m c → next_stmt R T m ≡ c
  sole o = (sole_looks o).0

  is : {c : Called} → Outcome R T m c → Outcome R T m (next_stmt R T m)
  is o = subst (Outcome R T m) (sym (sole o)) o

  -- behind the tests of sheet, reader and stop
  goes_on : Going T R → Outcome R T m (next_stmt R T m)
  goes_on g =
      by_test (ltb 0 R.waiting) (λ w. is (waited g (ltb-true 0 R.waiting w))) λ w.
      let z : R.waiting ≡ 0 = omega (arith, ltb-false) in
      by_test (ltb m (share T R)) (λ l. is (short g z (ltb-true m (share T R) l))) (λ l. is (reads g z (ltb-false m (share T R) l)))

  pub outcome : Outcome R T m (next_stmt R T m)
  outcome =
      by_test (too_long T) (λ x. is (no_sheet λ s. true≢false (sym x ∙ sheet_tested s))) λ x.
      let s = sheet_is T x in
      by_test (past_range T R) (λ y. is (no_reader s λ a. true≢false (sym y ∙ range_tested a))) λ y.
      by_test (well_made R)
      (λ z. let a = accepted_is T R y z in
      by_test (ltb 0 R.stopped) (λ h. is (stopped s a (ltb-true 0 R.stopped h))) (λ h. let l = ltb-false 0 R.stopped h in goes_on (record { sheet = s; accepted = a; going = omega arith })))
      (λ z. is (no_reader s λ a. true≢false (sym (made_tested a) ∙ z)))

-- ---------------------------------------------------------------- each number exactly in its case
-- nothing stands against reading: the unread part is read
pub record Ready (R : Reader) (T : List ℕ) (m : ℕ) : Type 0 where
  pub going : Going T R
  pub none_waits : R.waiting ≡ 0
  pub room : share T R ≤ m

-- a stop with the number k: 60 for the length; a reader that was stopped; a stop of the reading: 60 at a bad record, 62 as one reading more than `depth_limit` begins, 64 as a 97th error would wait
pub data StopCause (R : Reader) (T : List ℕ) (m k : ℕ) : Type 0 where
  length_stops : (Sheet T → ⊥) → k ≡ malformed → StopCause R T m k
  was_stopped : Sheet T → Accepted T R → R.stopped ≡ k → StopCause R T m k
  reading_stops : Ready R T m → reading T R ≡ stop k → StopCause R T m k

-- an error with the number e: the one that waited longest, or the one that the reading fails with
pub data ErrorCause (R : Reader) (T : List ℕ) (m : ℕ) (e : Error) : Type 0 where
  front_waits : Going T R → (q : List Error) → take R.waiting R.errors ≡ e ∷ q → ErrorCause R T m e
  reading_fails : Ready R T m → (q : List Error) (r : List ℕ) → reading T R ≡ fail e q r → ErrorCause R T m e

pub record ReaderCause (R : Reader) (T : List ℕ) : Type 0 where
  pub sheet : Sheet T
  pub not_accepted : Accepted T R → ⊥

pub record StoreCause (R : Reader) (T : List ℕ) (m : ℕ) : Type 0 where
  pub going : Going T R
  pub none_waits : R.waiting ≡ 0
  pub short : m < share T R

-- no number: a tree, perhaps with errors that wait behind it, or the end
pub data NoNumber (R : Reader) (T : List ℕ) (m : ℕ) : Type 0 where
  a_tree : Ready R T m → (t : Tree) (r : List ℕ) → reading T R ≡ ok t r → NoNumber R T m
  tree_then_errors : Ready R T m → (t : Tree) (q : List Error) (r : List ℕ) → reading T R ≡ bad t q r → NoNumber R T m
  the_end : Ready R T m → (q : List Error) (r : List ℕ) → reading T R ≡ fail Number.end q r → NoNumber R T m

-- what was answered, by its number
abbrev pub said : Called → ℕ
said c = number c.step.answer

data Told (R : Reader) (T : List ℕ) (m : ℕ) : ℕ → Type 0 where
  by_stop : {k : ℕ} → IsStop k → StopCause R T m k → Told R T m k
  by_error : {e : Error} → IsError e → ErrorCause R T m e → Told R T m e
  by_reader : ReaderCause R T → Told R T m bad_reader
  by_store : StoreCause R T m → Told R T m short_store
  by_none : NoNumber R T m → Told R T m 0

error_said : (e : Error) → kind_number (error_kind e) ≡ e
error_said e =
    by_test (eqb e Number.lexer_error) (λ x. rw x (sym (eqb-true _ _ x))) λ x.
    by_test (eqb e Number.end_of_tokens) (λ y. rw (x, y) (sym (eqb-true _ _ y))) (λ y. rw (x, y))

-- no number is both
error_no_stop : (n : ℕ) → IsError n → IsStop n → ⊥
error_no_stop n j s =
    let no : (k : ℕ) → is_error k ≡ false → eqb n k ≡ true → ⊥ = λ k h e. true≢false (sym j ∙ ap is_error (eqb-true n k e) ∙ h) in
    or_true (eqb n 0 || eqb n malformed || eqb n too_deep) _ s.0
    (λ a. or_true (eqb n 0 || eqb n malformed) _ a (λ b. or_true (eqb n 0) _ b (no 0 refl) (no malformed refl)) (no too_deep refl))
    (no queue_full refl)

front_error : {e : Error} {q : List Error} → All IsError (e ∷ q) → IsError e
front_error (a_cons j a) = j

module _ (R : Reader) (T : List ℕ) (m : ℕ) where
  told_reading : {X : List ℕ → Type 0} → Ready R T m → (d : Res Tree) → reading T R ≡ d → Top IsError X 0 [] d → Told R T m (said (called (length T / 2) m R.position d))
  unfolding error_answer ifb
  told_reading y (ok t r) x n = by_none (a_tree y t r x)
  told_reading y (bad t q r) x n = by_none (tree_then_errors y t q r x)
  told_reading y (fail e q r) x (t_end z) = by_none (the_end y q r x)
  told_reading y (fail e q r) x (t_num (n_fail j w)) =
      rw (apart is_error e 0 j refl, error_said e) (by_error j (reading_fails y q r x))
  told_reading y (stop k) x (t_num (n_stop s)) = by_stop s (reading_stops y x)

  -- where errors wait there is one at the front, since the array has places for all that can wait
  told_front : length R.errors ≡ queue_limit → Going T R → 0 < R.waiting → (q : List Error) → take R.waiting R.errors ≡ q → Told R T m (said (answered m R q))
  told_front f g h [] w = absurd (omega (arith, f, g.accepted.few, length-take R.waiting R.errors, ap length w))
  told_front f g h (e ∷ q) w = rw (error_said e) (by_error (front_error (rw w at (fits_all R.waiting R.errors g.accepted.queue))) (front_waits g q w))

  told : length R.errors ≡ queue_limit → {c : Called} → Outcome R T m c → Told R T m (said c)
  told f (no_sheet n) = by_stop {k = malformed} (refl, omega arith) (length_stops n refl)
  told f (no_reader s n) = by_reader (record { sheet = s; not_accepted = n })
  told f (stopped s a h) = by_stop (a.stops, h) (was_stopped s a refl)
  told f (waited g h) = told_front f g h _ refl
  told f (short g w l) = by_store (record { going = g; none_waits = w; short = l })
  told f (reads g w l) = let y : Ready R T m = record { going = g; none_waits = w; room = l } in told_reading y (reading T R) refl (next_numbers covers_errors _ 0 [] _ waits_none)

-- of a reader whose array has 96 places, as every reader's has
module _ (R : Reader) (f : length R.errors ≡ queue_limit) (T : List ℕ) (m : ℕ) where
  reading_said : {d : Res Tree} → Ready R T m → reading T R ≡ d → said (next_stmt R T m) ≡ said (called (length T / 2) m R.position d)
  reading_said y x = ap said (sole R T m (reads y.going y.none_waits y.room) ∙ ap (called (length T / 2) m R.position) x)

  -- the number 61
  pub answers_61 : (said (next_stmt R T m) ≡ bad_reader) ↔ ReaderCause R T
  answers_61 = (to (told R T m f (outcome R T m)), λ x. ap said (sole R T m (no_reader x.sheet x.not_accepted)))
    where
      to : {n : ℕ} → Told R T m n → n ≡ bad_reader → ReaderCause R T
      to (by_stop s x) e = absurd (false≢true (ap is_stop (sym e) ∙ s.0))
      to (by_error j x) e = absurd (false≢true (ap is_error (sym e) ∙ j))
      to (by_reader x) e = x
      to (by_store x) e = absurd (omega arith)
      to (by_none x) e = absurd (omega arith)

  -- the number 63
  pub answers_63 : (said (next_stmt R T m) ≡ short_store) ↔ StoreCause R T m
  answers_63 = (to (told R T m f (outcome R T m)), λ x. ap said (sole R T m (short x.going x.none_waits x.short)))
    where
      to : {n : ℕ} → Told R T m n → n ≡ short_store → StoreCause R T m
      to (by_stop s x) e = absurd (false≢true (ap is_stop (sym e) ∙ s.0))
      to (by_error j x) e = absurd (false≢true (ap is_error (sym e) ∙ j))
      to (by_reader x) e = absurd (omega arith)
      to (by_store x) e = x
      to (by_none x) e = absurd (omega arith)

  -- the numbers of stops: 60, 62, 64
  pub answers_stop : (k : ℕ) → IsStop k → (said (next_stmt R T m) ≡ k) ↔ StopCause R T m k
  answers_stop k i = (to (told R T m f (outcome R T m)), from)
    where
      to : {n : ℕ} → Told R T m n → n ≡ k → StopCause R T m k
      to (by_stop s x) e = subst (StopCause R T m) e x
      to (by_error j x) e = absurd (error_no_stop k (rw e at j) i)
      to (by_reader x) e = absurd (false≢true (ap is_stop e ∙ i.0))
      to (by_store x) e = absurd (false≢true (ap is_stop e ∙ i.0))
      to (by_none x) e = absurd (omega (arith, i.1))

      from : StopCause R T m k → said (next_stmt R T m) ≡ k
      from (length_stops n e) = ap said (sole R T m (no_sheet n)) ∙ sym e
      from (was_stopped s a e) = ap said (sole R T m (stopped s a (omega (arith, i.1)))) ∙ e
      from (reading_stops y e) = reading_said y e

  -- the numbers of errors: 1, 2, 10 to 52
  pub answers_error : (e : Error) → IsError e → (said (next_stmt R T m) ≡ e) ↔ ErrorCause R T m e
  unfolding error_answer ifb
  answers_error e i = (to (told R T m f (outcome R T m)), from)
    where
      to : {n : ℕ} → Told R T m n → n ≡ e → ErrorCause R T m e
      to (by_stop s x) z = absurd (error_no_stop e i (rw z at s))
      to (by_error j x) z = subst (ErrorCause R T m) z x
      to (by_reader x) z = absurd (false≢true (ap is_error z ∙ i))
      to (by_store x) z = absurd (false≢true (ap is_error z ∙ i))
      to (by_none x) z = absurd (false≢true (ap is_error z ∙ i))

      from : ErrorCause R T m e → said (next_stmt R T m) ≡ e
      from (front_waits g q w) = ap said (sole R T m (waited g (omega (arith, length-take R.waiting R.errors, ap length w)))) ∙ rw w (error_said e)
      from (reading_fails y q r x) = reading_said y x ∙ rw (apart is_error e 0 i refl) (error_said e)

  -- no number
  pub answers_none : (said (next_stmt R T m) ≡ 0) ↔ NoNumber R T m
  unfolding error_answer ifb
  answers_none = (to (told R T m f (outcome R T m)), from)
    where
      to : {n : ℕ} → Told R T m n → n ≡ 0 → NoNumber R T m
      to (by_stop s x) e = absurd (omega (arith, s.1))
      to (by_error j x) e = absurd (false≢true (ap is_error (sym e) ∙ j))
      to (by_reader x) e = absurd (omega arith)
      to (by_store x) e = absurd (omega arith)
      to (by_none x) e = x

      from : NoNumber R T m → said (next_stmt R T m) ≡ 0
      from (a_tree y t r x) = reading_said y x
      from (tree_then_errors y t q r x) = reading_said y x
      from (the_end y q r x) = reading_said y x
