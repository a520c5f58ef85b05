-- The readers that a call returns: the given one, one with errors that wait, or a stopped one. So error 61 does not refuse a returned reader where it did not
-- refuse the given one: `returned_accepted`, `returned_whole`. Where only errors that can be met wait in the given one, they do in it: `returned_waits`. Assumes nothing.
use Rattle.std.specs.Prelude.{◌≡◌, refl, Bool, true, false, List, [], ◌∷◌, ◌++◌, ℕ, zero, suc, ◌-◌, ◌≤◌, ◌/◌, eqb, length, take, replicate}
use Rattle.std.proofs.lemmas.Bool.{false≢true}
use Rattle.std.proofs.Common.{sub-le, arith, eqb-true, length-append, length-take, take_at}
use Rattle.std.proofs.lemmas.List.{length-replicate}
use Rattle.tree.specs.Tree.{Tree}
use Rattle.grammar.specs.Reading.Limit.{queue_limit}
use Rattle.grammar.specs.Reading.Result.{Error, Res, ifb}
use Rattle.grammar.specs.Reading.Next.{is_error, queue_fits, pad, reader_at, fresh, waiting_in, Accepted, Called, called, answered, next_stmt}
use Rattle.grammar.specs.declared.Reader.{Reader}
use Rattle.grammar.proofs.Laws.Facts.{if_both}
use Rattle.grammar.proofs.Laws.Waits.{IsError, IsStop, All, a_nil, a_cons, Waits, waits_none, waits_front, n_ok, n_bad, n_fail, n_stop}
use Rattle.grammar.proofs.Laws.Top.{Covers, Top, t_end, t_num, covers_errors, next_numbers}

-- a queue in its array fits, and what fits is a queue

zeros_fit : (n : ℕ) → queue_fits zero (replicate n 0) ≡ true
unfolding queue_fits ifb
zeros_fit zero = refl
zeros_fit (suc n) = zeros_fit n

pad_fits : {q : List Error} (n : ℕ) → All IsError q → queue_fits (length q) (q ++ replicate n 0) ≡ true
unfolding queue_fits ifb
pad_fits n a_nil = zeros_fit n
pad_fits n (a_cons j a) = rw j (pad_fits n a)

both : (b c : Bool) → ifb b (λ u. c) (λ u. false) ≡ true → (b ≡ true) × (c ≡ true)
unfolding ifb
both true c h = (refl, h)
both false c h = absurd (false≢true h)

pub zeros_are : (es : List ℕ) → queue_fits zero es ≡ true → es ≡ replicate (length es) 0
unfolding queue_fits
zeros_are [] h = refl
zeros_are (e ∷ es) h =
    let (j, k) = both (eqb e 0) _ h in
    let x : e ≡ 0 = eqb-true e 0 j in
    let y : es ≡ replicate (length es) 0 = zeros_are es k in
    cc

pub fits_all : (w : ℕ) (es : List ℕ) → queue_fits w es ≡ true → All IsError (take w es)
unfolding queue_fits
fits_all zero es h = a_nil
fits_all (suc w) [] h = a_nil
fits_all (suc w) (e ∷ es) h = let (j, k) = both (is_error e) _ h in a_cons j (fits_all w es k)

-- the reader of a new sheet
pub fresh_accepted : (T : List ℕ) → Accepted T fresh
unfolding queue_fits ifb
fresh_accepted T = record { within = omega arith; few = omega arith; stops = refl; queue = refl }

-- the readers that a call returns where R was given, if errors J can be met
pub data Returned (J : Error → Type 0) (T : List ℕ) (R : Reader) : Reader → Type 0 where
  as_given : Returned J T R R
  waiting_at : (p : ℕ) (q : List Error) → p ≤ length T / 2 → Waits J 0 q → Returned J T R (reader_at p q)
  stopped_at : (n : ℕ) → IsStop n → Returned J T R (record { position = R.position; waiting = 0; errors = pad []; stopped = n })

abbrev Leaves : (Error → Type 0) → List ℕ → Reader → Called → Type 0
Leaves J T R c = Returned J T R c.step.reader

called_leaves : {J : Error → Type 0} {X : List ℕ → Type 0} {T : List ℕ} {R : Reader} (m : ℕ) {d : Res Tree} → Top J X 0 [] d → Leaves J T R (called (length T / 2) m R.position d)
called_leaves m (t_end x) = waiting_at _ _ (sub-le _ _) waits_none
called_leaves m (t_num n_ok) = waiting_at _ _ (sub-le _ _) waits_none
called_leaves m (t_num (n_bad w l)) = waiting_at _ _ (sub-le _ _) w
called_leaves m (t_num (n_fail j w)) = waiting_at _ _ (sub-le _ _) w
called_leaves m (t_num (n_stop s)) = stopped_at _ s

answered_leaves : {J : Error → Type 0} {T : List ℕ} {R : Reader} (m : ℕ) (q : List Error) → Accepted T R → Waits J 0 q → Leaves J T R (answered m R q)
answered_leaves m [] f w = as_given
answered_leaves m (e ∷ q) f w = waiting_at _ q f.within (waits_front w).1

given_waits : {T : List ℕ} {R : Reader} → Accepted T R → Waits IsError 0 (waiting_in R)
given_waits {R} f = record { errors = fits_all _ _ f.queue; few = omega (arith, length-take R.waiting R.errors); many = omega arith }

pub returned : {J : Error → Type 0} → Covers J → (R : Reader) (T : List ℕ) (m : ℕ) → Accepted T R → Waits J 0 (waiting_in R) → Returned J T R (next_stmt R T m).step.reader
unfolding next_stmt
returned {J} M R T m f w =
    if_both (Leaves J T R) _ (λ u. stopped_at _ (refl, omega arith)) λ u.
    if_both (Leaves J T R) _ (λ u. as_given) λ u.
    if_both (Leaves J T R) _
    (λ u. if_both (Leaves J T R) _ (λ u. as_given) λ u.
    if_both (Leaves J T R) _ (λ u. answered_leaves m _ f w) λ u.
    if_both (Leaves J T R) _ (λ u. as_given) λ u.
    called_leaves m (next_numbers M _ 0 [] _ waits_none))
    (λ u. as_given)

-- what is returned

accepted_returned : {T : List ℕ} {R S : Reader} → Accepted T R → Returned IsError T R S → Accepted T S
accepted_returned f as_given = f
accepted_returned f (waiting_at p q h w) = record { within = h; few = w.few; stops = refl; queue = pad_fits (queue_limit - length q) w.errors }
accepted_returned f (stopped_at n s) = record { within = f.within; few = omega arith; stops = s.0; queue = zeros_fit queue_limit }

pub returned_accepted : (R : Reader) (T : List ℕ) (m : ℕ) → Accepted T R → Accepted T (next_stmt R T m).step.reader
returned_accepted R T m f = accepted_returned f (returned covers_errors R T m f (given_waits f))

whole_returned : {J : Error → Type 0} {T : List ℕ} {R S : Reader} → length R.errors ≡ queue_limit → Returned J T R S → length S.errors ≡ queue_limit
whole_returned h as_given = h
whole_returned h (waiting_at p q l w) =
    let zeros : List ℕ = replicate (queue_limit - length q) 0 in
    let n : length zeros ≡ queue_limit - length q = length-replicate _ _ in
    omega (arith, w.few, length-append q zeros, n)
whole_returned h (stopped_at n s) = refl

pub returned_whole : (R : Reader) (T : List ℕ) (m : ℕ) → Accepted T R → length R.errors ≡ queue_limit → length (next_stmt R T m).step.reader.errors ≡ queue_limit
returned_whole R T m f h = whole_returned h (returned covers_errors R T m f (given_waits f))

waits_returned : {J : Error → Type 0} {T : List ℕ} {R S : Reader} → Waits J 0 (waiting_in R) → Returned J T R S → Waits J 0 (waiting_in S)
waits_returned w as_given = w
waits_returned w (waiting_at p q h v) = rw (take_at q (replicate (queue_limit - length q) 0) (length q) refl) v
waits_returned w (stopped_at n s) = waits_none

pub returned_waits : {J : Error → Type 0} → Covers J → (R : Reader) (T : List ℕ) (m : ℕ) → Accepted T R → Waits J 0 (waiting_in R) → Waits J 0 (waiting_in (next_stmt R T m).step.reader)
returned_waits M R T m f w = waits_returned w (returned M R T m f w)
