-- Beside the theorem: every call takes a token, hands over an error that waited, or says end, a stop's number or a refusal's (`each_call`); 61 refuses exactly the
-- readers that are not `Accepted` (`accepted_exact`); from any reader that 61 does not refuse, with stores that are long enough, an end or a stop comes within a number
-- of calls that is stated (`bounded`, `comes`); a call on a stopped reader answers its number again and leaves the reader as it was, and no call makes a stopped reader
-- go on (`stopped_again`, `stays_stopped`); a call that is refused changes nothing but the store, which is zero (`refused_changes_nothing`); and what C links is the call
-- on the kept reader, and the writer, with the answer as two numbers (`exported_reads`, `exported_writes`). Assumes nothing.
use Rattle.std.specs.Prelude.{◌≡◌, refl, ◌≢◌, ◌↔◌, List, ℕ, zero, suc, ◌*◌, ◌-◌, ◌/◌, ◌≤◌, ◌<◌, length}
use Rattle.std.proofs.Common.{sym, ap, ◌∙◌, true≢false, arith, length-take}
use Rattle.std.proofs.lemmas.Bool.{false≢true}
use Rattle.grammar.specs.Reading.Limit.{store_share, bad_reader}
use Rattle.grammar.specs.Reading.Next.{number, Accepted, Called, bare, next_stmt}
use Rattle.grammar.specs.Canonical.Writing.{write_stmt}
use Rattle.grammar.specs.Flat.{flat_answer, flat_written}
use Rattle.grammar.specs.Contract.{Leaves, Exports, Writes, ExportsWriting}
use Rattle.grammar.proofs.Laws.Returned.{returned_accepted}
use Rattle.grammar.proofs.Promise.{Sheet, Outcome, no_sheet, no_reader, stopped, waited, short, reads, outcome, sole}
use Rattle.grammar.specs.declared.Answer.{Answer}
use Rattle.grammar.specs.declared.Answer.TheVariants.{Stopped, Refused}
use Rattle.grammar.specs.declared.Flat.{Flat}
use Rattle.grammar.specs.declared.Reader.{Reader}
use Rattle.grammar.specs.declared.Written.{Written}
use Rattle.agreement.specs.Calls.{Entry, Gives, Does, takes_tree, takes_error, hands_over, ends, stops, refuses_reader, refuses_store}
use Rattle.agreement.specs.Answers.{Seen, is_last, is_refused, Reads, last, then}
use Rattle.agreement.proofs.Laws.Does.{does}
use Rattle.agreement.specs.Corollaries.{left_over, Falls, stands, refuses, falls, Comes, Unchanged}
use Rattle.agreement.proofs.Laws.Calls.{given_is, given_does, refused_same}

-- what every call does, of any reader on any sheet with any store: by the definition it is `does` (Laws/Does.antt)
pub each_call : (entry : Entry) (R : Reader) (T S : List ℕ) (g : Called) → Gives entry R T S g → Does T R (length S) g
each_call entry R T S g k = given_does entry R T S g k

-- a sheet of an odd number of words, or too long, is stopped with 60 before the reader is looked at
pub accepted_exact : {T : List ℕ} {R : Reader} (m : ℕ) → Sheet T → ((next_stmt R T m).step.answer ≢ Refused bad_reader) ↔ Accepted T R
accepted_exact {T} {R} m s = ((λ n. passed (outcome R T m) n), λ a. other a (does R T m))
  where
    passed : {c : Called} → Outcome R T m c → c.step.answer ≢ Refused bad_reader → Accepted T R
    passed (no_sheet x) n = absurd (x s)
    passed (no_reader y x) n = absurd (n refl)
    passed (stopped y a h) n = a
    passed (waited g h) n = g.accepted
    passed (short g w l) n = g.accepted
    passed (reads g w l) n = g.accepted

    other : {c : Called} → Accepted T R → Does T R m c → c.step.answer ≢ Refused bad_reader
    other a (takes_tree h) e = false≢true (ap is_refused e)
    other a (takes_error h) e = false≢true (ap is_refused e)
    other a (hands_over h) e = false≢true (ap is_refused e)
    other a ends e = false≢true (ap is_refused e)
    other a stops e = false≢true (ap is_refused e)
    other a (refuses_reader n) e = n a
    other a (refuses_store x h) e = omega (arith, ap number e)

falls_by : {T : List ℕ} {R : Reader} {m : ℕ} {c : Called} → Accepted T R → Accepted T c.step.reader → Does T R m c → Falls T R m c
falls_by a s (takes_tree h) = falls refl (omega (arith, s.within, s.few))
falls_by a s (takes_error h) = falls refl (omega (arith, s.within, s.few))
falls_by {R = R} a s (hands_over h) = falls refl (omega (arith, length-take R.waiting R.errors, ap length h))
falls_by a s ends = stands refl
falls_by a s stops = stands refl
falls_by a s (refuses_reader n) = absurd (n a)
falls_by a s (refuses_store x l) = refuses refl l

-- every call of an accepted reader
pub progress : {T : List ℕ} {R : Reader} (m : ℕ) → Accepted T R → Falls T R m (next_stmt R T m)
progress {T} {R} m a = falls_by a (returned_accepted R T m a) (does R T m)

-- the number of calls to the first end or stop
pub bounded : {T : List ℕ} {R : Reader} {xs : List Seen} → Accepted T R → Reads T R xs → length xs ≤ suc (left_over T R)
bounded a (last m h i l) = omega arith
bounded {T} {R} a (then {xs = ys} m h i l n) = go (bounded (returned_accepted R T m a) n) (progress m a)
  where
    go : length ys ≤ suc (left_over T (next_stmt R T m).step.reader) → Falls T R m (next_stmt R T m) → suc (length ys) ≤ suc (left_over T R)
    go k (stands z) = absurd (true≢false (sym z ∙ ap is_last i ∙ l))
    go k (refuses z y) = absurd (omega (arith, h, y))
    go k (falls z y) = omega (arith, k, y)

-- and it does come
comes_within : {T : List ℕ} {R : Reader} (n : ℕ) → left_over T R < n → Accepted T R → Comes T R
comes_within zero h a = absurd (omega arith)
comes_within {T} {R} (suc n) h a = go (progress m a) λ l. comes_within {R = (next_stmt R T m).step.reader} n l (returned_accepted R T m a)
  where
    m : ℕ
    m = store_share * (length T / 2 - R.position)

    go : Falls T R m (next_stmt R T m) → (left_over T (next_stmt R T m).step.reader < n → Comes T (next_stmt R T m).step.reader) → Comes T R
    go (stands z) k = record { answers = _; reads = last {R = R} m (omega arith) refl z }
    go (refuses z y) k = absurd (omega arith)
    go (falls z y) k = let c = k (omega (arith, y, h)) in record { answers = _; reads = then {R = R} m (omega arith) refl z c.reads }

pub comes : {T : List ℕ} {R : Reader} → Accepted T R → Comes T R
comes {T} {R} a = comes_within (suc (left_over T R)) (omega arith) a

-- stopped readers

pub stopped_again : {T : List ℕ} {R : Reader} (m : ℕ) → Sheet T → Accepted T R → 0 < R.stopped → next_stmt R T m ≡ bare m (Stopped R.stopped) R
stopped_again {T} {R} m s a h = sole R T m (stopped s a h)

stays : {T : List ℕ} {R : Reader} {m : ℕ} {c : Called} → Outcome R T m c → 0 < R.stopped → 0 < c.step.reader.stopped
stays (no_sheet n) h = omega arith
stays (no_reader s n) h = h
stays (stopped s a l) h = h
stays (waited g w) h = absurd (omega (arith, g.going))
stays (short g w l) h = h
stays (reads g w l) h = absurd (omega (arith, g.going))

pub stays_stopped : (entry : Entry) (R : Reader) (T S : List ℕ) (g : Called) → Gives entry R T S g → 0 < R.stopped → 0 < g.step.reader.stopped
stays_stopped entry R T S g k h = rw (given_is entry R T S g k) (stays (outcome R T (length S)) h)

-- refused calls

pub refused_changes_nothing : (entry : Entry) (R : Reader) (T S : List ℕ) (g : Called) → Gives entry R T S g → {n : ℕ} → g.step.answer ≡ Refused n → Unchanged R S g
refused_changes_nothing entry R T S g k e =
    let c = refused_same (given_does entry R T S g k) (ap is_refused e) in
    record { reader = ap (λ c. c.step.reader) c; store = ap (λ c. c.store) c }

-- the calls that C links. So a list may have one of these wherever it may have one on the kept reader

pub exported_reads : (R : Reader) (T S : List ℕ) (flat : Flat) (R' : Reader) (S' : List ℕ) → Exports R T S flat R' S' → (answer : Answer) × (flat ≡ flat_answer answer) × Leaves R T S answer R' S'
exported_reads R T S flat R' S' e =
    let a : Answer = (next_stmt R T (length S)).step.answer in
    (a, ap (λ c. c.answer) e, ap (λ c. record { step = record { answer = a; reader = c.reader }; store = c.store }) e)

pub exported_writes : (words output : List ℕ) (flat : Flat) (output' : List ℕ) → ExportsWriting words output flat output' → (answer : Written) × (flat ≡ flat_written answer) × Writes words output answer output'
exported_writes words output flat output' e =
    let a : Written = (write_stmt words (length output)).answer in
    (a, ap (λ w. w.answer) e, ap (λ w. record { answer = a; output = w.output }) e)
