-- A call of the definition on a reader with nothing waiting and no stop: it reads the words that are left, and after a clean statement the reader stands before the words behind it.
-- Assumes nothing.
use Rattle.std.specs.Prelude.{◌≡◌, refl, List, [], ◌∷◌, ℕ, suc, ◌+◌, ◌-◌, ◌*◌, ◌/◌, ◌%◌, ◌≤◌, length, drop}
use Rattle.std.proofs.Common.{sym, ap, ◌∙◌, subst, arith, length-drop, drop-drop}
use Rattle.tree.specs.Tree.{Tree}
use Rattle.grammar.specs.Reading.Limit.{depth_limit, length_limit, store_share}
use Rattle.grammar.specs.Reading.Result.{ok}
use Rattle.grammar.specs.Reading.Next.{reader_at, fresh, Accepted, called, next_stmt, next}
use Rattle.grammar.proofs.Laws.Keep.{Keep, k_ok}
use Rattle.grammar.proofs.Laws.Progress.{next_keeps}
use Rattle.grammar.proofs.Laws.Returned.{fresh_accepted, returned_accepted}
use Rattle.grammar.proofs.Promise.{Going, reads, sole}
use Rattle.grammar.specs.declared.Reader.{Reader}
use Rattle.agreement.specs.Calls.{unread}
use Rattle.agreement.specs.Answers.{Roomy}

-- a sheet of whole tokens within the length limit, and a reader on it that 61 does not refuse, with no stop and nothing waiting, before the words ts
pub record Before (T : List ℕ) (R : Reader) (ts : List ℕ) : Type 0 where
  pub going : Going T R
  pub none_waits : R.waiting ≡ 0
  pub left : unread T R ≡ ts

pub before_fresh : {T : List ℕ} → length T % 2 ≡ 0 → length T ≤ 2 * length_limit → Before T fresh T
before_fresh {T} e l = record { going = record { sheet = record { even = e; within = l }; accepted = fresh_accepted T; going = refl }; none_waits = refl; left = refl }

-- the tests of the call are passed
pub call_is : {T ts : List ℕ} {R : Reader} (m : ℕ) → Before T R ts → Roomy T R m → next_stmt R T m ≡ called (length T / 2) m R.position (next depth_limit [] ts)
call_is {T} {ts} {R} m b h = rw b.left at (sole R T m (reads b.going b.none_waits h))

-- r is the end of T, in whole tokens
record EndOf (T r : List ℕ) : Type 0 where
  short : length r ≤ length T
  even : (length T - length r) % 2 ≡ 0
  is : drop (length T - length r) T ≡ r

end_step : {T : List ℕ} (w v : ℕ) (r : List ℕ) → EndOf T (w ∷ v ∷ r) → EndOf T r
end_step {T} w v r h =
    let n : length T - length r ≡ (length T - suc (suc (length r))) + 2 = let z = h.short in omega arith in
    record {
      short = let z = h.short in omega arith;
      even = let y = h.short in let z = h.even in omega arith;
      is = rw n (sym (drop-drop 2 (length T - suc (suc (length r))) T) ∙ ap (drop 2) h.is);
    }

end_start : {T ts : List ℕ} {R : Reader} → Before T R ts → EndOf T ts
end_start {T} {ts} {R} b =
    let n : length ts ≡ length T - 2 * R.position = ap length (sym b.left) ∙ length-drop (2 * R.position) T in
    let p : length T - length ts ≡ 2 * R.position = omega (arith, n, b.going.sheet.even, b.going.accepted.within) in
    record {
      short = omega (arith, n);
      even = omega (arith, p);
      is = rw p b.left;
    }

-- the reader behind words of which r are left
abbrev pub at_end_of : List ℕ → List ℕ → Reader
at_end_of T r = reader_at (length T / 2 - length r / 2) []

-- behind a clean statement
pub before_next : {T ts r : List ℕ} {R : Reader} {t : Tree} → Before T R ts → next depth_limit [] ts ≡ ok t r → Before T (at_end_of T r) r
before_next {T} {ts} {r} {R} {t} b e = go (subst (Keep (EndOf T) (λ x. EndOf T)) e (next_keeps (EndOf T) end_step depth_limit [] ts (end_start b)))
  where
    m : ℕ
    m = store_share * (length T / 2 - R.position)

    stands : Accepted T (at_end_of T r)
    stands = subst (λ c. Accepted T c.step.reader) (call_is m b (omega arith) ∙ ap (called (length T / 2) m R.position) e) (returned_accepted R T m b.going.accepted)

    go : Keep (EndOf T) (λ x. EndOf T) (ok t r) → Before T (at_end_of T r) r
    go (k_ok h) =
        let p : 2 * (length T / 2 - length r / 2) ≡ length T - length r = omega (arith, h.short, h.even, b.going.sheet.even) in
        record { going = record { sheet = b.going.sheet; accepted = stands; going = refl }; none_waits = refl; left = rw p h.is }
