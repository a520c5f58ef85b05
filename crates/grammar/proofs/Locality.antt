-- A reading depends on the tokens that it looks at, and on no others. Assumes nothing.
-- 1. Token a of a sheet, from 0, or the place behind its last, is looked at exactly if a bad record that is put there is met. So the tokens that a reading looks at are the
--    first ones, as many as `looks` says.
-- 2. Where a reading of some tokens with a bad record behind them does not meet the record, it comes to the same whatever stands behind those tokens.
-- 3. A reading that looks only at the first a tokens comes to the same whatever follows them: the same value, errors or stop, the same of them left. And it looks at the same.
-- 4. A call that looks only at the first a tokens gives the same answer, reader and store whatever follows them. And it looks at the same.
-- 5. A call that is answered by a tree or an error looked at no token past the position that it leaves, and took none that it did not look at.
-- 6. Behind a tree that is no loop, behind an error but a lexer error, and at the end, the furthest token that a call looked at is the one at the position that it leaves.
-- 7. A sheet is edited behind its first a tokens. The calls before the first one that looked at or past that place stay, and the edited sheet is read from that one's start on
--    with nothing waiting: these are the calls of the edited sheet, and a sheet has no others. Where there is no such call, all stay. That start is not behind the place.
-- 8. Whatever follows the first a tokens, the calls on the sheet begin with those that stay: an error or a stop among them is answered whatever follows.
-- 9. Ten sheets with what each call looks at, and what edits leave of the calls: `looks_tried` in Looks.antt.
use Rattle.std.specs.Prelude.{◌≡◌, refl, true, false, List, [], ◌∷◌, ◌++◌, ℕ, suc, ◌-◌, ◌*◌, ◌/◌, ◌≤◌, max, ltb, length, drop, Some, None}
use Rattle.std.proofs.Common.{ap, arith, length-drop}
use Rattle.grammar.specs.Reading.Limit.{depth_limit}
use Rattle.grammar.specs.Reading.Result.{Error}
use Rattle.grammar.specs.Reading.Next.{next, reader_at, fresh, next_stmt}
use Rattle.grammar.specs.Reading.Looked.{BadRecord, words_of, bad_record, meets, looks, call_looks, WellFormed, Same, no_lexer, Ends}
use Rattle.grammar.specs.Reading.Kept.{KeptCall, keep, goes_on, Calls, last_call, then_call, stay, restart, Changed}
use Rattle.grammar.specs.declared.Reader.{Reader}
use Rattle.grammar.proofs.Promise.{reading, Ready, reads, sole_looks}
use Rattle.grammar.proofs.Looks.{found, table, looks_tried}
use Rattle.grammar.proofs.Laws.Facts.{clash}
use Rattle.grammar.proofs.Laws.Local.Looks.{whole, next_is_local, looks_at, looks_exact, unmet_behind, kept as reading_kept}
use Rattle.grammar.proofs.Laws.Local.Calls.{call_kept as call_same, near}
use Rattle.grammar.proofs.Laws.Local.Peeked.{ends_map, next_peeked}
use Rattle.grammar.proofs.Laws.Local.Edited.{stays, read_again, none_again, again_before, begins_with, stay_all}

-- 1
pub looked_exact : (d : ℕ) (q : List Error) {a : ℕ} {h : List ℕ} → WellFormed a h → (Z : List ℕ) → meets (next d q (h ++ words_of bad_record)) ≡ ltb a (looks (next d q) (h ++ Z))
looked_exact d q {h = h} f Z = looks_exact Z (next_is_local d q) f (looks_at (next d q) (h ++ Z))

-- 2
pub prefix : (d : ℕ) (q : List Error) (a : ℕ) (h : List ℕ) → length h ≡ 2 * a → (b : BadRecord) (X : List ℕ) → meets (next d q (h ++ words_of b)) ≡ false
    → Same (words_of b) X (next d q (h ++ words_of b)) (next d q (h ++ X))
prefix d q a h e = unmet_behind (next_is_local d q) (whole a h e)

-- 3
pub kept : (d : ℕ) (q : List Error) (a : ℕ) (h : List ℕ) → length h ≡ 2 * a → (Z X : List ℕ) → looks (next d q) (h ++ Z) ≤ a
    → Same Z X (next d q (h ++ Z)) (next d q (h ++ X)) × (looks (next d q) (h ++ X) ≡ looks (next d q) (h ++ Z))
kept d q a h e Z X = reading_kept Z X (next_is_local d q) (whole a h e)

-- 4 and 5
module _ (R : Reader) where
  pub call_kept : {a m : ℕ} {h X : List ℕ} (Z : List ℕ) → Changed a h X m → R.position ≤ a → call_looks R (h ++ Z) m ≤ a
      → (next_stmt R (h ++ X) m ≡ next_stmt R (h ++ Z) m) × (call_looks R (h ++ X) m ≡ call_looks R (h ++ Z) m)
  call_kept = call_same R

  pub never_past : (T : List ℕ) (m : ℕ) → goes_on (next_stmt R T m).step.answer ≡ true → call_looks R T m ≤ suc (next_stmt R T m).step.reader.position
  never_past T m g = (near R T m g).0

  pub never_short : (T : List ℕ) (m : ℕ) → goes_on (next_stmt R T m).step.answer ≡ true → (next_stmt R T m).step.reader.position ≤ max R.position (call_looks R T m)
  never_short T m g = (near R T m g).1

-- 6. The position that is left is the number of the sheet's tokens less that of the tokens left
pub peeked : (R : Reader) (T : List ℕ) (m : ℕ) → Ready R T m → Ends no_lexer (λ r. call_looks R T m ≡ suc (length T / 2 - length r / 2)) (reading T R)
peeked R T m y =
    let n = (sole_looks R T m (reads y.going y.none_waits y.room)).1 in
    let e = y.going.sheet.even in
    let w = y.going.accepted.within in
    let l = length-drop (2 * R.position) T in
    ends_map (λ r i. omega arith) (next_peeked depth_limit [] (drop (2 * R.position) T))

-- 7
pub edited : {a m : ℕ} {h X : List ℕ} (Z : List ℕ) → Changed a h X m → {ks fs : List KeptCall} (p : ℕ) → Calls (h ++ Z) m fresh ks → restart a ks ≡ Some p → Calls (h ++ X) m (reader_at p []) fs
    → Calls (h ++ X) m fresh (stay a ks ++ fs)
edited Z c p r e = read_again (rw e at (stays Z c r))

pub unedited : {a m : ℕ} {h X : List ℕ} (Z : List ℕ) → Changed a h X m → {ks : List KeptCall} → Calls (h ++ Z) m fresh ks → restart a ks ≡ None → Calls (h ++ X) m fresh ks
unedited {a} Z c {ks} r e = none_again (rw (e, stay_all a ks e) at (stays Z c r))

pub restarts_before : {a m : ℕ} {h X : List ℕ} (Z : List ℕ) → Changed a h X m → {ks : List KeptCall} (p : ℕ) → Calls (h ++ Z) m fresh ks → restart a ks ≡ Some p → p ≤ a
restarts_before Z c p r e = again_before (rw e at (stays Z c r))

pub calls_same : {T : List ℕ} {m : ℕ} {R : Reader} {ks js : List KeptCall} → Calls T m R ks → Calls T m R js → ks ≡ js
calls_same (last_call g) (last_call k) = refl
calls_same (last_call g) (then_call k s) = clash k g
calls_same (then_call g r) (last_call k) = clash g k
calls_same {T} {m} {R} (then_call g r) (then_call k s) = ap (λ ks. keep T m R ∷ ks) (calls_same r s)

-- 8
pub begins : {a m : ℕ} {h X : List ℕ} (Z : List ℕ) → Changed a h X m → {ks js : List KeptCall} → Calls (h ++ Z) m fresh ks → Calls (h ++ X) m fresh js → (fs : List KeptCall) × (js ≡ stay a ks ++ fs)
begins Z c r s = begins_with (stays Z c r) s

-- 9
pub sheets_looked : found table ≡ table
sheets_looked = looks_tried
