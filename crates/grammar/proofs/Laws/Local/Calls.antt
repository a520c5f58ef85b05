-- What a call looks at. A call that looked at the first a tokens only says the same whatever follows them, and looks at the same: `call_kept`. A call that is answered by
-- a tree or an error looked at no token past the position that it leaves, and took none that it did not look at: `near`. Assumes nothing.
use Rattle.std.specs.Prelude.{◌≡◌, refl, true, List, [], ◌∷◌, ◌++◌, ℕ, suc, ◌+◌, ◌-◌, ◌*◌, ◌/◌, ◌≤◌, max, length, take, drop}
use Rattle.std.proofs.Common.{ap, sym, ◌∙◌, arith, length-append, length-drop}
use Rattle.std.proofs.lemmas.List.{drop-append-le}
use Rattle.tree.specs.Tree.{Tree}
use Rattle.grammar.specs.Reading.Limit.{depth_limit}
use Rattle.grammar.specs.Reading.Result.{Error, Res}
use Rattle.grammar.specs.Reading.Next.{next, Accepted, Called, called, answered, next_stmt}
use Rattle.grammar.specs.Reading.Looked.{looks, call_looks, Rests, r_end, r_more, Same, same_ok, same_bad, same_fail, same_stop}
use Rattle.grammar.specs.Reading.Kept.{goes_on, Changed}
use Rattle.grammar.specs.declared.Reader.{Reader}
use Rattle.grammar.proofs.Promise.{Sheet, Going, Outcome, no_sheet, no_reader, stopped, waited, short, reads, looked_at, outcome, sole_looks, reading}
use Rattle.grammar.proofs.Laws.Facts.{clash}
use Rattle.grammar.proofs.Laws.Keep.{Keep, k_ok, k_bad, k_fail, k_stop, k_weaken}
use Rattle.grammar.proofs.Laws.Local.Looks.{whole, next_is_local, kept, next_ends}

-- the same outcome of a reading is the same call

rests_half : {Z X r s : List ℕ} → Rests Z X r s → length r / 2 + length X / 2 ≡ length s / 2 + length Z / 2
rests_half r_end = omega arith
rests_half (r_more k) = omega (arith, rests_half k)

same_called : (a m p : ℕ) (h : List ℕ) {Z X : List ℕ} {x y : Res Tree} → length h ≡ 2 * a → Same Z X x y → called (length (h ++ X) / 2) m p y ≡ called (length (h ++ Z) / 2) m p x
same_called a m p h {Z} {X} e k = go k
  where
    at : {r s : List ℕ} → Rests Z X r s → length (h ++ X) / 2 - length s / 2 ≡ length (h ++ Z) / 2 - length r / 2
    at k = omega (arith, rests_half k, length-append h Z, length-append h X)

    go : {x y : Res Tree} → Same Z X x y → called (length (h ++ X) / 2) m p y ≡ called (length (h ++ Z) / 2) m p x
    go (same_ok k) = rw (at k)
    go (same_bad k) = rw (at k)
    go (same_fail k) = rw (at k)
    go same_stop = refl

-- the position that a reading leaves, where another call follows
left_at : (P : ℕ → Type 0) (n m p : ℕ) {x : Res Tree} → Keep (λ r. P (n - length r / 2)) (λ e r. P (n - length r / 2)) x → goes_on (called n m p x).step.answer ≡ true → P (called n m p x).step.reader.position
left_at P n m p (k_ok i) g = i
left_at P n m p (k_bad i) g = i
left_at P n m p (k_fail i) g = i
left_at P n m p k_stop g = clash g refl

-- a reader is not refused on any sheet that reaches to its position
accepted_on : {T U : List ℕ} {R : Reader} → R.position ≤ length U / 2 → Accepted T R → Accepted U R
accepted_on p a = record { within = p; few = a.few; stops = a.stops; queue = a.queue }

-- an error that waited is answered where the reader stands
answered_at : (m : ℕ) (R : Reader) (q : List Error) → (answered m R q).step.reader.position ≡ R.position
answered_at m R [] = refl
answered_at m R (e ∷ q) = refl

module _ (R : Reader) where
  pub call_kept : {a m : ℕ} {h X : List ℕ} (Z : List ℕ) → Changed a h X m → R.position ≤ a → call_looks R (h ++ Z) m ≤ a
      → (next_stmt R (h ++ X) m ≡ next_stmt R (h ++ Z) m) × (call_looks R (h ++ X) m ≡ call_looks R (h ++ Z) m)
  call_kept {a} {m} {h} {X} Z c p l =
      let o = outcome R (h ++ Z) m in
      let n = (sole_looks R (h ++ Z) m o).1 in
      let (s, k) = go o (omega arith) in
      (s, k ∙ sym n)
    where
      sheet : Sheet (h ++ X)
      sheet = record { even = c.even; within = c.within }

      reach : (Y : List ℕ) → a ≤ length (h ++ Y) / 2
      reach Y = omega (arith, c.before, length-append h Y)

      accepted : (Y : List ℕ) {T : List ℕ} → Accepted T R → Accepted (h ++ Y) R
      accepted Y = accepted_on (omega (arith, reach Y))

      going : Going (h ++ Z) R → Going (h ++ X) R
      going g = record { sheet = sheet; accepted = accepted X g.accepted; going = g.going }

      -- the words from the position on, of which the first are the rest of h
      part : (Y : List ℕ) → drop (2 * R.position) (h ++ Y) ≡ drop (2 * R.position) h ++ Y
      part Y = drop-append-le (2 * R.position) h Y (omega (arith, c.before))

      read : R.position + looks (next depth_limit []) (drop (2 * R.position) (h ++ Z)) ≤ a
          → (called (length (h ++ X) / 2) m R.position (reading (h ++ X) R) ≡ called (length (h ++ Z) / 2) m R.position (reading (h ++ Z) R))
          × (R.position + looks (next depth_limit []) (drop (2 * R.position) (h ++ X)) ≡ R.position + looks (next depth_limit []) (drop (2 * R.position) (h ++ Z)))
      read k =
          let n : R.position + looks (next depth_limit []) (drop (2 * R.position) h ++ Z) ≤ a = rw (part Z) at k in
          let w = whole (a - R.position) (drop (2 * R.position) h) (omega (arith, c.before, length-drop (2 * R.position) h)) in
          let (s, e) = kept Z X (next_is_local depth_limit []) w (omega arith) in
          rw (part X, part Z) (same_called a m R.position h c.before s, ap (λ k. R.position + k) e)

      go : {d : Called} (o : Outcome R (h ++ Z) m d) → looked_at o ≤ a → (next_stmt R (h ++ X) m ≡ d) × (call_looks R (h ++ X) m ≡ looked_at o)
      go (no_sheet n) k = absurd (omega (arith, reach Z))
      go (no_reader s n) k = sole_looks R (h ++ X) m (no_reader sheet λ x. n (accepted Z x))
      go (stopped s x i) k = sole_looks R (h ++ X) m (stopped sheet (accepted X x) i)
      go (waited g w) k = sole_looks R (h ++ X) m (waited (going g) w)
      go (short g w i) k = absurd (omega (arith, reach Z))
      go (reads g w i) k =
          let (s, n) = sole_looks R (h ++ X) m (reads (going g) w (omega (arith, c.room))) in
          let (t, e) = read k in
          (s ∙ t, n ∙ e)

  pub near : (T : List ℕ) (m : ℕ) → goes_on (next_stmt R T m).step.answer ≡ true
      → (call_looks R T m ≤ suc (next_stmt R T m).step.reader.position) × ((next_stmt R T m).step.reader.position ≤ max R.position (call_looks R T m))
  near T m g = let o = outcome R T m in rw (sole_looks R T m o).1 (go o g)
    where
      go : {c : Called} (o : Outcome R T m c) → goes_on c.step.answer ≡ true → (looked_at o ≤ suc c.step.reader.position) × (c.step.reader.position ≤ max R.position (looked_at o))
      go (no_sheet n) g = clash g refl
      go (no_reader s n) g = clash g refl
      go (stopped s x i) g = clash g refl
      go (waited x w) g = omega (arith, answered_at m R (take R.waiting R.errors))
      go (short x w i) g = clash g refl
      go (reads x w i) g =
          let ts : List ℕ = drop (2 * R.position) T in
          let n : ℕ = R.position + looks (next depth_limit []) ts in
          let a = x.accepted.within in
          let b = x.sheet.even in
          let d = length-drop (2 * R.position) T in
          left_at (λ k. (n ≤ suc k) × (k ≤ max R.position n)) (length T / 2) m R.position
          (k_weaken (λ a r i. omega arith) (λ e r i. omega arith) (next_ends depth_limit [] ts)) g
