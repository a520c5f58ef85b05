-- Where the pass over the records stands, and one record further. Assumes nothing.
use mathlib.Core.Path.{◌≡◌, refl, sym, ap, ◌∙◌}
use mathlib.Core.List.{List, [], ◌∷◌}
use Prim.Native.Nat.{ℕ, zero, suc, ◌+◌, ◌*◌, ◌-◌, ◌/◌, ◌%◌, ◌≤◌, ◌<◌}
use native.Mathlib.Omega.{arith}
use lib.Dec.{eqb, ltb}
use lib.ListN.{length, get_or, take, drop}
use lib.Seq.{take-length, drop-length}
use borrow.Author.Tests.{ltb-true, ltb-false, eqb-true, eqb-false}
use Rattle.tree.specs.Tree.{Tree, records}
use Rattle.tree.specs.Records.{stack_records, StackSmall}
use Rattle.tree.specs.Rows.{end, on, rows, width, SmallRow, Trees, scan_step, enough, ended}
use Rattle.grammar.proofs.Laws.Facts.{by_test}
use Rattle.writer.specs.Stack.{At}
use Rattle.writer.specs.Verdict.{Whole}
use Rattle.writer.proofs.Entry.{at_small}
use Rattle.std.specs.declared.option.Option.{Option}
use Rattle.std.specs.declared.result.Result.TheVariants.{Ok}
use Rattle.labels.specs.declared.Offence.{Offence}
use Rattle.labels.specs.Offences.{Labels, offence, inside, first, noted}
use Rattle.labels.specs.Behind.{enclosing, behind, Found}
use Rattle.labels.specs.Entries.{Entry, held, around, standing, Full, entered, Entered, Stands, Round}
use Rattle.labels.proofs.Words.{passed, last_child, other_child, two_words, behind_records}
use Rattle.labels.proofs.Kept.{standing_less, standing_more, standing_inside, Outside, entered_full, entered_outside, entered_last}

-- what encloses the tree number i is among the entries: there is room for one more, or the tree lies outside of the last one
abbrev pub Known : ℕ → List Entry → ℕ → Type 0
Known m es i = Full m es → Outside i es

-- of the trees that are pending before the words x, the tree number i, which is the number h from the last, is enclosed by the entries that stand round it
abbrev pub Enclosed : ℕ → List Entry → ℕ → List ℕ → Type 0
Enclosed m es pending x = (h i : ℕ) → 1 ≤ h → h + i ≡ pending + 1 → Known m es i → enclosing h x ≡ around (standing i es)

-- ---------------------------------------------------------------- one record further, of the entries
-- what is known behind a record was known before it
was_known : (m pending k l c h i j : ℕ) (es : List Entry) → j ≤ i → j ≤ pending → Known m (entered m k l c h (standing pending es)) i → Known m es j
unfolding standing
was_known m pending k l c h i j [] a b z f = (rw (entered_full m k l c h [] f) at z) f
was_known m pending k l c h i j (e ∷ es) a b z f =
    by_test (ltb pending e.from)
    (λ t. omega (arith, ltb-true pending e.from t))
    (λ t.
    let y = rw (t, entered_full m k l c h (e ∷ es) f) at z in
    omega (arith, y f))

module _ (m pending w v : ℕ) (es : List Entry) (x : List ℕ) (some : 1 ≤ pending) (before : Enclosed m es pending x) where
  abbrev left : List Entry
  left = standing pending es

  abbrev then : ℕ
  then = pending - 1 + w / 256

  abbrev kept : List Entry
  kept = entered m (w % 256) v (w / 256) then left

  -- the last tree before the record's children
  at_last : (i : ℕ) → pending ≤ i → Known m kept i → enclosing 1 x ≡ around left
  at_last i l k = before 1 pending (omega arith) (omega arith) (was_known m pending (w % 256) v (w / 256) then i pending es l (omega arith) k)

  -- where no room was left the last child lies inside of the last entry, so nothing is known of it
  not_full : 1 ≤ w / 256 → Known m kept then → Full m left → ⊥
  not_full l k f =
      let y = rw (entered_full m (w % 256) v (w / 256) then left f) at k in
      standing_inside then pending (omega arith) es (y f)

  pub further : Enclosed m kept then (w ∷ v ∷ x)
  further h i l e k =
      by_test (ltb (w / 256) h)
      (λ t.
      let p : w / 256 < h = ltb-true (w / 256) h t in
      let a : 1 ≤ h - w / 256 + 1 = omega arith in
      let b : h - w / 256 + 1 + i ≡ pending + 1 = omega arith in
      passed w v x h p ∙ before (h - w / 256 + 1) i a b (was_known m pending (w % 256) v (w / 256) then i i es (omega arith) (omega arith) k) ∙ ap around (sym (entered_outside m (w % 256) v (w / 256) then left i (λ c. omega arith) ∙ standing_less i pending (omega arith) es)))
      λ t.
      let p : h ≤ w / 256 = ltb-false (w / 256) h t in
      by_test (eqb h 1)
      (λ o.
      let one : h ≡ 1 = eqb-true h 1 o in
      let number : i ≡ then = omega arith in
      let many : 1 ≤ w / 256 = omega arith in
      let known : Known m kept then = rw number at k in
      rw (one, number) (last_child w v x many ∙ ap (inside (w % 256) v) (at_last then (omega arith) known) ∙ sym (entered_last m (w % 256) v (w / 256) then left many (not_full many known) (standing_more then pending (omega arith) es))))
      λ o.
      let other : 1 < h = omega (arith, eqb-false h 1 o) in
      other_child w v x h p other ∙ at_last i (omega arith) k ∙ ap around (sym (entered_outside m (w % 256) v (w / 256) then left i (λ c. omega arith) ∙ standing_more i pending (omega arith) es))

-- where the entries that stand leave room, the last tree is enclosed by them
at_hand : (m pending : ℕ) (es : List Entry) → (Full m (standing pending es) → ⊥) → Known m es pending
unfolding standing
at_hand m pending [] n f = absurd (n f)
at_hand m pending (e ∷ es) n f =
    by_test (ltb pending e.from)
    (λ t. omega (arith, ltb-true pending e.from t))
    (λ t. absurd ((rw t at n) f))

-- ---------------------------------------------------------------- where the pass stands: before the records from p on
pub record Going (L F : List ℕ) (p pending n : ℕ) (found : Labels) : Type 0 where
  pub within : p ≤ length L
  pub trees : Trees [] (take p L) pending
  pub room : 3 * n ≤ length F
  pub enclosed : Enclosed (length F) (held F n) pending (drop p L)
  pub so_far : found ≡ first (p / 2) (behind (drop p L))

pub going_start : (L F : List ℕ) → Whole L → Going L F (length L) 1 0 (Ok tt)
unfolding rows width SmallRow stack_records StackSmall held standing around enclosing first behind
going_start L F w = record {
  within = omega arith;
  trees = record { row = on end w.top; many = refl; small = (tt, w.here.small.0); text = w.here.text };
  room = omega arith;
  enclosed = λ h i l e k. rw drop-length;
  so_far = rw drop-length;
}

-- the last of i records, and the trees that are pending before it
pub record Ahead (L : List ℕ) (i pending : ℕ) : Type 0 where
  pub some : 1 ≤ pending
  pub within : 2 * (i - 1) + 2 ≤ length L
  pub rest : Trees [] (take (2 * (i - 1)) L) (pending - 1 + get_or L (2 * (i - 1)) 0 / 256)
  pub fewer : 2 * (pending - 1 + get_or L (2 * (i - 1)) 0 / 256) ≤ 2 * (i - 1)

pub ahead : {L F : List ℕ} {i pending n : ℕ} {found : Labels} → Going L F (2 * i) pending n found → 0 < i → Ahead L i pending
ahead {L} {F} {i} {pending} g l = go pending g.trees
  where
    go : (m : ℕ) → Trees [] (take (2 * i) L) m → Ahead L i m
    go zero t = absurd (omega (arith, (ended [] L (2 * i) zero g.within t refl).at))
    go (suc m) t =
        let s = scan_step [] L (2 * i) (suc m) g.within t (omega arith) in
        let e : 2 * i - 2 ≡ 2 * (i - 1) = omega arith in
        let r = s.room in
        let w = g.within in
        let rest : Trees [] (take (2 * (i - 1)) L) (suc m - 1 + get_or L (2 * (i - 1)) 0 / 256) = rw e at s.rest in
        record { some = omega arith; within = omega arith; rest = rest; fewer = omega (arith, enough [] L (2 * (i - 1)) _ (omega arith) rest) }

-- what encloses the last of i records is kept
pub round_at : {L F : List ℕ} {i pending n r : ℕ} {found : Labels} → Going L F (2 * i) pending n found → 0 < i → Stands F n pending r → Round L F r (2 * (i - 1) + 2)
round_at {L} {F} {i} {pending} {n} {r} g l s =
    let a = ahead g l in
    let m = s.fewer in
    let b = g.room in
    let e : 2 * (i - 1) + 2 ≡ 2 * i = omega arith in
    record {
      two = omega arith;
      inside = a.within;
      room = omega arith;
      known = λ f. ap around s.words ∙ rw e (sym (g.enclosed 1 pending (omega arith) (omega arith) (at_hand (length F) pending (held F n) (λ y. f (rw s.words y)))));
    }

-- one record further
pub going_next : {L F F' : List ℕ} {i pending n r q : ℕ} {o : Option Offence} {found : Labels} → Going L F (2 * i) pending n found → 0 < i → Stands F n pending r
    → o ≡ offence (enclosing 1 (drop (2 * (i - 1) + 2) L)) (get_or L (2 * (i - 1) + 2 - 2) 0 % 256) (get_or L (2 * (i - 1) + 2 - 1) 0)
    → Entered F F' r (get_or L (2 * (i - 1)) 0 % 256) (get_or L (2 * (i - 1) + 1) 0) (get_or L (2 * (i - 1)) 0 / 256) (pending - 1 + get_or L (2 * (i - 1)) 0 / 256) q → length F' ≡ length F
    → Going L F' (2 * (i - 1)) (pending - 1 + get_or L (2 * (i - 1)) 0 / 256) q (noted (i - 1) o found)
unfolding behind first
going_next {L} {F} {F'} {i} {pending} {n} {r} {q} {o} {found} g l s e t m =
    let a = ahead g l in
    let w = a.within in
    let x : 2 * (i - 1) + 2 - 2 ≡ 2 * (i - 1) = omega arith in
    let x' : 2 * (i - 1) + 2 - 1 ≡ 2 * (i - 1) + 1 = omega arith in
    let y : 2 * (i - 1) + 2 ≡ 2 * i = omega arith in
    let z : 2 * (i - 1) / 2 ≡ i - 1 = omega arith in
    let u : suc (i - 1) ≡ 2 * i / 2 = omega arith in
    let d : drop (2 * (i - 1)) L ≡ get_or L (2 * (i - 1)) 0 ∷ get_or L (2 * (i - 1) + 1) 0 ∷ drop (2 * i) L = two_words L (2 * (i - 1)) (omega arith) ∙ rw y in
    let found_here : o ≡ offence (enclosing 1 (drop (2 * i) L)) (get_or L (2 * (i - 1)) 0 % 256) (get_or L (2 * (i - 1) + 1) 0) = rw (x, x', y) at e in
    record {
      within = omega arith;
      trees = a.rest;
      room = t.room;
      enclosed = rw (m, d, t.words, s.words) (further (length F) pending (get_or L (2 * (i - 1)) 0) (get_or L (2 * (i - 1) + 1) 0) (held F n) (drop (2 * i) L) a.some g.enclosed);
      so_far = rw (d, z, u, found_here, g.so_far);
    }

-- the end
whole_records : {L : List ℕ} {t : Tree} → At L (length L) (t ∷ []) → L ≡ records t
unfolding stack_records
whole_records {L} a = sym (take-length L) ∙ a.text

pub going_end : {L F : List ℕ} {p pending n : ℕ} {found : Labels} → Going L F p pending n found → p ≤ 0 → Found L found
going_end {L} {F} {p} g l =
    let z : p ≡ 0 = omega arith in
    record { how = λ t a. (rw z at g.so_far) ∙ ap (first 0) (ap behind (whole_records a) ∙ behind_records t (at_small a)) }
