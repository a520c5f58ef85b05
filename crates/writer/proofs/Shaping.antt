-- Decoding from the first record to the last, and the number of trees that stand. Assumes nothing.
use mathlib.Core.Path.{◌≡◌, refl, sym, ap, ◌∙◌, subst}
use mathlib.Core.Bool.{false}
use mathlib.Core.List.{List, [], ◌∷◌, ◌++◌, append_assoc, append-nil}
use Prim.Native.Nat.{ℕ, zero, suc, ◌+◌, ◌*◌, ◌-◌, ◌/◌, ◌%◌, ◌≤◌, ◌<◌}
use native.Mathlib.Numerals.{add-one, add-two}
use native.Mathlib.Omega.{arith}
use lib.Dec.{eqb}
use borrow.Author.Tests.{ne_eqb}
use lib.ListN.{length, take, drop, get_or, length-drop}
use lib.Seq.{drop-cons, take-suc, drop-length}
use Rattle.std.specs.Prelude.{Some, None, option_and_then}
use Rattle.tree.specs.Tree.{Tree, Forest, node, none, more, count, records, all_records}
use Rattle.tree.specs.Records.{Small, Smalls, stack_records, StackSmall}
use Rattle.tree.specs.Decode.{gather, stacked, decode}
use Rattle.writer.specs.Stack.{At, Shape}

pub record Gathered (n k v : ℕ) (f : Forest) (s : List Tree) : Type 0 where
  pub kids : Forest
  pub rest : List Tree
  pub same : gather n k v f s ≡ Some (node k v kids ∷ rest)
  pub many : length rest + n ≡ length s
  pub counted : count kids ≡ count f + n
  pub text : stack_records rest ++ all_records kids ≡ stack_records s ++ all_records f
  pub small_kids : Smalls kids
  pub small_rest : StackSmall rest

pub gather_ok : (n k v : ℕ) (f : Forest) (s : List Tree) → n ≤ length s → Smalls f → StackSmall s → Gathered n k v f s
unfolding gather stack_records records count Small StackSmall
gather_ok zero k v f s h a b = record { kids = f; rest = s; same = refl; many = omega arith; counted = omega arith; text = refl; small_kids = a; small_rest = b }
gather_ok (suc n) k v f [] h a b = absurd (omega arith)
gather_ok (suc n) k v f (t ∷ s) h a b =
    let w = gather_ok n k v (more t f) s (omega arith) (b.0, a) b.1 in
    let m : length w.rest + n ≡ length s = w.many in
    let c : count w.kids ≡ suc (count f) + n = w.counted in
    record { kids = w.kids; rest = w.rest; same = w.same; many = omega arith; counted = omega arith; text = w.text ∙ sym (append_assoc (stack_records s) (records t) (all_records f)); small_kids = w.small_kids; small_rest = w.small_rest }

pub gather_bad : (n k v : ℕ) (f : Forest) (s : List Tree) → length s < n → gather n k v f s ≡ None
unfolding gather
gather_bad zero k v f s h = absurd (omega arith)
gather_bad (suc n) k v f [] h = refl
gather_bad (suc n) k v f (t ∷ s) h = gather_bad n k v (more t f) s (omega arith)

pub drop_two : (T : List ℕ) (pos : ℕ) → pos + 2 ≤ length T → drop pos T ≡ get_or T pos 0 ∷ get_or T (pos + 1) 0 ∷ drop (pos + 2) T
drop_two T pos h =
    let a : pos < length T = omega arith in
    let b : suc pos < length T = omega arith in
    rw (add-two, add-one) (drop-cons T pos 0 a ∙ ap (λ l. get_or T pos 0 ∷ l) (drop-cons T (suc pos) 0 b))

pub take_two : (T : List ℕ) (pos : ℕ) → pos + 2 ≤ length T → take (pos + 2) T ≡ take pos T ++ get_or T pos 0 ∷ get_or T (pos + 1) 0 ∷ []
take_two T pos h =
    let a : pos < length T = omega arith in
    let b : suc pos < length T = omega arith in
    rw (add-two, add-one) (take-suc T (suc pos) 0 b ∙ ap (λ l. l ++ (get_or T (suc pos) 0 ∷ [])) (take-suc T pos 0 a) ∙ append_assoc (take pos T) (get_or T pos 0 ∷ []) (get_or T (suc pos) 0 ∷ []))

-- where the pass stands: h trees
pub record Shaping (L : List ℕ) (i h : ℕ) : Type 0 where
  pub stack : List Tree
  pub run : stacked L [] ≡ stacked (drop i L) stack
  pub many : length stack ≡ h
  pub at : At L i stack

pub shaping_start : (L : List ℕ) → Shaping L 0 0
unfolding stack_records StackSmall
shaping_start L = record { stack = []; run = refl; many = refl; at = record { text = refl; inside = omega arith; small = tt } }

module _ {L : List ℕ} {i h : ℕ} (w : Shaping L i h) (two : i + 2 ≤ length L) where
  step : stacked L [] ≡ option_and_then (λ u. stacked (drop (i + 2) L) u) (gather (get_or L i 0 / 256) (get_or L i 0 % 256) (get_or L (i + 1) 0) none w.stack)
  unfolding stacked
  step = w.run ∙ rw (drop_two L i two)

  pub shaping_bad : h < get_or L i 0 / 256 → Shape L false
  unfolding decode
  shaping_bad g =
      let m = w.many in
      let e : stacked L [] ≡ None = step ∙ rw (gather_bad (get_or L i 0 / 256) (get_or L i 0 % 256) (get_or L (i + 1) 0) none w.stack (omega arith)) in
      record { how = rw e }

  pub shaping_next : get_or L i 0 / 256 ≤ h → Shaping L (i + 2) (h - get_or L i 0 / 256 + 1)
  unfolding stack_records records Small StackSmall count
  shaping_next g =
      let m = w.many in
      let z = gather_ok (get_or L i 0 / 256) (get_or L i 0 % 256) (get_or L (i + 1) 0) none w.stack (omega arith) tt w.at.small in
      let y = z.many in
      let c : count z.kids ≡ 0 + get_or L i 0 / 256 = z.counted in
      let word : get_or L i 0 % 256 + 256 * count z.kids ≡ get_or L i 0 = omega arith in
      record {
        stack = node (get_or L i 0 % 256) (get_or L (i + 1) 0) z.kids ∷ z.rest;
        run = step ∙ rw z.same;
        many = omega arith;
        at = record {
          text = take_two L i two ∙ ap (λ l. l ++ (get_or L i 0 ∷ get_or L (i + 1) 0 ∷ [])) (w.at.text ∙ sym (append-nil (stack_records w.stack)) ∙ sym z.text) ∙ append_assoc (stack_records z.rest) (all_records z.kids) (get_or L i 0 ∷ get_or L (i + 1) 0 ∷ []) ∙ rw word;
          inside = two;
          small = ((omega arith, z.small_kids), z.small_rest);
        };
      }

stacked_short : (l : List ℕ) (s : List Tree) → length l < 2 → 0 < length l → stacked l s ≡ None
unfolding stacked
stacked_short [] s h g = absurd (omega arith)
stacked_short (w ∷ []) s h g = refl
stacked_short (w ∷ (v ∷ l)) s h g = absurd (omega arith)

pub shaping_odd : {L : List ℕ} {i h : ℕ} → Shaping L i h → i < length L → length L - i < 2 → Shape L false
unfolding decode
shaping_odd {L} {i} w a b =
    let n = length-drop i L in
    let e : stacked L [] ≡ None = w.run ∙ stacked_short (drop i L) w.stack (omega arith) (omega arith) in
    record { how = rw e }

pub shaping_end : {L : List ℕ} {i h : ℕ} → Shaping L i h → length L ≤ i → Shape L (eqb h 1)
unfolding decode stacked
shaping_end {L} {i} {h} w a =
    let b = w.at.inside in
    let e : i ≡ length L = omega arith in
    let r : stacked L [] ≡ Some w.stack = w.run ∙ rw (e, drop-length L) in
    subst (λ (n : ℕ). Shape L (eqb n 1)) w.many (go w.stack r (subst (λ (n : ℕ). At L n w.stack) e w.at))
  where
    go : (s : List Tree) → stacked L [] ≡ Some s → At L (length L) s → Shape L (eqb (length s) 1)
    go [] r at = record { how = rw r }
    go (t ∷ []) r at = record { how = (t, rw r, at) }
    go (t ∷ (u ∷ s)) r at = rw (ne_eqb (suc (suc (length s))) 1 (omega arith)) (record { how = rw r })
