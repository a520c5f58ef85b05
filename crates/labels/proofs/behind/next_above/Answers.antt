-- `labels::behind::next_above` meets its contract: what encloses the tree is what encloses the first of the trees that stand. Assumes nothing.
use mathlib.Core.Path.{◌≡◌, sym, ap, ◌∙◌}
use mathlib.Core.Bool.{true, false}
use mathlib.Core.List.{List}
use Prim.Native.Nat.{ℕ, ◌+◌, ◌-◌, ◌/◌, ◌%◌, ◌≤◌}
use native.Mathlib.Omega.{arith}
use lib.ListN.{length, get_or, drop}
use Rattle.std.proofs.Common.{get_or-drop, drop-drop}
use Rattle.labels.specs.Offences.{inside}
use Rattle.labels.specs.Behind.{enclosing, is_last, further}
use Rattle.labels.proofs.Words.{after, first_two, above, on, further_bounds, none_left}
use Rattle.labels.proofs.behind.next_above.Goals as goal

-- the first record of the words M, before which h trees stand from the tree before the words L on
module _ (L M : List ℕ) (h : ℕ) (same : enclosing 1 L ≡ enclosing h M) (l : 2 ≤ length M) where
  takes : is_last (get_or M 0 0 / 256) h ≡ true → enclosing 1 L ≡ inside (get_or M 0 0 % 256) (get_or M 1 0) (enclosing 1 (after M))
  takes e = same ∙ ap (enclosing h) (first_two M l).0 ∙ above _ _ _ h e

  passes : (r : ℕ) → is_last (get_or M 0 0 / 256) h ≡ false → r ≡ further (get_or M 0 0 / 256) h → enclosing 1 L ≡ enclosing r (after M)
  passes r e f = same ∙ ap (enclosing h) (first_two M l).0 ∙ on _ _ _ h e ∙ ap (λ (n : ℕ). enclosing n (after M)) (sym f)

-- the words M are those of L from a place on: where each stands in L, and what stands behind the first record of M
module _ (L M : List ℕ) (from : M ≡ drop (length L - length M) L) where
  word : (i j : ℕ) → length L - length M + i ≡ j → get_or M i 0 ≡ get_or L j 0
  word i j e = ap (λ (N : List ℕ). get_or N i 0) from ∙ get_or-drop _ L i 0 ∙ ap (λ (n : ℕ). get_or L n 0) e

  rest : (r : ℕ) → 2 ≤ length M → length L - length M + 2 ≡ r → after M ≡ drop r L
  rest r l e = ap (drop 2) (sym (first_two M l).0 ∙ from) ∙ drop-drop 2 _ L ∙ ap (λ (n : ℕ). drop n L) e

pub returns-then-is_last : goal.returns-then-is_last
returns-then-is_last c =
    let L = c.args.records.now in
    let M = c.loop-rest.rest.now in
    let v = c.loop-rest.invariant in
    let l = c.in-len2-up.len_at_least in
    let n = (first_two M l).1 in
    record {
      how = record {
        rest = rest L M v.3 _ l (omega arith);
        above = (omega arith, omega arith);
        kind = ap (λ (w : ℕ). w % 256) (word L M v.3 0 _ (omega arith));
        label = word L M v.3 1 _ (omega arith);
        here = takes L M c.loop-rest.h v.2 l (sym c.is_last.ensures ∙ c.if-is_last.true);
      };
    }

pub loop-rest-preserved : goal.loop-rest-preserved
loop-rest-preserved c =
    let L = c.args.records.now in
    let M = c.loop-rest.rest.now in
    let v = c.loop-rest.invariant in
    let l = c.in-len2-up.len_at_least in
    let e = sym c.is_last.ensures ∙ c.if-is_last.false in
    let f = c.further-h.ensures in
    let b = further_bounds (get_or M 0 0 / 256) c.loop-rest.h v.0 in
    let n = (first_two M l).1 in
    (rw f b.0, omega (arith, rw (← f) at b.1), passes L M c.loop-rest.h v.2 l _ e f, rest L M v.3 _ l (omega arith))

pub returns : goal.returns
returns c = let v = c.loop-rest.invariant in record { how = v.2 ∙ none_left _ _ (omega (arith, c.in_default.len_below)) }
