-- What stands at a place of a run of words. Assumes nothing.
use mathlib.Core.Path.{◌≡◌, refl, sym, ◌∙◌}
use mathlib.Core.List.{List, [], ◌∷◌}
use Prim.Native.Nat.{ℕ, suc, ◌+◌, ◌≤◌, ◌<◌}
use native.Mathlib.Numerals.{add-one}
use native.Mathlib.Omega.{arith}
use lib.ListN.{length, drop, get_or}
use lib.Seq.{drop-cons}
use Rattle.token.specs.Look.{seen, seen_word}
use Rattle.std.proofs.Common.{Result, Err}
use Rattle.token.specs.declared.Unread.{Unread}
use Rattle.token.specs.declared.Token.{Token}
use Rattle.token.specs.declared.Unread.TheVariants.{Nothing}

pub seen_short : (l : List ℕ) → length l < 2 → (Err Nothing) ≡ seen l
unfolding seen
seen_short [] h = refl
seen_short (w ∷ []) h = refl
seen_short (w ∷ (v ∷ l)) h = absurd (omega arith)

-- whoever answers what the two words there say answers what is seen there
pub seen_here : {r : (Result Token Unread)} (T : List ℕ) (at : ℕ) → at + 2 ≤ length T → r ≡ seen_word (get_or T at 0) (get_or T (at + 1) 0) → r ≡ seen (drop at T)
unfolding seen
seen_here T at h e =
    let a : at < length T = omega arith in
    let b : suc at < length T = omega arith in
    e ∙ sym (rw (add-one, drop-cons T at 0 a, drop-cons T (suc at) 0 b))
