-- Records that were written one after the other, zeros behind the words up to a place, and a part of a list from its front and from its end. Assumes nothing.
use Rattle.std.specs.Prelude.{◌≡◌, List, [], ◌∷◌, ◌++◌, ℕ, ◌+◌, ◌-◌, ◌≤◌, ◌<◌, length, take, drop, set, replicate}
use Rattle.std.proofs.Common.{sym, ap, ◌∙◌, append-nil, append_assoc, add-one, arith, length-take-le, take-suc-set, drop_at, take-add}
use Rattle.std.proofs.Math.Nat.{sub_self}
use Rattle.std.proofs.lemmas.List.{replicate-append-replicate}
use Rattle.tree.specs.Store.{Emitted}

pub two_written : {a w₁ v₁ r₁ w₂ v₂ r₂ : ℕ} {S S₁ S₂ : List ℕ} → Emitted a w₁ v₁ r₁ S S₁ → Emitted r₁ w₂ v₂ r₂ S₁ S₂ → take r₂ S₂ ≡ take a S ++ w₁ ∷ v₁ ∷ w₂ ∷ v₂ ∷ []
two_written {a} {w₁} {v₁} {r₁} {w₂} {v₂} {r₂} {S} e f = f.text ∙ ap (λ (l : List ℕ). l ++ w₂ ∷ v₂ ∷ []) e.text ∙ append_assoc (take a S) (w₁ ∷ v₁ ∷ []) (w₂ ∷ v₂ ∷ [])

pub three_written : {a w₁ v₁ r₁ w₂ v₂ r₂ w₃ v₃ r₃ : ℕ} {S S₁ S₂ S₃ : List ℕ} → Emitted a w₁ v₁ r₁ S S₁ → Emitted r₁ w₂ v₂ r₂ S₁ S₂ → Emitted r₂ w₃ v₃ r₃ S₂ S₃ → take r₃ S₃ ≡ take a S ++ w₁ ∷ v₁ ∷ w₂ ∷ v₂ ∷ w₃ ∷ v₃ ∷ []
three_written {a} {w₁} {v₁} {r₁} {w₂} {v₂} {r₂} {w₃} {v₃} {r₃} {S} e f g = g.text ∙ ap (λ (l : List ℕ). l ++ w₃ ∷ v₃ ∷ []) (two_written e f) ∙ append_assoc (take a S) (w₁ ∷ v₁ ∷ w₂ ∷ v₂ ∷ []) (w₃ ∷ v₃ ∷ [])

-- a loop that writes zeros from a place on: before its first turn, and after one more
pub zeros_none : (S : List ℕ) (from : ℕ) → take from S ≡ take from S ++ replicate (from - from) 0
zeros_none S from = rw sub_self (sym (append-nil (take from S)))

pub zeros_next : (S S₀ : List ℕ) (from i : ℕ) → from ≤ i → i < length S → take i S ≡ take from S₀ ++ replicate (i - from) 0 → take (i + 1) (set S i 0) ≡ take from S₀ ++ replicate (i + 1 - from) 0
zeros_next S S₀ from i h l e =
    let m : i + 1 - from ≡ i - from + 1 = omega arith in
    rw (add-one i) (take-suc-set S i 0 l) ∙ ap (λ x. x ++ 0 ∷ []) e ∙ append_assoc (take from S₀) (replicate (i - from) 0) (0 ∷ []) ∙ rw (m, ← replicate-append-replicate {A = ℕ} (i - from) 1 0)

-- a part, from either end
pub drop_take : (S : List ℕ) (from to : ℕ) → from ≤ to → to ≤ length S → drop from (take to S) ≡ take (to - from) (drop from S)
drop_take S from to h g =
    let e : to ≡ from + (to - from) = omega arith in
    ap (λ (k : ℕ). drop from (take k S)) e ∙ ap (drop from) (take-add from (to - from) S) ∙ drop_at (take from S) (take (to - from) (drop from S)) from (length-take-le from S (omega arith))
