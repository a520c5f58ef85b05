-- `tree::lead` meets its contract: three records stand in front, and behind them the words that were copied. Assumes nothing.
use mathlib.Core.Path.{◌≡◌, sym, ap, ◌∙◌}
use mathlib.Core.List.{List, ◌∷◌}
use Prim.Native.Nat.{ℕ, ◌+◌, ◌≤◌}
use native.Mathlib.Omega.{arith}
use lib.ListN.{length, take, drop}
use lib.Seq.{take-add, take_at, drop-drop, length-take-le}
use Rattle.tree.specs.Store.{Emitted, Copied}
use Rattle.tree.specs.Written.{three_written}
use Rattle.tree.proofs.Copies.{copied}
use Rattle.tree.proofs.lead.Goals as goal

further : (m n k : ℕ) (S S' : List ℕ) → k ≡ n + m → drop n S' ≡ drop n S → drop k S' ≡ drop k S
further m n k S S' z e = rw z (sym (drop-drop m n S') ∙ ap (drop m) e ∙ drop-drop m n S)

-- three records were written in front, and behind them the words were copied
led : {w₁ v₁ r₁ w₂ v₂ r₂ w₃ v₃ r₃ : ℕ} {C S₁ S₂ S₃ : List ℕ} (S : List ℕ) (m : ℕ) → m + 6 ≤ length S → Copied 0 m 6 S C
    → Emitted 0 w₁ v₁ r₁ C S₁ → Emitted r₁ w₂ v₂ r₂ S₁ S₂ → Emitted r₂ w₃ v₃ r₃ S₂ S₃ → take (m + 6) S₃ ≡ w₁ ∷ v₁ ∷ w₂ ∷ v₂ ∷ w₃ ∷ v₃ ∷ take m S
led {w₁} {v₁} {r₁} {w₂} {v₂} {r₂} {w₃} {v₃} {r₃} {C} {S₁} {S₂} {S₃} S m g c e f k =
    let six : r₃ ≡ 6 = omega arith in
    let all : m + 6 ≡ r₃ + m = omega arith in
    let behind : drop r₃ S₃ ≡ drop r₃ C = k.rest ∙ further 2 r₂ r₃ S₁ S₂ k.next f.rest ∙ further 4 r₁ r₃ C S₁ (omega arith) e.rest in
    let there : take m (drop r₃ C) ≡ take m S = rw (six, c.onward) (take_at (take m S) _ m (length-take-le m S (omega arith))) in
    rw (all, take-add, behind, there, three_written e f k)

pub returns : goal.returns
returns c =
    let a = c.args in
    let s = a.part.now in
    let copy = copied s 0 a.m 6 (omega (arith, c.requires)) c.copy_within.ensures.after in
    record { text = led s a.m c.requires.0 copy c.emit-a.ensures c.emit-b.ensures c.emit.ensures }
