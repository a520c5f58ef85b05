-- What stands behind the words that a store begins with. Assumes nothing.
use Rattle.std.proofs.Common.{◌≡◌, ◌≢◌, ◌↔◌, IsTrue, ℕ, ◌-◌, Bool, true, false, List, ◌++◌, length, replicate, arith, refl, sym, ap, ◌∙◌}
use Rattle.std.specs.Bool.{Decides}
use Rattle.std.proofs.Math.ListN.{length-append}
use Rattle.std.proofs.lemmas.Bool.{false≢true}
use Rattle.std.proofs.lemmas.List.{append_cancel_left}
use Rattle.std.proofs.lemmas.Slice.Eq.{bytes_eq-Decides}
use Rattle.compared.specs.Calls.{holds}

-- what decides the same is the same
agree : {P : Type 0} (a b : Bool) → Decides a P → Decides b P → a ≡ b
agree true b (to, from) (to', from') = sym (from' (to refl))
agree false true (to, from) (to', from') = from (to' refl)
agree false false h h' = refl

-- a store that goes on behind the words holds them exactly if what is behind is 0
pub zero_behind : (store words rest : List ℕ) (b : Bool) → store ≡ words ++ rest → (IsTrue b ↔ (rest ≡ replicate (length rest) 0)) → b ≡ holds store words
zero_behind store words rest b on (to, from) =
    let behind : length (words ++ rest) - length words ≡ length rest = omega (arith, length-append words rest) in
    let left : length store - length words ≡ length rest = ap (λ s. length s - length words) on ∙ behind in
    agree b (holds store words) (
      (λ h. on ∙ (ap (λ r. words ++ r) (to h) ∙ ap (λ n. words ++ replicate n 0) (sym left))),
      (λ h. from (append_cancel_left words rest (replicate (length rest) 0) (sym on ∙ (h ∙ ap (λ n. words ++ replicate n 0) left)))),
    )
    (bytes_eq-Decides store (words ++ replicate (length store - length words) 0))

-- one that does not begin with the words does not hold them
pub none_behind : (store words : List ℕ) → ((rest : List ℕ) → store ≢ words ++ rest) → false ≡ holds store words
none_behind store words none =
    agree false (holds store words) ((λ h. absurd (false≢true h)), (λ h. absurd (none (replicate (length store - length words) 0) h)))
    (bytes_eq-Decides store (words ++ replicate (length store - length words) 0))
