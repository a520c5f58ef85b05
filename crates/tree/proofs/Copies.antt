-- What a copy of words within a list leaves: before the place where they go, and from there on. Assumes nothing.
use mathlib.Core.Path.{◌≡◌, refl, sym, ap, ◌∙◌}
use mathlib.Core.List.{List, ◌++◌, append_assoc}
use Prim.Native.Nat.{ℕ, ◌+◌, ◌-◌, ◌≤◌}
use native.Mathlib.Omega.{arith}
use lib.ListN.{length, take, drop, take-append-drop}
use lib.Seq.{take-take, take-append-le, drop_at, drop-append-le, length-take-le}
use Rattle.std.specs.List.{copy_within, between}
use Rattle.std.proofs.lemmas.Slice.{between_is}
use Rattle.tree.specs.Store.{Copied}

pub copied : (S : List ℕ) (from to dest : ℕ) {S' : List ℕ} → dest ≤ length S → S' ≡ copy_within S from to dest → Copied from to dest S S'
copied S from to dest {S'} h e =
    let parts : S' ≡ take dest S ++ (between from to S ++ drop (dest + (to - from)) S) = e ∙ append_assoc (take dest S) (between from to S) (drop (dest + (to - from)) S) in
    let long : length (take dest S) ≡ dest = length-take-le dest S h in
    record {
      before = λ n l. ap (take n) parts ∙ take-append-le n (take dest S) _ (omega arith) ∙ take-take n dest S l;
      onward = ap (drop dest) parts ∙ drop_at (take dest S) _ dest long ∙ ap (λ (l : List ℕ). l ++ drop (dest + (to - from)) S) (between_is S from to);
    }

-- words that stand where they are to go
pub stayed : (S : List ℕ) (from to : ℕ) → from ≤ to → to ≤ length S → Copied from to from S S
stayed S from to h l =
    let z : from + (to - from) ≡ to = omega arith in
    let long : length (take to S) ≡ to = length-take-le to S l in
    record {
      before = λ n l. refl;
      onward = rw z (ap (drop from) (sym (take-append-drop to S)) ∙ drop-append-le from (take to S) (drop to S) (omega arith));
    }
