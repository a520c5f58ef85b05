-- `tree::block_result` meets its contract: what `lead` says of the lent part, in the whole store. Assumes nothing.
use mathlib.Core.Path.{◌≡◌, sym, ap, ◌∙◌}
use mathlib.Core.List.{List, ◌++◌}
use Prim.Native.Nat.{ℕ, ◌+◌, ◌-◌, ◌≤◌}
use native.Mathlib.Omega.{arith}
use lib.ListN.{length, take, drop, length-drop}
use lib.Seq.{length-take-le, take-take, take-append-le, take-append-add}
use borrow.Author.Rules.{rules}
use Rattle.tree.specs.Store.{Led, leading}
use Rattle.tree.specs.Written.{drop_take}
use Rattle.tree.proofs.block_result.Goals as goal

-- the store when its lent part is back
led_back : {n : ℕ} {Y : List ℕ} (S : List ℕ) (last end : ℕ) → last ≤ end → end + 6 ≤ length S → Led (end - last) n (take (length S - last) (drop last S)) Y → length Y ≡ length (take (length S - last) (drop last S))
    → take (end + 6) (take last S ++ (Y ++ drop (length S - last) (drop last S))) ≡ take last S ++ (leading n ++ drop last (take end S))
led_back {n} {Y} S last end h g l y =
    let k = length S - last in
    let x : length (take last S) ≡ last = length-take-le last S (omega arith) in
    let z : end + 6 ≡ length (take last S) + (end - last + 6) = omega arith in
    let b : length (take k (drop last S)) ≡ k = length-take-le k (drop last S) (rw length-drop (omega arith)) in
    let u : end - last + 6 ≤ length Y = omega arith in
    ap (λ (i : ℕ). take i (take last S ++ (Y ++ drop k (drop last S)))) z ∙ take-append-add (take last S) (Y ++ drop k (drop last S)) (end - last + 6)
    ∙ ap (λ (o : List ℕ). take last S ++ o) (take-append-le (end - last + 6) Y (drop k (drop last S)) u ∙ l.text ∙ ap (λ (o : List ℕ). leading n ++ o) (take-take (end - last) k (drop last S) (omega arith) ∙ sym (drop_take S last end h (omega arith))))

pub returns : goal.returns
returns c =
    let a = c.args in
    let l = c.lead in
    record { text = led_back a.store.now a.last a.end c.requires.0 c.requires.1 l.ensures l.auto.part; whole = search rules }
