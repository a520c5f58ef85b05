-- A text in its output, which has room for it or not. Assumes nothing.
use mathlib.Core.Path.{◌≡◌, sym, ap, ◌∙◌}
use mathlib.Core.List.{List, ◌++◌}
use Prim.Native.Nat.{ℕ, zero, suc, ◌-◌, ◌/◌, ◌≤◌, ◌<◌}
use native.Mathlib.Omega.{arith}
use borrow.Author.Tests.{lt-ltb, le-ltb}
use lib.ListN.{length, drop, replicate, length-drop}
use Rattle.grammar.specs.Reading.Limit.{short_output}
use Rattle.grammar.specs.Reading.Result.{ifb}
use Rattle.grammar.specs.Canonical.Writing.{bare}
use Rattle.grammar.specs.declared.Written.TheVariants.{Tokens, Refused}
use Rattle.tables.specs.Answer.{in_room}
use Rattle.output.specs.Text.{HoldsAs, Holds}

short_as : (b : ℕ) (O X : List ℕ) → HoldsAs b O X → b < 2 → length O < length X
short_as zero O X h l = h
short_as (suc zero) O X h l = h
short_as (suc (suc b)) O X h l = absurd (omega arith)

long_as : (b at : ℕ) (O X : List ℕ) → HoldsAs b O X → 2 ≤ b → at ≡ b - 2 → (at ≤ length O) × (drop at O ≡ X)
long_as zero at O X h l e = absurd (omega arith)
long_as (suc zero) at O X h l e = absurd (omega arith)
long_as (suc (suc b)) at O X h l e =
    let z : at ≡ b = omega arith in
    rw z h

pub no_room : {b : ℕ} {O X : List ℕ} → Holds b O X → b < 2 → in_room X (length O) ≡ bare (length O) (Refused short_output)
unfolding in_room ifb
no_room {b} {O} {X} h l = rw (lt-ltb (length O) (length X) (short_as b O X h.how l))

pub fronted : {b at : ℕ} {O O' X : List ℕ} → Holds b O X → 2 ≤ b → at ≡ b - 2 → O' ≡ drop at O ++ replicate at 0 → record { answer = Tokens ((length O - at) / 2); output = O' } ≡ in_room X (length O)
unfolding in_room ifb
fronted {b} {at} {O} {O'} {X} h l z e =
    let w = long_as b at O X h.how l z in
    let n : length X ≡ length O - at = sym (ap length w.1) ∙ length-drop at O in
    let p : length O - at ≡ length X = omega (arith, w.0) in
    let q : at ≡ length O - length X = omega (arith, w.0) in
    rw (le-ltb (length O) (length X) (omega arith), e, w.1, p, q)
