-- The top level's passing over separators (grammar's Reading/Next.antt, `start`), one step each, as the code goes: an equation for each way through. Assumes nothing.
use mathlib.Core.Path.{◌≡◌, refl, sym, ap, ◌∙◌}
use mathlib.Core.List.{List}
use Prim.Native.Nat.{ℕ, zero, suc, ◌+◌, ◌-◌, ◌≤◌}
use native.Mathlib.Omega.{arith}
use borrow.Author.Tests.{eq-eqb, ne_eqb}
use lib.Dec.{eqb}
use lib.ListN.{length, drop}
use Rattle.token.specs.Kind
use Rattle.token.specs.declared.Token.{Token}
use Rattle.grammar.specs.Reading.Number
use Rattle.grammar.specs.Reading.Result.{Res, ok, fail, stop, unclean, either, ifb, Error}
use Rattle.grammar.specs.Reading.Look.{look}
use Rattle.grammar.specs.Reading.Next.{start}
use Rattle.scan.specs.Post.{Taken, Missed}
use Rattle.scan.specs.declared.Failure.{Failure}
use Rattle.scan.proofs.Looking.{counted_stops}
use Rattle.scan.proofs.Text.{left, fuel_some}

abbrev start_go : ℕ → List ℕ → List ℕ → Token → List Error → List ℕ → Res (Unit {0})
start_go n q ts tok q₁ rest = ifb (eqb tok.kind Kind.EOF) (λ _. fail 0 q ts) λ _. ifb (eqb tok.kind Kind.Semicolon) (λ _. start n q rest) λ _. ok tt ts

abbrev start_or : List ℕ → List ℕ → ℕ → List Error → List ℕ → Res (Unit {0})
start_or q ts e q₁ r = ifb (eqb e Number.end_of_tokens) (λ _. fail 0 q ts) (λ _. fail e q r)

module _ (q : List Error) where
  start_suc : (n : ℕ) (ts : List ℕ) → start (suc n) q ts ≡ either q (look q ts) (start_go n q ts) (start_or q ts)
  unfolding start
  start_suc n ts = refl

  start_missed : (n : ℕ) (ts : List ℕ) {e : ℕ} {r : List ℕ} → look q ts ≡ fail e q r → start (suc n) q ts ≡ unclean q (start_or q ts e q r)
  unfolding either
  start_missed n ts e = start_suc n ts ∙ rw e

  start_taken : (n : ℕ) (ts : List ℕ) {tok : Token} {r : List ℕ} → look q ts ≡ ok tok r → start (suc n) q ts ≡ start_go n q ts tok q r
  unfolding either
  start_taken n ts e = start_suc n ts ∙ rw e

  start_out : (n : ℕ) (ts : List ℕ) {e : ℕ} {r : List ℕ} → look q ts ≡ fail e q r → e ≡ Number.end_of_tokens → start n q ts ≡ fail 0 q ts
  unfolding start ifb unclean
  start_out zero ts l h = refl
  start_out (suc n) ts l h = start_missed n ts l ∙ rw (eq-eqb _ _ h)

  pub start_stop : (T : List ℕ) (fuel p : ℕ) → length T ≤ p + fuel → (k : ℕ) → ((q : List Error) → look q (drop p T) ≡ stop k) → start fuel q (drop p T) ≡ stop k
  unfolding either
  start_stop T fuel p enough k l = counted_stops q (drop p T) (λ n. start n q (drop p T)) (λ n e. start_suc n (drop p T) ∙ rw e) fuel (left T p fuel enough) (l q)

  module _ {T : List ℕ} (fuel p : ℕ) (enough : length T ≤ p + fuel) where
    pub start_none : {f : Failure} → Missed T p f → f.error ≡ Number.end_of_tokens → start fuel q (drop p T) ≡ fail 0 q (drop p T)
    start_none m e = start_out fuel (drop p T) (m.lacks.same q) e

    pub start_lexer : {f : Failure} → Missed T p f → (f.error ≡ Number.end_of_tokens → ⊥) → start fuel q (drop p T) ≡ fail f.error q (drop f.pos T)
    unfolding ifb unclean
    start_lexer m e =
        let x = m.past e in
        let y = m.lacks.within in
        let f : suc (fuel - 1) ≡ fuel = omega arith in
        ap (λ (n : ℕ). start n q (drop p T)) (sym f) ∙ start_missed (fuel - 1) (drop p T) (m.lacks.same q) ∙ rw (ne_eqb _ _ e)

    module _ {k n v : ℕ} (at : Taken T p k n v) where
      start_look : start fuel q (drop p T) ≡ start_go (fuel - 1) q (drop p T) (record { kind = k; newline = n; value = v }) q (drop (p + 2) T)
      start_look = ap (λ (n : ℕ). start n q (drop p T)) (sym (fuel_some T fuel p enough at.within)) ∙ start_taken (fuel - 1) (drop p T) (at.same q)

      pub start_eof : k ≡ Kind.EOF → start fuel q (drop p T) ≡ fail 0 q (drop p T)
      unfolding ifb
      start_eof e = start_look ∙ rw e

      pub start_semi : k ≡ Kind.Semicolon → start fuel q (drop p T) ≡ start (fuel - 1) q (drop (p + 2) T)
      unfolding ifb
      start_semi e = start_look ∙ rw e

      pub start_here : (k ≡ Kind.EOF → ⊥) → (k ≡ Kind.Semicolon → ⊥) → start fuel q (drop p T) ≡ ok tt (drop p T)
      unfolding ifb
      start_here e f = start_look ∙ rw (ne_eqb _ _ e, ne_eqb _ _ f)
