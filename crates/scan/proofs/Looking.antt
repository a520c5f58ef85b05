-- The definition's readings of tokens only, one step each, as the code goes: an equation for each way through. Assumes nothing.
use mathlib.Core.Path.{◌≡◌, refl, sym, ap, ◌∙◌}
use mathlib.Core.Bool.{Bool, true, false, cond}
use mathlib.Core.List.{List, [], ◌∷◌}
use Prim.Native.Nat.{ℕ, zero, suc, ◌+◌, ◌-◌, ◌≤◌, ◌<◌}
use native.Mathlib.Numerals.{sub-one}
use borrow.Author.Tests.{eq-eqb, ne_eqb, ltb-true}
use native.Mathlib.Omega.{arith}
use lib.Dec.{eqb}
use lib.ListN.{length, drop}
use Rattle.std.proofs.Common.{Err}
use Rattle.token.specs.Kind
use Rattle.token.specs.Look.{value_fits}
use Rattle.token.specs.declared.Token.{Token}
use Rattle.grammar.specs.Reading.Number
use Rattle.grammar.specs.Reading.Result.{Res, ok, fail, stop, then, ifb, Error}
use Rattle.grammar.specs.Reading.Look.{look, expect, try_label, keyword, try_assign_keyword}
use Rattle.scan.specs.Parts.{action_number}
use Rattle.scan.specs.Post.{Reads, Unread, Taken}
use Rattle.scan.specs.declared.Action.{Action}
use Rattle.scan.specs.declared.Action.TheVariants.{AssignLocal, AssignNonLocal, DeclImmutable, DeclMutable}
use Rattle.scan.specs.declared.Halt.{Halt}
use Rattle.scan.specs.declared.Halt.TheVariants.{Fail, Stop}

-- a reading that goes on from one that failed
pub through : {A B : Type 0} {d : List Error → Res A} {D : List Error → Res B} (k : List ℕ → A → List Error → List ℕ → Res B) {T : List ℕ} {pos least : ℕ} {h : Halt} → ((q : List Error) → D q ≡ then q (d q) (k q)) → Unread d T pos least h → Unread D T pos least h
unfolding then
through k {h = Fail failure} e u =
    let l = u.how in
    record { how = record { same = λ q. e q ∙ rw (l.same q); on = l.on; within = l.within; far = l.far } }
through k {h = Stop n} e u = record { how = λ q. e q ∙ rw (u.how q) }

-- a function that reads answers an error or a stop by it
pub unread : {A : Type 0} {d : List Error → Res A} {T : List ℕ} {pos least : ℕ} {h : Halt} → Unread d T pos least h → Reads d T pos least (Err h)
unread u = record { how = u }

-- a loop whose count is at least as long as the list looks, for with a count of 0 the list is empty; and it stops where the look does
pub counted : {A : Type 0} (q : List Error) (ts : List ℕ) (loop : ℕ → Res A) (go : ℕ → Token → List Error → List ℕ → Res A) → loop 0 ≡ fail Number.end_of_tokens q ts → ((n : ℕ) → loop (suc n) ≡ then q (look q ts) (go n)) → (fuel : ℕ) → length ts ≤ fuel → loop fuel ≡ then q (look q ts) (go (fuel - 1))
unfolding look then
counted q [] loop go ended goes zero h = ended
counted q (x ∷ ts) loop go ended goes zero h = absurd (omega arith)
counted q ts loop go ended goes (suc n) h = goes n ∙ rw (sub-one (suc n))

pub counted_stops : {A : Type 0} (q : List Error) (ts : List ℕ) (loop : ℕ → Res A) {k : ℕ} → ((n : ℕ) → look q ts ≡ stop k → loop (suc n) ≡ stop k) → (fuel : ℕ) → length ts ≤ fuel → look q ts ≡ stop k → loop fuel ≡ stop k
unfolding look
counted_stops q [] loop goes zero h l = absurd (let z : ◌≡◌ {A = ℕ} 0 1 = cc in omega arith)
counted_stops q (x ∷ ts) loop goes zero h l = absurd (omega arith)
counted_stops q ts loop goes (suc n) h l = goes n l

-- values
pub name_small : {k v : ℕ} → value_fits k v ≡ true → k ≡ Kind.Identifier → v < 4294967296
name_small {k} {v} f e = ltb-true v 4294967296 (sym (ap (λ (i : ℕ). value_fits i v) e) ∙ f)

pub label_small : {k v : ℕ} → value_fits k v ≡ true → k ≡ Kind.Label → v < 4294967296
label_small {k} {v} f e = ltb-true v 4294967296 (sym (ap (λ (i : ℕ). value_fits i v) e) ∙ f)

module _ {T : List ℕ} {pos k n v : ℕ} (at : Taken T pos k n v) (q : List Error) where
  pub expect_is : (j e : ℕ) → k ≡ j → expect j e q (drop pos T) ≡ ok (record { kind = k; newline = n; value = v }) (drop (pos + 2) T)
  unfolding expect then ifb
  expect_is j e h = rw (at.same, eq-eqb _ _ h)

  pub expect_not : (j e : ℕ) → (k ≡ j → ⊥) → expect j e q (drop pos T) ≡ fail e q (drop (pos + 2) T)
  unfolding expect then ifb
  expect_not j e h = rw (at.same, ne_eqb _ _ h)

  pub label_is : k ≡ Kind.Label → try_label q (drop pos T) ≡ ok (suc v) (drop (pos + 2) T)
  unfolding try_label then ifb
  label_is h = rw (at.same, eq-eqb _ _ h)

  pub label_not : (k ≡ Kind.Label → ⊥) → try_label q (drop pos T) ≡ ok 0 (drop pos T)
  unfolding try_label then ifb
  label_not h = rw (at.same, ne_eqb _ _ h)

  pub keyword_is : (keyword k ≡ 0 → ⊥) → try_assign_keyword q (drop pos T) ≡ ok (keyword k) (drop (pos + 2) T)
  unfolding try_assign_keyword then ifb
  keyword_is h = rw (at.same, ne_eqb _ _ h)

  pub keyword_not : keyword k ≡ 0 → try_assign_keyword q (drop pos T) ≡ ok 0 (drop pos T)
  unfolding try_assign_keyword then ifb
  keyword_not h = rw (at.same, eq-eqb _ _ h)

module _ (q : List Error) (ts : List ℕ) where
  pub expect_looks : (j e : ℕ) → expect j e q ts ≡ then q (look q ts) (λ tok q₁ rest. ifb (eqb tok.kind j) (λ _. ok tok rest) (λ _. fail e q rest))
  unfolding expect
  expect_looks j e = refl

  pub label_looks : try_label q ts ≡ then q (look q ts) (λ tok q₁ rest. ifb (eqb tok.kind Kind.Label) (λ _. ok (suc tok.value) rest) (λ _. ok 0 ts))
  unfolding try_label
  label_looks = refl

  pub keyword_looks : try_assign_keyword q ts ≡ then q (look q ts) (λ tok q₁ rest. ifb (eqb (keyword tok.kind) 0) (λ _. ok 0 ts) (λ _. ok (keyword tok.kind) rest))
  unfolding try_assign_keyword
  keyword_looks = refl

-- an action's number
pub action_most : (action : Action) → action_number action ≤ 3
action_most AssignLocal = omega arith
action_most AssignNonLocal = omega arith
action_most DeclImmutable = omega arith
action_most DeclMutable = omega arith

-- a keyword's number
pub keyword_below : (k : ℕ) → keyword k < 5
keyword_below k = by (eqb k Kind.Local) (eqb k Kind.NonLocal) (eqb k Kind.Let) (eqb k Kind.Var)
  where
    by : (a b c d : Bool) → cond a 1 (cond b 2 (cond c 3 (cond d 4 0))) < 5
    by true b c d = omega arith
    by false true c d = omega arith
    by false false true d = omega arith
    by false false false true = omega arith
    by false false false false = omega arith
