-- Laws of lists of words that the proofs of several functions cite: words that are left, text that goes on, records that were written, what is seen at a place. Assumes nothing.
use mathlib.Core.Path.{◌≡◌, refl, sym, ap, ◌∙◌}
use mathlib.Core.Bool.{Bool, true, false, cond, ◌&&◌}
use mathlib.Core.List.{List, [], ◌∷◌, ◌++◌}
use Prim.Native.Nat.{ℕ, suc, ◌+◌, ◌-◌, ◌/◌, ◌%◌, ◌≤◌}
use native.Mathlib.Omega.{arith}
use lib.Dec.{eqb, leb}
use lib.ListN.{length, take, drop, length-take, length-drop, length-append}
use lib.Seq.{length-take-le, take-take, take-append-le, drop-drop}
use Rattle.token.specs.Kind
use Rattle.token.specs.Look.{value_fits, token_fits, seen}
use Rattle.token.specs.declared.Token.{Token}
use Rattle.std.proofs.Common.{Result, Ok, Err}
use Rattle.token.specs.declared.Unread.{Unread}
use Rattle.token.specs.declared.Unread.TheVariants.{LexerError, Nothing, Bad}
use Rattle.grammar.specs.Reading.Limit.{malformed}
use Rattle.grammar.specs.Reading.Number
use Rattle.grammar.specs.Reading.Result.{ok, fail, stop, Error}
use Rattle.grammar.specs.Reading.Look.{looked, look}
use Rattle.scan.specs.Post.{Taken, Missed}

-- WORDS THAT ARE LEFT: a count of at least so many is enough for those behind p, and is not 0 where a token stands
pub left : (T : List ℕ) (p fuel : ℕ) → length T ≤ p + fuel → length (drop p T) ≤ fuel
left T p fuel h = rw length-drop (omega arith)

pub fuel_some : (T : List ℕ) (fuel p : ℕ) → length T ≤ p + fuel → p + 2 ≤ length T → suc (fuel - 1) ≡ fuel
fuel_some T fuel p enough h = omega arith

-- TEXT that goes on with X behind «at»
module _ (S S' X : List ℕ) (at a : ℕ) (text : take a S' ≡ take at S ++ X) (within : at ≤ length S) where
  long : length (take a S') ≡ at + length X
  long = ap length text ∙ length-append (take at S) X ∙ ap (λ (n : ℕ). n + length X) (length-take-le at S within)

  -- it reaches that far
  pub up_of : at + length X ≤ a
  up_of =
      let n = long in
      let m = length-take a S' in
      omega arith

  -- it ends there, if the store is long enough
  pub grown : a ≤ length S' → a ≡ at + length X
  grown h = sym (length-take-le a S' h) ∙ long

  -- what stands before «at» is as it was
  pub prefix_of : take at S' ≡ take at S
  prefix_of =
      let n : length (take at S) ≡ at = length-take-le at S within in
      let le' : at ≤ length (take at S) = omega arith in
      let up = up_of in
      sym (take-take at a S' (omega arith)) ∙ ap (take at) text ∙ take-append-le at (take at S) X le' ∙ take-take at at S (omega arith)

-- LOOKING at the words of a run
-- where something is seen: what the look answers, and that a token's words stand there
module _ {s : Result Token Unread} (some : s ≡ (Err Nothing) → ⊥) where
  seen_looked : (l : List ℕ) → s ≡ seen l → (q : List Error) → look q l ≡ looked q (drop 2 l) s
  unfolding seen look
  seen_looked [] e q = absurd (some e)
  seen_looked (w ∷ []) e q = absurd (some e)
  seen_looked (w ∷ (v ∷ r)) e q = ap (looked q r) (sym e)

  seen_long : (l : List ℕ) → s ≡ seen l → 2 ≤ length l
  unfolding seen
  seen_long [] e = absurd (some e)
  seen_long (w ∷ []) e = absurd (some e)
  seen_long (w ∷ (v ∷ r)) e = omega arith

good_some : {t : Token} → ◌≡◌ {A = Result Token Unread} (Ok t) (Err Nothing) → ⊥
good_some e = let z : ◌≡◌ {A = ℕ} 0 1 = cc in omega arith

lexer_some : ◌≡◌ {A = Result Token Unread} (Err LexerError) (Err Nothing) → ⊥
lexer_some e = let z : ◌≡◌ {A = ℕ} 0 1 = cc in omega arith

bad_some : ◌≡◌ {A = Result Token Unread} (Err Bad) (Err Nothing) → ⊥
bad_some e = let z : ◌≡◌ {A = ℕ} 0 1 = cc in omega arith

module _ {t : Token} where
  good_token : (k n v : ℕ) (a b : Bool) → token_fits k n v ≡ a → Ok t ≡ cond a (cond b (Err LexerError) (Ok (record { kind = k; newline = n; value = v }))) (Err Bad) → value_fits t.kind t.value ≡ true
  good_token k n v true true f e = absurd (let z : ◌≡◌ {A = ℕ} 0 1 = cc in omega arith)
  good_token k n v true false f e =
      let i : t ≡ record { kind = k; newline = n; value = v } = cc in
      ap (λ (u : Token). value_fits u.kind u.value) i ∙ last_true (leb k Kind.LexerError) (leb n 1) (value_fits k v) f
    where
      last_true : (a b c : Bool) → (a && b && c) ≡ true → c ≡ true
      last_true true true c h = h
      last_true true false c h = absurd (let z : ◌≡◌ {A = ℕ} 0 1 = cc in omega arith)
      last_true false b c h = absurd (let z : ◌≡◌ {A = ℕ} 0 1 = cc in omega arith)
  good_token k n v false b f e = absurd (let z : ◌≡◌ {A = ℕ} 0 1 = cc in omega arith)

  good_fits : (l : List ℕ) → Ok t ≡ seen l → value_fits t.kind t.value ≡ true
  unfolding seen
  good_fits [] e = absurd (let z : ◌≡◌ {A = ℕ} 0 1 = cc in omega arith)
  good_fits (w ∷ []) e = absurd (let z : ◌≡◌ {A = ℕ} 0 1 = cc in omega arith)
  good_fits (w ∷ (v ∷ r)) e = good_token (w % 256) (w / 256) v (token_fits (w % 256) (w / 256) v) (eqb (w % 256) Kind.LexerError) refl e

  pub token_taken : (T : List ℕ) (pos : ℕ) → Ok t ≡ seen (drop pos T) → Taken T pos t.kind t.newline t.value
  unfolding looked
  token_taken T pos e =
      let n = seen_long good_some (drop pos T) e in
      let l : length (drop pos T) ≡ length T - pos = length-drop pos T in
      record { same = λ q. seen_looked good_some (drop pos T) e q ∙ ap (ok t) (drop-drop 2 pos T); within = omega arith; fits = good_fits (drop pos T) e }

pub lexer_room : (T : List ℕ) (pos : ℕ) → Err LexerError ≡ seen (drop pos T) → pos + 2 ≤ length T
lexer_room T pos e =
    let n = seen_long lexer_some (drop pos T) e in
    let l : length (drop pos T) ≡ length T - pos = length-drop pos T in
    omega arith

pub lexer_missed : (T : List ℕ) (pos : ℕ) → Err LexerError ≡ seen (drop pos T) → Missed T pos (record { error = Number.lexer_error; pos = pos + 2 })
unfolding looked
lexer_missed T pos e =
    let r = lexer_room T pos e in
    record { lacks = record { same = λ q. seen_looked lexer_some (drop pos T) e q ∙ ap (fail Number.lexer_error q) (drop-drop 2 pos T); on = omega arith; within = r; far = omega arith }; past = λ h. omega arith }

-- two words are something
word_something : (w v : ℕ) (a b : Bool) → ◌≡◌ {A = Result Token Unread} (Err Nothing) (cond a (cond b (Err LexerError) (Ok (record { kind = w % 256; newline = w / 256; value = v }))) (Err Bad)) → ⊥
word_something w v true true e = let z : ◌≡◌ {A = ℕ} 0 1 = cc in omega arith
word_something w v true false e = let z : ◌≡◌ {A = ℕ} 0 1 = cc in omega arith
word_something w v false b e = let z : ◌≡◌ {A = ℕ} 0 1 = cc in omega arith

seen_nothing : (l : List ℕ) → Err Nothing ≡ seen l → (q : List Error) → look q l ≡ fail Number.end_of_tokens q l
unfolding seen look
seen_nothing [] e q = refl
seen_nothing (w ∷ []) e q = refl
seen_nothing (w ∷ (v ∷ r)) e q = absurd (word_something w v (token_fits (w % 256) (w / 256) v) (eqb (w % 256) Kind.LexerError) e)

nothing_short : (l : List ℕ) → Err Nothing ≡ seen l → length l ≤ 1
unfolding seen
nothing_short [] e = omega arith
nothing_short (w ∷ []) e = omega arith
nothing_short (w ∷ (v ∷ r)) e = absurd (word_something w v (token_fits (w % 256) (w / 256) v) (eqb (w % 256) Kind.LexerError) e)

pub nothing_missed : (T : List ℕ) (pos : ℕ) → pos ≤ length T → Err Nothing ≡ seen (drop pos T) → Missed T pos (record { error = Number.end_of_tokens; pos = pos })
nothing_missed T pos h e =
    let n = nothing_short (drop pos T) e in
    let l : length (drop pos T) ≡ length T - pos = length-drop pos T in
    record { lacks = record { same = λ q. seen_nothing (drop pos T) e q; on = omega arith; within = h; far = omega arith }; past = λ h. absurd (h refl) }

pub bad_stops : (l : List ℕ) → Err Bad ≡ seen l → (q : List Error) → look q l ≡ stop malformed
unfolding looked
bad_stops l e q = seen_looked bad_some l e q
