-- The tokens that a reading saw: what a look gives of the words that it starts at. Assumes nothing.
use Rattle.std.specs.Prelude.{◌≡◌, refl, Bool, true, false, cond, ◌&&◌, List, [], ◌∷◌, ℕ, ◌/◌, ◌%◌, eqb, leb}
use Rattle.std.proofs.Common.{sym}
use Rattle.token.specs.Kind
use Rattle.token.specs.Look.{value_fits, token_fits, seen_token}
use Rattle.token.specs.declared.Token.{Token}
use Rattle.std.proofs.Common.{Ok, Err}
use Rattle.token.specs.declared.Unread.TheVariants.{LexerError, Bad}
use Rattle.grammar.specs.Reading.Result.{Error}
use Rattle.grammar.specs.Reading.Look.{looked, look}
use Rattle.grammar.proofs.Laws.Facts.{other, and_r}
use Rattle.grammar.proofs.Laws.Keep.{Yields, Success, k_ok, k_fail, k_stop, k_weaken}
use Rattle.grammar.proofs.Laws.Post.{Post, post_success}

-- the kind of the first token, and 77 where there is none
abbrev pub kind_at : List ℕ → ℕ
kind_at [] = 77
kind_at (w ∷ []) = 77
kind_at (w ∷ v ∷ r) = w % 256

-- a token that was seen at ts
pub record Saw (ts : List ℕ) (tok : Token) (r : List ℕ) : Type 0 where
  pub at : tok.kind ≡ kind_at ts
  pub fits : value_fits tok.kind tok.value ≡ true

abbrev pub NotClose : List ℕ → Type 0
NotClose ts = eqb (kind_at ts) Kind.CloseParen ≡ false

-- a look that fails did not see `)`
looked_sees : (q rest ts : List ℕ) (k n v : ℕ) → k ≡ kind_at ts → Yields (Saw ts) (λ e r. NotClose ts) (looked q rest (seen_token k n v))
unfolding looked
looked_sees q rest ts k n v h = go (token_fits k n v) refl (eqb k Kind.LexerError) refl
  where
    go : (b : Bool) → token_fits k n v ≡ b → (c : Bool) → eqb k Kind.LexerError ≡ c
        → Yields (Saw ts) (λ e r. NotClose ts) (looked q rest (cond b (cond c (Err LexerError) (Ok (record { kind = k; newline = n; value = v }))) (Err Bad)))
    go true e true f = k_fail (rw (sym h) (other k Kind.LexerError Kind.CloseParen f refl))
    go true e false f = k_ok (record { at = h; fits = and_r (leb k Kind.LexerError && leb n 1) (value_fits k v) e })
    go false e c f = k_stop

pub look_sees : (q : List Error) (ts : List ℕ) → Yields (Saw ts) (λ e r. NotClose ts) (look q ts)
unfolding look
look_sees q [] = k_fail refl
look_sees q (w ∷ []) = k_fail refl
look_sees q (w ∷ (v ∷ r)) = looked_sees q r (w ∷ v ∷ r) (w % 256) (w / 256) v refl

pub look_seen : (q : List Error) (ts : List ℕ) → Success (Saw ts) (look q ts)
look_seen q ts = k_weaken (λ tok r s. s) (λ e r c. tt) (look_sees q ts)

pub look_saw : (q : List Error) (ts : List ℕ) → Post (Saw ts) (look q ts)
look_saw q ts = post_success (look_seen q ts)

-- what was seen as c is not d
pub isnt : {ts r : List ℕ} {tok : Token} → Saw ts tok r → (c d : ℕ) → eqb tok.kind c ≡ true → eqb c d ≡ false → eqb (kind_at ts) d ≡ false
isnt {ts} {tok = tok} s c d e h = rw (sym s.at) (other tok.kind c d e h)

-- what was not seen as c is not c
pub not_at : {ts r : List ℕ} {tok : Token} → Saw ts tok r → (c : ℕ) → eqb tok.kind c ≡ false → eqb (kind_at ts) c ≡ false
not_at s c e = rw (sym s.at) e

pub is_at : {ts r : List ℕ} {tok : Token} → Saw ts tok r → (c : ℕ) → eqb tok.kind c ≡ true → eqb (kind_at ts) c ≡ true
is_at s c e = rw (sym s.at) e

abbrev pub NotLabel : List ℕ → Type 0
NotLabel ts = eqb (kind_at ts) Kind.Label ≡ false

abbrev pub NotComma : List ℕ → Type 0
NotComma ts = eqb (kind_at ts) Kind.Comma ≡ false
