-- Which tokens a reading and a call look at. A reading looks at a token, or at the place behind the last one, exactly if it would meet a bad record that stood there;
-- it looks at no token behind a bad record. Definitions; they assume nothing.
use Rattle.std.specs.Prelude.{◌≡◌, refl, Bool, true, false, not, ◌&&◌, ◌||◌, List, [], ◌∷◌, ℕ, suc, ◌+◌, ◌-◌, ◌*◌, ◌/◌, ◌%◌, eqb, ltb, length, drop, Result, Ok, Err}
use Rattle.token.specs.Look.{seen_word}
use Rattle.token.specs.declared.Unread.{Unread}
use Rattle.token.specs.declared.Token.{Token}
use Rattle.token.specs.declared.Unread.TheVariants.{LexerError, Nothing, Bad}
use Rattle.tree.specs.NodeKind
use Rattle.tree.specs.Tree.{Tree, kind_of}
use Rattle.grammar.specs.Reading.Limit.{depth_limit, length_limit, queue_limit, store_share, malformed}
use Rattle.grammar.specs.Reading.Number
use Rattle.grammar.specs.Reading.Result.{Error, Res, ok, bad, fail, stop, ifb}
use Rattle.grammar.specs.Reading.Next.{next, is_stop, queue_fits}
use Rattle.grammar.specs.declared.Reader.{Reader}

-- a bad record, and any words behind it
pub record BadRecord : Type 0 where
  pub word : ℕ
  pub value : ℕ
  pub behind : List ℕ
  pub is : seen_word word value ≡ (Err Bad)

abbrev pub words_of : BadRecord → List ℕ
words_of b = b.word ∷ b.value ∷ b.behind

-- one of them: no token has the kind 255
abbrev pub bad_record : BadRecord
bad_record = record { word = 255; value = 0; behind = []; is = refl }

-- the reading met a bad record: it stopped with 60
unfoldable pub meets : {A : Type 0} → Res A → Bool
meets (ok a r) = false
meets (bad a q r) = false
meets (fail e q r) = false
meets (stop n) = eqb n malformed

-- the reading looks at the first token of what it is given, or for one if there is none: it would meet a bad record there
abbrev pub looks_first : {A : Type 0} → (List ℕ → Res A) → Bool
looks_first m = meets (m (words_of bad_record))

-- two words that are seen so are a bad record
unfoldable pub is_bad : (Result Token Unread) → Bool
is_bad (Ok tok) = false
is_bad (Err LexerError) = false
is_bad (Err Nothing) = false
is_bad (Err Bad) = true

-- the furthest token of ts that the reading m looks at, counted from 1; 0 if it looks at none; one more than there are if it looks for a token behind the last
unfoldable pub looks : {A : Type 0} → (List ℕ → Res A) → List ℕ → ℕ
looks m [] = ifb (looks_first m) (λ _. 1) (λ _. 0)
looks m (w ∷ []) = ifb (looks_first m) (λ _. 1) (λ _. 0)
looks m (w ∷ v ∷ ts) = ifb (looks_first m) (λ _. ifb (is_bad (seen_word w v)) (λ _. 1) (λ _. suc (looks (λ r. m (w ∷ v ∷ r)) ts))) (λ _. 0)

-- the furthest token of the sheet T that a call looks at, counted from 1; 0 if it looks at none. Its tests stand in their order, as in `next_stmt`.
-- A call that is answered 60 for the length, or 63, counts as having looked behind the last token
unfoldable pub call_looks : Reader → List ℕ → ℕ → ℕ
call_looks R T m =
    ifb (eqb (length T % 2) 1 || ltb (2 * length_limit) (length T)) (λ _. suc (length T / 2)) λ _.
    ifb (ltb (length T / 2) R.position || ltb queue_limit R.waiting) (λ _. 0) λ _.
    ifb (is_stop R.stopped && queue_fits R.waiting R.errors)
    (λ _. ifb (ltb 0 R.stopped) (λ _. 0) λ _.
    ifb (ltb 0 R.waiting) (λ _. 0) λ _.
    ifb (ltb m (store_share * (length T / 2 - R.position))) (λ _. suc (length T / 2)) λ _.
    R.position + looks (next depth_limit []) (drop (2 * R.position) T))
    (λ _. 0)

-- the words h are the records of a tokens, and none of them is bad
pub data WellFormed : ℕ → List ℕ → Type 0 where
  no_token : WellFormed 0 []
  a_token : {a w v : ℕ} {h : List ℕ} → is_bad (seen_word w v) ≡ false → WellFormed a h → WellFormed (suc a) (w ∷ v ∷ h)

-- the same tokens left in both, and then Z in the one and X in the other
pub data Rests (Z X : List ℕ) : List ℕ → List ℕ → Type 0 where
  r_end : Rests Z X Z X
  r_more : {w v : ℕ} {r s : List ℕ} → Rests Z X r s → Rests Z X (w ∷ v ∷ r) (w ∷ v ∷ s)

-- the same outcome over two runs of words, where one has Z and the other X: the same value, waiting errors, error or stop, and the same tokens left before Z and X
pub data Same {A : Type 0} (Z X : List ℕ) : Res A → Res A → Type 0 where
  same_ok : {a : A} {r s : List ℕ} → Rests Z X r s → Same Z X (ok a r) (ok a s)
  same_bad : {a : A} {q : List Error} {r s : List ℕ} → Rests Z X r s → Same Z X (bad a q r) (bad a q s)
  same_fail : {e : Error} {q : List Error} {r s : List ℕ} → Rests Z X r s → Same Z X (fail e q r) (fail e q s)
  same_stop : {n : ℕ} → Same Z X (stop n) (stop n)

-- a statement that is no loop
abbrev pub no_loop : Tree → Bool
no_loop t = eqb (kind_of t) NodeKind.Expression || eqb (kind_of t) NodeKind.Assert

-- every error but a lexer error; the end, error 0, is among them
abbrev pub no_lexer : Error → Bool
no_lexer e = not (eqb e Number.lexer_error)

-- behind a tree that is no loop, with errors or without, and behind an error that passes the test F, I holds of the words that are left
pub data Ends (F : Error → Bool) (I : List ℕ → Type 0) : Res Tree → Type 0 where
  e_ok : {t : Tree} {r : List ℕ} → (no_loop t ≡ true → I r) → Ends F I (ok t r)
  e_bad : {t : Tree} {q : List Error} {r : List ℕ} → (no_loop t ≡ true → I r) → Ends F I (bad t q r)
  e_fail : {e : Error} {q : List Error} {r : List ℕ} → (F e ≡ true → I r) → Ends F I (fail e q r)
  e_stop : {n : ℕ} → Ends F I (stop n)
