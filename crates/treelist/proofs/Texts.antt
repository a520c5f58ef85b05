-- What the proofs of the listing's lines share: a number's digits, and the names of the node kinds. Assumes nothing.
use Rattle.std.proofs.Common.{◌≡◌, ℕ, suc, ◌/◌, ◌%◌, ◌^◌, ◌<◌, Bool, true, false, cond, not, ◌&&◌, List, [], ◌∷◌, ◌++◌, eqb, refl, ap, arith, lit<, Bor, sym, zero, ◌-◌, sub-one, append_assoc}
use borrow.Author.Tests.{lt-ltb, le-ltb, ne_eqb}
use Rattle.std.specs.Fmt.{decimal as std_decimal, HasWritten}
use Rattle.std.specs.declared.fmt.Formatter.{Formatter}
use Rattle.std.proofs.Output.{has_written_of_eq}
use Rattle.std.proofs.lemmas.Fmt.{AppendsLastDigit, decimal_from_appends, length-decimal-le}
use Rattle.std.proofs.lemmas.Bool.{false≢true}
use Rattle.grammar.proofs.Laws.Facts.{and_l, and_r}
use Rattle.treelist.specs.Listing.{decimal_within, decimal, behind, word, name, name_at, node_line, answer_line}
use Rattle.treelist.specs.Text.{bytes}

-- the digits are those that the library writes

appends : AppendsLastDigit decimal_within
unfolding decimal_within
appends = record { one = λ k n h. rw (lt-ltb n 10 h); more = λ k n h. rw (le-ltb n 10 h) }

pub decimal_same : (n : ℕ) → n < 2 ^ 64 → std_decimal n ≡ decimal n
decimal_same n h =
    let e = decimal_from_appends decimal_within appends 20 n h (length-decimal-le 20 n (lit< tt) (omega arith) h) in
    rw e

-- the words of a text

-- a word has no space
abbrev has_none : List ℕ → Bool
has_none [] = true
has_none (b ∷ w) = not (eqb b 32) && has_none w

-- the words of a text in turn, each with a space behind it
abbrev joined : List (Bor (List ℕ)) → List ℕ
joined [] = []
joined (w ∷ ws) = w.now ++ 32 ∷ joined ws

abbrev all_words : List (Bor (List ℕ)) → Bool
all_words [] = true
all_words (w ∷ ws) = has_none w.now && all_words ws

word_of : (w l : List ℕ) → has_none w ≡ true → word (w ++ 32 ∷ l) ≡ w
unfolding word
word_of [] l h = refl
word_of (b ∷ w) l h =
    elim (eqb b 32) as (λ v. not v && has_none w ≡ true → cond v [] (b ∷ word (w ++ 32 ∷ l)) ≡ b ∷ w)
    [ true ↦ λ h. absurd (false≢true h) | false ↦ λ h. ap (λ v. b ∷ v) (word_of w l h) ] h

behind_none : (l : List ℕ) → behind 0 l ≡ l
unfolding behind
behind_none [] = refl
behind_none (b ∷ l) = refl

behind_word : (k : ℕ) (w l : List ℕ) → has_none w ≡ true → behind (suc k) (w ++ 32 ∷ l) ≡ behind k l
unfolding behind
behind_word k [] l h = rw (ne_eqb (suc k) 0 (omega arith), sub-one)
behind_word k (b ∷ w) l h =
    rw (ne_eqb (suc k) 0 (omega arith)) (elim (eqb b 32) as (λ v. not v && has_none w ≡ true → behind (cond v (suc k - 1) (suc k)) (w ++ 32 ∷ l) ≡ behind k l)
    [ true ↦ λ h. absurd (false≢true h) | false ↦ λ h. behind_word k w l h ] h)

-- the name that the search by words finds stands at its place
pub name_found : (names : List (Bor (List ℕ))) (text : List ℕ) (k : ℕ) → all_words names ≡ true → text ≡ joined names → name_at names k ≡ word (behind k text)
unfolding name_at behind word
name_found names text k h j = rw j (found names k h)
  where
    found : (ws : List (Bor (List ℕ))) (k : ℕ) → all_words ws ≡ true → name_at ws k ≡ word (behind k (joined ws))
    found [] k h = refl
    found (w ∷ ws) zero h = rw behind_none (sym (word_of w.now (joined ws) (and_l (has_none w.now) (all_words ws) h)))
    found (w ∷ ws) (suc k) h = rw (behind_word k w.now (joined ws) (and_l (has_none w.now) (all_words ws) h)) (found ws k (and_r (has_none w.now) (all_words ws) h))

-- the lines, of the digits that the library writes

pub node_line_same : (n : List ℕ) (w v : ℕ) → n ≡ name (w % 256) → w < 2 ^ 64 → v < 2 ^ 64
    → bytes "kind=" ++ (n ++ (bytes " kids=" ++ (std_decimal (w / 256) ++ (bytes " value=" ++ (std_decimal v ++ bytes "\n"))))) ≡ node_line w v
node_line_same n w v e h k =
    let q : w / 256 < 2 ^ 64 = omega arith in
    rw (e, decimal_same (w / 256) q, decimal_same v k) (simp append_assoc)

pub wrote_answer : {W : Type 0} {took : W → List ℕ → W → Type 0} {f g : Formatter W} (text : List ℕ) (n : ℕ) → n < 2 ^ 64 → HasWritten took f (text ++ (std_decimal n ++ bytes "\n")) g
    → HasWritten took f (answer_line text n) g
wrote_answer text n h w =
    let same : text ++ (std_decimal n ++ bytes "\n") ≡ answer_line text n = rw (decimal_same n h) (simp append_assoc) in
    has_written_of_eq _ _ _ _ _ same w
