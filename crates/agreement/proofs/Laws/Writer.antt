-- What the writer gives for the words of a valid statement that the depth limit is enough for. Assumes nothing.
use Rattle.std.specs.Prelude.{◌≡◌, ◌↔◌, Bool, ℕ, ◌-◌, ◌/◌, ◌≤◌, ◌<◌, replicate}
use Rattle.std.proofs.Math.Path.{refl, ap}
use Rattle.std.proofs.Common.{sym, ◌∙◌, true≢false, arith}
use Rattle.std.proofs.Math.Bool.{true, false}
use mathlib.Core.List.Memᴰ
use mathlib.Core.List.{List, ◌++◌, Memᴰ}
use borrow.Author.Tests.{ltb-true, ltb-false, le-ltb}
use Rattle.std.proofs.Math.Dec.{ltb}
use Rattle.std.proofs.Math.ListN.{length}
use Rattle.tree.specs.Tree.{Tree, Forest, none, more, records}
use Rattle.tree.specs.Node
use Rattle.grammar.specs.Reading.Limit.{depth_limit, short_output}
use Rattle.grammar.specs.Reading.Result.{ifb}
use Rattle.grammar.specs.Canonical.Write.{own}
use Rattle.grammar.specs.Canonical.Need.{need}
use Rattle.grammar.specs.Canonical.Valid.{stmt, Valid, Valids}
use Rattle.grammar.specs.Canonical.Writing.{statement_words, Wrote, bare, write_stmt}
use Rattle.grammar.specs.Contract.{Writes}
use Rattle.grammar.proofs.Laws.Back.Snoc.{most_more}
use Rattle.grammar.proofs.Laws.Small.{valid_small}
use Rattle.grammar.specs.Given.{Among, first, later}
use Rattle.grammar.proofs.Theorems.{among_valid, readable_valid, limit_exact, decoded}
use Rattle.grammar.specs.declared.Written.{Written}
use Rattle.grammar.specs.declared.Written.TheVariants.{Tokens, Stopped, Refused}
use Rattle.agreement.specs.Answers.{tree, answers_of}
use Rattle.agreement.specs.Statement.{WrittenAs, Rewritten}

-- a statement needs no more than all
among_need : {t : Tree} {f : Forest} → Among t f → need t own ≤ need (Node.list f) own
unfolding need
among_need {t} (first {f = f}) = omega (arith, most_more t f)
among_need (later {u = u} {f = f} a) = omega (arith, most_more u f, among_need a)

-- what the writer leaves, by whether the output is too short
abbrev outcome : Bool → Tree → ℕ → Wrote
outcome b t m =
    ifb b (λ _. bare m (Refused short_output)) λ _.
    record { answer = Tokens (length (statement_words t) / 2); output = statement_words t ++ replicate (m - length (statement_words t)) 0 }

writes_is : {t : Tree} (m : ℕ) → Valid stmt t → need t own ≤ depth_limit → write_stmt (records t) m ≡ outcome (ltb m (length (statement_words t))) t m
unfolding write_stmt ifb
writes_is {t} m h l = rw (decoded h, (readable_valid t (valid_small h)).1 h, limit_exact h, le-ltb depth_limit (need t own) l)

abbrev is_tokens : Written → Bool
is_tokens (Tokens n) = true
is_tokens (Stopped n) = false
is_tokens (Refused n) = false

module _ {t : Tree} (h : Valid stmt t) (l : need t own ≤ depth_limit) (output : List ℕ) (answer : Written) (output' : List ℕ) (w : Writes (records t) output answer output') where
  left : (b : Bool) → ltb (length output) (length (statement_words t)) ≡ b → record { answer = answer; output = output' } ≡ outcome b t (length output)
  left b e = w ∙ writes_is (length output) h l ∙ ap (λ b. outcome b t (length output)) e

  -- the tokens come exactly if the output is long enough
  tokens_exact : WrittenAs t output answer output' ↔ (length (statement_words t) ≤ length output)
  unfolding ifb
  tokens_exact = go (ltb (length output) (length (statement_words t))) refl
    where
      go : (b : Bool) → ltb (length output) (length (statement_words t)) ≡ b → WrittenAs t output answer output' ↔ (length (statement_words t) ≤ length output)
      go true e = (
        (λ x. absurd (true≢false (sym (ap is_tokens x.tokens) ∙ ap (λ y. is_tokens y.answer) (left true e)))),
        λ x. absurd (omega (arith, x, ltb-true (length output) (length (statement_words t)) e)),
      )
      go false e = ((λ x. ltb-false _ _ e), λ x. record { tokens = ap (λ y. y.answer) (left false e); words = ap (λ y. y.output) (left false e) })

  -- and 66 exactly if it is not
  short_exact : (answer ≡ Refused short_output) ↔ (length output < length (statement_words t))
  unfolding ifb
  short_exact = go (ltb (length output) (length (statement_words t))) refl
    where
      go : (b : Bool) → ltb (length output) (length (statement_words t)) ≡ b → (answer ≡ Refused short_output) ↔ (length output < length (statement_words t))
      go true e = ((λ x. ltb-true _ _ e), λ x. ap (λ y. y.answer) (left true e))
      go false e = (
        (λ x. absurd (true≢false (sym (ap (λ y. is_tokens y.answer) (left false e)) ∙ ap is_tokens x))),
        λ x. absurd (omega (arith, x, ltb-false (length output) (length (statement_words t)) e)),
      )

-- an answered tree is one of the trees
answered_among : (f : Forest) {words : List ℕ} → Memᴰ (tree words) (answers_of f) → (t : Tree) × Among t f × (records t ≡ words)
unfolding answers_of
answered_among none (Memᴰ.head e) = absurd (let z : ◌≡◌ {A = ℕ} 0 1 = cc in omega arith)
answered_among none (Memᴰ.tail m) = absurd (Memᴰ.not-nil m)
answered_among (more t f) (Memᴰ.head e) = (t, first, cc)
answered_among (more t f) (Memᴰ.tail m) = let (u, a, e) = answered_among f m in (u, later a, e)

pub rewritten : {f : Forest} → Valids stmt f → need (Node.list f) own ≤ depth_limit → (words : List ℕ) → Memᴰ (tree words) (answers_of f) → Rewritten f words
rewritten {f} v l words m =
    let (t, a, e) = answered_among f m in
    let h : Valid stmt t = among_valid a v in
    let n : need t own ≤ depth_limit = omega (arith, among_need a) in
    record { statement = t; among = a; text = e; gives = λ o w o' x. tokens_exact h n o w o' (rw e x); short = λ o w o' x. short_exact h n o w o' (rw e x) }
