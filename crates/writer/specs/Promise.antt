-- What document 01 says of the writer, of grammar's definition `write_stmt`, which `write_stmt` is equal to. Assumes nothing.
-- Of any words and an output of m words the answer is, in this order:
-- 65, exactly if no tokens' clean reading, limits aside, gives a tree with these records;
-- 62, exactly if one does, and reading that statement's run at the depth limit stops with 62;
-- 66, exactly if one does, its run is not that deep, and the output has less than two words for each of its tokens, the `Semicolon` included;
-- else the number of its tokens. Then the output is the statement's canonical tokens, then zeros; with any other answer it is zeros.
use Rattle.std.specs.Prelude.{◌≡◌, ◌↔◌, Bool, true, false, List, [], ◌∷◌, ◌++◌, leb, ltb, length, replicate, Option, Some, None}
use Rattle.std.proofs.Math.Path.{refl}
use Rattle.std.proofs.Common.{sym, ap, ◌∙◌, subst, true≢false}
use Prim.Native.Nat.{ℕ, suc, ◌*◌, ◌-◌, ◌/◌, ◌≤◌, ◌<◌}
use native.Mathlib.Omega.{arith}
use borrow.Author.Tests.{ltb-true, ltb-false, lt-ltb, le-ltb, leb-true, leb-false}
use Rattle.token.specs.Kind
use Rattle.tree.specs.Tree.{Tree, none, one}
use Rattle.tree.specs.Decode.{decode}
use Rattle.tree.specs.Records.{decode_text}
use Rattle.grammar.specs.Reading.Next.{next}
use Rattle.grammar.specs.Reading.Limit.{depth_limit, too_deep, no_statement, short_output}
use Rattle.grammar.specs.Reading.Result.{ok, stop, ifb}
use Rattle.grammar.specs.Canonical.Count.{tokens}
use Rattle.grammar.specs.Canonical.Need.{need}
use Rattle.grammar.specs.Canonical.Valid.{stmt, Valid}
use Rattle.grammar.specs.Canonical.Write.{own, run}
use Rattle.grammar.specs.Canonical.Writing.{readable, is_too_deep, exceeds_depth, statement_words, number, Wrote, bare, write_stmt}
use Rattle.grammar.proofs.Laws.Back.Depths.{next_back}
use Rattle.grammar.proofs.Laws.Back.Steps.{reach}
use Rattle.grammar.proofs.Laws.Facts.{not_true, by_test}
use Rattle.grammar.proofs.Laws.Small.{valid_small}
use Rattle.grammar.specs.Given.{Given}
use Rattle.grammar.proofs.Theorems.{valid_given, readable_valid, limit_exact, token_count, decoded, refused_65}
use Rattle.grammar.specs.declared.Written.TheVariants.{Tokens, Stopped, Refused}

-- reading the statement's run at the limit stops with 62
abbrev pub TooDeep : Tree → Type 0
TooDeep t = next depth_limit [] (run (one t)) ≡ stop too_deep

-- the number of words that the statement's tokens take
abbrev pub room : Tree → ℕ
room t = 2 * suc (tokens t own)

-- what can be answered and left
pub data Outcome (words : List ℕ) (m : ℕ) : Wrote → Type 0 where
  not_given : (Given words → ⊥) → Outcome words m (bare m (Refused no_statement))
  deep : (g : Given words) → TooDeep g.tree → Outcome words m (bare m (Stopped too_deep))
  short : (g : Given words) → (TooDeep g.tree → ⊥) → m < room g.tree → Outcome words m (bare m (Refused short_output))
  done : (g : Given words) → (TooDeep g.tree → ⊥) → room g.tree ≤ m
      → Outcome words m (record { answer = Tokens (suc (tokens g.tree own)); output = statement_words g.tree ++ replicate (m - room g.tree) 0 })

-- ---------------------------------------------------------------- the answer is one of these
pub given_valid : {words : List ℕ} (g : Given words) → Valid stmt g.tree
given_valid g = (valid_given g.tree).1 g.by

-- the definition's test of depth says so
too_deep_is : {t : Tree} → Valid stmt t → (exceeds_depth t ≡ true) ↔ TooDeep t
unfolding run reach
too_deep_is {t} h = go (leb (need t own) depth_limit) refl
  where
    go : (b : Bool) → leb (need t own) depth_limit ≡ b → (exceeds_depth t ≡ true) ↔ TooDeep t
    go true e = (
      (λ x. absurd (true≢false (sym x ∙ limit_exact h ∙ le-ltb depth_limit (need t own) (leb-true (need t own) depth_limit e)))),
      λ x. absurd (true≢false (ap is_too_deep {x = stop too_deep} {y = ok t (Kind.Semicolon ∷ 0 ∷ run none)} (sym x ∙ next_back h depth_limit [] (run none) ∙ rw e))),
    )
    go false e = ((λ x. next_back h depth_limit [] (run none) ∙ rw e), λ x. limit_exact h ∙ lt-ltb depth_limit (need t own) (leb-false (need t own) depth_limit e))

pub readable_given : {words : List ℕ} (g : Given words) → readable g.tree ≡ true
readable_given g = (readable_valid g.tree (valid_small (given_valid g))).1 (given_valid g)

pub given_decoded : {words : List ℕ} (g : Given words) → decode words ≡ Some g.tree
given_decoded g = sym (ap decode g.text) ∙ decoded (given_valid g)

pub decoded_given : {words : List ℕ} {t : Tree} → decode words ≡ Some t → readable t ≡ true → Given words
decoded_given {t = t} d r = record { tree = t; text = (decode_text d).0; by = (valid_given t).0 ((readable_valid t (decode_text d).1).0 r) }

shallow_is : {words : List ℕ} (g : Given words) → (TooDeep g.tree → ⊥) → exceeds_depth g.tree ≡ false
shallow_is g n = not_true (exceeds_depth g.tree) (λ x. n ((too_deep_is (given_valid g)).0 x))

module _ (words : List ℕ) (m : ℕ) where
  -- the writer's answer and output are those of any outcome that there can be
  pub sole : {w : Wrote} → Outcome words m w → write_stmt words m ≡ w
  unfolding write_stmt ifb
  sole (not_given n) = go (decode words) refl
    where
      go : (d : Option Tree) → decode words ≡ d → write_stmt words m ≡ bare m (Refused no_statement)
      go None d = rw d
      go (Some t) d = rw (d, not_true (readable t) (λ r. n (decoded_given d r)))
  sole (deep g x) = rw (given_decoded g, readable_given g, (too_deep_is (given_valid g)).1 x)
  sole (short g n l) =
      let z = token_count g.tree in
      rw (given_decoded g, readable_given g, shallow_is g n, lt-ltb m (length (statement_words g.tree)) (omega arith))
  sole (done g n l) =
      let z = token_count g.tree in
      let h : room g.tree / 2 ≡ suc (tokens g.tree own) = omega arith in
      rw (given_decoded g, readable_given g, shallow_is g n, le-ltb m (length (statement_words g.tree)) (omega arith), z, h)

  is : {w : Wrote} → Outcome words m w → Outcome words m (write_stmt words m)
  is o = subst (Outcome words m) (sym (sole o)) o

  given_outcome : Given words → Outcome words m (write_stmt words m)
  given_outcome g =
      let z = token_count g.tree in
      by_test (exceeds_depth g.tree) (λ x. is (deep g ((too_deep_is (given_valid g)).0 x))) λ x.
      let n : TooDeep g.tree → ⊥ = λ y. true≢false (sym ((too_deep_is (given_valid g)).1 y) ∙ x) in
      by_test (ltb m (length (statement_words g.tree))) (λ l. is (short g n (omega (arith, ltb-true m (length (statement_words g.tree)) l)))) λ l.
      is (done g n (omega (arith, ltb-false m (length (statement_words g.tree)) l)))

  pub outcome : Outcome words m (write_stmt words m)
  unfolding write_stmt ifb
  outcome = go (decode words) refl
    where
      refused : write_stmt words m ≡ bare m (Refused no_statement) → Outcome words m (write_stmt words m)
      refused e = is (not_given ((refused_65 words m).0 (ap (λ w. w.answer) e)))

      go : (d : Option Tree) → decode words ≡ d → Outcome words m (write_stmt words m)
      go None d = refused (rw d)
      go (Some t) d = by_test (readable t) (λ r. given_outcome (decoded_given d r)) λ r. refused (rw (d, r))

-- ---------------------------------------------------------------- each number exactly in its case
-- a statement that is too deep; one that is not, and has no room; one that is not, and has room
pub record DeepOne (words : List ℕ) : Type 0 where
  pub given : Given words
  pub deep : TooDeep given.tree

pub record ShortOne (words : List ℕ) (m : ℕ) : Type 0 where
  pub given : Given words
  pub shallow : TooDeep given.tree → ⊥
  pub short : m < room given.tree

pub record FittingOne (words : List ℕ) (m : ℕ) : Type 0 where
  pub given : Given words
  pub shallow : TooDeep given.tree → ⊥
  pub fits : room given.tree ≤ m

-- what was answered, by its number
abbrev pub said : Wrote → ℕ
said w = number w.answer

module _ (words : List ℕ) (m : ℕ) where
  pub answers_65 : (said (write_stmt words m) ≡ no_statement) ↔ (Given words → ⊥)
  answers_65 = (to (outcome words m), λ n. ap said (sole words m (not_given n)))
    where
      to : {w : Wrote} → Outcome words m w → said w ≡ no_statement → Given words → ⊥
      to (not_given n) e = n
      to (deep g x) e = absurd (omega arith)
      to (short g n l) e = absurd (omega arith)
      to (done g n l) e = absurd (omega arith)

  pub answers_62 : (said (write_stmt words m) ≡ too_deep) ↔ DeepOne words
  answers_62 = (to (outcome words m), λ x. ap said (sole words m (deep x.given x.deep)))
    where
      to : {w : Wrote} → Outcome words m w → said w ≡ too_deep → DeepOne words
      to (not_given n) e = absurd (omega arith)
      to (deep g x) e = record { given = g; deep = x }
      to (short g n l) e = absurd (omega arith)
      to (done g n l) e = absurd (omega arith)

  pub answers_66 : (said (write_stmt words m) ≡ short_output) ↔ ShortOne words m
  answers_66 = (to (outcome words m), λ x. ap said (sole words m (short x.given x.shallow x.short)))
    where
      to : {w : Wrote} → Outcome words m w → said w ≡ short_output → ShortOne words m
      to (not_given n) e = absurd (omega arith)
      to (deep g x) e = absurd (omega arith)
      to (short g n l) e = record { given = g; shallow = n; short = l }
      to (done g n l) e = absurd (omega arith)

  pub answers_tokens : (said (write_stmt words m) ≡ 0) ↔ FittingOne words m
  answers_tokens = (to (outcome words m), λ x. ap said (sole words m (done x.given x.shallow x.fits)))
    where
      to : {w : Wrote} → Outcome words m w → said w ≡ 0 → FittingOne words m
      to (not_given n) e = absurd (omega arith)
      to (deep g x) e = absurd (omega arith)
      to (short g n l) e = absurd (omega arith)
      to (done g n l) e = record { given = g; shallow = n; fits = l }
