-- Where the token at the position that `next` leaves was looked at: behind a tree that is no loop, behind an error but a lexer error, and at the end, `next_peeked`. So it is
-- the furthest there. A reading of these does not leave a bad record first; so it looked at what it leaves first, since otherwise a bad record could stand there.
-- Assumes nothing.
use Rattle.std.specs.Prelude.{◌≡◌, refl, ◌⊎◌, Bool, true, false, List, [], ◌∷◌, ℕ, zero, suc, ◌+◌, ◌*◌, ◌%◌, ◌≤◌, ◌<◌, eqb, length}
use Rattle.std.proofs.Common.{◌∙◌, inl, inr, arith}
use Rattle.token.specs.Look.{seen_word, seen}
use Rattle.std.proofs.Common.{Result, Ok, Err}
use Rattle.token.specs.declared.Unread.{Unread}
use Rattle.token.specs.declared.Token.{Token}
use Rattle.token.specs.declared.Unread.TheVariants.{LexerError, Nothing, Bad}
use Rattle.tree.specs.Tree.{Tree}
use Rattle.grammar.specs.Reading.Number
use Rattle.grammar.specs.Reading.Result.{Error, Res, ok, unclean, either, then, ifb}
use Rattle.grammar.specs.Reading.Look.{looked, look}
use Rattle.grammar.specs.Reading.Expr.{Depth, expr}
use Rattle.grammar.specs.Reading.Stmt.{loop, while_loop, for_loop, stmt_label, stmt, synchronize}
use Rattle.grammar.specs.Reading.Depth.{at_depth}
use Rattle.grammar.specs.Reading.Next.{start, failed, next}
use Rattle.grammar.specs.Reading.Looked.{words_of, bad_record, is_bad, looks, Rests, r_end, r_more, Same, same_ok, same_bad, same_fail, same_stop, no_lexer, Ends, e_ok, e_bad, e_fail, e_stop}
use Rattle.grammar.proofs.Laws.Facts.{clash, if_tested, if_both}
use Rattle.grammar.proofs.Laws.Keep.{Keep, k_ok, k_bad, k_fail, k_stop, k_weaken, k_both, k_on, k_or, k_if, k_push, k_front, past, k_all}
use Rattle.grammar.proofs.Laws.Progress.{look_keeps, next_keeps}
use Rattle.grammar.proofs.Laws.Taken.{Left, left_step, Words, short, some, words, Taken, expr_takes, start_short}
use Rattle.grammar.proofs.Laws.Count.{synchronize_short}
use Rattle.grammar.proofs.Laws.Local.Looks.{IsLocal, next_is_local, local_behind, unmet, stops, LooksAt, looks_none, looks_behind, looks_bad, looks_token, looks_at, rests_long, next_ends}

-- no bad record stands first
abbrev Fits : List ℕ → Type 0
Fits r = is_bad (seen r) ≡ false

short_fits : (ts : List ℕ) → length ts < 2 → Fits ts
unfolding seen is_bad
short_fits [] l = refl
short_fits (w ∷ []) l = refl
short_fits (w ∷ (v ∷ ts)) l = absurd (omega arith)

-- laws of `Ends`

module _ {F : Error → Bool} {I : List ℕ → Type 0} where
  pub ends_map : {M : List ℕ → Type 0} {x : Res Tree} → ((r : List ℕ) → I r → M r) → Ends F I x → Ends F M x
  ends_map f (e_ok i) = e_ok (λ e. f _ (i e))
  ends_map f (e_bad i) = e_bad (λ e. f _ (i e))
  ends_map f (e_fail i) = e_fail (λ e. f _ (i e))
  ends_map f e_stop = e_stop

  ends_both : {M : List ℕ → Type 0} {x : Res Tree} → Ends F I x → Keep M (λ e. M) x → Ends F (λ r. I r × M r) x
  ends_both (e_ok i) (k_ok j) = e_ok (λ e. (i e, j))
  ends_both (e_bad i) (k_bad j) = e_bad (λ e. (i e, j))
  ends_both (e_fail i) (k_fail j) = e_fail (λ e. (i e, j))
  ends_both e_stop k_stop = e_stop

  ends_kept : {x : Res Tree} → Keep I (λ e. I) x → Ends F I x
  ends_kept (k_ok i) = e_ok (λ e. i)
  ends_kept (k_bad i) = e_bad (λ e. i)
  ends_kept (k_fail i) = e_fail (λ e. i)
  ends_kept k_stop = e_stop

  ends_unclean : (q : List Error) {x : Res Tree} → Ends F I x → Ends F I (unclean q x)
  unfolding unclean
  ends_unclean q (e_ok i) = e_bad i
  ends_unclean q (e_bad i) = e_bad i
  ends_unclean q (e_fail i) = e_fail i
  ends_unclean q e_stop = e_stop

  ends_if : (c : Bool) {x y : Unit {0} → Res Tree} → ((u : Unit {0}) → Ends F I (x u)) → ((u : Unit {0}) → Ends F I (y u)) → Ends F I (ifb c x y)
  ends_if c h k = if_both (Ends F I) c h k

  ends_then : {A : Type 0} {M : List ℕ → Type 0} (q : List Error) {d : Res A} {go : A → List Error → List ℕ → Res Tree} → Keep M (λ e r. F e ≡ true → I r) d
      → ((a : A) (q : List Error) (r : List ℕ) → M r → Ends F I (go a q r)) → Ends F I (then q d go)
  unfolding then
  ends_then q (k_ok i) h = h _ _ _ i
  ends_then q (k_bad i) h = ends_unclean _ (h _ _ _ i)
  ends_then q (k_fail i) h = e_fail i
  ends_then q k_stop h = e_stop

-- a reading that never leaves a bad record first looked at the token that it leaves first

unlooked_rest : {X s r : List ℕ} → Rests (words_of bad_record) X s r → Fits s → length X < length r
unfolding seen is_bad
unlooked_rest r_end f = clash refl f
unlooked_rest (r_more k) f = omega (arith, rests_long k)

module _ {F : Error → Bool} where
  unlooked : {X : List ℕ} {x y : Res Tree} → Same (words_of bad_record) X x y → Ends F Fits x → Ends F (λ r. length X < length r) y
  unlooked (same_ok k) (e_ok i) = e_ok (λ e. unlooked_rest k (i e))
  unlooked (same_bad k) (e_bad i) = e_bad (λ e. unlooked_rest k (i e))
  unlooked (same_fail k) (e_fail i) = e_fail (λ e. unlooked_rest k (i e))
  unlooked same_stop e_stop = e_stop

  peeked : {m : List ℕ → Res Tree} {ts : List ℕ} {n : ℕ} → IsLocal m → ((ts : List ℕ) → Ends F Fits (m ts)) → LooksAt m ts n → Ends F (λ r. length ts < length r + 2 * n) (m ts)
  peeked {ts = ts} l f (looks_none t) = ends_map (λ r i. omega arith) (unlooked (unmet l _ ts t) (f _))
  peeked l f (looks_behind t s) = ends_kept (k_all (λ a r. omega arith) (λ e r. omega arith) _)
  peeked l f (looks_bad {w = w} {v = v} {ts = ts} t s) = rw (stops l w v ts s t) e_stop
  peeked l f (looks_token {w = w} {v = v} t s x) = ends_map (λ r i. omega arith) (peeked (local_behind w v l) (λ us. f (w ∷ v ∷ us)) x)

-- a look that does not stop saw no bad record, and fails only with a lexer error or at the end of the tokens

abbrev AtLook : List ℕ → Error → List ℕ → Type 0
AtLook ts e r = Fits ts × (no_lexer e ≡ eqb e Number.end_of_tokens)

look_fits : (q : List Error) (ts : List ℕ) → Keep (λ s. Fits ts) (AtLook ts) (look q ts)
unfolding look looked seen is_bad
look_fits q [] = k_fail (refl, refl)
look_fits q (w ∷ []) = k_fail (refl, refl)
look_fits q (w ∷ (v ∷ r)) = go (seen_word w v)
  where
    go : (x : (Result Token Unread)) → Keep (λ s. is_bad x ≡ false) (λ e s. (is_bad x ≡ false) × (no_lexer e ≡ eqb e Number.end_of_tokens)) (looked q r x)
    go (Ok tok) = k_ok refl
    go (Err LexerError) = k_fail (refl, refl)
    go (Err Nothing) = k_fail (refl, refl)
    go (Err Bad) = k_stop

look_takes : (w v : ℕ) (r : List ℕ) (q : List Error) → Keep (λ s. Fits (w ∷ v ∷ r) × Left r s) (λ e s. AtLook (w ∷ v ∷ r) e s × Left r s) (look q (w ∷ v ∷ r))
look_takes w v r q = k_both (look_fits q (w ∷ v ∷ r)) (look_keeps (Left r) (left_step r) q (w ∷ v ∷ r) (past (omega arith)))

-- expressions and statements; how they fail does not matter

no_error : Error → Bool
no_error e = false

abbrev NoMatter : Error → List ℕ → Type 0
NoMatter e r = no_error e ≡ true → Fits r

no_matter : (e : Error) (r : List ℕ) → NoMatter e r
unfolding no_error
no_matter e r k = clash k refl

any : {A : Type 0} (d : Res A) → Keep (λ r. Unit {0}) NoMatter d
any d = k_all (λ a r. tt) no_matter d

look_first : (q : List Error) (ts : List ℕ) → Keep (λ s. Fits ts) NoMatter (look q ts)
look_first q ts = k_weaken (λ a r f. f) (λ e r f. no_matter e r) (look_fits q ts)

module _ (low : Depth) (right : (q : List Error) (ts : List ℕ) → Keep Fits NoMatter (low.right q ts)) where
  expr_fits : (q : List Error) (ts : List ℕ) → Keep Fits NoMatter (expr low q ts)
  unfolding expr
  expr_fits q ts =
      k_on q (any _) λ m q₁ r _. k_on q₁ (any _) λ lhs q₂ s _. k_on q₂ (look_first q₂ s) λ tok q₃ rest f.
      k_if _ (λ _. k_if _ (λ _. k_ok f) (λ _. k_fail (no_matter _ s))) (λ _. k_on q₂ (any _) λ p q₄ u _. k_on q₂ (right q₂ u) λ rhs q₅ x i. k_ok i)

right_fits : (d : ℕ) (q : List Error) (ts : List ℕ) → Keep Fits NoMatter ((at_depth d).right q ts)
unfolding at_depth
right_fits zero q ts = k_stop
right_fits (suc d) q ts = expr_fits (at_depth d) (right_fits d) q ts

module _ (low : Depth) where
  loop_ends : (l : ℕ) (q : List Error) (ts : List ℕ) → Ends no_error Fits (loop low l q ts)
  unfolding loop
  loop_ends l q ts = ends_then q (any _) λ s q₁ r _. e_ok (λ e. clash e refl)

  while_ends : (l : ℕ) (q : List Error) (ts : List ℕ) → Ends no_error Fits (while_loop low l q ts)
  unfolding while_loop
  while_ends l q ts = ends_then q (any _) λ c q₁ r _. ends_then q₁ (any _) λ tok q₂ s _. ends_then q₂ (any _) λ b q₃ u _. e_ok (λ e. clash e refl)

  for_ends : (l : ℕ) (q : List Error) (ts : List ℕ) → Ends no_error Fits (for_loop low l q ts)
  unfolding for_loop
  for_ends l q ts =
      ends_then q (any _) λ p q₁ r _. ends_then q₁ (any _) λ tok q₂ s _. ends_then q₂ (any _) λ i q₃ u _.
      ends_then q₃ (any _) λ tok₂ q₄ x _. ends_then q₄ (any _) λ b q₅ y _. e_ok (λ e. clash e refl)

  label_ends : (l : ℕ) (q : List Error) (ts : List ℕ) → Ends no_error Fits (stmt_label low l q ts)
  unfolding stmt_label
  label_ends l q ts =
      ends_then q (any _) λ tok q₁ rest _.
      ends_if _ (λ _. loop_ends l q rest) λ _. ends_if _ (λ _. while_ends l q rest) λ _. ends_if _ (λ _. for_ends l q rest) λ _. e_fail (no_matter _ _)

stmt_ends : (d : ℕ) (q : List Error) (ts : List ℕ) → Ends no_error Fits (stmt (at_depth d) q ts)
unfolding stmt
stmt_ends d q ts =
    let low : Depth = at_depth d in
    ends_then q (any _) λ tok q₁ rest _.
    ends_if _ (λ _. loop_ends low 0 q rest) λ _. ends_if _ (λ _. while_ends low 0 q rest) λ _. ends_if _ (λ _. for_ends low 0 q rest) λ _. ends_if _ (λ _. label_ends low _ q rest) λ _.
    ends_if _ (λ _. ends_then q (expr_fits low (right_fits d) q rest) λ e q₂ r i. e_ok (λ k. i)) λ _.
    ends_if _ (λ _. e_fail (no_matter _ _)) λ _. ends_if _ (λ _. e_fail (no_matter _ _)) λ _. ends_if _ (λ _. e_fail (no_matter _ _)) λ _.
    ends_then q (expr_fits low (right_fits d) q ts) λ e q₂ r i. ends_if _ (λ _. e_fail (no_matter _ _)) (λ _. e_ok (λ k. i))

-- a resynchronization

synchronize_fits : (d : ℕ) (inside : Bool) (n : ℕ) (q : List Error) (ts : List ℕ) → Words ts → length ts ≤ n → Keep Fits (λ e. Fits) (synchronize (at_depth d) inside n q ts)
unfolding synchronize
synchronize_fits d inside zero q ts w l = k_bad (short_fits ts (omega arith))
synchronize_fits d inside (suc n) q ts (short s) l = rw (synchronize_short (at_depth d) inside (suc n) q ts s) (k_bad (short_fits ts s))
synchronize_fits d inside (suc n) q (w ∷ (v ∷ r)) some l =
    k_or q (look_takes w v r q)
    (λ tok q₁ s f. k_if _ (λ _. k_ok f.0) λ _.
    k_or q (k_both (expr_fits (at_depth d) (right_fits d) q (w ∷ v ∷ r)) (expr_takes d q (w ∷ v ∷ r))) (λ t q₂ u i. k_ok i.0)
    λ e q₂ u i. synchronize_fits d inside n q₂ u (words u) (shorter u i.1))
    (λ e q₁ s f. k_if _ (λ _. k_ok f.0.0) (λ _. synchronize_fits d inside n q₁ s (words s) (omega arith)))
  where
    shorter : (u : List ℕ) → Taken (w ∷ v ∷ r) u ⊎ length (w ∷ v ∷ r) < 2 → length u ≤ n
    shorter u (inl i) = omega arith
    shorter u (inr i) = absurd (omega arith)

-- at the top level a lexer error is taken, and no token behind it looked at
start_fits : (n : ℕ) (q : List Error) (ts : List ℕ) → Words ts → length ts ≤ n → Keep (λ r. Unit {0}) (λ e r. no_lexer e ≡ true → Fits r) (start n q ts)
unfolding start
start_fits zero q ts w l = let f : Fits ts = short_fits ts (omega arith) in k_fail (λ k. f)
start_fits (suc n) q ts (short s) l = rw (start_short (suc n) q ts s) (k_fail (λ k. short_fits ts s))
start_fits (suc n) q (w ∷ (v ∷ r)) some l =
    k_or q (look_takes w v r q)
    (λ tok q₁ s f. k_if _ (λ _. k_fail (λ k. f.0)) λ _. k_if _ (λ _. start_fits n q s (words s) (omega arith)) (λ _. k_ok tt))
    (λ e q₁ s f. if_tested (Keep _ _) _ (λ _ t. k_fail (λ k. f.0.0)) (λ _ t. k_fail (λ k. clash k (f.0.1 ∙ t))))

failed_fits : (d : ℕ) (e : Error) (q : List Error) (ts : List ℕ) → Keep Fits (λ e. Fits) (failed d e q ts)
unfolding failed
failed_fits d e q ts = k_push e q λ q₁. k_front q₁ λ f q₂. k_on q₂ (synchronize_fits d false (length ts) q₂ ts (words ts) (omega arith)) λ u q₃ r i. k_fail i

-- a statement, or its error behind a resynchronization
stmt_answered : (d : ℕ) (q : List Error) {x : Res Tree} → Ends no_error Fits x → Ends no_lexer Fits (either q x (λ t q₂ s. ok t s) (failed d))
unfolding either unclean
stmt_answered d q (e_ok i) = e_ok i
stmt_answered d q (e_bad i) = e_bad i
stmt_answered d q (e_fail i) = ends_unclean _ (ends_kept (failed_fits d _ _ _))
stmt_answered d q e_stop = e_stop

next_fits : (d : ℕ) (q : List Error) (ts : List ℕ) → Ends no_lexer Fits (next d q ts)
unfolding next
next_fits d q ts = ends_then q (start_fits (length ts) q ts (words ts) (omega arith)) λ u q₁ r _. stmt_answered d q₁ (stmt_ends d q₁ r)

-- what is left of ts by whole tokens
abbrev TokensLeft : List ℕ → List ℕ → Type 0
TokensLeft ts r = (length r % 2 ≡ length ts % 2) × Left ts r

tokens_left : (d : ℕ) (q : List Error) (ts : List ℕ) → Keep (TokensLeft ts) (λ e. TokensLeft ts) (next d q ts)
tokens_left d q ts = next_keeps (TokensLeft ts) (λ w v r i. omega arith) d q ts (refl, omega arith)

pub next_peeked : (d : ℕ) (q : List Error) (ts : List ℕ) → Ends no_lexer (λ r. (length r + 2 * looks (next d q) ts ≡ length ts + 2) × Left ts r) (next d q ts)
next_peeked d q ts =
    ends_map (λ r i. omega arith)
    (ends_both (ends_both (peeked (next_is_local d q) (next_fits d q) (looks_at (next d q) ts)) (next_ends d q ts)) (tokens_left d q ts))
