-- Readings take tokens: `expr_takes`, `next_takes`; and what they say with no token left. Assumes nothing.
use Rattle.std.specs.Prelude.{◌≡◌, refl, ◌⊎◌, List, [], ◌∷◌, ℕ, zero, suc, ◌+◌, ◌≤◌, ◌<◌, length}
use Rattle.std.proofs.Common.{inl, inr, arith}
use Rattle.grammar.specs.Reading.Number
use Rattle.grammar.specs.Reading.Result.{Error, Res, fail, unclean, either, then, ifb}
use Rattle.grammar.specs.Reading.Look.{look, try_assign_keyword}
use Rattle.grammar.specs.Reading.Expr.{Depth, expr}
use Rattle.grammar.specs.Reading.Stmt.{stmt}
use Rattle.grammar.specs.Reading.Depth.{at_depth}
use Rattle.grammar.specs.Reading.Next.{start, next}
use Rattle.grammar.proofs.Laws.Keep.{Keep, k_ok, k_fail, Kept, past, k_weaken, k_lose, k_or, k_on, k_if, First}
use Rattle.grammar.proofs.Laws.Progress.{look_keeps, expr_keeps, stmt_keeps, depth_keeps, failed_keeps}

-- s is no longer than r
abbrev pub Left : List ℕ → List ℕ → Type 0
Left r s = length s ≤ length r

pub left_step : (r : List ℕ) → Kept (Left r)
left_step r w v s h = omega arith

-- no token is left, or the words of one stand first
pub data Words : List ℕ → Type 0 where
  short : {ts : List ℕ} → length ts < 2 → Words ts
  some : {w v : ℕ} {r : List ℕ} → Words (w ∷ v ∷ r)

pub words : (ts : List ℕ) → Words ts
words [] = short {ts = []} (omega arith)
words (w ∷ []) = short {ts = w ∷ []} (omega arith)
words (w ∷ (v ∷ r)) = some

-- with no token left

pub look_short : (q : List Error) (ts : List ℕ) → length ts < 2 → look q ts ≡ fail Number.end_of_tokens q ts
unfolding look
look_short q [] h = refl
look_short q (w ∷ []) h = refl
look_short q (w ∷ (v ∷ r)) h = absurd (omega arith)

pub expr_short : (low : Depth) (q : List Error) (ts : List ℕ) → length ts < 2 → expr low q ts ≡ fail Number.end_of_tokens q ts
unfolding expr try_assign_keyword then
expr_short low q ts h = rw (look_short q ts h)

stmt_short : (low : Depth) (q : List Error) (ts : List ℕ) → length ts < 2 → stmt low q ts ≡ fail Number.end_of_tokens q ts
unfolding stmt then
stmt_short low q ts h = rw (look_short q ts h)

pub start_short : (n : ℕ) (q : List Error) (ts : List ℕ) → length ts < 2 → start n q ts ≡ fail 0 q ts
unfolding start either ifb unclean
start_short zero q ts h = refl
start_short (suc n) q ts h = rw (look_short q ts h)

-- r is what is left of ts after a token or more
abbrev pub Taken : List ℕ → List ℕ → Type 0
Taken ts r = length r + 2 ≤ length ts

-- a success takes a token; a failure does, or no token was left
abbrev pub Takes : {A : Type 0} → List ℕ → Res A → Type 0
Takes ts = Keep (Taken ts) (λ e r. Taken ts r ⊎ length ts < 2)

module _ {A : Type 0} (f : List Error → List ℕ → Res A) (h : (I : List ℕ → Type 0) → Kept I → First I f)
    (s : (q : List Error) (ts : List ℕ) → length ts < 2 → f q ts ≡ fail Number.end_of_tokens q ts) where
  takes : (q : List Error) (ts : List ℕ) → Words ts → Takes ts (f q ts)
  takes q ts (short l) = rw (s q ts l) (k_fail (inr l))
  takes q (w ∷ (v ∷ r)) some = k_weaken (λ a t i. omega arith) (λ e t i. inl (omega arith)) (h (Left r) (left_step r) q (w ∷ v ∷ r) (past (omega arith)))

pub expr_takes : (d : ℕ) (q : List Error) (ts : List ℕ) → Takes ts (expr (at_depth d) q ts)
expr_takes d q ts = takes (expr (at_depth d)) (search (expr_keeps, depth_keeps)) (expr_short (at_depth d)) q ts (words ts)

pub stmt_takes : (d : ℕ) (q : List Error) (ts : List ℕ) → Takes ts (stmt (at_depth d) q ts)
stmt_takes d q ts = takes (stmt (at_depth d)) (search (stmt_keeps, depth_keeps)) (stmt_short (at_depth d)) q ts (words ts)

-- a failure takes a token, or it is the end, error 0
abbrev pub Ended : List ℕ → Error → List ℕ → Type 0
Ended ts e r = Taken ts r ⊎ ((e ≡ 0) × Left ts r)

at_end : (ts : List ℕ) → Ended ts 0 ts
at_end ts = inr (refl, omega arith)

-- a success leaves a token at least
start_keeps : (n : ℕ) (q : List Error) (ts : List ℕ) → Words ts → Keep (λ r. (2 ≤ length r) × Left ts r) (Ended ts) (start n q ts)
unfolding start
start_keeps zero q ts x = k_fail (at_end ts)
start_keeps (suc n) q ts (short l) = rw (start_short (suc n) q ts l) (k_fail (at_end ts))
start_keeps (suc n) q (w ∷ (v ∷ r)) some =
    k_or q (look_keeps (Left r) (left_step r) q (w ∷ v ∷ r) (past (omega arith)))
    (λ tok q₁ s i. k_if _ (λ u. k_fail (at_end (w ∷ v ∷ r))) λ u.
    k_if _ (λ u. k_weaken (λ a t j. (j.0, omega arith)) (λ e t j. ended s t i j) (start_keeps n q s (words s))) (λ u. k_ok {r = w ∷ v ∷ r} (omega arith, omega arith)))
    (λ e q₁ s i. k_if _ (λ u. k_fail (at_end (w ∷ v ∷ r))) (λ u. k_fail {r = s} (inl (omega arith))))
  where
    ended : {e : Error} (s t : List ℕ) → Left r s → Ended s e t → Ended (w ∷ v ∷ r) e t
    ended s t i (inl j) = inl (omega arith)
    ended s t i (inr j) = inr (j.0, omega arith)

-- a success takes a token; a failure does, or it is the end
pub next_takes : (d : ℕ) (q : List Error) (ts : List ℕ) → Keep (Taken ts) (Ended ts) (next d q ts)
unfolding next
next_takes d q ts =
    k_on q (start_keeps (length ts) q ts (words ts)) λ u q₁ r i.
    k_or q₁ (stmt_takes d q₁ r) (λ t q₂ s j. k_ok {r = s} (omega arith)) λ e q₂ s j.
    k_lose (λ e s. inl) (failed_keeps (Taken ts) (λ w v s i. omega arith) d e q₂ s (went r s i j))
  where
    went : (r s : List ℕ) → (2 ≤ length r) × Left ts r → Taken r s ⊎ length r < 2 → Taken ts s
    went r s i (inl j) = omega arith
    went r s i (inr j) = absurd (omega arith)
