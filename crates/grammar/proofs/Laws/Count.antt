-- No loop's count runs out before the tokens do: any two counts that are at least the number of words left give the same answer. Assumes nothing.
use Rattle.std.specs.Prelude.{◌≡◌, Bool, List, ◌∷◌, ℕ, zero, suc, ◌≤◌, ◌<◌, length}
use Rattle.std.proofs.Math.Path.{refl, ap}
use Rattle.std.proofs.Common.{sym, ◌∙◌, arith}
use Rattle.tree.specs.Tree.{Tree}
use Rattle.grammar.specs.Reading.Result.{Error, Res, bad, fail, unclean, either, then, ifb}
use Rattle.grammar.specs.Reading.Expr.{Depth, operators, binop_expr, members}
use Rattle.grammar.specs.Reading.Primary.{table_items, path}
use Rattle.grammar.specs.Reading.Block.{branches}
use Rattle.grammar.specs.Reading.Function.{params}
use Rattle.grammar.specs.Reading.Stmt.{synchronize, stmts}
use Rattle.grammar.specs.Reading.Depth.{at_depth}
use Rattle.grammar.specs.Reading.Next.{start}
use Rattle.grammar.proofs.Laws.Facts.{if_same}
use Rattle.grammar.proofs.Laws.Keep.{Keep, k_ok, k_bad, k_fail, k_stop, Kept, Near, here, past, k_lose, First}
use Rattle.grammar.proofs.Laws.Progress.{look_keeps, expect_keeps, binop_keeps, expr_keeps, member_keeps, indexing_keeps, item_keeps, items_keeps, invocation_keeps, param_keeps, joined_keeps, control_keeps, stmt_keeps, caught_keeps, depth_keeps}
use Rattle.grammar.proofs.Laws.Taken.{Left, left_step, Words, short, some, words, look_short, expr_short, start_short}

-- the same reading first, and ways to go on that agree where I holds; `then` hands a failure on, so that only a success counts

module _ (I : List ℕ → Type 0) where
  pub same_then : {A B : Type 0} (q : List Error) {d : Res A} {go go' : A → List Error → List ℕ → Res B} → Keep I (λ e r. Unit {0}) d
      → ((a : A) (q : List Error) (r : List ℕ) → I r → go a q r ≡ go' a q r) → then q d go ≡ then q d go'
  unfolding then
  same_then q (k_ok i) f = f _ _ _ i
  same_then q (k_bad i) f = ap (unclean _) (f _ _ _ i)
  same_then q (k_fail i) f = refl
  same_then q k_stop f = refl

  same_either : {A B : Type 0} (q : List Error) {d : Res A} {go go' : A → List Error → List ℕ → Res B} {or or' : Error → List Error → List ℕ → Res B} → Keep I (λ e. I) d
      → ((a : A) (q : List Error) (r : List ℕ) → I r → go a q r ≡ go' a q r) → ((n : Error) (q : List Error) (r : List ℕ) → I r → or n q r ≡ or' n q r)
      → either q d go or ≡ either q d go' or'
  unfolding either
  same_either q (k_ok i) f g = f _ _ _ i
  same_either q (k_bad i) f g = ap (unclean _) (f _ _ _ i)
  same_either q (k_fail i) f g = ap (unclean _) (g _ _ _ i)
  same_either q k_stop f g = refl

ruleset same = (if_same, k_lose, look_keeps, depth_keeps, here)

-- any two counts that are at least the number of words left give the same answer
abbrev pub Enough : {A B : Type 0} → (ℕ → A → List Error → List ℕ → Res B) → Type 0
Enough {A} loop = (n m : ℕ) (a : A) (q : List Error) (ts : List ℕ) → length ts ≤ n → length ts ≤ m → loop n a q ts ≡ loop m a q ts

-- that is so of a loop that says with no token left what it says at count 0, and of which one turn takes a token or is the last
module _ {A B : Type 0} (loop : ℕ → A → List Error → List ℕ → Res B)
    (none : (n : ℕ) (a : A) (q : List Error) (ts : List ℕ) → length ts < 2 → loop (suc n) a q ts ≡ loop zero a q ts)
    (turn : (I : List ℕ → Type 0) → Kept I → (n m : ℕ) → ((a : A) (q : List Error) (s : List ℕ) → I s → loop n a q s ≡ loop m a q s)
    → (a : A) (q : List Error) (ts : List ℕ) → Near I ts → loop (suc n) a q ts ≡ loop (suc m) a q ts) where
  same_count : (n m : ℕ) (a : A) (q : List Error) (ts : List ℕ) → Words ts → length ts ≤ n → length ts ≤ m → loop n a q ts ≡ loop m a q ts
  same_count zero zero a q ts x h g = refl
  same_count zero (suc m) a q ts x h g = sym (none m a q ts (omega arith))
  same_count (suc n) zero a q ts x h g = none n a q ts (omega arith)
  same_count (suc n) (suc m) a q ts (short l) h g = none n a q ts l ∙ sym (none m a q ts l)
  same_count (suc n) (suc m) a q (w ∷ (v ∷ r)) some h g =
      turn (Left r) (left_step r) n m (λ a q s i. same_count n m a q s (words s) (omega arith) (omega arith)) a q (w ∷ v ∷ r) (past (omega arith))

  counted : Enough loop
  counted n m a q ts = same_count n m a q ts (words ts)

-- with no token left

then_fails : {A B : Type 0} {d : Res A} {e : Error} {p : List Error} {r : List ℕ} (q : List Error) (go : A → List Error → List ℕ → Res B) → d ≡ fail e p r → then q d go ≡ fail e p r
unfolding then
then_fails q go h = rw h

ruleset fails = (then_fails, look_short, expr_short)

pub synchronize_short : (low : Depth) (inside : Bool) (n : ℕ) (q : List Error) (ts : List ℕ) → length ts < 2 → synchronize low inside n q ts ≡ bad tt q ts
unfolding synchronize either ifb unclean
synchronize_short low inside zero q ts s = refl
synchronize_short low inside (suc n) q ts s = rw (look_short q ts s)

-- each loop, over any operand that keeps or at any depth

pub operators_count : {operand : List Error → List ℕ → Res Tree} → ((I : List ℕ → Type 0) → Kept I → First I operand) → (l : ℕ) → Enough (operators operand l)
unfolding operators
operators_count h l = counted _ (search fails) λ I step. search (same_then I, same, h) depth 9

pub binop_count : (d k l : ℕ) → Enough (operators (binop_expr (at_depth d) k) l)
binop_count d k l = operators_count (search (binop_keeps, depth_keeps)) l

module _ (d : ℕ) where
  pub members_count : Enough (members (at_depth d))
  unfolding members
  members_count = counted _ (search fails) λ I step. search (same_then I, same, binop_keeps) depth 9

  pub items_count : Enough (table_items (at_depth d))
  unfolding table_items
  items_count = counted _ (search fails) λ I step. search (same_then I, same, item_keeps) depth 9

  pub path_count : (calls : Bool) → Enough (path (at_depth d) calls)
  unfolding path
  path_count calls = counted _ (search fails) λ I step. search (same_then I, same, member_keeps, indexing_keeps, invocation_keeps, items_keeps) depth 9

  pub branches_count : Enough (branches (at_depth d))
  unfolding branches
  branches_count = counted _ (search fails) λ I step. search (same_then I, same, expr_keeps, expect_keeps, (depth_keeps I step d).k_list) depth 9

  pub params_count : Enough (params (at_depth d))
  unfolding params
  params_count = counted _ (search fails) λ I step. search (same_then I, same, param_keeps, joined_keeps) depth 9

  pub stmts_count : (end : ℕ) → Enough (stmts (at_depth d) end)
  unfolding stmts
  stmts_count end = counted _ (search fails) λ I step. search (same_then I, same_either I, same, control_keeps, stmt_keeps, caught_keeps) depth 9

  pub synchronize_count : (inside : Bool) (n m : ℕ) (q : List Error) (ts : List ℕ) → length ts ≤ n → length ts ≤ m → synchronize (at_depth d) inside n q ts ≡ synchronize (at_depth d) inside m q ts
  unfolding synchronize
  synchronize_count inside n m =
      counted (λ n (u : Unit {0}). synchronize (at_depth d) inside n) (λ n u. synchronize_short (at_depth d) inside (suc n)) (λ I step. search (same_either I, same, expr_keeps) depth 9) n m tt

pub start_count : (n m : ℕ) (q : List Error) (ts : List ℕ) → length ts ≤ n → length ts ≤ m → start n q ts ≡ start m q ts
unfolding start
start_count n m = counted (λ n (u : Unit {0}). start n) (λ n u. start_short (suc n)) (λ I step. search (same_either I, same) depth 9) n m tt
