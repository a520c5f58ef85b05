-- What a reading gives, cleanly or before errors that wait, whatever waits and is left; and laws for the ways to put readings together, each by what the first one gives.
-- Assumes nothing.
use Rattle.std.specs.Prelude.{◌≡◌, List, ℕ}
use Rattle.std.proofs.Common.{arith}
use Rattle.tree.specs.Tree.{Tree}
use Rattle.grammar.specs.Reading.Result.{Error, Res, either, then}
use Rattle.grammar.specs.Reading.Expr.{Stmts}
use Rattle.grammar.specs.Reading.Function.{Params}
use Rattle.grammar.proofs.Laws.Keep.{Success, Holds, k_ok, k_failed, k_stop, k_on, k_any, k_or, k_if, k_push, k_front}
use Rattle.grammar.proofs.Laws.Levels.Leveled.{tree_level, Leveled, AllLeveled, Within}
use Rattle.grammar.proofs.Laws.Levels.Parts.{LeveledStmts, LeveledParam, LeveledParams}

-- P holds of what the reading f gives, whatever waits and is left
abbrev pub Always : {A : Type 0} → (A → Type 0) → (List Error → List ℕ → Res A) → Type 0
Always P f = (q : List Error) (ts : List ℕ) → Holds P (f q ts)

-- a reading of which M is asked, and then one that yields P
abbrev pub Sequel : {A B : Type 0} → (A → Type 0) → (B → List ℕ → Type 0) → Type 0
Sequel {A = A} {B = B} M P =
    (q : List Error) (d : Res A) (go : A → List Error → List ℕ → Res B) → Holds M d → ((a : A) (q : List Error) (r : List ℕ) → M a → Success P (go a q r)) → Success P (then q d go)

module _ {B : Type 0} {P : B → List ℕ → Type 0} where
  -- of what was read so much is asked: a law for each kind of what is read, so that a search knows what to ask
  pub g_tree : Sequel Leveled P
  g_tree q d go = k_on q

  pub g_forest : Sequel AllLeveled P
  g_forest q d go = k_on q

  pub g_param : Sequel LeveledParam P
  g_param q d go = k_on q

  pub g_operand : (q : List Error) {d : Res Tree} {go : Tree → List Error → List ℕ → Res B}
      → Holds (Within 0) d → ((t : Tree) (q : List Error) (r : List ℕ) → Leveled t → tree_level t ≡ 0 → Success P (go t q r)) → Success P (then q d go)
  g_operand q h f = k_on q h λ t q r w. f t q r w.leveled (omega (arith, w.most))

  pub g_params : (q : List Error) {d : Res Params} {go : Params → List Error → List ℕ → Res B}
      → Holds LeveledParams d
      → ((ps : Params) (q : List Error) (r : List ℕ) → AllLeveled ps.required_list → AllLeveled ps.default_list → Leveled ps.variadic_one → Success P (go ps q r))
      → Success P (then q d go)
  g_params q h f = k_on q h λ ps q r x. f ps q r x.first x.second x.third

  pub g_stmts : (q : List Error) {d : Res Stmts} {go : Stmts → List Error → List ℕ → Res B}
      → Holds LeveledStmts d → ((s : Stmts) (q : List Error) (r : List ℕ) → AllLeveled s.suite → Leveled s.control → Success P (go s q r)) → Success P (then q d go)
  g_stmts q h f = k_on q h λ s q r x. f s q r x.suite x.control

  pub g_either : (q : List Error) {d : Res Tree} {go : Tree → List Error → List ℕ → Res B} {or : Error → List Error → List ℕ → Res B}
      → Holds Leveled d → ((t : Tree) (q : List Error) (r : List ℕ) → Leveled t → Success P (go t q r)) → ((e : Error) (q : List Error) (r : List ℕ) → Success P (or e q r))
      → Success P (either q d go or)
  g_either q h f g = k_or q h f λ e q r u. g e q r

pub ruleset always = (k_ok, k_stop, k_failed, g_operand, g_tree, g_forest, g_param, g_params, g_stmts, k_any, g_either, k_if, k_push, k_front)
