-- The entry's answer by grammar's definition: with 65 where the tree is not legal, else as the writing pass has it. Assumes nothing.
use mathlib.Core.Path.{◌≡◌}
use mathlib.Core.Bool.{Bool, true, false}
use mathlib.Core.List.{List, [], ◌∷◌}
use Prim.Native.Nat.{ℕ, ◌*◌}
use native.Mathlib.Omega.{arith}
use lib.ListN.{length, length-append}
use Rattle.std.specs.Prelude.{Some, None}
use Rattle.tree.specs.Tree.{Tree, records}
use Rattle.tree.specs.Decode.{decode}
use Rattle.tree.specs.Records.{Small, StackSmall, size, records_length, stack_records}
use Rattle.grammar.specs.Reading.Limit.{no_statement}
use Rattle.grammar.specs.Canonical.Writing.{bare, write_stmt}
use Rattle.grammar.specs.declared.Written.TheVariants.{Refused}
use Rattle.tables.specs.Check.{legal_tree}
use Rattle.tables.specs.Answer.{run_out}
use Rattle.tables.proofs.Answer.{illegal_tree, legal_run}
use Rattle.writer.specs.Stack.{At, ShapeAs, Shape}
use Rattle.writer.specs.Verdict.{Whole}
use Rattle.writer.proofs.Laws.{at_length}

-- what the shape says
pub shape_at : {L : List ℕ} {r b : Bool} → Shape L r → r ≡ b → ShapeAs L b
shape_at h e = rw e at h.how

pub at_small : {L : List ℕ} {p : ℕ} {t : Tree} → At L p (t ∷ []) → Small t
unfolding StackSmall
at_small a = a.small.0

-- each record has two words
pub whole_even : {L : List ℕ} → Whole L → (n : ℕ) × (length L ≡ 2 * n)
unfolding stack_records
whole_even w = (size w.top, omega (arith, at_length w.here, length-append [] (records w.top), records_length w.top))

-- ---------------------------------------------------------------- the three ways of the entry
pub no_tree : (L : List ℕ) (m : ℕ) → decode L ≡ None → write_stmt L m ≡ bare m (Refused no_statement)
unfolding write_stmt
no_tree L m e = rw e

module _ {L : List ℕ} {t : Tree} (d : decode L ≡ Some t) (a : At L (length L) (t ∷ [])) (m : ℕ) where
  pub illegal : legal_tree t ≡ false → write_stmt L m ≡ bare m (Refused no_statement)
  unfolding write_stmt
  illegal e = rw d (illegal_tree t (at_small a) e m)

  pub legal : legal_tree t ≡ true → write_stmt L m ≡ run_out t m
  unfolding write_stmt
  legal e = rw d (legal_run t (at_small a) e m)
