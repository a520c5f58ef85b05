-- What a call of the writing pass answers, and where trees end. Assumes nothing.
use mathlib.Core.Path.{◌≡◌, sym}
use mathlib.Core.Bool.{false, true≢false}
use mathlib.Core.List.{List, ◌∷◌}
use Prim.Native.Nat.{ℕ, ◌+◌, ◌≤◌}
use native.Mathlib.Omega.{arith}
use lib.ListN.{length-append}
use Rattle.tree.specs.Tree.{Tree, records}
use Rattle.tree.specs.Records.{records_length, size_positive, stack_records}
use Rattle.tables.specs.Layout.{text, within}
use Rattle.writer.specs.Post.{StepAs, WroteTree}
use Rattle.writer.specs.Stack.{At}
use Rattle.output.specs.Text.{Holds}
use Rattle.std.specs.Prelude.{IsErr}
use Rattle.std.specs.declared.result.Result.{Result}
use Rattle.std.specs.declared.result.Result.TheVariants.{Ok, Err}
use Rattle.writer.specs.declared.Step.{Step}
use Rattle.writer.specs.declared.TooDeep.{TooDeep}
use Rattle.writer.proofs.Laws.{at_length}

-- what stands under a tree ends two words before it or earlier
pub under_top : {L : List ℕ} {p q : ℕ} {t : Tree} {s : List Tree} → At L p (t ∷ s) → At L q s → q + 2 ≤ p
unfolding stack_records
under_top {t = t} {s = s} a b = omega (arith, at_length a, at_length b, length-append (stack_records s) (records t), records_length t, size_positive t)

-- by its answer: the tree's words stand there, or the depth was not enough
pub wrote_at : {L : List ℕ} {d place p a : ℕ} {O O' : List ℕ} {r x : Result Step TooDeep} → WroteTree L d place p a O O' r → r ≡ x → (t : Tree) (s : List Tree) (X : List ℕ) → At L p (t ∷ s) → Holds a O X → StepAs (within t place d) L s (text t place X) O' x
wrote_at w e t s X h g = rw e at (w.how t s X h g)

-- the depth was not enough
pub wrote_deep : {L : List ℕ} {d place p a : ℕ} {O O' : List ℕ} {r : Result Step TooDeep} → IsErr r → ((t : Tree) (s : List Tree) (X : List ℕ) → At L p (t ∷ s) → Holds a O X → within t place d ≡ false) → WroteTree L d place p a O O' r
wrote_deep {L} {d} {place} {p} {a} {O} {O'} {r} e f = go r e
  where
    go : (r : Result Step TooDeep) → IsErr r → WroteTree L d place p a O O' r
    go (Ok step) e = absurd (true≢false (sym e))
    go (Err deep) e = record { how = f }
