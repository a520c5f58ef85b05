-- What the contracts of the writing pass and of the entry's parts say. Definitions; they assume nothing.
use Rattle.std.specs.Prelude.{◌≡◌, Bool, true, false, List, [], ◌∷◌, ℕ, length}
use Rattle.tree.specs.Tree.{Tree}
use Rattle.grammar.specs.declared.Written.{Written}
use Rattle.tables.specs.Layout.{text, within}
use Rattle.tables.specs.Answer.{run_out}
use Rattle.writer.specs.Stack.{At}
use Rattle.output.specs.Text.{Holds}
use Rattle.std.specs.declared.result.Result.{Result}
use Rattle.std.specs.declared.result.Result.TheVariants.{Ok, Err}
use Rattle.writer.specs.declared.Step.{Step}
use Rattle.writer.specs.declared.TooDeep.{TooDeep}

-- the words Y stand at b, and the trees under the one that was written end at q; or the depth was not enough
abbrev pub StepAs : Bool → List ℕ → List Tree → List ℕ → List ℕ → Result Step TooDeep → Type 0
StepAs enough L s Y O (Ok step) = (enough ≡ true) × At L step.records s × Holds step.words O Y
StepAs enough L s Y O (Err e) = enough ≡ false

-- whatever tree ends at p and whatever text stood at a, the tree's words stand before that text
pub record WroteTree (L : List ℕ) (d place p a : ℕ) (O O' : List ℕ) (r : Result Step TooDeep) : Type 0 where
  pub how : (t : Tree) (s : List Tree) (X : List ℕ) → At L p (t ∷ s) → Holds a O X → StepAs (within t place d) L s (text t place X) O' r

-- the whole is answered and left as it must be
pub record RanOut (L O O' : List ℕ) (r : Written) : Type 0 where
  pub how : (t : Tree) → At L (length L) (t ∷ []) → record { answer = r; output = O' } ≡ run_out t (length O)
