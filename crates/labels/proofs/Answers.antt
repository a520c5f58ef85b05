-- The check's answer by its definition: 65 where the tree is not legal, else the first offender. Assumes nothing.
use mathlib.Core.Path.{◌≡◌}
use mathlib.Core.Bool.{true, false}
use mathlib.Core.List.{List, [], ◌∷◌}
use Prim.Native.Nat.{ℕ}
use lib.ListN.{length}
use Rattle.std.specs.Prelude.{Some, None}
use Rattle.tree.specs.Tree.{Tree}
use Rattle.tree.specs.Decode.{decode}
use Rattle.grammar.specs.Reading.Result.{ifb}
use Rattle.tables.specs.Check.{legal_tree}
use Rattle.tables.proofs.Answer.{readable_is}
use Rattle.writer.specs.Stack.{At}
use Rattle.writer.proofs.Entry.{at_small}
use Rattle.std.specs.declared.result.Result.TheVariants.{Err}
use Rattle.labels.specs.declared.Refusal.TheVariants.{NoStatement}
use Rattle.labels.specs.Offences.{offences, first, check_labels}

pub no_tree : (L : List ℕ) → decode L ≡ None → check_labels L ≡ Err NoStatement
unfolding check_labels
no_tree L e = rw e

module _ {L : List ℕ} {t : Tree} (d : decode L ≡ Some t) (a : At L (length L) (t ∷ [])) where
  pub illegal : legal_tree t ≡ false → check_labels L ≡ Err NoStatement
  unfolding check_labels ifb
  illegal e = rw (d, readable_is t (at_small a), e)

  pub legal : legal_tree t ≡ true → check_labels L ≡ first 0 (offences [] t)
  unfolding check_labels ifb
  legal e = rw (d, readable_is t (at_small a), e)
