-- Document 02, P1: what is claimed of a tree's records, that its operators stand by their levels. A definition; it assumes nothing. That this holds of each tree that a call
-- answers is `levels` in proofs/Levels.antt.
use Rattle.std.specs.Prelude.{◌≡◌, true, List, [], ℕ, Some}
use Rattle.tree.specs.Tree.{Tree, records}
use Rattle.tree.specs.Decode.{decode}
use Rattle.grammar.specs.Levels.{in_order}
use Rattle.agreement.specs.Ordered.{Ordered}

-- these words are the records of a tree, and of no other; its operators stand by their levels, and who goes over the words sees it
pub record LeveledWords (words : List ℕ) : Type 0 where
  pub tree : Tree
  pub text : words ≡ records tree
  pub only : decode words ≡ Some tree
  pub ordered : Ordered tree
  pub scanned : in_order [] words ≡ true
