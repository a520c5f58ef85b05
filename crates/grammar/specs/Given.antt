-- What a clean reading gives: a tree among others, a tree that some tokens give, words that tell one; and the tokens of statements in turn. The theorems on them are in proofs/Theorems.antt.
use Rattle.std.specs.Prelude.{◌≡◌, List, [], ◌++◌, ℕ, Some}
use Rattle.token.specs.Kind
use Rattle.tree.specs.Tree.{Tree, Forest, none, more, records}
use Rattle.grammar.specs.Canonical.Write.{token}
use Rattle.grammar.specs.Canonical.Writing.{clean_reading, statement_words}

-- a tree is among the statements of a clean reading
pub data Among (t : Tree) : Forest → Type 0 where
  first : {f : Forest} → Among t (more t f)
  later : {u : Tree} {f : Forest} → Among t f → Among t (more u f)

-- tokens whose clean reading, at some depth, gives the tree
pub record GivenBy (t : Tree) : Type 0 where
  pub depth : ℕ
  pub sheet : List ℕ
  pub statements : Forest
  pub clean : clean_reading depth sheet ≡ Some statements
  pub among : Among t statements

-- the words are the records of a tree that a clean reading gives
pub record Given (words : List ℕ) : Type 0 where
  pub tree : Tree
  pub text : records tree ≡ words
  pub by : GivenBy tree

-- the statements' tokens in turn, then `EOF`
unfoldable pub in_turn : Forest → List ℕ
in_turn none = token Kind.EOF []
in_turn (more t f) = statement_words t ++ in_turn f
