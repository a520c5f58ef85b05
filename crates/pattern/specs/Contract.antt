-- What the functions on patterns ask of the store, and say of it, as it was (S) and as it is (S'). Assumes nothing.
use Rattle.std.specs.Prelude.{◌≡◌, Bool, true, false, ◌&&◌, List, [], ◌∷◌, ◌++◌, ℕ, ◌+◌, ◌-◌, ◌%◌, ◌≤◌, eqb, leb, length, take, drop, get_or, Option, Some}
use Rattle.tree.specs.NodeKind
use Rattle.tree.specs.Tree.{Tree, records}
use Rattle.tree.specs.Records.{Small}
use Rattle.grammar.specs.Reading.Pattern.{to_pattern, can_be_pattern}
use Rattle.pattern.specs.Word

-- the tree t stands from «from» to «to»
pub record Whole (t : Tree) (S : List ℕ) (from to : ℕ) : Type 0 where
  pub small : Small t
  pub text : take to S ≡ take from S ++ records t
  pub start : from ≤ to
  pub within : to ≤ length S

pub record ATree (S : List ℕ) (from to : ℕ) : Type 0 where
  pub tree : Tree
  pub whole : Whole tree S from to

-- m is a pattern
pub record Is (m : Option Tree) : Type 0 where
  pub what : Tree
  pub same : m ≡ Some what

-- a first word is that of a list with members
abbrev pub has_members : ℕ → Bool
has_members word = eqb (word % 256) NodeKind.List && leb 256 word

-- after B and up to i stands an access that is the pattern p, and the place for the pattern ends at w
pub record Access (B : List ℕ) (p : Tree) (S : List ℕ) (i w : ℕ) : Type 0 where
  pub tree : Tree
  pub small : Small tree
  pub text : take i S ≡ B ++ records tree
  pub same : to_pattern tree ≡ Some p
  pub kind : get_or S (i - 2) 0 ≡ Word.Primary
  pub before : i ≤ w
  pub within : w ≤ length S

pub record AnAccess (S : List ℕ) (i w : ℕ) : Type 0 where
  pub base : List ℕ
  pub pat : Tree
  pub it : Access base pat S i w

-- the pattern ends at w, and what stood before the access stands as it was
pub record Moved (B : List ℕ) (p : Tree) (S : List ℕ) (i w r : ℕ) (S' : List ℕ) : Type 0 where
  pub at : r ≡ length B
  pub on : r ≤ i
  pub head : take r S' ≡ B
  pub tail : drop (r + (w - i)) S' ≡ records p ++ drop w S

-- what the record of an unpack or a tuple becomes, and with it that of its only child, whose first word is inner, where it is absent or a list
abbrev pub over_as : Bool → Bool → ℕ → ℕ → List ℕ
over_as true true inner value = Word.Absent ∷ value ∷ Word.Pack ∷ 0 ∷ []
over_as true false inner value = Word.Pack ∷ 0 ∷ []
over_as false _ inner value = inner ∷ value ∷ Word.TuplePattern ∷ 0 ∷ []

abbrev pub over_words : List ℕ → ℕ → List ℕ
over_words S i = over_as (eqb (get_or S (i - 2) 0) Word.Unpack) (eqb (get_or S (i - 4) 0) Word.Absent) (get_or S (i - 4) 0) (get_or S (i - 3) 0)

-- the words X, r of them, end at w, and what stood before them stands as it was
pub record Over (X : List ℕ) (w : ℕ) (S : List ℕ) (r : ℕ) (S' : List ℕ) : Type 0 where
  pub many : r ≡ length X
  pub head : take (w - r) S' ≡ take (w - r) S
  pub tail : drop (w - r) S' ≡ X ++ drop w S

-- the tree t, which is the pattern p, stands from «from» to «to»
pub record Fit (t p : Tree) (S : List ℕ) (from to : ℕ) : Type 0 where
  pub whole : Whole t S from to
  pub same : to_pattern t ≡ Some p

-- some expression that can be a pattern stands there
pub record AFit (S : List ℕ) (from to : ℕ) : Type 0 where
  pub tree : Tree
  pub whole : Whole tree S from to
  pub can : can_be_pattern tree ≡ true

-- the pattern p stands from «from» to r, and no word but those of the expression has changed: what stood before «from» and from «to» on is as it was; the words from r to «to» are any
pub record Stands (p : Tree) (S : List ℕ) (from to r : ℕ) (S' : List ℕ) : Type 0 where
  pub text : take r S' ≡ take from S ++ records p
  pub short : r ≤ to
  pub rest : drop to S' ≡ drop to S
