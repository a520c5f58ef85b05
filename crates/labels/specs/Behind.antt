-- What encloses a tree, by the words that stand behind it, and the offences of the records of some words. Definitions; they assume nothing.
use Rattle.std.specs.Prelude.{◌≡◌, Bool, false, List, [], ◌∷◌, ℕ, ◌+◌, ◌-◌, ◌/◌, ◌%◌, ◌≤◌, eqb, ltb, length, get_or, drop}
use Rattle.tree.specs.Tree.{Tree}
use Rattle.grammar.specs.Reading.Result.{ifb}
use Rattle.tables.specs.Choice.{when◌then◌else◌}
use Rattle.std.specs.declared.option.Option.{Option}
use Rattle.std.specs.declared.option.Option.TheVariants.{Some, None}
use Rattle.labels.specs.declared.Offence.{Offence}
use Rattle.labels.specs.declared.behind.Above.{Above}
use Rattle.labels.specs.Offences.{Enclosing, Labels, offence, offences, inside, first}
use Rattle.writer.specs.Stack.{At}

-- from a tree on h trees stand before a record with n children: how many stand behind it, from the tree on or from its parent
unfoldable pub further : ℕ → ℕ → ℕ
further n h = when ltb n h then h - n + 1 else 1

-- whether the tree is the record's last child
unfoldable pub is_last : ℕ → ℕ → Bool
is_last n h = when eqb h 1 then ltb 0 n else false

-- what encloses the first of h trees that stand before these words
unfoldable pub enclosing : ℕ → List ℕ → List Enclosing
enclosing h [] = []
enclosing h (w ∷ []) = []
enclosing h (w ∷ v ∷ r) =
    ifb (is_last (w / 256) h) (λ _. inside (w % 256) v (enclosing 1 r)) λ _.
    enclosing (further (w / 256) h) r

-- the offences of the records, as `offences` has them of a tree
unfoldable pub behind : List ℕ → List (Option Offence)
behind [] = []
behind (w ∷ []) = []
behind (w ∷ v ∷ r) = offence (enclosing 1 r) (w % 256) v ∷ behind r

-- the nearest node that has the tree before the words in its last child: from r on stands what is behind it, and right before r its record
pub record Nearest (L : List ℕ) (a : Above) (r : ℕ) : Type 0 where
  pub rest : a.behind.now ≡ drop r L
  pub above : (2 ≤ r) × (r ≤ length L)
  pub kind : a.kind ≡ get_or L (r - 2) 0 % 256
  pub label : a.label ≡ get_or L (r - 1) 0
  pub here : enclosing 1 L ≡ inside a.kind a.label (enclosing 1 a.behind.now)

-- that node, if there is one
abbrev pub NextAs : List ℕ → Option Above → Type 0
NextAs L None = enclosing 1 L ≡ []
NextAs L (Some a) = Nearest L a (length L - length a.behind.now)

pub record Next (L : List ℕ) (r : Option Above) : Type 0 where
  pub how : NextAs L r

-- the first offender of the tree whose records the words are
pub record Found (L : List ℕ) (answer : Labels) : Type 0 where
  pub how : (t : Tree) → At L (length L) (t ∷ []) → answer ≡ first 0 (offences [] t)
