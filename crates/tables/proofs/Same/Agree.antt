-- What it is that the tables and grammar say the same of a tree at a place. Definitions; they assume nothing.
use Rattle.std.specs.Prelude.{◌≡◌, List, ℕ}
use Rattle.tree.specs.Tree.{Tree, Forest, count}
use Rattle.grammar.specs.Canonical.Write.{Place, own, modified, targeted, commas, members, suite, branches, row, write}
use Rattle.grammar.specs.Canonical.Need.{need}
use Rattle.tables.specs.Choice.{where_is, where_zero}
use Rattle.tables.specs.Form.{Own, Modified, Targeted, Commas, Members, Suite, Branches, Row, first_place, second_place, place_of, base, first_deeper, second_deeper, deeper}
use Rattle.tables.specs.Children.{last_tree, Each}
use Rattle.tables.specs.Tokens.{first_token, later_first_token, second_token, third_token, between, first_after, after_token, behind_token, last_token, name_in, carried}
use Rattle.tables.specs.Layout.{emit, opened, closed, form_of, text}
use Rattle.tables.proofs.Same.Depth.{taken}

-- the table's number of a place
abbrev pub number : Place → ℕ
number own = Own
number modified = Modified
number targeted = Targeted
number commas = Commas
number members = Members
number suite = Suite
number branches = Branches
number row = Row

-- the place for which grammar asks a tree's depth: that under a modifier, and else as if the tree stood by itself
abbrev pub depth_place : Place → Place
depth_place modified = modified
depth_place _ = own

-- the tables and grammar say the same of a tree at a place
pub record Same (p : Place) (t : Tree) : Type 0 where
  pub words : (r : List ℕ) → text t (number p) r ≡ write t p r
  pub depth : taken t (number p) ≡ need t (depth_place p)

-- of each tree of a forest where it stands by itself
abbrev pub EachOwn : Forest → Type 0
EachOwn f = Each (Same own) f

-- to unfold this is to unfold the text and the depth by the tables, the tables, and grammar's text and depth
unfoldable pub tables : Unit {0}
unfolding text taken form_of opened closed emit first_token later_first_token second_token third_token between first_after after_token behind_token last_token name_in carried place_of first_place second_place base deeper first_deeper second_deeper where_is where_zero last_tree count write need
tables = tt
