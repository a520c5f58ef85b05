-- The numbers that the tables have for places and forms. Definitions; they assume nothing.
use Rattle.std.specs.Prelude.{◌≡◌, Bool, not, ◌&&◌, List, ℕ, eqb, Option}
use Rattle.tree.specs.NodeKind
use Rattle.tables.specs.Choice.{when◌then◌else◌}
use Rattle.tables.specs.Form as Number
use Rattle.tables.specs.Form.{fun_gives}
use Rattle.tables.specs.Check.{function_form}
use Rattle.tables.specs.Children.{kind_in, value_in, children_in}
use Rattle.tables.specs.Layout.{form_of}
use Rattle.tree.specs.Tree.{Tree, Forest}
use Rattle.writer.specs.Stack.{Spot}
use Rattle.writer.specs.declared.form.Form.{Form}
use Rattle.writer.specs.declared.form.Head.{Head}
use Rattle.writer.specs.declared.form.Place.{Place}

abbrev pub place_number : Place → ℕ
place_number Place.Own = Number.Own
place_number Place.Modified = Number.Modified
place_number Place.Targeted = Number.Targeted
place_number Place.Commas = Number.Commas
place_number Place.Members = Number.Members
place_number Place.Suite = Number.Suite
place_number Place.Branches = Number.Branches
place_number Place.Row = Number.Row
place_number Place.Leading = Number.Leading

-- the form of an assignment, which `fun` with the target gives or not
abbrev pub assignment_number : Form → ℕ
assignment_number form = when eqb form.told 0 then place_number form.place else Number.Fun

-- whether `fun` with the target gives an assignment with these children at a place
abbrev pub by_fun : Place → ℕ → Forest → Bool
by_fun place v f = fun_gives (place_number place) v && not (eqb (function_form f) 0)

-- the form of a node of a kind
abbrev pub form_number : ℕ → Form → ℕ
form_number kind form =
    when eqb kind NodeKind.Assignment then assignment_number form else
    when eqb kind NodeKind.IfExpr then form.told else
    when eqb kind NodeKind.ExprBlock then form.told else
    when eqb kind NodeKind.SignatureDef then form.told else
    when eqb kind NodeKind.Pack then form.told else
    place_number form.place

-- the form of a node
abbrev pub form_of_head : Head → ℕ
form_of_head head = form_number head.kind head.form

-- the form of the node at p at a place
pub record FormAt (L : List ℕ) (p : ℕ) (place : Place) (form : Form) : Type 0 where
  pub how : (m : Option Tree) (s : List Tree) → Spot L p m s → form_number (kind_in m) form ≡ form_of (kind_in m) (value_in m) (children_in m) (place_number place)
