-- What the code decides of a tree before it writes it: whether its records are sound and each child fits its place, at every node. Definitions; they assume nothing.
use Rattle.std.specs.Prelude.{Bool, true, false, not, ◌&&◌, ◌||◌, ℕ, suc, ◌+◌, ◌%◌, eqb, ltb, Option}
use Rattle.tree.specs.NodeKind
use Rattle.tree.specs.Tree.{Tree, Forest, node, none, more, count}
use Rattle.grammar.specs.Canonical.Write.{tail_of, has_function}
use Rattle.tables.specs.Choice.{when◌then◌else◌}
use Rattle.tables.specs.Class as Class
use Rattle.tables.specs.Class.{class, list_class}
use Rattle.tables.specs.Demand.{demand, fits}
use Rattle.tables.specs.Kinds.{passes, unlabelled, closed}
use Rattle.tables.specs.Sound.{sound}
use Rattle.tables.specs.Children.{kind_in, count_in, value_in, children_in, first_tree, last_tree, last_in}

-- the name in the signature of an assignment's function
abbrev pub name_given : Forest → ℕ
name_given f = value_in (first_tree (children_in (first_tree (tail_of f))))

-- whether `fun` with a target gives an assignment. 0: no; 1: the signature has no name; 2: it has one
unfoldable pub function_form : Forest → ℕ
function_form f = when has_function f then (when eqb (name_given f) 0 then 1 else 2) else 0

-- the modes: src/mode.rt says what they are
unfoldable pub body_mode : Forest → ℕ
body_mode f =
    when not (eqb (kind_in (last_tree f)) NodeKind.Absent) then 2 else
    when eqb (kind_in (last_in (first_tree f))) NodeKind.Expression then 0 else
    1

unfoldable pub signature_mode : Forest → ℕ
signature_mode f =
    let defaults : ℕ = count_in (first_tree (tail_of f)) in
    when eqb (kind_in (last_tree f)) NodeKind.Absent then (when eqb defaults 0 then 0 else 1) else
    when eqb defaults 0 then 2 else
    3

unfoldable pub group_mode : Forest → ℕ
group_mode f = when eqb (kind_in (last_tree f)) NodeKind.Assignment then 1 + value_in (last_tree f) % 4 else 0

unfoldable pub inner_mode : ℕ → Forest → ℕ
inner_mode kind f =
    when eqb kind NodeKind.List then Class.Nothing else
    when eqb kind NodeKind.StmtList then body_mode f else
    when eqb kind NodeKind.Primary then count_in (last_tree f) else
    when eqb kind NodeKind.Assignment then function_form f else
    when eqb kind NodeKind.Unpack then kind_in (last_tree f) else
    when eqb kind NodeKind.IfExpr then kind_in (last_tree f) else
    when eqb kind NodeKind.FunctionDef then value_in (first_tree f) else
    when eqb kind NodeKind.ExprBlock then kind_in (last_tree f) else
    when eqb kind NodeKind.SignatureDef then signature_mode f else
    when eqb kind NodeKind.Group then group_mode f else
    when eqb kind NodeKind.Pack then kind_in (last_tree f) else
    0

-- as the code has it for no tree too: kind, value and mode 0
abbrev pub inner_class : Option Tree → ℕ
inner_class m = class (kind_in m) (value_in m) (inner_mode (kind_in m) (children_in m))

unfoldable pub mode_of : ℕ → Forest → ℕ
mode_of kind f = when eqb kind NodeKind.List then list_class (count f) (inner_class (last_tree f)) else inner_mode kind f

abbrev pub class_of : Tree → ℕ
class_of (node k v f) = class k v (mode_of k f)

-- the same at a place, where there may be no tree
abbrev pub class_in : Option Tree → ℕ
class_in m = class (kind_in m) (value_in m) (mode_of (kind_in m) (children_in m))

-- whether the first token is a label
unfoldable mutual
  pub begins_labelled : Tree → Bool
  begins_labelled (node k v f) = when passes k then first_labelled f else (eqb k NodeKind.Block && ltb 0 v)

  pub first_labelled : Forest → Bool
  first_labelled none = false
  first_labelled (more t f) = begins_labelled t

-- whether the end is a tuple of one member
unfoldable mutual
  pub ends_single : Tree → Bool
  ends_single (node k v f) = when eqb k NodeKind.Assignment then last_single f else (eqb k NodeKind.Tuple && eqb (count_in (last_tree f)) 1)

  pub last_single : Forest → Bool
  last_single none = false
  last_single (more t none) = ends_single t
  last_single (more t (more u f)) = last_single (more u f)

-- a child may not stand under a node by how it begins, or by how it ends
abbrev pub banned : ℕ → ℕ → Tree → Bool
banned k v t = (unlabelled k v && begins_labelled t) || (not (closed k) && ends_single t)

-- the children of a node with the mode m, from the number j on
unfoldable pub kids_fit : ℕ → ℕ → ℕ → ℕ → Forest → Bool
kids_fit k v m j none = true
kids_fit k v m j (more t f) = (fits (demand k v m j) (class_of t) && not (banned k v t)) && kids_fit k v m (suc j) f

abbrev pub node_fits : Tree → Bool
node_fits (node k v f) = sound k v (count f) && kids_fit k v (mode_of k f) 1 f

-- every node
unfoldable mutual
  pub all_fit : Tree → Bool
  all_fit (node k v f) = node_fits (node k v f) && all_fits f

  pub all_fits : Forest → Bool
  all_fits none = true
  all_fits (more t f) = all_fit t && all_fits f

-- the tree is a statement that a clean reading, limits aside, can give
unfoldable pub legal_tree : Tree → Bool
legal_tree t = all_fit t && eqb (class_of t) Class.Statement
