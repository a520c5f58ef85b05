-- What the kinds of nodes say of targets, labels and closing parentheses. Definitions; they assume nothing.
use Rattle.std.specs.Prelude.{Bool, true, false, ℕ, ◌-◌, eqb}
use Rattle.tree.specs.NodeKind
use Rattle.tables.specs.Choice.{when◌then◌else◌}

-- A path of members and indexes goes on a target.
unfoldable pub target_item : ℕ → Bool
target_item kind =
    when eqb kind NodeKind.Attribute then true else
    when eqb kind NodeKind.Index then true else
    false

-- Whether a signature's name, 0 or 1 + it, is 1 + this one.
unfoldable pub name_is : ℕ → ℕ → Bool
name_is value name =
    when eqb name 0 then false else
    eqb (name - 1) value

-- Whether a signature's name, 0 or 1 + it, is the one that a target of this kind and value gives.
unfoldable pub gives_name : ℕ → ℕ → ℕ → Bool
gives_name kind value name =
    when eqb kind NodeKind.IdentifierPattern then name_is value name else
    eqb name 0

-- Whether a node begins with its first child, where a label could be the first token.
unfoldable pub passes : ℕ → Bool
passes kind =
    when eqb kind NodeKind.List then true else
    when eqb kind NodeKind.BinaryOp then true else
    when eqb kind NodeKind.Tuple then true else
    false

-- Whether the children of a node may not begin with a label: what begins a statement, and the value of a break without one.
unfoldable pub unlabelled : ℕ → ℕ → Bool
unlabelled kind value =
    when eqb kind NodeKind.Expression then true else
    when eqb kind NodeKind.Break then eqb value 0 else
    when eqb kind NodeKind.ExprBlock then true else
    false

-- Whether a child of the node may end in a tuple of one member: `)` comes behind it, or it is the node's own parent that decides.
unfoldable pub closed : ℕ → Bool
closed kind =
    when eqb kind NodeKind.List then true else
    when eqb kind NodeKind.Assignment then true else
    when eqb kind NodeKind.DefaultDef then true else
    when eqb kind NodeKind.Group then true else
    false
