-- Whether a record's own numbers are in the range of its kind. Definitions; they assume nothing.
use Rattle.std.specs.Prelude.{Bool, true, false, ℕ, eqb, ltb}
use Rattle.tree.specs.NodeKind
use Rattle.tables.specs.Choice.{when◌then◌else◌}
use Rattle.tables.specs.Operators.{LastBinary}

-- Names are numbered up to this.
abbrev pub Name : ℕ
Name = 4294967295

-- A label is 0 or 1 + its name.
abbrev pub Label : ℕ
Label = 4294967296

-- A name with its access is twice the name, and 1 more for `var`.
abbrev pub Named : ℕ
Named = 8589934591

-- The largest value that a record of a kind has, where there is one.
unfoldable pub top : ℕ → ℕ
top kind =
    when eqb kind NodeKind.Loop then Label else
    when eqb kind NodeKind.WhileLoop then Label else
    when eqb kind NodeKind.ForLoop then Label else
    when eqb kind NodeKind.Continue then Label else
    when eqb kind NodeKind.Break then Label else
    when eqb kind NodeKind.UnaryOp then 3 else
    when eqb kind NodeKind.BinaryOp then LastBinary else
    when eqb kind NodeKind.Assignment then 43 else
    when eqb kind NodeKind.Block then Label else
    when eqb kind NodeKind.ParamDef then Named else
    when eqb kind NodeKind.DefaultDef then Named else
    when eqb kind NodeKind.FieldAttribute then Named else
    when eqb kind NodeKind.Identifier then Name else
    when eqb kind NodeKind.BooleanLiteral then 1 else
    when eqb kind NodeKind.StringLiteral then Name else
    when eqb kind NodeKind.Group then 4 else
    when eqb kind NodeKind.Attribute then Name else
    when eqb kind NodeKind.IdentifierPattern then Name else
    when eqb kind NodeKind.AttributePattern then Name else
    when eqb kind NodeKind.Modifier then 3 else
    0

-- Whether a value is too large for its kind. A signature's name is compared with its target's, and the bits of a number may be any.
unfoldable pub exceeds : ℕ → ℕ → Bool
exceeds kind value =
    when eqb kind NodeKind.SignatureDef then false else
    when eqb kind NodeKind.IntegerLiteral then false else
    when eqb kind NodeKind.FloatLiteral then false else
    ltb (top kind) value

-- How many children a node of a kind has, lists aside.
unfoldable pub arity : ℕ → ℕ
arity kind =
    when eqb kind NodeKind.Absent then 0 else
    when eqb kind NodeKind.WhileLoop then 2 else
    when eqb kind NodeKind.ForLoop then 3 else
    when eqb kind NodeKind.StmtList then 2 else
    when eqb kind NodeKind.Continue then 0 else
    when eqb kind NodeKind.Primary then 2 else
    when eqb kind NodeKind.BinaryOp then 2 else
    when eqb kind NodeKind.Assignment then 2 else
    when eqb kind NodeKind.IfExpr then 2 else
    when eqb kind NodeKind.FunctionDef then 2 else
    when eqb kind NodeKind.TableItem then 2 else
    when eqb kind NodeKind.ExprBlock then 2 else
    when eqb kind NodeKind.ConditionalBranch then 2 else
    when eqb kind NodeKind.SignatureDef then 3 else
    when eqb kind NodeKind.ParamDef then 0 else
    when eqb kind NodeKind.FieldAttribute then 0 else
    when eqb kind NodeKind.Nil then 0 else
    when eqb kind NodeKind.EmptyTuple then 0 else
    when eqb kind NodeKind.Identifier then 0 else
    when eqb kind NodeKind.BooleanLiteral then 0 else
    when eqb kind NodeKind.IntegerLiteral then 0 else
    when eqb kind NodeKind.FloatLiteral then 0 else
    when eqb kind NodeKind.StringLiteral then 0 else
    when eqb kind NodeKind.Attribute then 0 else
    when eqb kind NodeKind.IdentifierPattern then 0 else
    when eqb kind NodeKind.IndexPattern then 2 else
    1

-- Whether a record of a node with n children has numbers of its kind's range.
unfoldable pub sound : ℕ → ℕ → ℕ → Bool
sound kind value n =
    when ltb NodeKind.Modifier kind then false else
    when exceeds kind value then false else
    when eqb kind NodeKind.List then true else
    eqb n (arity kind)
