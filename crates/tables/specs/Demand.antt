-- Which classes the place of each child takes, as least + 100 × most + 10,000 × other: src/demand.rt says how. Definitions; they assume nothing.
use Rattle.std.specs.Prelude.{Bool, true, false, ℕ, ◌+◌, ◌-◌, ◌*◌, ◌/◌, ◌%◌, eqb, ltb, leb}
use Rattle.tree.specs.NodeKind
use Rattle.tables.specs.Choice.{when◌then◌else◌, where_zero}
use Rattle.tables.specs.Operators.{level}
use Rattle.tables.specs.Class

-- The classes from one to another; one alone; one more beside others.
abbrev pub from_to : ℕ → ℕ → ℕ
from_to least most = least + 100 * most

abbrev pub only : ℕ → ℕ
only class = 101 * class

abbrev pub beside : ℕ → ℕ → ℕ
beside other demand = demand + 10000 * other

-- Any expression, or Absent; the same but for `...` alone, as in a statement.
abbrev pub Expr : ℕ
Expr = from_to Class.Lone Class.Keyword

abbrev pub ExprOrAbsent : ℕ
ExprOrAbsent = beside Class.Absent Expr

abbrev pub Stated : ℕ
Stated = from_to Class.Primary Class.Keyword

abbrev pub StatedOrAbsent : ℕ
StatedOrAbsent = beside Class.Absent Stated

-- A member of a tuple, an argument of several, a table's value.
abbrev pub Operand : ℕ
Operand = from_to Class.Lone Class.LastOperator

-- Under a unary operator.
abbrev pub Unary : ℕ
Unary = from_to Class.Lone Class.Unary

-- What binds tighter than operators; operands up to a level, each of which takes one class more.
abbrev pub Tight : ℕ
Tight = from_to Class.Lone Class.Tight

abbrev pub Level : ℕ → ℕ
Level l = 100 * l + Unary

-- An atom, alone or with a path, or Absent; an atom; a primary with or without a path.
abbrev pub PrimaryOrAbsent : ℕ
PrimaryOrAbsent = beside Class.Absent (from_to Class.Primary Class.Atom)

abbrev pub Atom : ℕ
Atom = only Class.Atom

abbrev pub Receiver : ℕ
Receiver = beside Class.Bare (only Class.Primary)

-- Inside a group without modifier; under a modifier what is no assignment, and what is one of its action.
abbrev pub Grouped : ℕ
Grouped = from_to Class.Lone Class.Local

abbrev pub Unassigned : ℕ
Unassigned = from_to Class.Lone Class.Tuple

abbrev pub Given : ℕ
Given = from_to Class.Lone Class.Given

-- Any expression, or a function with a name; a plain assignment, as the only argument.
abbrev pub ExprOrNamed : ℕ
ExprOrNamed = beside Class.Named Expr

abbrev pub Assignment : ℕ
Assignment = from_to Class.Local Class.Keyword

abbrev pub Pattern : ℕ
Pattern = only Class.Pattern

abbrev pub PatternOrAbsent : ℕ
PatternOrAbsent = beside Class.Absent Pattern

abbrev pub ControlOrAbsent : ℕ
ControlOrAbsent = beside Class.Absent (only Class.Control)

abbrev pub Field : ℕ
Field = only Class.Field

abbrev pub ParamOrAbsent : ℕ
ParamOrAbsent = beside Class.Absent (only Class.Param)

abbrev pub Signature : ℕ
Signature = only Class.Signature

abbrev pub Block : ℕ
Block = only Class.Block

abbrev pub BlockOrAbsent : ℕ
BlockOrAbsent = beside Class.Absent Block

-- A statement list: any; before a result, which wants no control; without a result, which wants no expression last.
abbrev pub Body : ℕ
Body = from_to Class.OpenBody Class.EndedBody

abbrev pub BodyBefore : ℕ
BodyBefore = from_to Class.OpenBody Class.PlainBody

abbrev pub BodyAlone : ℕ
BodyAlone = from_to Class.PlainBody Class.EndedBody

-- Lists. Only those of members, branches and patterns may not be empty.
abbrev pub Members : ℕ
Members = only Class.Operands

abbrev pub Arguments : ℕ
Arguments = beside Class.Empty (from_to Class.Operands Class.Argument)

abbrev pub Statements : ℕ
Statements = beside Class.Empty (only (Class.Lists + Class.Statement))

abbrev pub Items : ℕ
Items = beside Class.Empty (only (Class.Lists + Class.Item))

abbrev pub TableItems : ℕ
TableItems = beside Class.Empty (only (Class.Lists + Class.TableItem))

abbrev pub Params : ℕ
Params = beside Class.Empty (only (Class.Lists + Class.Param))

abbrev pub Defaults : ℕ
Defaults = beside Class.Empty (only (Class.Lists + Class.Default))

abbrev pub Branches : ℕ
Branches = only (Class.Lists + Class.Branch)

abbrev pub Patterns : ℕ
Patterns = only (Class.Lists + Class.Pattern)

-- What a list of a class demands of its members: their class.
unfoldable pub of_members : ℕ → ℕ
of_members list =
    when eqb list Class.Operands then Operand else
    when eqb list Class.Argument then Assignment else
    when leb list Class.Argument then Class.Nothing else
    when leb Class.Nothing list then Class.Nothing else
    only (list - Class.Lists)

-- An operator's left side is of its own level or tighter, its right side tighter.
unfoldable pub left_side : ℕ → ℕ
left_side value =
    Level (level value)

unfoldable pub right_side : ℕ → ℕ
right_side value =
    100 * (level value) + Tight

-- An assignment's right side has a name where `fun` with the target can give it.
unfoldable pub assigned : ℕ → ℕ → ℕ
assigned value mode =
    when eqb mode 0 then Expr else
    when ltb value 4 then ExprOrNamed else
    Expr

-- Inside a group, whose mode is 0 or 1 + the action of the assignment in it.
unfoldable pub inside : ℕ → ℕ → ℕ
inside value mode =
    when eqb value 0 then Grouped else
    when eqb mode 0 then Unassigned else
    when eqb mode value then Given else
    Class.Nothing

-- A default and a variadic parameter, mode 3, don't stand together.
unfoldable pub defaults : ℕ → ℕ
defaults mode =
    when eqb mode 3 then Class.Nothing else
    Defaults

unfoldable pub first_demand : ℕ → ℕ → ℕ → ℕ
first_demand kind value mode =
    when eqb kind NodeKind.Expression then Stated else
    when eqb kind NodeKind.Loop then Body else
    when eqb kind NodeKind.WhileLoop then Expr else
    when eqb kind NodeKind.ForLoop then Pattern else
    when eqb kind NodeKind.Assert then Expr else
    when eqb kind NodeKind.StmtList then Statements else
    when eqb kind NodeKind.Break then ExprOrAbsent else
    when eqb kind NodeKind.Return then ExprOrAbsent else
    when eqb kind NodeKind.Primary then Atom else
    when eqb kind NodeKind.UnaryOp then Unary else
    when eqb kind NodeKind.BinaryOp then left_side value else
    when eqb kind NodeKind.Assignment then Pattern else
    when eqb kind NodeKind.Unpack then PrimaryOrAbsent else
    when eqb kind NodeKind.Tuple then Members else
    when eqb kind NodeKind.Table then TableItems else
    when eqb kind NodeKind.IfExpr then Branches else
    when eqb kind NodeKind.Block then Block else
    when eqb kind NodeKind.FunctionDef then Signature else
    when eqb kind NodeKind.TableItem then Field else
    when eqb kind NodeKind.ExprBlock then where_zero mode BodyAlone BodyBefore else
    when eqb kind NodeKind.ConditionalBranch then Expr else
    when eqb kind NodeKind.SignatureDef then Params else
    when eqb kind NodeKind.DefaultDef then Expr else
    when eqb kind NodeKind.FieldIndex then Expr else
    when eqb kind NodeKind.Group then inside value mode else
    when eqb kind NodeKind.Index then Expr else
    when eqb kind NodeKind.Invoke then Arguments else
    when eqb kind NodeKind.InvokeTable then TableItems else
    when eqb kind NodeKind.AttributePattern then Receiver else
    when eqb kind NodeKind.IndexPattern then Receiver else
    when eqb kind NodeKind.TuplePattern then Patterns else
    when eqb kind NodeKind.Pack then PatternOrAbsent else
    when eqb kind NodeKind.Modifier then Pattern else
    Class.Nothing

unfoldable pub second_demand : ℕ → ℕ → ℕ → ℕ
second_demand kind value mode =
    when eqb kind NodeKind.WhileLoop then Body else
    when eqb kind NodeKind.ForLoop then Expr else
    when eqb kind NodeKind.StmtList then ControlOrAbsent else
    when eqb kind NodeKind.Primary then Items else
    when eqb kind NodeKind.BinaryOp then right_side value else
    when eqb kind NodeKind.Assignment then assigned value mode else
    when eqb kind NodeKind.IfExpr then BlockOrAbsent else
    when eqb kind NodeKind.FunctionDef then Block else
    when eqb kind NodeKind.TableItem then Operand else
    when eqb kind NodeKind.ExprBlock then StatedOrAbsent else
    when eqb kind NodeKind.ConditionalBranch then Block else
    when eqb kind NodeKind.SignatureDef then defaults mode else
    when eqb kind NodeKind.IndexPattern then Expr else
    Class.Nothing

unfoldable pub third_demand : ℕ → ℕ
third_demand kind =
    when eqb kind NodeKind.ForLoop then Body else
    when eqb kind NodeKind.SignatureDef then ParamOrAbsent else
    Class.Nothing

-- What a node demands of its child number j.
unfoldable pub demand : ℕ → ℕ → ℕ → ℕ → ℕ
demand kind value mode j =
    when eqb kind NodeKind.List then of_members mode else
    when eqb j 1 then first_demand kind value mode else
    when eqb j 2 then second_demand kind value mode else
    third_demand kind

-- Whether a class meets a demand.
unfoldable pub fits : ℕ → ℕ → Bool
fits demand class =
    when eqb class (demand / 10000) then true else
    when ltb class (demand % 100) then false else
    leb class ((demand / 100) % 100)
