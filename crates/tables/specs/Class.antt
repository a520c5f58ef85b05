-- The class of a node by its kind, value and mode, and of a list by the number of its members and the last one's class: src/class.rt says what they are. Definitions; they assume nothing.
use Rattle.std.specs.Prelude.{ℕ, ◌+◌, ◌%◌, eqb, ltb, leb}
use Rattle.tree.specs.NodeKind
use Rattle.tables.specs.Choice.{when◌then◌else◌, where_zero, where_is}
use Rattle.tables.specs.Operators.{Levels, level}

-- `...` alone.
abbrev pub Lone : ℕ
Lone = 1

-- A primary with a path.
abbrev pub Primary : ℕ
Primary = 2

abbrev pub Atom : ℕ
Atom = 3

-- What else binds tighter than operators, `fun` with a target included.
abbrev pub Tight : ℕ
Tight = 4

-- A unary operator; a binary one is that + its level.
abbrev pub Unary : ℕ
Unary = 5

abbrev pub LastOperator : ℕ
LastOperator = Unary + Levels

abbrev pub Tuple : ℕ
Tuple = LastOperator + 1

-- An assignment without a keyword, and one with a keyword.
abbrev pub Local : ℕ
Local = LastOperator + 2

abbrev pub Keyword : ℕ
Keyword = LastOperator + 3

-- An assignment that `fun` gives only under a group's modifier.
abbrev pub Given : ℕ
Given = LastOperator + 4

-- A primary without a path.
abbrev pub Bare : ℕ
Bare = LastOperator + 5

-- A function with a name in its signature.
abbrev pub Named : ℕ
Named = LastOperator + 6

abbrev pub Absent : ℕ
Absent = LastOperator + 7

abbrev pub Pattern : ℕ
Pattern = LastOperator + 8

abbrev pub Statement : ℕ
Statement = LastOperator + 9

abbrev pub Control : ℕ
Control = LastOperator + 10

-- An access item.
abbrev pub Item : ℕ
Item = LastOperator + 11

abbrev pub Field : ℕ
Field = LastOperator + 12

abbrev pub TableItem : ℕ
TableItem = LastOperator + 13

abbrev pub Param : ℕ
Param = LastOperator + 14

abbrev pub Default : ℕ
Default = LastOperator + 15

abbrev pub Signature : ℕ
Signature = LastOperator + 16

abbrev pub Branch : ℕ
Branch = LastOperator + 17

-- An `ExprBlock`.
abbrev pub Block : ℕ
Block = LastOperator + 18

-- A `StmtList` without control whose last statement is an expression; any other without control; one with control.
abbrev pub OpenBody : ℕ
OpenBody = LastOperator + 19

abbrev pub PlainBody : ℕ
PlainBody = LastOperator + 20

abbrev pub EndedBody : ℕ
EndedBody = LastOperator + 21

-- A list of members of a class from Pattern on, which is added.
abbrev pub Lists : ℕ
Lists = 40

-- A list of nothing.
abbrev pub Empty : ℕ
Empty = 50

-- A list of operands.
abbrev pub Operands : ℕ
Operands = 51

-- A list of one assignment that is no operand.
abbrev pub Argument : ℕ
Argument = 52

-- No place takes it.
abbrev pub Nothing : ℕ
Nothing = 99

unfoldable pub binary_class : ℕ → ℕ
binary_class value =
    Unary + (level value)

-- An assignment by its own keyword.
unfoldable pub keyword_class : ℕ → ℕ
keyword_class value =
    where_zero (value % 4) Local Keyword

-- One that `fun` with a target gives, and the signature has the target's name: `let` by itself, the others only under a group's modifier.
unfoldable pub named_class : ℕ → ℕ
named_class value =
    when eqb value 2 then Tight else
    when ltb value 4 then Given else
    keyword_class value

-- An assignment with the mode that function_form gives.
unfoldable pub assignment_class : ℕ → ℕ → ℕ
assignment_class value mode =
    when eqb mode 0 then keyword_class value else
    when eqb mode 1 then where_is value 2 Tight (keyword_class value) else
    named_class value

unfoldable pub body_class : ℕ → ℕ
body_class mode =
    when eqb mode 0 then OpenBody else
    when eqb mode 1 then PlainBody else
    EndedBody

-- Atoms, access items and patterns.
unfoldable pub later_class : ℕ → ℕ
later_class kind =
    when leb kind NodeKind.Group then Atom else
    when leb kind NodeKind.InvokeTable then Item else
    when leb kind NodeKind.Modifier then Pattern else
    Nothing

unfoldable pub class : ℕ → ℕ → ℕ → ℕ
class kind value mode =
    when eqb kind NodeKind.Absent then Absent else
    when eqb kind NodeKind.List then mode else
    when eqb kind NodeKind.Expression then Statement else
    when eqb kind NodeKind.Loop then Statement else
    when eqb kind NodeKind.WhileLoop then Statement else
    when eqb kind NodeKind.ForLoop then Statement else
    when eqb kind NodeKind.Assert then Statement else
    when eqb kind NodeKind.StmtList then body_class mode else
    when eqb kind NodeKind.Continue then Control else
    when eqb kind NodeKind.Break then Control else
    when eqb kind NodeKind.Return then Control else
    when eqb kind NodeKind.Primary then where_zero mode Bare Primary else
    when eqb kind NodeKind.UnaryOp then Unary else
    when eqb kind NodeKind.BinaryOp then binary_class value else
    when eqb kind NodeKind.Assignment then assignment_class value mode else
    when eqb kind NodeKind.Unpack then where_zero mode Lone Tight else
    when eqb kind NodeKind.Tuple then Tuple else
    when eqb kind NodeKind.Table then Tight else
    when eqb kind NodeKind.IfExpr then Tight else
    when eqb kind NodeKind.Block then Tight else
    when eqb kind NodeKind.FunctionDef then where_zero mode Tight Named else
    when eqb kind NodeKind.TableItem then TableItem else
    when eqb kind NodeKind.ExprBlock then Block else
    when eqb kind NodeKind.ConditionalBranch then Branch else
    when eqb kind NodeKind.SignatureDef then Signature else
    when eqb kind NodeKind.ParamDef then Param else
    when eqb kind NodeKind.DefaultDef then Default else
    when eqb kind NodeKind.FieldAttribute then Field else
    when eqb kind NodeKind.FieldIndex then Field else
    later_class kind

-- A list of n defaults: of these there is one at most.
unfoldable pub default_list : ℕ → ℕ
default_list n =
    when ltb 1 n then Nothing else
    Lists + Default

-- A list of n members that are no expressions, the last one of the class c.
unfoldable pub plain_list : ℕ → ℕ → ℕ
plain_list n c =
    when leb Lists c then Nothing else
    when eqb c Default then default_list n else
    Lists + c

-- A list of one expression that is no operand.
unfoldable pub argument_list : ℕ → ℕ
argument_list c =
    when eqb c Local then Argument else
    when eqb c Keyword then Argument else
    Nothing

-- A list of n members, the last one of the class c.
unfoldable pub list_class : ℕ → ℕ → ℕ
list_class n c =
    when eqb n 0 then Empty else
    when leb c LastOperator then Operands else
    when leb Pattern c then plain_list n c else
    when eqb n 1 then argument_list c else
    Nothing
