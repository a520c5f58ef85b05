-- The node kinds of a tree, as docs/TREE.md numbers them. Assumes nothing.
use Rattle.std.specs.Prelude.{ℕ}

abbrev pub Absent : ℕ
Absent = 0

abbrev pub List : ℕ
List = 1

abbrev pub Expression : ℕ
Expression = 2

abbrev pub Loop : ℕ
Loop = 3

abbrev pub WhileLoop : ℕ
WhileLoop = 4

abbrev pub ForLoop : ℕ
ForLoop = 5

abbrev pub Assert : ℕ
Assert = 6

abbrev pub StmtList : ℕ
StmtList = 7

abbrev pub Continue : ℕ
Continue = 8

abbrev pub Break : ℕ
Break = 9

abbrev pub Return : ℕ
Return = 10

abbrev pub Primary : ℕ
Primary = 11

abbrev pub UnaryOp : ℕ
UnaryOp = 12

abbrev pub BinaryOp : ℕ
BinaryOp = 13

abbrev pub Assignment : ℕ
Assignment = 14

abbrev pub Unpack : ℕ
Unpack = 15

abbrev pub Tuple : ℕ
Tuple = 16

abbrev pub Table : ℕ
Table = 17

abbrev pub IfExpr : ℕ
IfExpr = 18

abbrev pub Block : ℕ
Block = 19

abbrev pub FunctionDef : ℕ
FunctionDef = 20

abbrev pub TableItem : ℕ
TableItem = 21

abbrev pub ExprBlock : ℕ
ExprBlock = 22

abbrev pub ConditionalBranch : ℕ
ConditionalBranch = 23

abbrev pub SignatureDef : ℕ
SignatureDef = 24

abbrev pub ParamDef : ℕ
ParamDef = 25

abbrev pub DefaultDef : ℕ
DefaultDef = 26

abbrev pub FieldAttribute : ℕ
FieldAttribute = 27

abbrev pub FieldIndex : ℕ
FieldIndex = 28

abbrev pub Nil : ℕ
Nil = 29

abbrev pub EmptyTuple : ℕ
EmptyTuple = 30

abbrev pub Identifier : ℕ
Identifier = 31

abbrev pub BooleanLiteral : ℕ
BooleanLiteral = 32

abbrev pub IntegerLiteral : ℕ
IntegerLiteral = 33

abbrev pub FloatLiteral : ℕ
FloatLiteral = 34

abbrev pub StringLiteral : ℕ
StringLiteral = 35

abbrev pub Group : ℕ
Group = 36

abbrev pub Attribute : ℕ
Attribute = 37

abbrev pub Index : ℕ
Index = 38

abbrev pub Invoke : ℕ
Invoke = 39

abbrev pub InvokeTable : ℕ
InvokeTable = 40

abbrev pub IdentifierPattern : ℕ
IdentifierPattern = 41

abbrev pub AttributePattern : ℕ
AttributePattern = 42

abbrev pub IndexPattern : ℕ
IndexPattern = 43

abbrev pub TuplePattern : ℕ
TuplePattern = 44

abbrev pub Pack : ℕ
Pack = 45

abbrev pub Modifier : ℕ
Modifier = 46
