-- The places and forms of nodes as numbers, and the depth that nodes take: src/form.rt says what they are. Definitions; they assume nothing.
use Rattle.std.specs.Prelude.{Bool, false, ℕ, eqb, ltb}
use Rattle.tree.specs.NodeKind
use Rattle.tables.specs.Choice.{when◌then◌else◌, where_zero, where_is}

abbrev pub Own : ℕ
Own = 0

abbrev pub Modified : ℕ
Modified = 1

abbrev pub Targeted : ℕ
Targeted = 2

abbrev pub Commas : ℕ
Commas = 3

abbrev pub Members : ℕ
Members = 4

abbrev pub Suite : ℕ
Suite = 5

abbrev pub Branches : ℕ
Branches = 6

abbrev pub Row : ℕ
Row = 7

abbrev pub Leading : ℕ
Leading = 8

abbrev pub Fun : ℕ
Fun = 9

-- Whether `fun` gives an assignment's action at its place: `let`, or that of the group around it.
unfoldable pub fun_gives : ℕ → ℕ → Bool
fun_gives place value =
    when eqb place Own then eqb value 2 else
    when eqb place Modified then ltb value 4 else
    false

unfoldable pub first_place : ℕ → ℕ → ℕ → ℕ
first_place kind value form =
    when eqb kind NodeKind.StmtList then Suite else
    when eqb kind NodeKind.Tuple then Members else
    when eqb kind NodeKind.Table then Commas else
    when eqb kind NodeKind.IfExpr then Branches else
    when eqb kind NodeKind.SignatureDef then where_zero form Commas Leading else
    when eqb kind NodeKind.Group then where_zero value Own Modified else
    when eqb kind NodeKind.Invoke then Commas else
    when eqb kind NodeKind.InvokeTable then Commas else
    when eqb kind NodeKind.TuplePattern then Members else
    Own

unfoldable pub second_place : ℕ → ℕ → ℕ
second_place kind form =
    when eqb kind NodeKind.Primary then Row else
    when eqb kind NodeKind.Assignment then where_is form Fun Targeted Own else
    when eqb kind NodeKind.SignatureDef then Commas else
    Own

-- The place of the child number j, from 1.
unfoldable pub place_of : ℕ → ℕ → ℕ → ℕ → ℕ
place_of kind value form j =
    when eqb j 1 then first_place kind value form else
    when eqb j 2 then second_place kind form else
    Own

-- The depth that a node takes at least.
unfoldable pub base : ℕ → ℕ
base kind =
    when eqb kind NodeKind.Absent then 0 else
    when eqb kind NodeKind.List then 0 else
    when eqb kind NodeKind.Expression then 0 else
    when eqb kind NodeKind.Loop then 0 else
    when eqb kind NodeKind.WhileLoop then 0 else
    when eqb kind NodeKind.ForLoop then 0 else
    when eqb kind NodeKind.Assert then 0 else
    when eqb kind NodeKind.Continue then 0 else
    when eqb kind NodeKind.Break then 0 else
    when eqb kind NodeKind.Return then 0 else
    when eqb kind NodeKind.Primary then 0 else
    when eqb kind NodeKind.BinaryOp then 0 else
    when eqb kind NodeKind.Tuple then 0 else
    when eqb kind NodeKind.TableItem then 0 else
    when eqb kind NodeKind.ConditionalBranch then 0 else
    when eqb kind NodeKind.SignatureDef then 0 else
    when eqb kind NodeKind.ParamDef then 0 else
    when eqb kind NodeKind.DefaultDef then 0 else
    when eqb kind NodeKind.FieldAttribute then 0 else
    when eqb kind NodeKind.FieldIndex then 0 else
    when eqb kind NodeKind.Attribute then 0 else
    when eqb kind NodeKind.AttributePattern then 0 else
    1

unfoldable pub first_deeper : ℕ → ℕ → ℕ
first_deeper kind form =
    when eqb kind NodeKind.StmtList then 1 else
    when eqb kind NodeKind.UnaryOp then 1 else
    when eqb kind NodeKind.Table then 1 else
    when eqb kind NodeKind.IfExpr then 1 else
    when eqb kind NodeKind.Block then 1 else
    when eqb kind NodeKind.FunctionDef then 1 else
    when eqb kind NodeKind.Group then 1 else
    when eqb kind NodeKind.Index then 1 else
    when eqb kind NodeKind.Invoke then 1 else
    when eqb kind NodeKind.InvokeTable then 1 else
    when eqb kind NodeKind.TuplePattern then 1 else
    when eqb kind NodeKind.Pack then where_is form NodeKind.Pack 1 0 else
    when eqb kind NodeKind.Modifier then 1 else
    0

unfoldable pub second_deeper : ℕ → ℕ → ℕ
second_deeper kind form =
    when eqb kind NodeKind.StmtList then 1 else
    when eqb kind NodeKind.Assignment then where_is form Fun 0 1 else
    when eqb kind NodeKind.IfExpr then 1 else
    when eqb kind NodeKind.FunctionDef then 1 else
    when eqb kind NodeKind.ExprBlock then 1 else
    when eqb kind NodeKind.IndexPattern then 1 else
    0

-- How much deeper the child number j is: never more than the node's base.
unfoldable pub deeper : ℕ → ℕ → ℕ → ℕ
deeper kind form j =
    when eqb j 1 then first_deeper kind form else
    when eqb j 2 then second_deeper kind form else
    0
