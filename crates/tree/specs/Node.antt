-- The nodes of a statement's tree by the names of the Rust's cases and structs: children in the order of the Rust's fields,
-- a slice as one `List` node, a missing optional child as an `Absent` node, plain fields in the value (docs/TREE.md). Definitions; they assume nothing.
use Rattle.std.specs.Prelude.{ℕ, ◌+◌, ◌*◌}
use Rattle.tree.specs.NodeKind
use Rattle.tree.specs.Tree.{Tree, Forest, node, none, one, two, three}

-- `MatchAction`, by place in the Rust's enum
abbrev pub assign_local : ℕ
assign_local = 0

abbrev pub assign_non_local : ℕ
assign_non_local = 1

abbrev pub decl_immutable : ℕ
decl_immutable = 2

abbrev pub decl_mutable : ℕ
decl_mutable = 3

-- `Access`, likewise
abbrev pub read_only : ℕ
read_only = 0

abbrev pub read_write : ℕ
read_write = 1

abbrev pub absent : Tree
absent = node NodeKind.Absent 0 none

abbrev pub list : Forest → Tree
list f = node NodeKind.List 0 f

-- statements; l is a label, 0 or 1 + its name
abbrev pub expression : Tree → Tree
expression e = node NodeKind.Expression 0 (one e)

abbrev pub loop : ℕ → Tree → Tree
loop l body = node NodeKind.Loop l (one body)

abbrev pub while_loop : ℕ → Tree → Tree → Tree
while_loop l condition body = node NodeKind.WhileLoop l (two condition body)

abbrev pub for_loop : ℕ → Tree → Tree → Tree → Tree
for_loop l pattern iter body = node NodeKind.ForLoop l (three pattern iter body)

abbrev pub assert : Tree → Tree
assert e = node NodeKind.Assert 0 (one e)

abbrev pub stmt_list : Forest → Tree → Tree
stmt_list suite control = node NodeKind.StmtList 0 (two (list suite) control)

abbrev pub continue : ℕ → Tree
continue l = node NodeKind.Continue l none

abbrev pub break : ℕ → Tree → Tree
break l e = node NodeKind.Break l (one e)

abbrev pub return : Tree → Tree
return e = node NodeKind.Return 0 (one e)

-- expressions
abbrev pub primary : Tree → Forest → Tree
primary atom path = node NodeKind.Primary 0 (two atom (list path))

abbrev pub unary_op : ℕ → Tree → Tree
unary_op op e = node NodeKind.UnaryOp op (one e)

abbrev pub binary_op : ℕ → Tree → Tree → Tree
binary_op op a b = node NodeKind.BinaryOp op (two a b)

-- op is 0 or 1 + the operator
abbrev pub assignment : ℕ → ℕ → Tree → Tree → Tree
assignment action op lhs rhs = node NodeKind.Assignment (action + 4 * op) (two lhs rhs)

abbrev pub unpack : Tree → Tree
unpack e = node NodeKind.Unpack 0 (one e)

abbrev pub tuple : Forest → Tree
tuple f = node NodeKind.Tuple 0 (one (list f))

abbrev pub table : Forest → Tree
table items = node NodeKind.Table 0 (one (list items))

abbrev pub if_expr : Forest → Tree → Tree
if_expr branches else_clause = node NodeKind.IfExpr 0 (two (list branches) else_clause)

abbrev pub block : ℕ → Tree → Tree
block l suite = node NodeKind.Block l (one suite)

abbrev pub function_def : Tree → Tree → Tree
function_def signature body = node NodeKind.FunctionDef 0 (two signature body)

abbrev pub table_item : Tree → Tree → Tree
table_item field value = node NodeKind.TableItem 0 (two field value)

abbrev pub expr_block : Tree → Tree → Tree
expr_block suite result = node NodeKind.ExprBlock 0 (two suite result)

abbrev pub conditional_branch : Tree → Tree → Tree
conditional_branch condition suite = node NodeKind.ConditionalBranch 0 (two condition suite)

-- name is 0 or 1 + it
abbrev pub signature_def : ℕ → Forest → Forest → Tree → Tree
signature_def name required default variadic = node NodeKind.SignatureDef name (three (list required) (list default) variadic)

-- a name with its access
abbrev pub named : ℕ → ℕ → ℕ
named name access = name * 2 + access

abbrev pub param_def : ℕ → Tree
param_def v = node NodeKind.ParamDef v none

abbrev pub default_def : ℕ → Tree → Tree
default_def v e = node NodeKind.DefaultDef v (one e)

abbrev pub field_attribute : ℕ → Tree
field_attribute v = node NodeKind.FieldAttribute v none

abbrev pub field_index : Tree → Tree
field_index e = node NodeKind.FieldIndex 0 (one e)

-- atoms
abbrev pub nil : Tree
nil = node NodeKind.Nil 0 none

abbrev pub empty_tuple : Tree
empty_tuple = node NodeKind.EmptyTuple 0 none

abbrev pub identifier : ℕ → Tree
identifier n = node NodeKind.Identifier n none

abbrev pub boolean_literal : ℕ → Tree
boolean_literal b = node NodeKind.BooleanLiteral b none

abbrev pub integer_literal : ℕ → Tree
integer_literal v = node NodeKind.IntegerLiteral v none

abbrev pub float_literal : ℕ → Tree
float_literal v = node NodeKind.FloatLiteral v none

abbrev pub string_literal : ℕ → Tree
string_literal n = node NodeKind.StringLiteral n none

-- m is a modifier, 0 or 1 + its action
abbrev pub group : ℕ → Tree → Tree
group m inner = node NodeKind.Group m (one inner)

-- access items
abbrev pub attribute : ℕ → Tree
attribute n = node NodeKind.Attribute n none

abbrev pub index : Tree → Tree
index e = node NodeKind.Index 0 (one e)

abbrev pub invoke : Forest → Tree
invoke args = node NodeKind.Invoke 0 (one (list args))

abbrev pub invoke_table : Forest → Tree
invoke_table items = node NodeKind.InvokeTable 0 (one (list items))

-- patterns
abbrev pub identifier_pattern : ℕ → Tree
identifier_pattern n = node NodeKind.IdentifierPattern n none

abbrev pub attribute_pattern : Tree → ℕ → Tree
attribute_pattern receiver n = node NodeKind.AttributePattern n (one receiver)

abbrev pub index_pattern : Tree → Tree → Tree
index_pattern receiver e = node NodeKind.IndexPattern 0 (two receiver e)

abbrev pub tuple_pattern : Forest → Tree
tuple_pattern f = node NodeKind.TuplePattern 0 (one (list f))

abbrev pub pack : Tree → Tree
pack p = node NodeKind.Pack 0 (one p)

abbrev pub modifier : ℕ → Tree → Tree
modifier action p = node NodeKind.Modifier action (one p)
