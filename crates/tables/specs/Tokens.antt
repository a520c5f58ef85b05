-- The tokens of a node: before its children, behind each and behind all. 77 is none. Definitions; they assume nothing.
use Rattle.std.specs.Prelude.{ℕ, ◌-◌, ◌/◌, ◌%◌, eqb}
use Rattle.token.specs.Kind
use Rattle.tree.specs.NodeKind
use Rattle.tables.specs.Choice.{when◌then◌else◌, where_zero, where_is}
use Rattle.tables.specs.Form.{Own, Targeted, Commas, Members, Suite, Branches, Leading, Fun}
use Rattle.operator.specs.Operator.{op_token, unary_token, assign_token}
use Rattle.grammar.specs.Canonical.Write.{keyword_of}
use Rattle.tables.specs.Operators.{NoToken}

unfoldable pub label_token : ℕ → ℕ
label_token value =
    where_zero value NoToken Kind.Label

-- A name's access, where read-only has no keyword.
unfoldable pub access_token : ℕ → ℕ
access_token value =
    where_zero (value % 2) NoToken Kind.Var

-- A group's modifier, 0 or 1 + its action.
unfoldable pub modifier_token : ℕ → ℕ
modifier_token value =
    when eqb value 0 then NoToken else
    keyword_of (value - 1)

-- What an assignment begins with: `fun`, or its keyword where it stands by itself and its action has one.
unfoldable pub assignment_token : ℕ → ℕ → ℕ
assignment_token value form =
    when eqb form Fun then Kind.Fun else
    when eqb form Own then where_zero (value % 4) NoToken (keyword_of (value % 4)) else
    NoToken

-- The first token before the children, of atoms, access items and patterns.
unfoldable pub later_first_token : ℕ → ℕ → ℕ → ℕ
later_first_token kind value form =
    when eqb kind NodeKind.Nil then Kind.Nil else
    when eqb kind NodeKind.EmptyTuple then Kind.OpenParen else
    when eqb kind NodeKind.Identifier then Kind.Identifier else
    when eqb kind NodeKind.BooleanLiteral then where_zero value Kind.False Kind.True else
    when eqb kind NodeKind.IntegerLiteral then Kind.IntegerLiteral else
    when eqb kind NodeKind.FloatLiteral then Kind.FloatLiteral else
    when eqb kind NodeKind.StringLiteral then Kind.StringLiteral else
    when eqb kind NodeKind.Group then Kind.OpenParen else
    when eqb kind NodeKind.Attribute then Kind.OpAccess else
    when eqb kind NodeKind.Index then Kind.OpenSquare else
    when eqb kind NodeKind.Invoke then Kind.OpenParen else
    when eqb kind NodeKind.InvokeTable then Kind.OpenBrace else
    when eqb kind NodeKind.IdentifierPattern then Kind.Identifier else
    when eqb kind NodeKind.TuplePattern then Kind.OpenParen else
    when eqb kind NodeKind.Pack then where_is form NodeKind.Pack Kind.OpenParen NoToken else
    when eqb kind NodeKind.Modifier then Kind.OpenParen else
    NoToken

-- The same of any kind.
unfoldable pub first_token : ℕ → ℕ → ℕ → ℕ
first_token kind value form =
    when eqb kind NodeKind.List then where_is form Branches Kind.If NoToken else
    when eqb kind NodeKind.Loop then label_token value else
    when eqb kind NodeKind.WhileLoop then label_token value else
    when eqb kind NodeKind.ForLoop then label_token value else
    when eqb kind NodeKind.Assert then Kind.Assert else
    when eqb kind NodeKind.Continue then Kind.Continue else
    when eqb kind NodeKind.Break then Kind.Break else
    when eqb kind NodeKind.Return then Kind.Return else
    when eqb kind NodeKind.UnaryOp then unary_token value else
    when eqb kind NodeKind.Assignment then assignment_token value form else
    when eqb kind NodeKind.Table then Kind.OpenBrace else
    when eqb kind NodeKind.Block then label_token value else
    when eqb kind NodeKind.FunctionDef then where_is form Targeted NoToken Kind.Fun else
    when eqb kind NodeKind.SignatureDef then Kind.OpenParen else
    when eqb kind NodeKind.ParamDef then access_token value else
    when eqb kind NodeKind.DefaultDef then access_token value else
    when eqb kind NodeKind.FieldAttribute then access_token value else
    when eqb kind NodeKind.FieldIndex then Kind.OpenSquare else
    later_first_token kind value form

-- The second token before the children.
unfoldable pub second_token : ℕ → ℕ → ℕ
second_token kind value =
    when eqb kind NodeKind.Loop then Kind.Loop else
    when eqb kind NodeKind.WhileLoop then Kind.While else
    when eqb kind NodeKind.ForLoop then Kind.For else
    when eqb kind NodeKind.Continue then label_token value else
    when eqb kind NodeKind.Break then label_token value else
    when eqb kind NodeKind.Block then Kind.Begin else
    when eqb kind NodeKind.ParamDef then Kind.Identifier else
    when eqb kind NodeKind.DefaultDef then Kind.Identifier else
    when eqb kind NodeKind.FieldAttribute then Kind.Identifier else
    when eqb kind NodeKind.EmptyTuple then Kind.CloseParen else
    when eqb kind NodeKind.Group then modifier_token value else
    when eqb kind NodeKind.Attribute then Kind.Identifier else
    when eqb kind NodeKind.Modifier then keyword_of value else
    NoToken

-- The third one: behind a default's name.
unfoldable pub third_token : ℕ → ℕ
third_token kind =
    where_is kind NodeKind.DefaultDef Kind.OpAssign NoToken

-- The token behind the member number j of n of a list.
unfoldable pub between : ℕ → ℕ → ℕ → ℕ
between form n j =
    when eqb form Commas then where_is j n NoToken Kind.Comma else
    when eqb form Members then where_is j n (where_is n 1 Kind.Comma NoToken) Kind.Comma else
    when eqb form Suite then Kind.Semicolon else
    when eqb form Branches then where_is j n NoToken Kind.Elif else
    when eqb form Leading then Kind.Comma else
    NoToken

unfoldable pub assigns : ℕ → ℕ → ℕ
assigns value form =
    where_is form Fun NoToken (assign_token (value / 4))

-- The token behind the first child of a node that is no list.
unfoldable pub first_after : ℕ → ℕ → ℕ → ℕ
first_after kind value form =
    when eqb kind NodeKind.WhileLoop then Kind.Do else
    when eqb kind NodeKind.ForLoop then Kind.In else
    when eqb kind NodeKind.BinaryOp then op_token value else
    when eqb kind NodeKind.Assignment then assigns value form else
    when eqb kind NodeKind.IfExpr then where_zero form NoToken Kind.Else else
    when eqb kind NodeKind.TableItem then Kind.OpAssign else
    when eqb kind NodeKind.ConditionalBranch then Kind.Then else
    when eqb kind NodeKind.IndexPattern then Kind.OpenSquare else
    NoToken

-- The token behind the child number j of n.
unfoldable pub after_token : ℕ → ℕ → ℕ → ℕ → ℕ → ℕ
after_token kind value form n j =
    when eqb kind NodeKind.List then between form n j else
    when eqb j 1 then first_after kind value form else
    when eqb j 2 then where_is kind NodeKind.ForLoop Kind.Do NoToken else
    NoToken

-- The first token behind all children.
unfoldable pub behind_token : ℕ → ℕ → ℕ
behind_token kind form =
    when eqb kind NodeKind.Loop then Kind.End else
    when eqb kind NodeKind.WhileLoop then Kind.End else
    when eqb kind NodeKind.ForLoop then Kind.End else
    when eqb kind NodeKind.Unpack then Kind.Ellipsis else
    when eqb kind NodeKind.Table then Kind.CloseBrace else
    when eqb kind NodeKind.IfExpr then Kind.End else
    when eqb kind NodeKind.Block then Kind.End else
    when eqb kind NodeKind.FunctionDef then Kind.End else
    when eqb kind NodeKind.ExprBlock then where_zero form NoToken Kind.Semicolon else
    when eqb kind NodeKind.SignatureDef then where_is form 2 Kind.Ellipsis NoToken else
    when eqb kind NodeKind.FieldIndex then Kind.CloseSquare else
    when eqb kind NodeKind.Group then Kind.CloseParen else
    when eqb kind NodeKind.Index then Kind.CloseSquare else
    when eqb kind NodeKind.Invoke then Kind.CloseParen else
    when eqb kind NodeKind.InvokeTable then Kind.CloseBrace else
    when eqb kind NodeKind.AttributePattern then Kind.OpAccess else
    when eqb kind NodeKind.IndexPattern then Kind.CloseSquare else
    when eqb kind NodeKind.TuplePattern then Kind.CloseParen else
    when eqb kind NodeKind.Pack then where_is form NodeKind.Pack Kind.CloseParen NoToken else
    when eqb kind NodeKind.Modifier then Kind.CloseParen else
    NoToken

-- The last token behind all children.
unfoldable pub last_token : ℕ → ℕ
last_token kind =
    when eqb kind NodeKind.SignatureDef then Kind.CloseParen else
    when eqb kind NodeKind.AttributePattern then Kind.Identifier else
    when eqb kind NodeKind.Pack then Kind.Ellipsis else
    NoToken

-- A name in a node's value: with its access in parameters and fields.
unfoldable pub name_in : ℕ → ℕ → ℕ
name_in kind value =
    when eqb kind NodeKind.ParamDef then value / 2 else
    when eqb kind NodeKind.DefaultDef then value / 2 else
    when eqb kind NodeKind.FieldAttribute then value / 2 else
    value

unfoldable pub label_in : ℕ → ℕ
label_in value =
    when eqb value 0 then 0 else
    value - 1

-- The value of a token of a node.
unfoldable pub carried : ℕ → ℕ → ℕ → ℕ
carried kind value token =
    when eqb token Kind.Identifier then name_in kind value else
    when eqb token Kind.StringLiteral then value else
    when eqb token Kind.IntegerLiteral then value else
    when eqb token Kind.FloatLiteral then value else
    when eqb token Kind.Label then label_in value else
    0
