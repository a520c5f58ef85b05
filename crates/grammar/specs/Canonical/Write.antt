-- The canonical tokens of a tree, as a function of the words that follow. Definitions; they assume nothing.
-- No token has a newline. Every kind of node has one line of `layout`. The functions run on trees of any shape: clauses for children that a node of its kind always
-- has, and for places where it never stands, are reached for no valid tree.
use Rattle.std.specs.Prelude.{Bool, true, false, cond, not, ◌&&◌, ◌||◌, List, [], ◌∷◌, ℕ, zero, suc, ◌/◌, ◌%◌, eqb, ltb}
use Rattle.token.specs.Kind
use Rattle.operator.specs.Operator.{op_token, assign_token, unary_token}
use Rattle.tree.specs.NodeKind
use Rattle.tree.specs.Node
use Rattle.tree.specs.Tree.{Tree, Forest, node, none, more, kind_of, head_kind, empty}
use Rattle.tree.specs.Choice.{pick}
use Rattle.grammar.specs.Reading.Function.{target_name}

-- where a node stands. own: by itself. modified: under a group's modifier, which is an assignment's action. targeted: a function behind its target.
-- The others are of a list: commas between; a tuple's members, where a single one has a comma behind it; statements, each with a semicolon behind it;
-- the branches of a conditional; a row, with nothing between
pub data Place : Type 0 where
  own modified targeted commas members suite branches row : Place

abbrev pub W : Type 0
W = List ℕ → List ℕ

-- what a node writes at each place
abbrev pub Words : Type 0
Words = Place → W

-- one token
abbrev pub token : ℕ → W
token k r = k ∷ 0 ∷ r

abbrev pub name : ℕ → W
name n r = Kind.Identifier ∷ n ∷ r

-- a label, 0 or 1 + its name
abbrev pub label : ℕ → W
label zero r = r
label (suc n) r = Kind.Label ∷ n ∷ r

-- an action's keyword
abbrev pub keyword_of : ℕ → ℕ
keyword_of a =
    cond (eqb a Node.assign_local) Kind.Local
    (cond (eqb a Node.assign_non_local) Kind.NonLocal
    (cond (eqb a Node.decl_immutable) Kind.Let
    Kind.Var))

-- a group's modifier, 0 or 1 + its action, is always written
abbrev pub modifier : ℕ → W
modifier zero r = r
modifier (suc a) r = token (keyword_of a) r

-- an assignment's keyword: `AssignLocal` has none
abbrev pub keyword : ℕ → W
keyword zero r = r
keyword (suc a) r = token (keyword_of (suc a)) r

-- a name with its access, where read_only has no keyword
abbrev pub named : ℕ → W
named v r = pick (eqb (v % 2) Node.read_only) (λ _. name (v / 2) r) (λ _. token Kind.Var (name (v / 2) r))

abbrev pub tokens_if : Bool → W → W
tokens_if true w r = w r
tokens_if false w r = r

-- children by place
abbrev pub first : List Words → Place → W
first [] p r = r
first (w ∷ ws) p r = w p r

abbrev pub rest : List Words → List Words
rest [] = []
rest (w ∷ ws) = ws

abbrev pub second : List Words → Place → W
second ws = first (rest ws)

abbrev pub third : List Words → Place → W
third ws = first (rest (rest ws))

abbrev pub tail_of : Forest → Forest
tail_of none = none
tail_of (more t f) = f

abbrev pub head_empty : Forest → Bool
head_empty none = true
head_empty (more (node k v f) g) = empty f

-- the lists
abbrev pub after_commas : List Words → W
after_commas [] r = r
after_commas (w ∷ ws) r = token Kind.Comma (w own (after_commas ws r))

abbrev pub with_commas : List Words → W
with_commas [] r = r
with_commas (w ∷ ws) r = w own (after_commas ws r)

abbrev pub as_members : List Words → W
as_members [] r = r
as_members (w ∷ []) r = w own (token Kind.Comma r)
as_members (w ∷ u ∷ ws) r = w own (after_commas (u ∷ ws) r)

abbrev pub as_suite : List Words → W
as_suite [] r = r
as_suite (w ∷ ws) r = w own (token Kind.Semicolon (as_suite ws r))

abbrev pub after_elif : List Words → W
after_elif [] r = r
after_elif (w ∷ ws) r = token Kind.Elif (w own (after_elif ws r))

abbrev pub as_branches : List Words → W
as_branches [] r = r
as_branches (w ∷ ws) r = token Kind.If (w own (after_elif ws r))

abbrev pub as_row : List Words → W
as_row [] r = r
as_row (w ∷ ws) r = w own (as_row ws r)

abbrev pub list : Place → List Words → W
list own ws r = r
list modified ws r = r
list targeted ws r = r
list commas ws r = with_commas ws r
list members ws r = as_members ws r
list suite ws r = as_suite ws r
list branches ws r = as_branches ws r
list row ws r = as_row ws r

-- what can be the target of `fun`: a name, or a path of members and indexes from an atom that is no group
abbrev pub target_atom : ℕ → Bool
target_atom k =
    eqb k NodeKind.Identifier || eqb k NodeKind.Nil || eqb k NodeKind.BooleanLiteral || eqb k NodeKind.IntegerLiteral
    || eqb k NodeKind.FloatLiteral || eqb k NodeKind.StringLiteral

unfoldable pub target_items : Forest → Bool
target_items none = true
target_items (more t f) = (eqb (kind_of t) NodeKind.Attribute || eqb (kind_of t) NodeKind.Index) && target_items f

abbrev pub target_path : Forest → Bool
target_path none = false
target_path (more (node k v items) g) = target_items items

abbrev pub target_receiver : Forest → Bool
target_receiver none = false
target_receiver (more (node k v f) g) = target_atom (head_kind f) && target_path (tail_of f)

abbrev pub is_target : Tree → Bool
is_target (node k v f) =
    eqb k NodeKind.IdentifierPattern || ((eqb k NodeKind.AttributePattern || eqb k NodeKind.IndexPattern) && target_receiver f)

-- a function whose signature has the name n, 0 or 1 + it
abbrev pub signature_name : Forest → ℕ → Bool
signature_name none n = false
signature_name (more (node k v f) g) n = eqb v n

abbrev pub function_named : ℕ → Tree → Bool
function_named n (node k v f) = eqb k NodeKind.FunctionDef && signature_name f n

abbrev pub function_of : Tree → Forest → Bool
function_of p none = false
function_of p (more d f) = is_target p && function_named (target_name p) d

abbrev pub has_function : Forest → Bool
has_function none = false
has_function (more p f) = function_of p f

-- `fun` with a target gives the tree: its action is then `let`, or that of the group around it
abbrev pub fun_gives : Place → ℕ → Bool
fun_gives own v = eqb v Node.decl_immutable
fun_gives modified v = ltb v 4
fun_gives targeted v = false
fun_gives commas v = false
fun_gives members v = false
fun_gives suite v = false
fun_gives branches v = false
fun_gives row v = false

abbrev pub assignment_keyword : Place → ℕ → W
assignment_keyword own v r = keyword (v % 4) r
assignment_keyword modified v r = r
assignment_keyword targeted v r = r
assignment_keyword commas v r = r
assignment_keyword members v r = r
assignment_keyword suite v r = r
assignment_keyword branches v r = r
assignment_keyword row v r = r

abbrev pub assignment : Place → ℕ → Forest → List Words → W
assignment p v f ws r =
    pick (fun_gives p v && has_function f)
    (λ _. token Kind.Fun (first ws own (second ws targeted r)))
    (λ _. assignment_keyword p v (first ws own (token (assign_token (v / 4)) (second ws own r))))

abbrev pub fun_keyword : Place → W
fun_keyword own r = token Kind.Fun r
fun_keyword modified r = token Kind.Fun r
fun_keyword targeted r = r
fun_keyword commas r = r
fun_keyword members r = r
fun_keyword suite r = r
fun_keyword branches r = r
fun_keyword row r = r

-- the parameters: required ones, defaults, the variadic one
abbrev pub signature : Forest → List Words → W
signature f ws r =
    let variadic : Bool = not (eqb (head_kind (tail_of (tail_of f))) NodeKind.Absent) in
    let required : Bool = not (head_empty f) in
    let default : Bool = not (head_empty (tail_of f)) in
    token Kind.OpenParen
    (first ws commas (tokens_if (required && (default || variadic)) (token Kind.Comma)
    (second ws commas (tokens_if (default && variadic) (token Kind.Comma)
    (third ws own (tokens_if variadic (token Kind.Ellipsis)
    (token Kind.CloseParen r)))))))

abbrev pub group_place : ℕ → Place
group_place zero = own
group_place (suc a) = modified

-- a node, by its place, kind, value, children and what these write
abbrev pub layout : Place → ℕ → ℕ → Forest → List Words → W
layout p k v f ws r =
    pick (eqb k NodeKind.List) (λ _. list p ws r) λ _.
    pick (eqb k NodeKind.Expression) (λ _. first ws own r) λ _.
    pick (eqb k NodeKind.Loop) (λ _. label v (token Kind.Loop (first ws own (token Kind.End r)))) λ _.
    pick (eqb k NodeKind.WhileLoop) (λ _. label v (token Kind.While (first ws own (token Kind.Do (second ws own (token Kind.End r)))))) λ _.
    pick (eqb k NodeKind.ForLoop) (λ _. label v (token Kind.For (first ws own (token Kind.In (second ws own (token Kind.Do (third ws own (token Kind.End r)))))))) λ _.
    pick (eqb k NodeKind.Assert) (λ _. token Kind.Assert (first ws own r)) λ _.
    pick (eqb k NodeKind.StmtList) (λ _. first ws suite (second ws own r)) λ _.
    pick (eqb k NodeKind.Continue) (λ _. token Kind.Continue (label v r)) λ _.
    pick (eqb k NodeKind.Break) (λ _. token Kind.Break (label v (first ws own r))) λ _.
    pick (eqb k NodeKind.Return) (λ _. token Kind.Return (first ws own r)) λ _.
    pick (eqb k NodeKind.Primary) (λ _. first ws own (second ws row r)) λ _.
    pick (eqb k NodeKind.UnaryOp) (λ _. token (unary_token v) (first ws own r)) λ _.
    pick (eqb k NodeKind.BinaryOp) (λ _. first ws own (token (op_token v) (second ws own r))) λ _.
    pick (eqb k NodeKind.Assignment) (λ _. assignment p v f ws r) λ _.
    pick (eqb k NodeKind.Unpack) (λ _. first ws own (token Kind.Ellipsis r)) λ _.
    pick (eqb k NodeKind.Tuple) (λ _. first ws members r) λ _.
    pick (eqb k NodeKind.Table) (λ _. token Kind.OpenBrace (first ws commas (token Kind.CloseBrace r))) λ _.
    pick (eqb k NodeKind.IfExpr) (λ _. first ws branches (tokens_if (not (eqb (head_kind (tail_of f)) NodeKind.Absent)) (token Kind.Else) (second ws own (token Kind.End r)))) λ _.
    pick (eqb k NodeKind.Block) (λ _. label v (token Kind.Begin (first ws own (token Kind.End r)))) λ _.
    pick (eqb k NodeKind.FunctionDef) (λ _. fun_keyword p (first ws own (second ws own (token Kind.End r)))) λ _.
    pick (eqb k NodeKind.TableItem) (λ _. first ws own (token Kind.OpAssign (second ws own r))) λ _.
    pick (eqb k NodeKind.ExprBlock) (λ _. first ws own (second ws own (tokens_if (not (eqb (head_kind (tail_of f)) NodeKind.Absent)) (token Kind.Semicolon) r))) λ _.
    pick (eqb k NodeKind.ConditionalBranch) (λ _. first ws own (token Kind.Then (second ws own r))) λ _.
    pick (eqb k NodeKind.SignatureDef) (λ _. signature f ws r) λ _.
    pick (eqb k NodeKind.ParamDef) (λ _. named v r) λ _.
    pick (eqb k NodeKind.DefaultDef) (λ _. named v (token Kind.OpAssign (first ws own r))) λ _.
    pick (eqb k NodeKind.FieldAttribute) (λ _. named v r) λ _.
    pick (eqb k NodeKind.FieldIndex) (λ _. token Kind.OpenSquare (first ws own (token Kind.CloseSquare r))) λ _.
    pick (eqb k NodeKind.Nil) (λ _. token Kind.Nil r) λ _.
    pick (eqb k NodeKind.EmptyTuple) (λ _. token Kind.OpenParen (token Kind.CloseParen r)) λ _.
    pick (eqb k NodeKind.Identifier) (λ _. name v r) λ _.
    pick (eqb k NodeKind.BooleanLiteral) (λ _. token (cond (eqb v 0) Kind.False Kind.True) r) λ _.
    pick (eqb k NodeKind.IntegerLiteral) (λ _. Kind.IntegerLiteral ∷ v ∷ r) λ _.
    pick (eqb k NodeKind.FloatLiteral) (λ _. Kind.FloatLiteral ∷ v ∷ r) λ _.
    pick (eqb k NodeKind.StringLiteral) (λ _. Kind.StringLiteral ∷ v ∷ r) λ _.
    pick (eqb k NodeKind.Group) (λ _. token Kind.OpenParen (modifier v (first ws (group_place v) (token Kind.CloseParen r)))) λ _.
    pick (eqb k NodeKind.Attribute) (λ _. token Kind.OpAccess (name v r)) λ _.
    pick (eqb k NodeKind.Index) (λ _. token Kind.OpenSquare (first ws own (token Kind.CloseSquare r))) λ _.
    pick (eqb k NodeKind.Invoke) (λ _. token Kind.OpenParen (first ws commas (token Kind.CloseParen r))) λ _.
    pick (eqb k NodeKind.InvokeTable) (λ _. token Kind.OpenBrace (first ws commas (token Kind.CloseBrace r))) λ _.
    pick (eqb k NodeKind.IdentifierPattern) (λ _. name v r) λ _.
    pick (eqb k NodeKind.AttributePattern) (λ _. first ws own (token Kind.OpAccess (name v r))) λ _.
    pick (eqb k NodeKind.IndexPattern) (λ _. first ws own (token Kind.OpenSquare (second ws own (token Kind.CloseSquare r)))) λ _.
    pick (eqb k NodeKind.TuplePattern) (λ _. token Kind.OpenParen (first ws members (token Kind.CloseParen r))) λ _.
    pick (eqb k NodeKind.Pack && eqb (head_kind f) NodeKind.Pack) (λ _. token Kind.OpenParen (first ws own (token Kind.CloseParen (token Kind.Ellipsis r)))) λ _.
    pick (eqb k NodeKind.Pack) (λ _. first ws own (token Kind.Ellipsis r)) λ _.
    pick (eqb k NodeKind.Modifier) (λ _. token Kind.OpenParen (token (keyword_of v) (first ws own (token Kind.CloseParen r)))) λ _.
    r

unfoldable mutual
  pub write : Tree → Words
  write (node k v f) = λ p. layout p k v f (writes f)

  pub writes : Forest → List Words
  writes none = []
  writes (more t f) = write t ∷ writes f

-- a statement: its tokens and a semicolon
abbrev pub statement : Tree → W
statement t r = write t own (token Kind.Semicolon r)

-- the run of a list of statements: their tokens in turn, then `EOF`
unfoldable pub run : Forest → List ℕ
run none = token Kind.EOF []
run (more t f) = statement t (run f)
