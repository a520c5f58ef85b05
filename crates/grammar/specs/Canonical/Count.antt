-- The number of tokens that a tree is written as: for each line of `layout`, the node's own tokens and those of its children. Definitions; they assume nothing.
use Rattle.std.specs.Prelude.{Bool, cond, not, ◌&&◌, ◌||◌, List, [], ◌∷◌, ℕ, zero, suc, pred, ◌+◌, ◌%◌, min, eqb, length}
use Rattle.tree.specs.NodeKind
use Rattle.tree.specs.Tree.{Tree, Forest, node, none, more, head_kind}
use Rattle.tree.specs.Choice.{pick}
use Rattle.grammar.specs.Canonical.Write.{Place, own, modified, targeted, commas, members, suite, branches, row, tail_of, head_empty, has_function, fun_gives, group_place}

-- the number of tokens that a node writes at each place
abbrev pub Counts : Type 0
Counts = Place → ℕ

-- children by place
abbrev pub first : List Counts → Place → ℕ
first [] p = 0
first (c ∷ cs) p = c p

abbrev pub rest : List Counts → List Counts
rest [] = []
rest (c ∷ cs) = cs

abbrev pub second : List Counts → Place → ℕ
second cs = first (rest cs)

abbrev pub third : List Counts → Place → ℕ
third cs = first (rest (rest cs))

-- all children, each by itself
abbrev pub total : List Counts → ℕ
total [] = 0
total (c ∷ cs) = c own + total cs

-- the commas of a tuple with n members
abbrev pub member_commas : ℕ → ℕ
member_commas zero = 0
member_commas (suc zero) = 1
member_commas (suc (suc n)) = suc n

abbrev pub list : Place → List Counts → ℕ
list own cs = 0
list modified cs = 0
list targeted cs = 0
list commas cs = total cs + pred (length cs)
list members cs = total cs + member_commas (length cs)
list suite cs = total cs + length cs
list branches cs = total cs + length cs
list row cs = total cs

abbrev pub if_so : Bool → ℕ
if_so b = cond b 1 0

abbrev pub assignment_keyword : Place → ℕ → ℕ
assignment_keyword own v = min 1 (v % 4)
assignment_keyword modified v = 0
assignment_keyword targeted v = 0
assignment_keyword commas v = 0
assignment_keyword members v = 0
assignment_keyword suite v = 0
assignment_keyword branches v = 0
assignment_keyword row v = 0

abbrev pub assignment : Place → ℕ → Forest → List Counts → ℕ
assignment p v f cs =
    pick (fun_gives p v && has_function f)
    (λ _. 1 + first cs own + second cs targeted)
    (λ _. 1 + assignment_keyword p v + first cs own + second cs own)

abbrev pub fun_keyword : Place → ℕ
fun_keyword own = 1
fun_keyword modified = 1
fun_keyword targeted = 0
fun_keyword commas = 0
fun_keyword members = 0
fun_keyword suite = 0
fun_keyword branches = 0
fun_keyword row = 0

abbrev pub signature : Forest → List Counts → ℕ
signature f cs =
    let variadic : Bool = not (eqb (head_kind (tail_of (tail_of f))) NodeKind.Absent) in
    let required : Bool = not (head_empty f) in
    let default : Bool = not (head_empty (tail_of f)) in
    2 + first cs commas + if_so (required && (default || variadic)) + second cs commas + if_so (default && variadic) + third cs own + if_so variadic

-- a node, by its place, kind, value, children and their counts. `min 1 v`: a label or a modifier, where there is one; `1 + v % 2`: a name with its access
abbrev pub layout : Place → ℕ → ℕ → Forest → List Counts → ℕ
layout p k v f cs =
    pick (eqb k NodeKind.List) (λ _. list p cs) λ _.
    pick (eqb k NodeKind.Expression) (λ _. first cs own) λ _.
    pick (eqb k NodeKind.Loop) (λ _. min 1 v + 2 + first cs own) λ _.
    pick (eqb k NodeKind.WhileLoop) (λ _. min 1 v + 3 + first cs own + second cs own) λ _.
    pick (eqb k NodeKind.ForLoop) (λ _. min 1 v + 4 + first cs own + second cs own + third cs own) λ _.
    pick (eqb k NodeKind.Assert) (λ _. 1 + first cs own) λ _.
    pick (eqb k NodeKind.StmtList) (λ _. first cs suite + second cs own) λ _.
    pick (eqb k NodeKind.Continue) (λ _. 1 + min 1 v) λ _.
    pick (eqb k NodeKind.Break) (λ _. 1 + min 1 v + first cs own) λ _.
    pick (eqb k NodeKind.Return) (λ _. 1 + first cs own) λ _.
    pick (eqb k NodeKind.Primary) (λ _. first cs own + second cs row) λ _.
    pick (eqb k NodeKind.UnaryOp) (λ _. 1 + first cs own) λ _.
    pick (eqb k NodeKind.BinaryOp) (λ _. 1 + first cs own + second cs own) λ _.
    pick (eqb k NodeKind.Assignment) (λ _. assignment p v f cs) λ _.
    pick (eqb k NodeKind.Unpack) (λ _. 1 + first cs own) λ _.
    pick (eqb k NodeKind.Tuple) (λ _. first cs members) λ _.
    pick (eqb k NodeKind.Table) (λ _. 2 + first cs commas) λ _.
    pick (eqb k NodeKind.IfExpr) (λ _. 1 + if_so (not (eqb (head_kind (tail_of f)) NodeKind.Absent)) + first cs branches + second cs own) λ _.
    pick (eqb k NodeKind.Block) (λ _. min 1 v + 2 + first cs own) λ _.
    pick (eqb k NodeKind.FunctionDef) (λ _. 1 + fun_keyword p + first cs own + second cs own) λ _.
    pick (eqb k NodeKind.TableItem) (λ _. 1 + first cs own + second cs own) λ _.
    pick (eqb k NodeKind.ExprBlock) (λ _. if_so (not (eqb (head_kind (tail_of f)) NodeKind.Absent)) + first cs own + second cs own) λ _.
    pick (eqb k NodeKind.ConditionalBranch) (λ _. 1 + first cs own + second cs own) λ _.
    pick (eqb k NodeKind.SignatureDef) (λ _. signature f cs) λ _.
    pick (eqb k NodeKind.ParamDef) (λ _. 1 + v % 2) λ _.
    pick (eqb k NodeKind.DefaultDef) (λ _. 2 + v % 2 + first cs own) λ _.
    pick (eqb k NodeKind.FieldAttribute) (λ _. 1 + v % 2) λ _.
    pick (eqb k NodeKind.FieldIndex) (λ _. 2 + first cs own) λ _.
    pick (eqb k NodeKind.Nil) (λ _. 1) λ _.
    pick (eqb k NodeKind.EmptyTuple) (λ _. 2) λ _.
    pick (eqb k NodeKind.Identifier) (λ _. 1) λ _.
    pick (eqb k NodeKind.BooleanLiteral) (λ _. 1) λ _.
    pick (eqb k NodeKind.IntegerLiteral) (λ _. 1) λ _.
    pick (eqb k NodeKind.FloatLiteral) (λ _. 1) λ _.
    pick (eqb k NodeKind.StringLiteral) (λ _. 1) λ _.
    pick (eqb k NodeKind.Group) (λ _. min 1 v + 2 + first cs (group_place v)) λ _.
    pick (eqb k NodeKind.Attribute) (λ _. 2) λ _.
    pick (eqb k NodeKind.Index) (λ _. 2 + first cs own) λ _.
    pick (eqb k NodeKind.Invoke) (λ _. 2 + first cs commas) λ _.
    pick (eqb k NodeKind.InvokeTable) (λ _. 2 + first cs commas) λ _.
    pick (eqb k NodeKind.IdentifierPattern) (λ _. 1) λ _.
    pick (eqb k NodeKind.AttributePattern) (λ _. 2 + first cs own) λ _.
    pick (eqb k NodeKind.IndexPattern) (λ _. 2 + first cs own + second cs own) λ _.
    pick (eqb k NodeKind.TuplePattern) (λ _. 2 + first cs members) λ _.
    pick (eqb k NodeKind.Pack && eqb (head_kind f) NodeKind.Pack) (λ _. 3 + first cs own) λ _.
    pick (eqb k NodeKind.Pack) (λ _. 1 + first cs own) λ _.
    pick (eqb k NodeKind.Modifier) (λ _. 3 + first cs own) λ _.
    0

unfoldable mutual
  pub tokens : Tree → Counts
  tokens (node k v f) = λ p. layout p k v f (counts f)

  pub counts : Forest → List Counts
  counts none = []
  counts (more t f) = tokens t ∷ counts f
