-- What binds tighter than operators: atoms and groups, their paths, tables, `...`. Definitions; they assume nothing.
-- A nonterminal whose first token its caller has seen starts behind that token.
use Rattle.std.specs.Prelude.{Bool, true, cond, ◌&&◌, List, ℕ, zero, suc, ◌+◌, ◌*◌, ◌/◌, eqb, length}
use Rattle.token.specs.Kind
use Rattle.token.specs.declared.Token.{Token}
use Rattle.tree.specs.NodeKind
use Rattle.tree.specs.Tree.{Tree, Forest, node, none, more, one, snoc, kind_of}
use Rattle.tree.specs.Node
use Rattle.grammar.specs.Reading.Number
use Rattle.grammar.specs.Reading.Result.{Error, Res, ok, fail, then, ifb}
use Rattle.grammar.specs.Reading.Look.{look, expect, try_assign_keyword}
use Rattle.grammar.specs.Reading.Expr.{Depth, inner_expr, expr}

-- a group's modifier, 0 or 1 + its action, is handed to an assignment inside
abbrev pub with_action : ℕ → Tree → Tree
with_action zero e = e
with_action (suc a) (node k v f) = cond (eqb k NodeKind.Assignment) (node k (a + 4 * (v / 4)) f) (node k v f)

-- `parse_group_expr`, behind `(`
unfoldable pub group_expr : Depth → List Error → List ℕ → Res Tree
group_expr low q ts =
    then q (look q ts) λ tok q₁ rest.
    ifb (eqb tok.kind Kind.CloseParen) (λ _. ok Node.empty_tuple rest) λ _.
    then q (try_assign_keyword q ts) λ m q₂ r.
    then q₂ (expr low q₂ r) λ e q₃ s.
    then q₃ (expect Kind.CloseParen Number.group_closing q₃ s) λ tok₂ q₄ u.
    ok (Node.group m (with_action m e)) u

-- the error of a token that is no atom
abbrev pub atom_error : ℕ → Error
atom_error k =
    cond (eqb k Kind.Class) Number.class_needs_parens
    (cond (eqb k Kind.Fun) Number.fun_needs_parens
    (cond (eqb k Kind.Let) Number.let_needs_parens
    (cond (eqb k Kind.Var) Number.var_needs_parens
    (cond (eqb k Kind.Begin) Number.begin_needs_parens
    (cond (eqb k Kind.If) Number.other_needs_parens
    (cond (eqb k Kind.Label) Number.other_needs_parens
    (cond (eqb k Kind.CloseParen) Number.unmatched_paren
    (cond (eqb k Kind.CloseSquare) Number.unmatched_square
    (cond (eqb k Kind.CloseBrace) Number.unmatched_brace
    Number.no_expression)))))))))

-- an identifier or a literal, and the words behind it
unfoldable pub literal : Token → List Error → List ℕ → Res Tree
literal tok q rest =
    ifb (eqb tok.kind Kind.Identifier) (λ _. ok (Node.identifier tok.value) rest) λ _.
    ifb (eqb tok.kind Kind.Nil) (λ _. ok Node.nil rest) λ _.
    ifb (eqb tok.kind Kind.True) (λ _. ok (Node.boolean_literal 1) rest) λ _.
    ifb (eqb tok.kind Kind.False) (λ _. ok (Node.boolean_literal 0) rest) λ _.
    ifb (eqb tok.kind Kind.IntegerLiteral) (λ _. ok (Node.integer_literal tok.value) rest) λ _.
    ifb (eqb tok.kind Kind.FloatLiteral) (λ _. ok (Node.float_literal tok.value) rest) λ _.
    ifb (eqb tok.kind Kind.StringLiteral) (λ _. ok (Node.string_literal tok.value) rest) λ _.
    fail (atom_error tok.kind) q rest

-- `parse_atom`
unfoldable pub atom : Depth → List Error → List ℕ → Res Tree
atom low q ts =
    then q (look q ts) λ tok q₁ rest.
    ifb (eqb tok.kind Kind.OpenParen) (λ _. group_expr low q rest) (λ _. literal tok q rest)

-- `parse_indexing_expr`, behind `[`, and so `parse_index_access`
unfoldable pub indexing_expr : Depth → List Error → List ℕ → Res Tree
indexing_expr low q ts =
    then q (expr low q ts) λ e q₁ r.
    then q₁ (expect Kind.CloseSquare Number.index_closing q₁ r) λ tok q₂ s.
    ok e s

-- a name behind `var` or `let`
unfoldable pub field_name : ℕ → Error → List Error → List ℕ → Res Tree
field_name access e q ts =
    then q (expect Kind.Identifier e q ts) λ tok q₁ r.
    ok (Node.field_attribute (Node.named tok.value access)) r

-- `parse_table_field`
unfoldable pub table_field : Depth → List Error → List ℕ → Res Tree
table_field low q ts =
    then q (look q ts) λ tok q₁ rest.
    ifb (eqb tok.kind Kind.OpenSquare) (λ _. then q (indexing_expr low q rest) λ e q₂ r. ok (Node.field_index e) r) λ _.
    ifb (eqb tok.kind Kind.Var) (λ _. field_name Node.read_write Number.name_after_var q rest) λ _.
    ifb (eqb tok.kind Kind.Let) (λ _. field_name Node.read_only Number.name_after_let q rest) λ _.
    ifb (eqb tok.kind Kind.Identifier) (λ _. ok (Node.field_attribute (Node.named tok.value Node.read_only)) rest) λ _.
    fail Number.invalid_field q rest

-- one `TableItem`
unfoldable pub table_item : Depth → List Error → List ℕ → Res Tree
table_item low q ts =
    then q (table_field low q ts) λ field q₁ r.
    then q₁ (expect Kind.OpAssign Number.missing_assign q₁ r) λ tok q₂ s.
    then q₂ (inner_expr low q₂ s) λ e q₃ u.
    ok (Node.table_item field e) u

-- the items of a table, after some
unfoldable pub table_items : Depth → ℕ → Forest → List Error → List ℕ → Res Forest
table_items low zero f q ts = fail Number.end_of_tokens q ts
table_items low (suc n) f q ts =
    then q (look q ts) λ tok q₁ rest.
    ifb (eqb tok.kind Kind.CloseBrace) (λ _. ok f rest) λ _.
    then q (table_item low q ts) λ item q₂ r.
    then q₂ (look q₂ r) λ tok₂ q₃ rest₂.
    ifb (eqb tok₂.kind Kind.Comma) (λ _. table_items low n (snoc f item) q₂ rest₂) λ _.
    ifb (eqb tok₂.kind Kind.CloseBrace) (λ _. ok (snoc f item) rest₂) (λ _. fail Number.table_closing q₂ rest₂)

-- `parse_table_literal`, behind `{`
abbrev pub table_literal : Depth → List Error → List ℕ → Res Forest
table_literal low q ts = table_items low (length ts) none q ts

-- `parse_member_access`, behind `.`
unfoldable pub member_access : List Error → List ℕ → Res Tree
member_access q ts =
    then q (expect Kind.Identifier Number.member_name q ts) λ tok q₁ r.
    ok (Node.attribute tok.value) r

-- the children of a list node that is alone, as a tuple has; the first clause is never reached
abbrev pub list_members : Forest → Forest
list_members none = none
list_members (more (node k v f) g) = f

-- a tuple's members are the arguments; anything else is one argument
abbrev pub arguments : Tree → Forest
arguments (node k v f) = cond (eqb k NodeKind.Tuple) (list_members f) (one (node k v f))

-- `parse_invocation`, behind `(`
unfoldable pub invocation : Depth → List Error → List ℕ → Res Tree
invocation low q ts =
    then q (look q ts) λ tok q₁ rest.
    ifb (eqb tok.kind Kind.CloseParen) (λ _. ok (Node.invoke none) rest) λ _.
    then q (expr low q ts) λ e q₂ r.
    then q₂ (expect Kind.CloseParen Number.arguments_closing q₂ r) λ tok₂ q₃ s.
    ok (Node.invoke (arguments e)) s

-- the access items behind an atom, after some. `calls`: invocations are allowed, where they begin on the same line
unfoldable pub path : Depth → Bool → ℕ → Forest → List Error → List ℕ → Res Forest
path low calls zero f q ts = fail Number.end_of_tokens q ts
path low calls (suc n) f q ts =
    then q (look q ts) λ tok q₁ rest.
    ifb (eqb tok.kind Kind.OpAccess) (λ _. then q (member_access q rest) λ i q₂ r. path low calls n (snoc f i) q₂ r) λ _.
    ifb (eqb tok.kind Kind.OpenSquare) (λ _. then q (indexing_expr low q rest) λ e q₂ r. path low calls n (snoc f (Node.index e)) q₂ r) λ _.
    ifb (calls && eqb tok.newline 0 && eqb tok.kind Kind.OpenParen) (λ _. then q (invocation low q rest) λ i q₂ r. path low calls n (snoc f i) q₂ r) λ _.
    ifb (calls && eqb tok.newline 0 && eqb tok.kind Kind.OpenBrace) (λ _. then q (table_literal low q rest) λ items q₂ r. path low calls n (snoc f (Node.invoke_table items)) q₂ r) λ _.
    ok f ts

-- an atom without a path is itself
abbrev pub with_path : Tree → Forest → Tree
with_path a none = a
with_path a (more i f) = Node.primary a (more i f)

-- `parse_primary`
unfoldable pub primary : Depth → List Error → List ℕ → Res Tree
primary low q ts =
    then q (atom low q ts) λ a q₁ r.
    then q₁ (path low true (length r) none q₁ r) λ f q₂ s.
    ok (with_path a f) s

-- `parse_unpack_expr`
unfoldable pub unpack_expr : Depth → List Error → List ℕ → Res Tree
unpack_expr low q ts =
    then q (look q ts) λ tok q₁ rest.
    ifb (eqb tok.kind Kind.Ellipsis) (λ _. ok (Node.unpack Node.absent) rest) λ _.
    then q (primary low q ts) λ t q₂ r.
    then q₂ (look q₂ r) λ tok₂ q₃ rest₂.
    ifb (eqb tok₂.kind Kind.Ellipsis)
    (λ _. ifb (eqb (kind_of t) NodeKind.Unpack) (λ _. fail Number.nested_ellipsis q₂ rest₂) (λ _. ok (Node.unpack t) rest₂))
    (λ _. ok t r)
