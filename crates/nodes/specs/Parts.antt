-- Readings that a function of the code does and the definition has no name for, and the words that readings leave where these are no whole tree's.
-- Definitions; they assume nothing.
use Rattle.std.specs.Prelude.{List, [], ◌∷◌, ◌++◌, ℕ, suc, ◌+◌, ◌*◌, eqb}
use Rattle.token.specs.Kind
use Rattle.tree.specs.NodeKind
use Rattle.tree.specs.Tree.{Tree, Forest, none, more, three, count, all_records, kind_of}
use Rattle.tree.specs.Node
use Rattle.grammar.specs.Reading.Number
use Rattle.grammar.specs.Reading.Result.{Error, Res, ok, fail, then, ifb}
use Rattle.grammar.specs.Reading.Look.{look, expect}
use Rattle.grammar.specs.Reading.Primary.{field_name}
use Rattle.grammar.specs.Reading.Function.{Param, Params, param_mode, joined}
use Rattle.grammar.specs.Reading.Stmt.{lone_ellipsis}

-- the words of a tuple behind those of its first member
abbrev pub tuple_words : Forest → List ℕ
tuple_words f = all_records f ++ (NodeKind.List + 256 * suc (count f)) ∷ 0 ∷ (NodeKind.Tuple + 256) ∷ 0 ∷ []

-- the words of a path behind those of its atom
abbrev pub path_words : Forest → List ℕ
path_words none = []
path_words (more i f) = all_records (more i f) ++ (NodeKind.List + 256 * count (more i f)) ∷ 0 ∷ (NodeKind.Primary + 512) ∷ 0 ∷ []

-- `...` behind what was read as t; an expression as a statement
unfoldable pub unpack_end : Tree → List Error → List ℕ → Res Tree
unpack_end t q ts = ifb (eqb (kind_of t) NodeKind.Unpack) (λ _. fail Number.nested_ellipsis q ts) (λ _. ok (Node.unpack t) ts)

unfoldable pub expression_end : Tree → List Error → List ℕ → Res Tree
expression_end t q ts = ifb (lone_ellipsis t) (λ _. fail Number.ellipsis_not_allowed q ts) (λ _. ok (Node.expression t) ts)

-- a table field that is no index, behind its first token, of the kind k and with the value v
unfoldable pub named_field : ℕ → ℕ → List Error → List ℕ → Res Tree
named_field k v q ts =
    ifb (eqb k Kind.Var) (λ _. field_name 1 Number.name_after_var q ts) λ _.
    ifb (eqb k Kind.Let) (λ _. field_name 0 Number.name_after_let q ts) λ _.
    ifb (eqb k Kind.Identifier) (λ _. ok (Node.field_attribute (Node.named v 0)) ts) λ _.
    fail Number.invalid_field q ts

-- what must stand behind a table item, and is taken: a comma, 0; or `}`, 1
unfoldable pub item_end : List Error → List ℕ → Res ℕ
item_end q ts =
    then q (look q ts) λ tok q₁ rest.
    ifb (eqb tok.kind Kind.Comma) (λ _. ok 0 rest) λ _.
    ifb (eqb tok.kind Kind.CloseBrace) (λ _. ok 1 rest) λ _.
    fail Number.table_closing q rest

-- the head of a parameter, up to a default's expression; the number is its name with its access
pub data Header : Type 0 where
  h_required h_variadic h_default : ℕ → Header

unfoldable pub param_name : List Error → List ℕ → Res ℕ
param_name q ts =
    then q (param_mode q ts) λ mode q₁ r.
    then q₁ (expect Kind.Identifier Number.invalid_param q₁ r) λ name q₂ s.
    ok (Node.named name.value mode) s

unfoldable pub variadic_head : ℕ → List Error → List ℕ → Res Header
variadic_head v q ts =
    then q (look q ts) λ tok q₁ rest.
    ifb (eqb tok.kind Kind.OpAssign) (λ _. fail Number.variadic_default q ts) (λ _. ok (h_variadic v) ts)

unfoldable pub param_kind : ℕ → List Error → List ℕ → Res Header
param_kind v q ts =
    then q (look q ts) λ tok q₁ rest.
    ifb (eqb tok.kind Kind.Ellipsis) (λ _. variadic_head v q rest) λ _.
    ifb (eqb tok.kind Kind.OpAssign) (λ _. ok (h_default v) rest) (λ _. ok (h_required v) ts)

unfoldable pub param_head : List Error → List ℕ → Res Header
param_head q ts = then q (param_name q ts) λ v q₁ r. param_kind v q₁ r

-- what must stand behind a parameter: a comma, which is taken, 1; or `)`, 0
unfoldable pub separator : List Error → List ℕ → Res ℕ
separator q ts =
    then q (look q ts) λ tok q₁ rest.
    ifb (eqb tok.kind Kind.Comma) (λ _. ok 1 rest) λ _.
    ifb (eqb tok.kind Kind.CloseParen) (λ _. ok 0 ts) λ _.
    fail Number.invalid_param q ts

-- a parameter joins those before it, and the token behind it is passed over if it is a comma
unfoldable pub join : Params → Param → List Error → List ℕ → Res Params
join ps p q ts =
    then q (look q ts) λ tok q₁ rest.
    then q (joined ps p tok.kind q ts) λ ps₂ q₂ s.
    ifb (eqb tok.kind Kind.Comma) (λ _. ok ps₂ rest) (λ _. ok ps₂ ts)

-- the children of a signature
abbrev pub signature_words : Params → List ℕ
signature_words ps = all_records (three (Node.list ps.required_list) (Node.list ps.default_list) ps.variadic_one)
