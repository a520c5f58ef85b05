-- Functions: their target, their parameters, their body. Definitions; they assume nothing.
use Rattle.std.specs.Prelude.{false, cond, ◌||◌, List, ℕ, zero, suc, eqb, length}
use Rattle.token.specs.Kind
use Rattle.tree.specs.NodeKind
use Rattle.tree.specs.Tree.{Tree, Forest, node, none, snoc, empty}
use Rattle.tree.specs.Node
use Rattle.grammar.specs.Reading.Pattern.{to_pattern}
use Rattle.grammar.specs.Reading.Number
use Rattle.grammar.specs.Reading.Result.{Error, Res, ok, fail, then, ifb}
use Rattle.grammar.specs.Reading.Look.{look, expect, expect_pattern}
use Rattle.grammar.specs.Reading.Expr.{Depth, expr}
use Rattle.grammar.specs.Reading.Primary.{atom, path, with_path}
use Rattle.grammar.specs.Reading.Block.{body, block_of}

-- a parameter as it is read; the number is its name with its access
pub data Param : Type 0 where
  required variadic : ℕ → Param
  default : ℕ → Tree → Param

-- the parameters so far; the variadic one or `absent`
pub record Params : Type 0 where
  pub required_list : Forest
  pub default_list : Forest
  pub variadic_one : Tree

-- the access before a parameter's name: `var` and `let` are taken. Any other token is left: a name, whose access is `ReadOnly`, or what is no parameter
unfoldable pub param_mode : List Error → List ℕ → Res ℕ
param_mode q ts =
    then q (look q ts) λ tok q₁ rest.
    ifb (eqb tok.kind Kind.Var) (λ _. ok Node.read_write rest) λ _.
    ifb (eqb tok.kind Kind.Let) (λ _. ok Node.read_only rest) λ _.
    ifb (eqb tok.kind Kind.Identifier) (λ _. ok Node.read_only ts) λ _.
    fail Number.invalid_param q ts

-- behind a variadic parameter: no default
unfoldable pub variadic_param : ℕ → List Error → List ℕ → Res Param
variadic_param v q ts =
    then q (look q ts) λ tok q₁ rest.
    ifb (eqb tok.kind Kind.OpAssign) (λ _. fail Number.variadic_default q ts) (λ _. ok (variadic v) ts)

-- behind the name of a parameter that is not variadic: perhaps a default, which takes commas into a tuple
unfoldable pub plain_param : Depth → ℕ → List Error → List ℕ → Res Param
plain_param low v q ts =
    then q (look q ts) λ tok q₁ rest.
    ifb (eqb tok.kind Kind.OpAssign) (λ _. then q (expr low q rest) λ e q₂ r. ok (default v e) r) (λ _. ok (required v) ts)

-- one parameter, up to what must be a comma or `)`
unfoldable pub param : Depth → List Error → List ℕ → Res Param
param low q ts =
    then q (param_mode q ts) λ mode q₁ r.
    then q₁ (expect Kind.Identifier Number.invalid_param q₁ r) λ name q₂ s.
    then q₂ (look q₂ s) λ tok q₃ rest.
    ifb (eqb tok.kind Kind.Ellipsis)
    (λ _. variadic_param (Node.named name.value mode) q₂ rest)
    (λ _. plain_param low (Node.named name.value mode) q₂ s)

-- a parameter joins those before it, with the kind k of the token behind it
unfoldable pub joined : Params → Param → ℕ → List Error → List ℕ → Res Params
joined ps (variadic v) k q ts =
    ifb (eqb k Kind.Comma) (λ _. fail Number.variadic_not_last q ts) λ _.
    ifb (eqb k Kind.CloseParen) (λ _. ok (record { required_list = ps.required_list; default_list = ps.default_list; variadic_one = Node.param_def v }) ts) λ _.
    fail Number.invalid_param q ts
joined ps (default v e) k q ts =
    ifb (eqb k Kind.Comma || eqb k Kind.CloseParen)
    (λ _. ok (record { required_list = ps.required_list; default_list = snoc ps.default_list (Node.default_def v e); variadic_one = ps.variadic_one }) ts)
    (λ _. fail Number.invalid_param q ts)
joined ps (required v) k q ts =
    ifb (eqb k Kind.Comma || eqb k Kind.CloseParen)
    (λ _. ifb (empty ps.default_list)
    (λ _. ok (record { required_list = snoc ps.required_list (Node.param_def v); default_list = ps.default_list; variadic_one = ps.variadic_one }) ts)
    (λ _. fail Number.param_order q ts))
    (λ _. fail Number.invalid_param q ts)

-- the parameters of a list, after some
unfoldable pub params : Depth → ℕ → Params → List Error → List ℕ → Res Params
params low zero ps q ts = fail Number.end_of_tokens q ts
params low (suc n) ps q ts =
    then q (look q ts) λ tok q₁ rest.
    ifb (eqb tok.kind Kind.CloseParen) (λ _. ok ps ts) λ _.
    then q (param low q ts) λ p q₂ r.
    then q₂ (look q₂ r) λ tok₂ q₃ rest₂.
    then q₂ (joined ps p tok₂.kind q₂ r) λ ps₂ q₄ s.
    ifb (eqb tok₂.kind Kind.Comma) (λ _. params low n ps₂ q₂ rest₂) (λ _. params low n ps₂ q₂ r)

-- `parse_function_param_list`
abbrev pub function_param_list : Depth → List Error → List ℕ → Res Params
function_param_list low q ts = params low (length ts) (record { required_list = none; default_list = none; variadic_one = Node.absent }) q ts

-- `parse_function_def`; name is what the signature has for a name, 0 or 1 + it
unfoldable pub function_def : Depth → ℕ → List Error → List ℕ → Res Tree
function_def low name q ts =
    then q (expect Kind.OpenParen Number.params_opening q ts) λ tok q₁ r.
    then q₁ (function_param_list low q₁ r) λ ps q₂ s.
    then q₂ (expect Kind.CloseParen Number.params_closing q₂ s) λ tok₂ q₃ u.
    then q₃ (body low q₃ u) λ b q₄ x.
    ok (Node.function_def (Node.signature_def name ps.required_list ps.default_list ps.variadic_one) (block_of b)) x

-- `parse_function_assignment_target`: no invocation in its path
unfoldable pub function_assignment_target : Depth → List Error → List ℕ → Res Tree
function_assignment_target low q ts =
    then q (atom low q ts) λ a q₁ r.
    then q₁ (path low false (length r) none q₁ r) λ f q₂ s.
    expect_pattern Number.function_target (to_pattern (with_path a f)) q₂ s

-- the name that a target gives to the signature, 0 or 1 + it
abbrev pub target_name : Tree → ℕ
target_name (node k v f) = cond (eqb k NodeKind.IdentifierPattern) (suc v) 0

-- `parse_function_decl_expr`, behind `fun`: with a target it is an assignment, as after `let`
unfoldable pub function_decl_expr : Depth → List Error → List ℕ → Res Tree
function_decl_expr low q ts =
    then q (look q ts) λ tok q₁ rest.
    ifb (eqb tok.kind Kind.OpenParen) (λ _. function_def low 0 q ts) λ _.
    then q (function_assignment_target low q ts) λ p q₂ r.
    then q₂ (function_def low (target_name p) q₂ r) λ d q₃ s.
    ok (Node.assignment Node.decl_immutable 0 p d) s
