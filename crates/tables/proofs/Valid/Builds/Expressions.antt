-- Nodes of expressions, assignments aside, whose children meet their demands: what their class says. Assumes nothing.
use Rattle.std.specs.Prelude.{◌≡◌, refl, Bool, true, false, ℕ, zero, suc, ◌+◌, ◌≤◌, ◌<◌, eqb, leb, Some}
use Rattle.std.proofs.Common.{subst, arith, eqb-true, ne_eqb, ltb-false, lt-ltb, le-leb}
use Rattle.token.specs.Kind
use Rattle.operator.specs.Operator.{which_unary_op, which_binary_op, op_level, op_token, number_level, unary_code}
use Rattle.operator.specs.Below.{equal_below}
use Rattle.operator.specs.Laws.{op_number_token}
use Rattle.tree.specs.NodeKind
use Rattle.tree.specs.Tree.{Tree, node, none, more, one, two, count}
use Rattle.tree.specs.Node
use Rattle.grammar.specs.Canonical.Valid.{atom, tight, unary, binop, plain, function, item, table_item, branch, block, Valid, v_unpack, v_table, v_function, v_if, v_block, v_labelled, v_unary_op, v_binary_op, v_single, v_tuple, v_none, v_more}
use Rattle.grammar.proofs.Laws.Facts.{clash, by_test}
use Rattle.tables.specs.Choice.{where_zero}
use Rattle.tables.specs.Operators.{Levels, LastBinary, level, binary_of}
use Rattle.tables.proofs.Operators.{level_range}
use Rattle.tables.specs.Class as Class
use Rattle.tables.specs.Class.{binary_class}
use Rattle.tables.specs.Demand as Demand
use Rattle.tables.specs.Demand.{left_side, right_side}
use Rattle.tables.specs.Kinds.{passes}
use Rattle.tables.specs.Children.{kind_in, count_in, value_in, last_tree}
use Rattle.tables.specs.Check.{begins_labelled, ends_single}
use Rattle.tables.proofs.Valid.Builds.Classes.{Begins, Ends, bound, as_lone, as_path, as_tight, as_unary, as_binary, as_plain, Any, receiver, Signature, Listed, listed, Operand, Means, Rule, tables}
use Rattle.tables.proofs.Valid.Builds.Roles.{tight_class, prim_of}
use Rattle.tables.proofs.Valid.Builds.Places.{label_name, same_kind, simple, unary_in, operand_in, optional, exactly, atom_in, else_in, all_valid, Row, row, items_in, table_items_in, not_absent, operands}

-- primaries
with_path : {t u : Tree} → Valid atom t → Row (item true) u → Means (where_zero (count_in (Some u)) Class.Bare Class.Primary) (node NodeKind.Primary 0 (two t u))
unfolding where_zero count
with_path a (row v_none) = receiver a v_none
with_path a (row (v_more {f = f} i h)) = rw (ne_eqb (suc (count f)) 0 λ e. omega arith) (simple refl refl (bound (as_path a i h)))

pub of_primary : Rule NodeKind.Primary
unfolding tables
of_primary t u k l = with_path (atom_in k) (items_in l)

-- operators
unary_valid : {begin : Bool} {t : Tree} (v : ℕ) → v ≤ 3 → Valid (unary true) t → Valid (unary begin) (Node.unary_op v t)
unfolding unary_code which_unary_op
unary_valid zero h x = v_unary_op Kind.OpSub refl x
unary_valid (suc zero) h x = v_unary_op Kind.OpAdd refl x
unary_valid (suc (suc zero)) h x = v_unary_op Kind.OpInv refl x
unary_valid (suc (suc (suc zero))) h x = v_unary_op Kind.Not refl x
unary_valid (suc (suc (suc (suc v)))) h x = absurd (omega arith)

pub of_unary : Rule NodeKind.UnaryOp
unfolding tables
of_unary v h t k = simple refl refl (as_unary λ begin p. unary_valid v (ltb-false 3 v h) (unary_in k))

level_is : (v : ℕ) → v < suc LastBinary → number_level v ≡ level v
unfolding number_level op_level op_token which_binary_op level binary_of
level_is = equal_below number_level level (suc LastBinary) tt

binary_valid : {begin : Bool} {t u : Tree} (v l : ℕ) → v < suc LastBinary → level v ≡ suc l → Valid (binop begin (suc l)) t → Valid (binop true l) u → Valid (binop begin (suc l)) (Node.binary_op v t u)
unfolding number_level
binary_valid {begin} {t} {u} v l h e x y =
    let x' : number_level v ≡ suc l = omega (arith, level_is v h) in
    subst (λ n. Valid (binop begin (suc l)) (Node.binary_op n t u)) (op_number_token v h) (v_binary_op (op_token v) x' x y)

pub of_binary : Rule NodeKind.BinaryOp
unfolding tables binary_class left_side right_side begins_labelled passes
of_binary v h t u k m = go (level v) refl
  where
    range : v < suc LastBinary
    range = let l = ltb-false LastBinary v h in omega arith

    go : (n : ℕ) → level v ≡ n → Means (binary_class v) (node NodeKind.BinaryOp v (two t u))
    go zero e = absurd (omega (arith, (level_range v).0))
    go (suc l) e =
        let most : suc l ≤ Levels = omega (arith, (level_range v).1) in
        let left : Demand.Level (level v) ≡ Demand.Level (suc l) = omega arith in
        let right : right_side v ≡ Demand.Level l = omega arith in
        let test : leb (Class.Unary + level v) Class.Given ≡ true = le-leb (Class.Unary + level v) Class.Given (omega arith) in
        rw (test, e)
        (simple refl refl (as_binary (suc l) (omega arith) (omega arith) λ begin p.
        binary_valid v l range e
        (operand_in (suc l) (omega arith) (rw left at k) begin p)
        (operand_in l (omega arith) (rw right at m) true (λ y. clash refl y))))

-- `...` behind a primary or alone
pub of_unpack : Rule NodeKind.Unpack
unfolding tables where_zero
of_unpack t k =
    optional (λ x. Means (where_zero (kind_in (Some x)) Class.Lone Class.Tight) (Node.unpack x)) Demand.PrimaryOrAbsent refl (omega arith) k
    (record { own = λ h. bound as_lone; lone = λ h. absurd (omega arith); under = λ y. clash y refl })
    λ low high m.
    let n = not_absent t (omega arith) in
    let x = prim_of low high (tight_class (omega arith) (m.own (omega arith))) in
    rw n (simple refl (rw same_kind at n) (bound (as_tight λ begin p. v_unpack x)))

-- tuples: one member is `(a,)`, so that `)` has to follow
single : {t : Tree} → Operand t → (begin close : Bool) → Begins begin (Node.tuple (one t)) → Ends close (Node.tuple (one t)) → Valid (plain begin close) (Node.tuple (one t))
unfolding begins_labelled ends_single passes count last_tree
single h begin true p q = v_single (h begin p)
single h begin false p q = clash refl (q refl)

members : {t : Tree} → Listed Operand t → Any Class.Tuple (node NodeKind.Tuple 0 (one t))
unfolding begins_labelled passes
members (listed {f = none} h g) = simple refl refl (as_plain (omega arith) (omega arith) (single h))
members (listed {f = more u f} h g) =
    simple refl refl (as_plain (omega arith) (omega arith) λ begin close p q. v_tuple (h begin p) (g.0 true λ e. clash refl e) (operands g.1))

pub of_tuple : Rule NodeKind.Tuple
unfolding tables
of_tuple t k = members (exactly Class.Operands (omega arith) k)

pub of_table : Rule NodeKind.Table
unfolding tables
of_table t k = go (table_items_in k)
  where
    go : {t : Tree} → Row table_item t → Any Class.Tight (node NodeKind.Table 0 (one t))
    go (row f) = simple refl refl (bound (as_tight λ begin p. v_table f))

pub of_if : Rule NodeKind.IfExpr
unfolding tables
of_if t u k l = go (exactly (Class.Lists + Class.Branch) (omega arith) k)
  where
    go : {t : Tree} → Listed (Valid branch) t → Any Class.Tight (node NodeKind.IfExpr 0 (two t u))
    go (listed h f) = simple refl refl (bound (as_tight λ begin p. v_if h (all_valid f) (else_in l)))

-- blocks: a label is the first token
pub of_block_expr : Rule NodeKind.Block
unfolding tables begins_labelled passes
of_block_expr zero h t k = simple refl refl (bound (as_tight λ begin p. v_block (exactly Class.Block (omega arith) k)))
of_block_expr (suc n) h t k = simple refl refl (bound (as_tight labelled))
  where
    labelled : (begin : Bool) → Begins begin (Node.block (suc n) t) → Valid (tight begin) (Node.block (suc n) t)
    labelled true p = v_labelled (label_name n h) (exactly Class.Block (omega arith) k)
    labelled false p = clash (lt-ltb 0 (suc n) (omega arith)) (p refl)

-- functions: one with a name stands only where `fun` with a target gives it
function_is : {t u : Tree} → Signature t → Valid block u → Means (where_zero (value_in (Some t)) Class.Tight Class.Named) (node NodeKind.FunctionDef 0 (two t u))
unfolding where_zero
function_is {t = node k v f} {u = u} s b =
    by_test (eqb v 0)
    (λ y. rw y (simple refl refl (bound (as_tight λ begin p. v_function (named 0 y)))))
    (λ n. rw n named)
  where
    named : (n : ℕ) → eqb v n ≡ true → Valid (function n) (Node.function_def (node k v f) u)
    named n e = subst (λ m. Valid (function m) (Node.function_def (node k v f) u)) (eqb-true v n e) (s u b)

pub of_function : Rule NodeKind.FunctionDef
unfolding tables
of_function t u k l = function_is (exactly Class.Signature (omega arith) k) (exactly Class.Block (omega arith) l)
