-- Of a valid tree the tables and grammar say the same, at the places where its role stands: `text_is`, `within_is`. Assumes nothing.
use Rattle.std.specs.Prelude.{◌≡◌, refl, Bool, true, false, List, ℕ, suc, pred, ◌+◌, ◌*◌, ◌/◌, ◌<◌, eqb, leb}
use Rattle.std.proofs.Common.{ap, ◌∙◌, arith, lt-ltb}
use Rattle.operator.specs.Operator.{op_number, unary_code, assign_code, assign_token}
use Rattle.tree.specs.Tree.{Tree, Forest, none, more, count, kind_of}
use Rattle.tree.specs.NodeKind
use Rattle.grammar.specs.Canonical.Write.{Place, own, modified, write}
use Rattle.grammar.specs.Canonical.Need.{need}
use Rattle.grammar.specs.Canonical.Valid.{Role, atom, prim, tight, unary, binop, assign, plain, ex, given, function, item, field, table_item, param, branch, else_clause, jump, control, body, block, stmt, Valid, v_nil, v_empty_tuple, v_identifier, v_true, v_false, v_integer, v_float, v_string, v_group, v_modified, v_atom, v_primary, v_prim, v_unpack, v_ellipsis, v_table, v_function, v_target, v_if, v_block, v_labelled, v_tight, v_unary_op, v_unary, v_up, v_binary_op, v_assign, v_inner, v_single, v_tuple, v_local, v_plain, v_keyword, v_given, v_given_assign, v_given_target, v_function_def, v_function_default, v_function_variadic, v_attribute, v_index, v_invoke, v_invoke_table, v_field, v_field_index, v_table_item, v_param, v_branch, v_no_else, v_else, v_continue, v_break, v_break_value, v_break_label, v_return, v_return_value, v_no_control, v_control, v_body, v_block_plain, v_block_control, v_block_result, v_expression, v_loop, v_while, v_for, v_assert, v_none, v_more, no_argument, one_argument, arguments, p_identifier, p_attribute, p_index, p_tuple, p_pack, p_ellipsis, p_modifier, p_none, p_more, t_name, t_attribute, t_index}
use Rattle.grammar.proofs.Laws.Facts.{clash}
use Rattle.grammar.proofs.Laws.Back.Follow.{op_kind, unary_kind, assign_kind}
use Rattle.grammar.proofs.Laws.Roles.{has_target}
use Rattle.tables.specs.Form.{Own}
use Rattle.tables.specs.Operators.{NoToken}
use Rattle.tables.specs.Layout.{text, within}
use Rattle.tables.proofs.Same.Depth.{within_taken}
use Rattle.tables.specs.Children.{Each}
use Rattle.tables.proofs.Same.Agree.{depth_place, Same, EachOwn}
use Rattle.tables.proofs.Same.Lists.{suite_same, row_same, commas_same, members_same, branches_same, leading_same}
use Rattle.tables.proofs.Same.Nodes.{expression_same, loop_same, while_loop_same, for_loop_same, assert_same, continue_same, break_same, return_same, absent_same, stmt_list_same, expr_block_same, inner_same, conditional_branch_same, attribute_same, index_same, invoke_same, invoke_table_same, field_attribute_same, field_index_same, table_item_same, param_def_same, default_def_same, required_signature, default_signature, variadic_signature, identifier_pattern_same, attribute_pattern_same, index_pattern_same, tuple_pattern_same, pack_same, modifier_same}
use Rattle.tables.proofs.Same.Exprs.{Function, if_expr_same, primary_same, unary_op_same, binary_op_same, unpack_same, tuple_same, table_same, block_same, group_same, nil_same, empty_tuple_same, identifier_same, boolean_literal_same, integer_literal_same, float_literal_same, string_literal_same, assignment_same, target_same, function_def_same}

-- by itself, and under a modifier
abbrev Free : Tree → Type 0
Free t = Same own t × Same modified t

free : {t : Tree} → ((p : Place) → Same p t) → Free t
free h = (h own, h modified)

-- the same, but of an assignment only by itself
abbrev Unassigned : Tree → Type 0
Unassigned t = Same own t × (eqb (kind_of t) NodeKind.Assignment ≡ false → Same modified t)

unassigned : {t : Tree} → Free t → Unassigned t
unassigned h = (h.0, λ e. h.1)

-- what holds of a tree in a role: what may stand under a modifier is the same there, an assignment only if its action is one
abbrev Agrees : Role → Tree → Type 0
Agrees atom t = Free t
Agrees prim t = Free t
Agrees (tight begin) t = Free t
Agrees (unary begin) t = Free t
Agrees (binop begin l) t = Free t
Agrees (assign p close a) t = a < 4 → depth_place p ≡ p → Same p t
Agrees (plain begin close) t = Unassigned t
Agrees (ex begin close) t = Same own t
Agrees (given a) t = a < 4 → Same modified t
Agrees (function n) t = Function t
Agrees (item calls) t = Same own t
Agrees field t = Same own t
Agrees table_item t = Same own t
Agrees param t = Same own t
Agrees branch t = Same own t
Agrees else_clause t = Same own t
Agrees jump t = Same own t
Agrees control t = Same own t
Agrees body t = Same own t
Agrees block t = Same own t
Agrees stmt t = Same own t

each : (f : Forest) → Each Free f → EachOwn f
each none u = tt
each (more t f) u = (u.0.0, each f u.1)

-- an assignment's operator is a token
assign_few : (k n : ℕ) → eqb (assign_code k) 0 ≡ false → n < 4 → assign_token ((n + 4 * pred (assign_code k)) / 4) < NoToken
assign_few k n c l =
    let e : (n + 4 * pred (assign_code k)) / 4 ≡ pred (assign_code k) = omega arith in
    rw e (omega (arith, assign_kind k c))

assigned : {p : Place} {close : Bool} {a : ℕ} {t : Tree} → Valid (assign p close a) t → eqb (kind_of t) NodeKind.Assignment ≡ true
assigned (v_assign k c h g e) = refl

same : {o : Role} {t : Tree} → Valid o t → Agrees o t
unfolding count
same h =
    elim h as (λ o t x. Agrees o t) (λ o f x. Each (Agrees o) f) (λ f x. EachOwn f) (λ t x. Same own t) (λ f x. EachOwn f) (λ t x. Same own t) [
      | v_nil ↦ free nil_same
      | v_empty_tuple ↦ free empty_tuple_same
      | v_identifier {n = n} _ ↦ free λ p. identifier_same p n
      | v_true ↦ free λ p. boolean_literal_same p 1
      | v_false ↦ free λ p. boolean_literal_same p 0
      | v_integer v ↦ free λ p. integer_literal_same p v
      | v_float v ↦ free λ p. float_literal_same p v
      | v_string {n = n} _ ↦ free λ p. string_literal_same p n
      | v_group (_ → a) ↦ free λ p. group_same p 0 a.0
      | v_modified {a = n} l (_ → a) ↦ free λ p. group_same p (suc n) (a l)
      | v_atom (_ → a) ↦ a
      | v_primary (_ → a) (_ → b) (_ → c) ↦ free λ p. primary_same p a.0 (row_same (b, c))
      | v_prim (_ → a) ↦ a
      | v_unpack (_ → a) ↦ free λ p. unpack_same p a.0
      | v_ellipsis ↦ free λ p. unpack_same p absent_same
      | v_table (_ → a) ↦ free λ p. table_same p (commas_same a)
      | v_function (_ → a) ↦ (a.0, a.1)
      | v_target (t → a) (h → b) ↦ (target_same own 2 refl refl (has_target t h) a b, target_same modified 2 refl refl (has_target t h) a b)
      | v_if (_ → a) (_ → b) (_ → c) ↦ free λ p. if_expr_same p (branches_same (a, b)) c
      | v_block (_ → a) ↦ free λ p. block_same p 0 a
      | v_labelled {n = n} _ (_ → a) ↦ free λ p. block_same p (suc n) a
      | v_tight (_ → a) ↦ a
      | v_unary_op k e (_ → a) ↦ free λ p. unary_op_same p (pred (unary_code k)) (omega (arith, unary_kind k e)) a.0
      | v_unary (_ → a) ↦ a
      | v_up (_ → a) ↦ a
      | v_binary_op k e (_ → a) (_ → b) ↦ free λ p. binary_op_same p (op_number k) (omega (arith, op_kind k e)) a.0 b.0
      | v_assign {p = p} {a = n} k c (_ → a) (_ → b) e ↦ λ l q. assignment_same p (n + 4 * pred (assign_code k)) q (assign_few k n c l) e a b
      | v_inner (_ → a) ↦ unassigned a
      | v_single (_ → a) ↦ unassigned (free λ p. tuple_same p (members_same (a.0, tt)))
      | v_tuple {f = f} (_ → a) (_ → b) (_ → c) ↦ unassigned (free λ p. tuple_same p (members_same (a.0, (b.0, each f c))))
      | v_local (h → a) ↦ (a (omega arith) refl, λ e. clash (assigned h) e)
      | v_plain (_ → a) ↦ a.0
      | v_keyword l (_ → a) ↦ a (omega arith) refl
      | v_given e (_ → a) ↦ λ l. a.1 e
      | v_given_assign (_ → a) ↦ λ l. a l refl
      | v_given_target {a = n} (t → a) (h → b) ↦ λ l. target_same modified (n + 4 * 0) refl (lt-ltb (n + 4 * 0) 4 (omega arith)) (has_target t h) a b
      | v_function_def {n = n} (_ → a) (_ → b) ↦ function_def_same (required_signature n (commas_same a)) b
      | v_function_default {n = n} {v = v} (_ → a) _ (_ → b) (_ → c) ↦ function_def_same (default_signature n (leading_same a) refl refl (commas_same (default_def_same v b, tt))) c
      | v_function_variadic {n = n} {v = v} (_ → a) _ (_ → b) ↦ function_def_same (variadic_signature n (leading_same a) refl (param_def_same v)) b
      | v_attribute {n = n} _ ↦ attribute_same n
      | v_index (_ → a) ↦ index_same a
      | v_invoke (_ → a) ↦ invoke_same (commas_same a)
      | v_invoke_table (_ → a) ↦ invoke_table_same (commas_same a)
      | v_field {v = v} _ ↦ field_attribute_same v
      | v_field_index (_ → a) ↦ field_index_same a
      | v_table_item (_ → a) (_ → b) ↦ table_item_same a b.0
      | v_param {v = v} _ ↦ param_def_same v
      | v_branch (_ → a) (_ → b) ↦ conditional_branch_same a b
      | v_no_else ↦ absent_same
      | v_else (_ → a) ↦ a
      | v_continue {l = l} _ ↦ continue_same l
      | v_break {l = l} _ ↦ break_same l absent_same
      | v_break_value (_ → a) ↦ break_same 0 a
      | v_break_label {n = n} _ (_ → a) ↦ break_same (suc n) a
      | v_return ↦ return_same absent_same
      | v_return_value (_ → a) ↦ return_same a
      | v_no_control ↦ absent_same
      | v_control (_ → a) ↦ a
      | v_body (_ → a) (_ → b) ↦ stmt_list_same (suite_same a) b
      | v_block_plain (_ → a) _ ↦ expr_block_same (stmt_list_same (suite_same a) absent_same) absent_same
      | v_block_control (_ → a) (_ → b) ↦ expr_block_same (stmt_list_same (suite_same a) b) absent_same
      | v_block_result (_ → a) (_ → b) ↦ expr_block_same (stmt_list_same (suite_same a) absent_same) (inner_same b)
      | v_expression (_ → a) _ ↦ expression_same a
      | v_loop {l = l} _ (_ → a) ↦ loop_same l a
      | v_while {l = l} _ (_ → a) (_ → b) ↦ while_loop_same l a b
      | v_for {l = l} _ (_ → a) (_ → b) (_ → c) ↦ for_loop_same l a b c
      | v_assert (_ → a) ↦ assert_same a
      | v_none ↦ tt
      | v_more (_ → a) (_ → b) ↦ (a, b)
      | no_argument ↦ tt
      | one_argument (_ → a) _ ↦ (a, tt)
      | arguments {f = f} (_ → a) (_ → b) (_ → c) ↦ (a.0, (b.0, each f c))
      | p_identifier {n = n} _ ↦ identifier_pattern_same n
      | p_attribute {n = n} (_ → a) (_ → b) _ ↦ attribute_pattern_same n (primary_same own a.0 (row_same b))
      | p_index (_ → a) (_ → b) (_ → c) ↦ index_pattern_same (primary_same own a.0 (row_same b)) c
      | p_tuple (_ → a) (_ → b) ↦ tuple_pattern_same (members_same (a, b))
      | p_pack (_ → a) ↦ pack_same a
      | p_ellipsis ↦ pack_same absent_same
      | p_modifier {a = n} _ (_ → a) ↦ modifier_same n a
      | p_none ↦ tt
      | p_more (_ → a) (_ → b) ↦ (a, b)
      | t_name {n = n} _ ↦ identifier_pattern_same n
      | t_attribute {n = n} _ (_ → a) (_ → b) _ ↦ attribute_pattern_same n (primary_same own a.0 (row_same b))
      | t_index _ (_ → a) (_ → b) (_ → c) ↦ index_pattern_same (primary_same own a.0 (row_same b)) c
    ]

pub text_is : {t : Tree} → Valid stmt t → (r : List ℕ) → text t Own r ≡ write t own r
text_is h = (same h).words

pub within_is : {t : Tree} → Valid stmt t → (d : ℕ) → within t Own d ≡ leb (need t own) d
within_is {t} h d = within_taken t Own d ∙ ap (λ (n : ℕ). leb n d) (same h).depth
