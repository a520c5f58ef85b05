-- Every tree that a clean reading can give has kinds below 256, so that its records tell it. Assumes nothing.
use Rattle.std.proofs.Common.{arith}
use Rattle.tree.specs.Tree.{Tree, Forest}
use Rattle.tree.specs.Records.{Small, Smalls}
use Rattle.grammar.specs.Canonical.Valid.{Role, Valid, Valids, Arguments, Pattern, Patterns, Target, v_nil, v_empty_tuple, v_identifier, v_true, v_false, v_integer, v_float, v_string, v_group, v_modified, v_atom, v_primary, v_prim, v_unpack, v_ellipsis, v_table, v_function, v_target, v_if, v_block, v_labelled, v_tight, v_unary_op, v_unary, v_up, v_binary_op, v_assign, v_inner, v_single, v_tuple, v_local, v_plain, v_keyword, v_given, v_given_assign, v_given_target, v_function_def, v_function_default, v_function_variadic, v_attribute, v_index, v_invoke, v_invoke_table, v_field, v_field_index, v_table_item, v_param, v_branch, v_no_else, v_else, v_continue, v_break, v_break_value, v_break_label, v_return, v_return_value, v_no_control, v_control, v_body, v_block_plain, v_block_control, v_block_result, v_expression, v_loop, v_while, v_for, v_assert, v_none, v_more, no_argument, one_argument, arguments, p_identifier, p_attribute, p_index, p_tuple, p_pack, p_ellipsis, p_modifier, p_none, p_more, t_name, t_attribute, t_index}

pub valid_small : {o : Role} {t : Tree} → Valid o t → Small t
unfolding Small
valid_small h =
    elim h as (λ o t x. Small t) (λ o f x. Smalls f) (λ f x. Smalls f) (λ t x. Small t) (λ f x. Smalls f) (λ t x. Small t) [
      | v_nil ↦ search arith
      | v_empty_tuple ↦ search arith
      | v_identifier _ ↦ search arith
      | v_true ↦ search arith
      | v_false ↦ search arith
      | v_integer _ ↦ search arith
      | v_float _ ↦ search arith
      | v_string _ ↦ search arith
      | v_group (_ → a) ↦ search arith
      | v_modified _ (_ → a) ↦ search arith
      | v_atom (_ → a) ↦ search arith
      | v_primary (_ → a) (_ → b) (_ → c) ↦ search arith
      | v_prim (_ → a) ↦ search arith
      | v_unpack (_ → a) ↦ search arith
      | v_ellipsis ↦ search arith
      | v_table (_ → a) ↦ search arith
      | v_function (_ → a) ↦ search arith
      | v_target (_ → a) (_ → b) ↦ search arith
      | v_if (_ → a) (_ → b) (_ → c) ↦ search arith
      | v_block (_ → a) ↦ search arith
      | v_labelled _ (_ → a) ↦ search arith
      | v_tight (_ → a) ↦ search arith
      | v_unary_op _ _ (_ → a) ↦ search arith
      | v_unary (_ → a) ↦ search arith
      | v_up (_ → a) ↦ search arith
      | v_binary_op _ _ (_ → a) (_ → b) ↦ search arith
      | v_assign _ _ (_ → a) (_ → b) _ ↦ search arith
      | v_inner (_ → a) ↦ search arith
      | v_single (_ → a) ↦ search arith
      | v_tuple (_ → a) (_ → b) (_ → c) ↦ search arith
      | v_local (_ → a) ↦ search arith
      | v_plain (_ → a) ↦ search arith
      | v_keyword _ (_ → a) ↦ search arith
      | v_given _ (_ → a) ↦ search arith
      | v_given_assign (_ → a) ↦ search arith
      | v_given_target (_ → a) (_ → b) ↦ search arith
      | v_function_def (_ → a) (_ → b) ↦ search arith
      | v_function_default (_ → a) _ (_ → b) (_ → c) ↦ search arith
      | v_function_variadic (_ → a) _ (_ → b) ↦ search arith
      | v_attribute _ ↦ search arith
      | v_index (_ → a) ↦ search arith
      | v_invoke (_ → a) ↦ search arith
      | v_invoke_table (_ → a) ↦ search arith
      | v_field _ ↦ search arith
      | v_field_index (_ → a) ↦ search arith
      | v_table_item (_ → a) (_ → b) ↦ search arith
      | v_param _ ↦ search arith
      | v_branch (_ → a) (_ → b) ↦ search arith
      | v_no_else ↦ search arith
      | v_else (_ → a) ↦ search arith
      | v_continue _ ↦ search arith
      | v_break _ ↦ search arith
      | v_break_value (_ → a) ↦ search arith
      | v_break_label _ (_ → a) ↦ search arith
      | v_return ↦ search arith
      | v_return_value (_ → a) ↦ search arith
      | v_no_control ↦ search arith
      | v_control (_ → a) ↦ search arith
      | v_body (_ → a) (_ → b) ↦ search arith
      | v_block_plain (_ → a) _ ↦ search arith
      | v_block_control (_ → a) (_ → b) ↦ search arith
      | v_block_result (_ → a) (_ → b) ↦ search arith
      | v_expression (_ → a) _ ↦ search arith
      | v_loop _ (_ → a) ↦ search arith
      | v_while _ (_ → a) (_ → b) ↦ search arith
      | v_for _ (_ → a) (_ → b) (_ → c) ↦ search arith
      | v_assert (_ → a) ↦ search arith
      | v_none ↦ search arith
      | v_more (_ → a) (_ → b) ↦ search arith
      | no_argument ↦ search arith
      | one_argument (_ → a) _ ↦ search arith
      | arguments (_ → a) (_ → b) (_ → c) ↦ search arith
      | p_identifier _ ↦ search arith
      | p_attribute (_ → a) (_ → b) _ ↦ search arith
      | p_index (_ → a) (_ → b) (_ → c) ↦ search arith
      | p_tuple (_ → a) (_ → b) ↦ search arith
      | p_pack (_ → a) ↦ search arith
      | p_ellipsis ↦ search arith
      | p_modifier _ (_ → a) ↦ search arith
      | p_none ↦ search arith
      | p_more (_ → a) (_ → b) ↦ search arith
      | t_name _ ↦ search arith
      | t_attribute _ (_ → a) (_ → b) _ ↦ search arith
      | t_index _ (_ → a) (_ → b) (_ → c) ↦ search arith
    ]

pub valids_small : {o : Role} {f : Forest} → Valids o f → Smalls f
unfolding Small
valids_small v_none = tt
valids_small (v_more h g) = (valid_small h, valids_small g)

pub arguments_small : {f : Forest} → Arguments f → Smalls f
unfolding Small
arguments_small no_argument = tt
arguments_small (one_argument h g) = (valid_small h, tt)
arguments_small (arguments h g i) = (valid_small h, (valid_small g, valids_small i))

mutual
  unfolding Small

  pub pattern_small : {p : Tree} → Pattern p → Small p
  pattern_small (p_identifier h) = omega arith
  pattern_small (p_attribute h g i) = search (arith, valid_small h, valids_small g)
  pattern_small (p_index h g i) = search (arith, valid_small h, valids_small g, valid_small i)
  pattern_small (p_tuple h g) = search (arith, pattern_small h, patterns_small g)
  pattern_small (p_pack h) = search (arith, pattern_small h)
  pattern_small p_ellipsis = omega arith
  pattern_small (p_modifier h g) = search (arith, pattern_small g)

  pub patterns_small : {f : Forest} → Patterns f → Smalls f
  patterns_small p_none = tt
  patterns_small (p_more h g) = (pattern_small h, patterns_small g)

pub target_small : {t : Tree} → Target t → Small t
unfolding Small
target_small (t_name h) = omega arith
target_small (t_attribute h g i j) = search (arith, valid_small g, valids_small i)
target_small (t_index h g i j) = search (arith, valid_small g, valids_small i, valid_small j)
