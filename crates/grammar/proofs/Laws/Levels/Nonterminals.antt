-- Every tree that a reading gives, cleanly or before errors that wait, is leveled: a lemma for each nonterminal, and `depth_levels`, `next_levels`.
-- An operand is of the level 0, and an expression of the level l of no level above l. Assumes nothing.
use Rattle.std.specs.Prelude.{◌≡◌, Bool, true, List, eqb, length}
use Rattle.std.proofs.Common.{◌∙◌, arith, eqb-true}
use Prim.Native.Nat.{ℕ, zero, suc}
use Rattle.token.specs.declared.Token.{Token}
use Rattle.operator.specs.Operator.{op_level, op_number, number_level, level_count}
use Rattle.operator.specs.Laws.{number_level_is}
use Rattle.tree.specs.Tree.{Tree, Forest, none}
use Rattle.grammar.specs.Reading.Result.{Error, Res}
use Rattle.grammar.specs.Reading.Look.{look}
use Rattle.grammar.specs.Reading.Expr.{Depth, operators, binop_expr, inner_expr, members, tuple_expr, expr}
use Rattle.grammar.specs.Reading.Primary.{group_expr, literal, atom, indexing_expr, field_name, table_field, table_item, table_items, member_access, invocation, path, primary, unpack_expr}
use Rattle.grammar.specs.Reading.Block.{body, block_expr, expr_label, branches}
use Rattle.grammar.specs.Reading.Function.{Param, Params, variadic_param, plain_param, param, joined, params, function_def, function_assignment_target, function_decl_expr}
use Rattle.grammar.specs.Reading.Stmt.{loop, while_loop, lvalue_list, for_loop, stmt_label, stmt, control_value, control_flow, stmts}
use Rattle.grammar.specs.Reading.Depth.{primary_expr, unary_expr, at_depth}
use Rattle.grammar.specs.Reading.Next.{failed, next}
use Rattle.grammar.proofs.Laws.Keep.{k_ok, k_failed, k_stop, k_weaken, k_on, k_any, k_tested}
use Rattle.grammar.proofs.Laws.Levels.Leveled.{Leveled, AllLeveled, Within, p_none, p_unary, p_binary}
use Rattle.grammar.proofs.Laws.Levels.Parts.{parts, LeveledStmts, LeveledParam, LeveledParams, p_required, p_variadic, p_default}
use Rattle.grammar.proofs.Laws.Levels.Always.{Always, always}
use Rattle.grammar.proofs.Laws.Levels.Patterns.{modified_leveled, pattern_leveled}

-- what the readings with one depth less give
pub record LeveledDepth (low : Depth) : Type 0 where
  g_unary : Always (Within 0) low.unary
  g_right : Always Leveled low.right
  g_list : (end : ℕ) → Always LeveledStmts (low.list end)

-- an operator that is read at a level has that level by its number too
operator_level : (k l : ℕ) → eqb (op_level k) (suc l) ≡ true → number_level (op_number k) ≡ suc l
operator_level k l h =
    let e : op_level k ≡ suc l = eqb-true (op_level k) (suc l) h in
    number_level_is k (omega arith) ∙ e

-- the operators of the level l + 1, which group leftward: what stands right of one is of l or less
module _ (operand : List Error → List ℕ → Res Tree) (l : ℕ) (h : Always (Within l) operand) where
  operators_leveled : (n : ℕ) {left : Tree} → Within (suc l) left → Always (Within (suc l)) (operators operand (suc l) n left)
  unfolding operators
  operators_leveled zero w q ts = k_failed
  operators_leveled (suc n) w q ts =
      k_any q (look q ts) λ tok q₁ rest. k_tested _
      (λ u e. k_on q (h q rest) λ right q₂ r x. operators_leveled n (p_binary _ (operator_level tok.kind l e) w x) q₂ r)
      (λ u e. k_ok w)

literal_leveled : (tok : Token) → Always (Within 0) (literal tok)
unfolding literal
literal_leveled tok = search (always, parts) depth 15

field_name_leveled : (access : ℕ) (e : Error) → Always Leveled (field_name access e)
unfolding field_name
field_name_leveled access e = search (always, parts)

member_leveled : Always Leveled member_access
unfolding member_access
member_leveled = search (always, parts)

variadic_leveled : (v : ℕ) → Always LeveledParam (variadic_param v)
unfolding variadic_param
variadic_leveled v = search (always, parts)

joined_leveled : (ps : Params) {p : Param} (k : ℕ) → AllLeveled ps.required_list → AllLeveled ps.default_list → Leveled ps.variadic_one → LeveledParam p → Always LeveledParams (joined ps p k)
unfolding joined
joined_leveled ps k a b c p_required = search (always, parts) depth 9
joined_leveled ps k a b c p_variadic = search (always, parts) depth 9
joined_leveled ps k a b c (p_default h) = search (always, parts) depth 9

module _ (low : Depth) (P : LeveledDepth low) where
  binop_leveled : (l : ℕ) → Always (Within l) (binop_expr low l)
  unfolding binop_expr
  binop_leveled zero q ts = P.g_unary q ts
  binop_leveled (suc l) q ts =
      k_on q (binop_leveled l q ts) λ left q₁ r w.
      operators_leveled (binop_expr low l) l (binop_leveled l) (length r) (record { leveled = w.leveled; most = omega (arith, w.most) }) q₁ r

  inner_leveled : Always Leveled (inner_expr low)
  inner_leveled q ts = k_weaken (λ t r w. w.leveled) (λ e r u. u) (binop_leveled level_count q ts)

  members_leveled : (n : ℕ) (f : Forest) → AllLeveled f → Always Leveled (members low n f)
  unfolding members
  members_leveled zero f g q ts = k_failed
  members_leveled (suc n) f g q ts = search (always, parts, inner_leveled, members_leveled n) depth 15

  pub tuple_leveled : Always Leveled (tuple_expr low)
  unfolding tuple_expr
  tuple_leveled = search (always, parts, inner_leveled, members_leveled) depth 15

  pub expr_leveled : Always Leveled (expr low)
  unfolding expr
  expr_leveled = search (always, parts, tuple_leveled, pattern_leveled, P.g_right) depth 15

  group_leveled : Always (Within 0) (group_expr low)
  unfolding group_expr
  group_leveled = search (always, parts, expr_leveled) depth 15

  pub atom_leveled : Always (Within 0) (atom low)
  unfolding atom
  atom_leveled = search (always, group_leveled, literal_leveled)

  indexing_leveled : Always Leveled (indexing_expr low)
  unfolding indexing_expr
  indexing_leveled = search (always, expr_leveled)

  field_leveled : Always Leveled (table_field low)
  unfolding table_field
  field_leveled = search (always, parts, indexing_leveled, field_name_leveled) depth 15

  item_leveled : Always Leveled (table_item low)
  unfolding table_item
  item_leveled = search (always, parts, field_leveled, inner_leveled) depth 15

  items_leveled : (n : ℕ) (f : Forest) → AllLeveled f → Always AllLeveled (table_items low n f)
  unfolding table_items
  items_leveled zero f g q ts = k_failed
  items_leveled (suc n) f g q ts = search (always, parts, item_leveled, items_leveled n) depth 15

  invocation_leveled : Always Leveled (invocation low)
  unfolding invocation
  invocation_leveled = search (always, parts, expr_leveled) depth 15

  pub path_leveled : (calls : Bool) (n : ℕ) (f : Forest) → AllLeveled f → Always AllLeveled (path low calls n f)
  unfolding path
  path_leveled calls zero f g q ts = k_failed
  path_leveled calls (suc n) f g q ts = search (always, parts, member_leveled, indexing_leveled, invocation_leveled, items_leveled, path_leveled calls n) depth 15

  pub primary_leveled : Always (Within 0) (primary low)
  unfolding primary
  primary_leveled = search (always, parts, atom_leveled, path_leveled)

  unpack_leveled : Always (Within 0) (unpack_expr low)
  unfolding unpack_expr
  unpack_leveled = search (always, parts, primary_leveled) depth 15

  body_leveled : Always LeveledStmts (body low)
  unfolding body
  body_leveled = search (always, parts, P.g_list)

  block_expr_leveled : (l : ℕ) → Always (Within 0) (block_expr low l)
  unfolding block_expr
  block_expr_leveled l = search (always, parts, body_leveled) depth 9

  expr_label_leveled : (l : ℕ) → Always (Within 0) (expr_label low l)
  unfolding expr_label
  expr_label_leveled l = search (always, block_expr_leveled)

  branches_leveled : (n : ℕ) (f : Forest) → AllLeveled f → Always (Within 0) (branches low n f)
  unfolding branches
  branches_leveled zero f g q ts = k_failed
  branches_leveled (suc n) f g q ts = search (always, parts, expr_leveled, body_leveled, P.g_list, branches_leveled n) depth 20

  plain_leveled : (v : ℕ) → Always LeveledParam (plain_param low v)
  unfolding plain_param
  plain_leveled v = search (always, parts, expr_leveled)

  param_leveled : Always LeveledParam (param low)
  unfolding param
  param_leveled = search (always, variadic_leveled, plain_leveled)

  params_leveled : (n : ℕ) (ps : Params) → AllLeveled ps.required_list → AllLeveled ps.default_list → Leveled ps.variadic_one → Always LeveledParams (params low n ps)
  unfolding params
  params_leveled zero ps a b c q ts = k_failed
  params_leveled (suc n) ps a b c q ts = search (always, parts, param_leveled, joined_leveled, params_leveled n) depth 15

  function_def_leveled : (name : ℕ) → Always (Within 0) (function_def low name)
  unfolding function_def
  function_def_leveled name = search (always, parts, params_leveled, body_leveled) depth 15

  pub target_leveled : Always Leveled (function_assignment_target low)
  unfolding function_assignment_target
  target_leveled = search (always, parts, atom_leveled, path_leveled, pattern_leveled) depth 15

  function_leveled : Always (Within 0) (function_decl_expr low)
  unfolding function_decl_expr
  function_leveled = search (always, parts, function_def_leveled, target_leveled) depth 15

  loop_leveled : (l : ℕ) → Always Leveled (loop low l)
  unfolding loop
  loop_leveled l = search (always, parts, body_leveled) depth 15

  while_leveled : (l : ℕ) → Always Leveled (while_loop low l)
  unfolding while_loop
  while_leveled l = search (always, parts, expr_leveled, body_leveled) depth 15

  lvalue_leveled : Always Leveled (lvalue_list low)
  unfolding lvalue_list
  lvalue_leveled = search (always, tuple_leveled, pattern_leveled, modified_leveled) depth 9

  for_leveled : (l : ℕ) → Always Leveled (for_loop low l)
  unfolding for_loop
  for_leveled l = search (always, parts, lvalue_leveled, expr_leveled, body_leveled) depth 15

  stmt_label_leveled : (l : ℕ) → Always Leveled (stmt_label low l)
  unfolding stmt_label
  stmt_label_leveled l = search (always, loop_leveled, while_leveled, for_leveled)

  pub stmt_leveled : Always Leveled (stmt low)
  unfolding stmt
  stmt_leveled = search (always, parts, loop_leveled, while_leveled, for_leveled, stmt_label_leveled, expr_leveled) depth 15

  control_value_leveled : Always Leveled (control_value low)
  unfolding control_value
  control_value_leveled = search (always, parts, expr_leveled)

  control_leveled : (k : ℕ) → Always Leveled (control_flow low k)
  unfolding control_flow
  control_leveled k = search (always, parts, control_value_leveled) depth 9

  stmts_leveled : (end n : ℕ) (f : Forest) → AllLeveled f → Always LeveledStmts (stmts low end n f)
  unfolding stmts
  stmts_leveled end zero f g q ts = k_failed
  stmts_leveled end (suc n) f g q ts = search (always, parts, control_leveled, stmt_leveled, stmts_leveled end n) depth 15

  primary_expr_leveled : Always (Within 0) (primary_expr low)
  unfolding primary_expr
  primary_expr_leveled = search (always, parts, function_leveled, branches_leveled, block_expr_leveled, items_leveled, expr_label_leveled, unpack_leveled) depth 15

  unary_leveled : Always (Within 0) (unary_expr low)
  unfolding unary_expr
  unary_leveled = search (always, parts, primary_expr_leveled, p_unary, P.g_unary) depth 9

pub depth_levels : (d : ℕ) → LeveledDepth (at_depth d)
unfolding at_depth
depth_levels zero = record { g_unary = λ q ts. k_stop; g_right = λ q ts. k_stop; g_list = λ end q ts. k_stop }
depth_levels (suc d) =
    record {
      g_unary = unary_leveled (at_depth d) (depth_levels d);
      g_right = expr_leveled (at_depth d) (depth_levels d);
      g_list = λ end q ts. stmts_leveled (at_depth d) (depth_levels d) end (length ts) none p_none q ts;
    }

failed_leveled : (d : ℕ) (e : Error) → Always Leveled (failed d e)
unfolding failed
failed_leveled d e = search always

pub next_levels : (d : ℕ) → Always Leveled (next d)
unfolding next
next_levels d = search (always, stmt_leveled (at_depth d) (depth_levels d), failed_leveled)
