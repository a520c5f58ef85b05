-- What a reading leaves. Whatever holds behind the first token, and goes on holding as tokens are taken, holds of the words that are left after a success
-- and after a failure: a lemma for each nonterminal, `depth_keeps` and `next_keeps`. Assumes nothing.
use Rattle.std.specs.Prelude.{Bool, Option, Some, None}
use mathlib.Core.List.{List, [], ◌∷◌}
use Prim.Native.Nat.{ℕ, zero, suc}
use Rattle.token.specs.declared.Token.{Token}
use Rattle.std.proofs.Common.{Result, Ok, Err}
use Rattle.token.specs.declared.Unread.{Unread}
use Rattle.token.specs.declared.Unread.TheVariants.{LexerError, Nothing, Bad}
use Rattle.tree.specs.Tree.{Tree, Forest}
use Rattle.grammar.specs.Reading.Result.{Error, Res}
use Rattle.grammar.specs.Reading.Look.{looked, look, expect, expect_pattern, try_label, try_assign_keyword}
use Rattle.grammar.specs.Reading.Expr.{Depth, operators, binop_expr, members, tuple_expr, expr}
use Rattle.grammar.specs.Reading.Primary.{group_expr, literal, atom, indexing_expr, field_name, table_field, table_item, table_items, member_access, invocation, path, primary, unpack_expr}
use Rattle.grammar.specs.Reading.Block.{body, block_expr, expr_label, branches}
use Rattle.grammar.specs.Reading.Function.{Param, required, variadic, default, Params, param_mode, variadic_param, plain_param, param, joined, params, function_def, function_assignment_target, function_decl_expr}
use Rattle.grammar.specs.Reading.Stmt.{loop, while_loop, lvalue_list, for_loop, stmt_label, stmt, control_value, control_flow, control_last, synchronize, synchronized, caught, stmts}
use Rattle.grammar.specs.Reading.Depth.{primary_expr, unary_expr, at_depth}
use Rattle.grammar.specs.Reading.Next.{start, failed, next}
use Rattle.grammar.proofs.Laws.Keep.{Keep, k_ok, k_bad, k_fail, k_stop, Kept, Near, here, past, k_weaken, k_lose, k_on, First, Behind, Keeps, keeps}

module _ (I : List ℕ → Type 0) (step : Kept I) where
  looked_keeps : (q : List Error) (r : List ℕ) (s : (Result Token Unread)) → I r → Keep I (λ e. I) (looked q r s)
  unfolding looked
  looked_keeps q r (Ok tok) i = k_ok i
  looked_keeps q r (Err LexerError) i = k_fail i
  looked_keeps q r (Err Nothing) i = k_fail i
  looked_keeps q r (Err Bad) i = k_stop

  pub look_keeps : First I look
  unfolding look
  look_keeps q [] (here i) = k_fail i
  look_keeps q (w ∷ []) (here i) = k_fail i
  look_keeps q (w ∷ (v ∷ r)) (here i) = looked_keeps q r _ (step w v r i)
  look_keeps q (w ∷ (v ∷ r)) (past i) = looked_keeps q r _ i

  pub expect_keeps : (k : ℕ) (e : Error) → First I (expect k e)
  unfolding expect
  expect_keeps k e = search (keeps, look_keeps)

  pattern_keeps : (e : Error) (m : Option Tree) → Behind I (expect_pattern e m)
  unfolding expect_pattern
  pattern_keeps e None q ts i = k_fail i
  pattern_keeps e (Some p) q ts i = k_ok i

  try_label_keeps : Behind I try_label
  unfolding try_label
  try_label_keeps = search (keeps, look_keeps)

  -- a keyword may be missing: a success is as near as it was
  keyword_keeps : (q : List Error) (ts : List ℕ) → Near I ts → Keep (Near I) (λ e. I) (try_assign_keyword q ts)
  unfolding try_assign_keyword
  keyword_keeps q ts i = k_on _ (look_keeps q ts i) (search keeps)

  module _ (operand : List Error → List ℕ → Res Tree) (h : First I operand) where
    operators_keeps : (l n : ℕ) (left : Tree) → Behind I (operators operand l n left)
    unfolding operators
    operators_keeps l zero left q ts i = k_fail i
    operators_keeps l (suc n) left q ts i = search (keeps, look_keeps, h, operators_keeps l n) depth 9

  literal_keeps : (tok : Token) → Behind I (literal tok)
  unfolding literal
  literal_keeps tok = search keeps depth 15

  field_name_keeps : (access : ℕ) (e : Error) → Behind I (field_name access e)
  unfolding field_name
  field_name_keeps access e = search (keeps, expect_keeps)

  pub member_keeps : Behind I member_access
  unfolding member_access
  member_keeps = search (keeps, expect_keeps)

  variadic_keeps : (v : ℕ) → Behind I (variadic_param v)
  unfolding variadic_param
  variadic_keeps v = search (keeps, look_keeps)

  pub joined_keeps : (ps : Params) (p : Param) (k : ℕ) → Behind I (joined ps p k)
  unfolding joined
  joined_keeps ps (variadic v) k q ts i = search keeps
  joined_keeps ps (default v e) k q ts i = search keeps
  joined_keeps ps (required v) k q ts i = search keeps

  control_last_keeps : (end k : ℕ) → Behind I (control_last end k)
  unfolding control_last
  control_last_keeps end k = search (keeps, look_keeps)

  synchronized_keeps : Behind I synchronized
  unfolding synchronized
  synchronized_keeps = search (keeps, look_keeps)

  module _ (low : Depth) (K : Keeps I low) where
    pub binop_keeps : (l : ℕ) → First I (binop_expr low l)
    unfolding binop_expr
    binop_keeps zero q ts i = K.k_unary q ts i
    binop_keeps (suc l) q ts i = search (keeps, binop_keeps l, operators_keeps)

    members_keeps : (n : ℕ) (f : Forest) → Behind I (members low n f)
    unfolding members
    members_keeps zero f q ts i = k_fail i
    members_keeps (suc n) f q ts i = search (keeps, look_keeps, binop_keeps, members_keeps n) depth 9

    tuple_keeps : First I (tuple_expr low)
    unfolding tuple_expr
    tuple_keeps = search (keeps, look_keeps, binop_keeps, members_keeps) depth 9

    pub expr_keeps : First I (expr low)
    unfolding expr
    expr_keeps = search (keeps, look_keeps, keyword_keeps, tuple_keeps, pattern_keeps, K.k_right) depth 9

    group_keeps : Behind I (group_expr low)
    unfolding group_expr
    group_keeps = search (keeps, look_keeps, keyword_keeps, expr_keeps, expect_keeps) depth 9

    atom_keeps : First I (atom low)
    unfolding atom
    atom_keeps = search (keeps, look_keeps, group_keeps, literal_keeps)

    pub indexing_keeps : Behind I (indexing_expr low)
    unfolding indexing_expr
    indexing_keeps = search (keeps, expr_keeps, expect_keeps)

    field_keeps : First I (table_field low)
    unfolding table_field
    field_keeps = search (keeps, look_keeps, indexing_keeps, field_name_keeps) depth 9

    pub item_keeps : First I (table_item low)
    unfolding table_item
    item_keeps = search (keeps, field_keeps, expect_keeps, binop_keeps) depth 9

    pub items_keeps : (n : ℕ) (f : Forest) → Behind I (table_items low n f)
    unfolding table_items
    items_keeps zero f q ts i = k_fail i
    items_keeps (suc n) f q ts i = search (keeps, look_keeps, item_keeps, items_keeps n) depth 9

    pub invocation_keeps : Behind I (invocation low)
    unfolding invocation
    invocation_keeps = search (keeps, look_keeps, expr_keeps, expect_keeps) depth 9

    path_keeps : (calls : Bool) (n : ℕ) (f : Forest) → Behind I (path low calls n f)
    unfolding path
    path_keeps calls zero f q ts i = k_fail i
    path_keeps calls (suc n) f q ts i = search (keeps, look_keeps, member_keeps, indexing_keeps, invocation_keeps, items_keeps, path_keeps calls n) depth 9

    primary_keeps : First I (primary low)
    unfolding primary
    primary_keeps = search (keeps, atom_keeps, path_keeps)

    unpack_keeps : First I (unpack_expr low)
    unfolding unpack_expr
    unpack_keeps = search (keeps, look_keeps, primary_keeps) depth 9

    pub body_keeps : Behind I (body low)
    unfolding body
    body_keeps = search (keeps, look_keeps, K.k_list)

    block_keeps : (l : ℕ) → Behind I (block_expr low l)
    unfolding block_expr
    block_keeps l = search (keeps, body_keeps)

    expr_label_keeps : (l : ℕ) → Behind I (expr_label low l)
    unfolding expr_label
    expr_label_keeps l = search (keeps, look_keeps, block_keeps)

    branches_keeps : (n : ℕ) (f : Forest) → Behind I (branches low n f)
    unfolding branches
    branches_keeps zero f q ts i = k_fail i
    branches_keeps (suc n) f q ts i = search (keeps, look_keeps, expect_keeps, expr_keeps, body_keeps, K.k_list, branches_keeps n) depth 9

    plain_keeps : (v : ℕ) → Behind I (plain_param low v)
    unfolding plain_param
    plain_keeps v = search (keeps, look_keeps, expr_keeps)

    -- at a token that begins no parameter the reading fails and takes none
    module _ (J : Error → List ℕ → Type 0) (lose : (e : Error) (r : List ℕ) → I r → J e r) where
      mode_keeps : (q : List Error) (ts : List ℕ) → Near I ts → ((e : Error) → J e ts) → Keep (Near I) J (param_mode q ts)
      unfolding param_mode
      mode_keeps q ts i j = k_on _ (k_weaken (λ a r l. l) lose (look_keeps q ts i)) (search (keeps, j) depth 9)

      pub param_keeps : (q : List Error) (ts : List ℕ) → Near I ts → ((e : Error) → J e ts) → Keep I J (param low q ts)
      unfolding param
      param_keeps q ts i j = search (keeps, k_lose, mode_keeps, expect_keeps, look_keeps, variadic_keeps, plain_keeps) depth 9

    params_keeps : (n : ℕ) (ps : Params) → Behind I (params low n ps)
    unfolding params
    params_keeps zero ps q ts i = k_fail i
    params_keeps (suc n) ps q ts i = search (keeps, look_keeps, param_keeps, joined_keeps, params_keeps n) depth 9

    function_def_keeps : (name : ℕ) → Behind I (function_def low name)
    unfolding function_def
    function_def_keeps name = search (keeps, expect_keeps, params_keeps, body_keeps) depth 9

    target_keeps : First I (function_assignment_target low)
    unfolding function_assignment_target
    target_keeps = search (keeps, atom_keeps, path_keeps, pattern_keeps)

    function_keeps : Behind I (function_decl_expr low)
    unfolding function_decl_expr
    function_keeps = search (keeps, look_keeps, function_def_keeps, target_keeps) depth 9

    loop_keeps : (l : ℕ) → Behind I (loop low l)
    unfolding loop
    loop_keeps l = search (keeps, body_keeps)

    while_keeps : (l : ℕ) → Behind I (while_loop low l)
    unfolding while_loop
    while_keeps l = search (keeps, expr_keeps, expect_keeps, body_keeps) depth 9

    lvalue_keeps : Behind I (lvalue_list low)
    unfolding lvalue_list
    lvalue_keeps = search (keeps, keyword_keeps, tuple_keeps, pattern_keeps) depth 9

    for_keeps : (l : ℕ) → Behind I (for_loop low l)
    unfolding for_loop
    for_keeps l = search (keeps, lvalue_keeps, expect_keeps, expr_keeps, body_keeps) depth 9

    stmt_label_keeps : (l : ℕ) → Behind I (stmt_label low l)
    unfolding stmt_label
    stmt_label_keeps l = search (keeps, look_keeps, loop_keeps, while_keeps, for_keeps) depth 9

    pub stmt_keeps : First I (stmt low)
    unfolding stmt
    stmt_keeps = search (keeps, look_keeps, loop_keeps, while_keeps, for_keeps, stmt_label_keeps, expr_keeps) depth 15

    control_value_keeps : Behind I (control_value low)
    unfolding control_value
    control_value_keeps = search (keeps, look_keeps, expr_keeps)

    pub control_keeps : (k : ℕ) → Behind I (control_flow low k)
    unfolding control_flow
    control_keeps k = search (keeps, try_label_keeps, control_value_keeps) depth 9

    synchronize_keeps : (inside : Bool) (n : ℕ) → Behind I (synchronize low inside n)
    unfolding synchronize
    synchronize_keeps inside zero q ts i = k_bad i
    synchronize_keeps inside (suc n) q ts i = search (keeps, look_keeps, expr_keeps, synchronize_keeps inside n) depth 9

    pub caught_keeps : (e : Error) → Behind I (caught low e)
    unfolding caught
    caught_keeps e = search (keeps, synchronize_keeps, synchronized_keeps) depth 9

    stmts_keeps : (end n : ℕ) (f : Forest) → Behind I (stmts low end n f)
    unfolding stmts
    stmts_keeps end zero f q ts i = k_fail i
    stmts_keeps end (suc n) f q ts i = search (keeps, look_keeps, control_keeps, control_last_keeps, stmt_keeps, caught_keeps, stmts_keeps end n) depth 9

    primary_expr_keeps : First I (primary_expr low)
    unfolding primary_expr
    primary_expr_keeps = search (keeps, look_keeps, function_keeps, branches_keeps, block_keeps, items_keeps, expr_label_keeps, unpack_keeps) depth 15

    unary_keeps : First I (unary_expr low)
    unfolding unary_expr
    unary_keeps = search (keeps, look_keeps, primary_expr_keeps, K.k_unary)

  pub depth_keeps : (d : ℕ) → Keeps I (at_depth d)
  unfolding at_depth
  depth_keeps zero = record { k_unary = λ q ts i. k_stop; k_right = λ q ts i. k_stop; k_list = λ end q ts i. k_stop }
  depth_keeps (suc d) =
      record {
        k_unary = unary_keeps (at_depth d) (depth_keeps d);
        k_right = expr_keeps (at_depth d) (depth_keeps d);
        k_list = λ end q ts i. stmts_keeps (at_depth d) (depth_keeps d) end _ _ q ts i;
      }

  pub failed_keeps : (d : ℕ) (e : Error) → Behind I (failed d e)
  unfolding failed
  failed_keeps d e = search (keeps, synchronize_keeps, depth_keeps) depth 9

  start_behind : (n : ℕ) → Behind I (start n)
  unfolding start
  start_behind zero q ts i = k_fail i
  start_behind (suc n) q ts i = search (keeps, look_keeps, start_behind n) depth 9

  pub next_keeps : (d : ℕ) → Behind I (next d)
  unfolding next
  next_keeps d = search (keeps, start_behind, stmt_keeps, depth_keeps, failed_keeps) depth 9
