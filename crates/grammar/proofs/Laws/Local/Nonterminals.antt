-- Every nonterminal is local, up to `next`: a lemma for each, and `depth_local`, `next_local`. A loop is local at equal counts by induction, and any count that is large
-- enough gives the same (Laws/Count.antt); so the lemmas over loops are over a depth's readings and not over any. Assumes nothing.
use Rattle.std.specs.Prelude.{Bool, List, length, Option, Some, None}
use Rattle.std.proofs.Math.Bool.{true, false}
use Prim.Native.Nat.{ℕ, zero, suc}
use Rattle.token.specs.declared.Token.{Token}
use Rattle.tree.specs.Tree.{Tree, Forest}
use Rattle.grammar.specs.Reading.Result.{Error, Res, ok, fail, then, ifb}
use Rattle.grammar.specs.Reading.Look.{expect, expect_pattern, try_label, try_assign_keyword}
use Rattle.grammar.specs.Reading.Expr.{Depth, operators, binop_expr, members, tuple_expr, expr}
use Rattle.grammar.specs.Reading.Primary.{group_expr, literal, atom, indexing_expr, field_name, table_field, table_item, table_items, member_access, invocation, path, primary, unpack_expr}
use Rattle.grammar.specs.Reading.Block.{body, block_expr, expr_label, branches}
use Rattle.grammar.specs.Reading.Function.{Param, required, variadic, default, Params, param_mode, variadic_param, plain_param, param, joined, params, function_def, function_assignment_target, function_decl_expr}
use Rattle.grammar.specs.Reading.Stmt.{loop, while_loop, lvalue_list, for_loop, stmt_label, stmt, control_value, control_flow, control_last, synchronize, synchronized, caught, stmts}
use Rattle.grammar.specs.Reading.Depth.{primary_expr, unary_expr, at_depth}
use Rattle.grammar.specs.Reading.Next.{start, failed, next}
use Rattle.grammar.specs.Reading.Looked.{BadRecord}
use Rattle.grammar.proofs.Laws.Count.{binop_count, members_count, items_count, path_count, branches_count, params_count, stmts_count, synchronize_count, start_count}
use Rattle.grammar.proofs.Laws.Local.Base.{Alike, Local, Locally, Counted, OnAt, at_ok, at_bad, at_fail, at_stop, at_then, at_count, local}

module _ (b : BadRecord) (X : List ℕ) where
  expect_local : (k : ℕ) (e : Error) → Locally b X (expect k e)
  unfolding expect
  expect_local k e = search local

  pattern_local : (e : Error) (m : Option Tree) → Locally b X (expect_pattern e m)
  unfolding expect_pattern
  pattern_local e None f q ts us t = at_fail t
  pattern_local e (Some p) f q ts us t = at_ok t

  try_label_local : Locally b X try_label
  unfolding try_label
  try_label_local = search local

  keyword_local : Locally b X try_assign_keyword
  unfolding try_assign_keyword
  keyword_local = search local

  module _ {operand : List Error → List ℕ → Res Tree} (h : Locally b X operand) where
    operators_local : (l n : ℕ) (left : Tree) → Locally b X (operators operand l n left)
    unfolding operators
    operators_local l zero left f q ts us t = at_fail t
    operators_local l (suc n) left f q ts us t = search (local, h, operators_local l n) depth 9

  literal_local : (tok : Token) → Locally b X (literal tok)
  unfolding literal
  literal_local tok = search local depth 15

  field_name_local : (access : ℕ) (e : Error) → Locally b X (field_name access e)
  unfolding field_name
  field_name_local access e = search (local, expect_local)

  member_local : Locally b X member_access
  unfolding member_access
  member_local = search (local, expect_local)

  variadic_local : (n : ℕ) → Locally b X (variadic_param n)
  unfolding variadic_param
  variadic_local n = search local

  mode_local : Locally b X param_mode
  unfolding param_mode
  mode_local = search local depth 9

  -- a reading that looks at no token keeps the flag, so what follows may go back to where it began
  data NoLook {A : Type 0} (f : Bool) : Res A → Res A → Type 0 where
    n_ok : {a : A} {r s : List ℕ} → Alike b X f r s → NoLook f (ok a r) (ok a s)
    n_fail : {e : Error} {q : List Error} {r s : List ℕ} → Alike b X f r s → NoLook f (fail e q r) (fail e q s)

  no_look_if : {f : Bool} {A : Type 0} (c : Bool) {x y x' y' : Unit {0} → Res A} → ((u : Unit {0}) → NoLook f (x u) (x' u)) → ((u : Unit {0}) → NoLook f (y u) (y' u)) → NoLook f (ifb c x y) (ifb c x' y')
  unfolding ifb
  no_look_if true h k = h tt
  no_look_if false h k = k tt

  no_look_then : {f : Bool} {A B : Type 0} (q : List Error) {d e : Res A} {go go' : A → List Error → List ℕ → Res B} → NoLook f d e → OnAt b X f go go' → Local b X f (then q d go) (then q e go')
  unfolding then
  no_look_then q (n_ok t) h = h _ _ _ _ t
  no_look_then q (n_fail t) h = at_fail t

  ruleset no_look = (n_ok, n_fail, no_look_if)

  joined_no_look : (ps : Params) (p : Param) (k : ℕ) (f : Bool) (q : List Error) (r s : List ℕ) → Alike b X f r s → NoLook f (joined ps p k q r) (joined ps p k q s)
  unfolding joined
  joined_no_look ps (variadic n) k f q r s t = search no_look
  joined_no_look ps (default n e) k f q r s t = search no_look
  joined_no_look ps (required n) k f q r s t = search no_look

  control_last_local : (end k : ℕ) → Locally b X (control_last end k)
  unfolding control_last
  control_last_local end k = search local

  synchronized_local : Locally b X synchronized
  unfolding synchronized
  synchronized_local = search local

  -- of the readings at a depth
  record Locals (low : Depth) : Type 0 where
    l_unary : Locally b X low.unary
    l_right : Locally b X low.right
    l_list : (end : ℕ) → Locally b X (low.list end)

  module _ (d : ℕ) (L : Locals (at_depth d)) where
    binop_local : (l : ℕ) → Locally b X (binop_expr (at_depth d) l)
    unfolding binop_expr
    binop_local zero f q ts us t = L.l_unary f q ts us t
    binop_local (suc l) f q ts us t =
        at_then q (binop_local l f q ts us t) λ g left q₁ r s u.
        at_count _ (binop_count d l (suc l)) (operators_local (binop_local l) (suc l)) left g q₁ r s u

    members_local : (n : ℕ) (x : Forest) → Locally b X (members (at_depth d) n x)
    unfolding members
    members_local zero x f q ts us t = at_fail t
    members_local (suc n) x f q ts us t = search (local, binop_local, members_local n) depth 9

    members_all : Counted b X (members (at_depth d))
    members_all = at_count _ (members_count d) members_local

    tuple_local : Locally b X (tuple_expr (at_depth d))
    unfolding tuple_expr
    tuple_local = search (local, binop_local, members_all) depth 9

    expr_local : Locally b X (expr (at_depth d))
    unfolding expr
    expr_local = search (local, keyword_local, tuple_local, pattern_local, L.l_right) depth 9

    group_local : Locally b X (group_expr (at_depth d))
    unfolding group_expr
    group_local = search (local, keyword_local, expr_local, expect_local) depth 9

    atom_local : Locally b X (atom (at_depth d))
    unfolding atom
    atom_local = search (local, group_local, literal_local)

    indexing_local : Locally b X (indexing_expr (at_depth d))
    unfolding indexing_expr
    indexing_local = search (local, expr_local, expect_local)

    field_local : Locally b X (table_field (at_depth d))
    unfolding table_field
    field_local = search (local, indexing_local, field_name_local) depth 9

    item_local : Locally b X (table_item (at_depth d))
    unfolding table_item
    item_local = search (local, field_local, binop_local, expect_local) depth 9

    items_local : (n : ℕ) (x : Forest) → Locally b X (table_items (at_depth d) n x)
    unfolding table_items
    items_local zero x f q ts us t = at_fail t
    items_local (suc n) x f q ts us t = search (local, item_local, items_local n) depth 9

    table_local : Counted b X (table_items (at_depth d))
    table_local = at_count _ (items_count d) items_local

    invocation_local : Locally b X (invocation (at_depth d))
    unfolding invocation
    invocation_local = search (local, expr_local, expect_local) depth 9

    path_local : (calls : Bool) (n : ℕ) (x : Forest) → Locally b X (path (at_depth d) calls n x)
    unfolding path
    path_local calls zero x f q ts us t = at_fail t
    path_local calls (suc n) x f q ts us t = search (local, member_local, indexing_local, invocation_local, table_local, path_local calls n) depth 9

    access_local : (calls : Bool) → Counted b X (path (at_depth d) calls)
    access_local calls = at_count _ (path_count d calls) (path_local calls)

    primary_local : Locally b X (primary (at_depth d))
    unfolding primary
    primary_local = search (local, atom_local, access_local)

    unpack_local : Locally b X (unpack_expr (at_depth d))
    unfolding unpack_expr
    unpack_local = search (local, primary_local) depth 9

    body_local : Locally b X (body (at_depth d))
    unfolding body
    body_local = search (local, L.l_list)

    block_local : (l : ℕ) → Locally b X (block_expr (at_depth d) l)
    unfolding block_expr
    block_local l = search (local, body_local)

    expr_label_local : (l : ℕ) → Locally b X (expr_label (at_depth d) l)
    unfolding expr_label
    expr_label_local l = search (local, block_local)

    branches_local : (n : ℕ) (x : Forest) → Locally b X (branches (at_depth d) n x)
    unfolding branches
    branches_local zero x f q ts us t = at_fail t
    branches_local (suc n) x f q ts us t = search (local, expr_local, expect_local, body_local, L.l_list, branches_local n) depth 9

    if_local : Counted b X (branches (at_depth d))
    if_local = at_count _ (branches_count d) branches_local

    plain_param_local : (n : ℕ) → Locally b X (plain_param (at_depth d) n)
    unfolding plain_param
    plain_param_local n = search (local, expr_local)

    param_local : Locally b X (param (at_depth d))
    unfolding param
    param_local = search (local, mode_local, expect_local, variadic_local, plain_param_local) depth 9

    params_local : (n : ℕ) (ps : Params) → Locally b X (params (at_depth d) n ps)
    unfolding params
    params_local zero ps f q ts us t = at_fail t
    params_local (suc n) ps f q ts us t = search (no_look_then, local, joined_no_look, param_local, params_local n) depth 9

    param_list_local : Counted b X (params (at_depth d))
    param_list_local = at_count _ (params_count d) params_local

    function_def_local : (name : ℕ) → Locally b X (function_def (at_depth d) name)
    unfolding function_def
    function_def_local name = search (local, expect_local, param_list_local, body_local) depth 9

    target_local : Locally b X (function_assignment_target (at_depth d))
    unfolding function_assignment_target
    target_local = search (local, atom_local, access_local, pattern_local)

    function_local : Locally b X (function_decl_expr (at_depth d))
    unfolding function_decl_expr
    function_local = search (local, function_def_local, target_local) depth 9

    loop_local : (l : ℕ) → Locally b X (loop (at_depth d) l)
    unfolding loop
    loop_local l = search (local, body_local)

    while_local : (l : ℕ) → Locally b X (while_loop (at_depth d) l)
    unfolding while_loop
    while_local l = search (local, expr_local, expect_local, body_local) depth 9

    lvalue_local : Locally b X (lvalue_list (at_depth d))
    unfolding lvalue_list
    lvalue_local = search (local, keyword_local, tuple_local, pattern_local) depth 9

    for_local : (l : ℕ) → Locally b X (for_loop (at_depth d) l)
    unfolding for_loop
    for_local l = search (local, lvalue_local, expect_local, expr_local, body_local) depth 9

    stmt_label_local : (l : ℕ) → Locally b X (stmt_label (at_depth d) l)
    unfolding stmt_label
    stmt_label_local l = search (local, loop_local, while_local, for_local) depth 9

    stmt_local : Locally b X (stmt (at_depth d))
    unfolding stmt
    stmt_local = search (local, loop_local, while_local, for_local, stmt_label_local, expr_local) depth 15

    control_value_local : Locally b X (control_value (at_depth d))
    unfolding control_value
    control_value_local = search (local, expr_local)

    control_local : (k : ℕ) → Locally b X (control_flow (at_depth d) k)
    unfolding control_flow
    control_local k = search (local, try_label_local, control_value_local) depth 9

    synchronize_local : (inside : Bool) (n : ℕ) → Locally b X (synchronize (at_depth d) inside n)
    unfolding synchronize
    synchronize_local inside zero f q ts us t = at_bad t
    synchronize_local inside (suc n) f q ts us t = search (local, expr_local, synchronize_local inside n) depth 9

    sync_local : (inside : Bool) (f : Bool) (q : List Error) (ts us : List ℕ) → Alike b X f ts us → Local b X f (synchronize (at_depth d) inside (length ts) q ts) (synchronize (at_depth d) inside (length us) q us)
    sync_local inside = at_count (λ n (u : Unit {0}). synchronize (at_depth d) inside n) (λ n m u. synchronize_count d inside n m) (λ n u. synchronize_local inside n) tt

    caught_local : (e : Error) → Locally b X (caught (at_depth d) e)
    unfolding caught
    caught_local e = search (local, sync_local, synchronized_local) depth 9

    stmts_local : (end n : ℕ) (x : Forest) → Locally b X (stmts (at_depth d) end n x)
    unfolding stmts
    stmts_local end zero x f q ts us t = at_fail t
    stmts_local end (suc n) x f q ts us t = search (local, control_local, control_last_local, stmt_local, caught_local, stmts_local end n) depth 9

    list_local : (end : ℕ) → Counted b X (stmts (at_depth d) end)
    list_local end = at_count _ (stmts_count d end) (stmts_local end)

    primary_expr_local : Locally b X (primary_expr (at_depth d))
    unfolding primary_expr
    primary_expr_local = search (local, function_local, if_local, block_local, table_local, expr_label_local, unpack_local) depth 15

    unary_local : Locally b X (unary_expr (at_depth d))
    unfolding unary_expr
    unary_local = search (local, primary_expr_local, L.l_unary)

  depth_local : (d : ℕ) → Locals (at_depth d)
  unfolding at_depth
  depth_local zero = record { l_unary = λ f q ts us t. at_stop f; l_right = λ f q ts us t. at_stop f; l_list = λ end f q ts us t. at_stop f }
  depth_local (suc d) =
      record {
        l_unary = unary_local d (depth_local d);
        l_right = expr_local d (depth_local d);
        l_list = λ end. list_local d (depth_local d) end _;
      }

  start_local : (n : ℕ) → Locally b X (start n)
  unfolding start
  start_local zero f q ts us t = at_fail t
  start_local (suc n) f q ts us t = search (local, start_local n) depth 9

  begin_local : (f : Bool) (q : List Error) (ts us : List ℕ) → Alike b X f ts us → Local b X f (start (length ts) q ts) (start (length us) q us)
  begin_local = at_count (λ n (u : Unit {0}). start n) (λ n m u. start_count n m) (λ n u. start_local n) tt

  failed_local : (d : ℕ) (e : Error) → Locally b X (failed d e)
  unfolding failed
  failed_local d e = search (local, sync_local, depth_local) depth 9

  pub next_local : (d : ℕ) → Locally b X (next d)
  unfolding next
  next_local d = search (local, begin_local, stmt_local, depth_local, failed_local) depth 9
