-- More depth does not change a reading that did not stop with 62, `too_deep`: `next_depth`. Assumes nothing.
-- A lemma for each nonterminal: over readings `up` that say what `low` says, or more, it says what it says over `low`, or more.
use Rattle.std.specs.Prelude.{◌≡◌, refl, ◌≢◌, Bool, List, [], ◌∷◌}
use Prim.Native.Nat.{ℕ, zero, suc, ◌≤◌, zero-le, suc-le-suc}
use Rattle.tree.specs.Tree.{Tree, Forest}
use Rattle.grammar.specs.Reading.Limit.{too_deep}
use Rattle.grammar.specs.Reading.Result.{Error, Res, ok, bad, fail, stop, unclean, either, then, ifb, push}
use Rattle.grammar.specs.Reading.Expr.{Depth, operators, binop_expr, members, tuple_expr, expr}
use Rattle.grammar.specs.Reading.Primary.{group_expr, atom, indexing_expr, table_field, table_item, table_items, invocation, path, primary, unpack_expr}
use Rattle.grammar.specs.Reading.Block.{body, block_expr, expr_label, branches}
use Rattle.grammar.specs.Reading.Function.{Params, plain_param, param, params, function_def, function_assignment_target, function_decl_expr}
use Rattle.grammar.specs.Reading.Stmt.{loop, while_loop, lvalue_list, for_loop, stmt_label, stmt, control_value, control_flow, synchronize, caught, stmts}
use Rattle.grammar.specs.Reading.Depth.{primary_expr, unary_expr, at_depth}
use Rattle.grammar.specs.Reading.Next.{front, failed, next}
use Rattle.grammar.proofs.Laws.Facts.{if_each}

-- what the first says, the second says, but where the first stopped with 62
pub data Le {A : Type 0} : Res A → Res A → Type 0 where
  le_same : {d : Res A} → Le d d
  le_deep : {x : Res A} → Le (stop too_deep) x

-- each way to put readings together keeps this

le_unclean : {A : Type 0} (q : List Error) {d e : Res A} → Le d e → Le (unclean q d) (unclean q e)
unfolding unclean
le_unclean q le_same = le_same
le_unclean q le_deep = le_deep

le_either : {A B : Type 0} (q : List Error) {d e : Res A} {go go' : A → List Error → List ℕ → Res B} {or or' : Error → List Error → List ℕ → Res B} → Le d e
    → ((a : A) (q : List Error) (r : List ℕ) → Le (go a q r) (go' a q r)) → ((n : Error) (q : List Error) (r : List ℕ) → Le (or n q r) (or' n q r))
    → Le (either q d go or) (either q e go' or')
unfolding either
le_either q₀ {d = ok a r} le_same f g = f a q₀ r
le_either q₀ {d = bad a q r} le_same f g = le_unclean _ (f a q r)
le_either q₀ {d = fail n q r} le_same f g = le_unclean _ (g n q r)
le_either q₀ {d = stop n} le_same f g = le_same
le_either q₀ le_deep f g = le_deep

le_then : {A B : Type 0} (q : List Error) {d e : Res A} {go go' : A → List Error → List ℕ → Res B} → Le d e
    → ((a : A) (q : List Error) (r : List ℕ) → Le (go a q r) (go' a q r)) → Le (then q d go) (then q e go')
unfolding then
le_then q₀ {d = ok a r} le_same f = f a q₀ r
le_then q₀ {d = bad a q r} le_same f = le_unclean _ (f a q r)
le_then q₀ {d = fail n q r} le_same f = le_same
le_then q₀ {d = stop n} le_same f = le_same
le_then q₀ le_deep f = le_deep

le_if : {A : Type 0} (b : Bool) {x y x' y' : Unit {0} → Res A} → ((u : Unit {0}) → Le (x u) (x' u)) → ((u : Unit {0}) → Le (y u) (y' u)) → Le (ifb b x y) (ifb b x' y')
le_if b f g = if_each Le b f g

le_push : {A : Type 0} (e : Error) (q : List Error) {k k' : List Error → Res A} → ((q : List Error) → Le (k q) (k' q)) → Le (push e q k) (push e q k')
unfolding push
le_push e q f = le_if _ (λ u. le_same) (λ u. le_unclean _ (f _))

le_front : {A : Type 0} (q : List Error) {k k' : Error → List Error → Res A} → ((e : Error) (q : List Error) → Le (k e q) (k' e q)) → Le (front q k) (front q k')
unfolding front
le_front [] f = le_same
le_front (e ∷ q) f = f e q

ruleset mono = (le_same, le_then, le_either, le_if, le_push, le_front)

-- the same of two readings, whatever waits and is left
abbrev pub Below : {A : Type 0} → (List Error → List ℕ → Res A) → (List Error → List ℕ → Res A) → Type 0
Below f g = (q : List Error) (ts : List ℕ) → Le (f q ts) (g q ts)

pub record Mono (low up : Depth) : Type 0 where
  pub m_unary : Below low.unary up.unary
  pub m_right : Below low.right up.right
  pub m_list : (end : ℕ) → Below (low.list end) (up.list end)

module _ {sub sup : List Error → List ℕ → Res Tree} (h : Below sub sup) where
  operators_mono : (l n : ℕ) (left : Tree) → Below (operators sub l n left) (operators sup l n left)
  unfolding operators
  operators_mono l zero left q ts = le_same
  operators_mono l (suc n) left q ts = search (mono, h, operators_mono l n) depth 9

module _ (low up : Depth) (M : Mono low up) where
  binop_mono : (l : ℕ) → Below (binop_expr low l) (binop_expr up l)
  unfolding binop_expr
  binop_mono zero q ts = M.m_unary q ts
  binop_mono (suc l) q ts = search (mono, binop_mono l, operators_mono)

  members_mono : (n : ℕ) (f : Forest) → Below (members low n f) (members up n f)
  unfolding members
  members_mono zero f q ts = le_same
  members_mono (suc n) f q ts = search (mono, binop_mono, members_mono n) depth 9

  tuple_mono : Below (tuple_expr low) (tuple_expr up)
  unfolding tuple_expr
  tuple_mono = search (mono, binop_mono, members_mono) depth 9

  expr_mono : Below (expr low) (expr up)
  unfolding expr
  expr_mono = search (mono, tuple_mono, M.m_right) depth 9

  group_mono : Below (group_expr low) (group_expr up)
  unfolding group_expr
  group_mono = search (mono, expr_mono) depth 9

  atom_mono : Below (atom low) (atom up)
  unfolding atom
  atom_mono = search (mono, group_mono)

  indexing_mono : Below (indexing_expr low) (indexing_expr up)
  unfolding indexing_expr
  indexing_mono = search (mono, expr_mono)

  field_mono : Below (table_field low) (table_field up)
  unfolding table_field
  field_mono = search (mono, indexing_mono) depth 9

  item_mono : Below (table_item low) (table_item up)
  unfolding table_item
  item_mono = search (mono, field_mono, binop_mono) depth 9

  items_mono : (n : ℕ) (f : Forest) → Below (table_items low n f) (table_items up n f)
  unfolding table_items
  items_mono zero f q ts = le_same
  items_mono (suc n) f q ts = search (mono, item_mono, items_mono n) depth 9

  invocation_mono : Below (invocation low) (invocation up)
  unfolding invocation
  invocation_mono = search (mono, expr_mono) depth 9

  path_mono : (calls : Bool) (n : ℕ) (f : Forest) → Below (path low calls n f) (path up calls n f)
  unfolding path
  path_mono calls zero f q ts = le_same
  path_mono calls (suc n) f q ts = search (mono, indexing_mono, invocation_mono, items_mono, path_mono calls n) depth 9

  primary_mono : Below (primary low) (primary up)
  unfolding primary
  primary_mono = search (mono, atom_mono, path_mono)

  unpack_mono : Below (unpack_expr low) (unpack_expr up)
  unfolding unpack_expr
  unpack_mono = search (mono, primary_mono) depth 9

  body_mono : Below (body low) (body up)
  unfolding body
  body_mono = search (mono, M.m_list)

  block_mono : (l : ℕ) → Below (block_expr low l) (block_expr up l)
  unfolding block_expr
  block_mono l = search (mono, body_mono)

  expr_label_mono : (l : ℕ) → Below (expr_label low l) (expr_label up l)
  unfolding expr_label
  expr_label_mono l = search (mono, block_mono)

  branches_mono : (n : ℕ) (f : Forest) → Below (branches low n f) (branches up n f)
  unfolding branches
  branches_mono zero f q ts = le_same
  branches_mono (suc n) f q ts = search (mono, expr_mono, body_mono, M.m_list, branches_mono n) depth 9

  plain_param_mono : (v : ℕ) → Below (plain_param low v) (plain_param up v)
  unfolding plain_param
  plain_param_mono v = search (mono, expr_mono)

  param_mono : Below (param low) (param up)
  unfolding param
  param_mono = search (mono, plain_param_mono) depth 9

  params_mono : (n : ℕ) (ps : Params) → Below (params low n ps) (params up n ps)
  unfolding params
  params_mono zero ps q ts = le_same
  params_mono (suc n) ps q ts = search (mono, param_mono, params_mono n) depth 9

  function_def_mono : (name : ℕ) → Below (function_def low name) (function_def up name)
  unfolding function_def
  function_def_mono name = search (mono, params_mono, body_mono) depth 9

  target_mono : Below (function_assignment_target low) (function_assignment_target up)
  unfolding function_assignment_target
  target_mono = search (mono, atom_mono, path_mono)

  function_mono : Below (function_decl_expr low) (function_decl_expr up)
  unfolding function_decl_expr
  function_mono = search (mono, function_def_mono, target_mono) depth 9

  loop_mono : (l : ℕ) → Below (loop low l) (loop up l)
  unfolding loop
  loop_mono l = search (mono, body_mono)

  while_mono : (l : ℕ) → Below (while_loop low l) (while_loop up l)
  unfolding while_loop
  while_mono l = search (mono, expr_mono, body_mono) depth 9

  lvalue_mono : Below (lvalue_list low) (lvalue_list up)
  unfolding lvalue_list
  lvalue_mono = search (mono, tuple_mono) depth 9

  for_mono : (l : ℕ) → Below (for_loop low l) (for_loop up l)
  unfolding for_loop
  for_mono l = search (mono, lvalue_mono, expr_mono, body_mono) depth 9

  stmt_label_mono : (l : ℕ) → Below (stmt_label low l) (stmt_label up l)
  unfolding stmt_label
  stmt_label_mono l = search (mono, loop_mono, while_mono, for_mono) depth 9

  stmt_mono : Below (stmt low) (stmt up)
  unfolding stmt
  stmt_mono = search (mono, loop_mono, while_mono, for_mono, stmt_label_mono, expr_mono) depth 15

  control_value_mono : Below (control_value low) (control_value up)
  unfolding control_value
  control_value_mono = search (mono, expr_mono)

  control_mono : (k : ℕ) → Below (control_flow low k) (control_flow up k)
  unfolding control_flow
  control_mono k = search (mono, control_value_mono) depth 9

  synchronize_mono : (inside : Bool) (n : ℕ) → Below (synchronize low inside n) (synchronize up inside n)
  unfolding synchronize
  synchronize_mono inside zero q ts = le_same
  synchronize_mono inside (suc n) q ts = search (mono, expr_mono, synchronize_mono inside n) depth 9

  caught_mono : (e : Error) → Below (caught low e) (caught up e)
  unfolding caught
  caught_mono e = search (mono, synchronize_mono) depth 9

  stmts_mono : (end n : ℕ) (f : Forest) → Below (stmts low end n f) (stmts up end n f)
  unfolding stmts
  stmts_mono end zero f q ts = le_same
  stmts_mono end (suc n) f q ts = search (mono, control_mono, stmt_mono, caught_mono, stmts_mono end n) depth 9

  primary_expr_mono : Below (primary_expr low) (primary_expr up)
  unfolding primary_expr
  primary_expr_mono = search (mono, function_mono, branches_mono, block_mono, items_mono, expr_label_mono, unpack_mono) depth 12

  unary_mono : Below (unary_expr low) (unary_expr up)
  unfolding unary_expr
  unary_mono = search (mono, primary_expr_mono, M.m_unary)

depth_mono : {d e : ℕ} → d ≤ e → Mono (at_depth d) (at_depth e)
unfolding at_depth
depth_mono zero-le = record { m_unary = λ q ts. le_deep; m_right = λ q ts. le_deep; m_list = λ end q ts. le_deep }
depth_mono (suc-le-suc {n = d} {m = e} h) =
    record {
      m_unary = unary_mono (at_depth d) (at_depth e) (depth_mono h);
      m_right = expr_mono (at_depth d) (at_depth e) (depth_mono h);
      m_list = λ end q ts. stmts_mono (at_depth d) (at_depth e) (depth_mono h) end _ _ q ts;
    }

stmt_depth : {d e : ℕ} → d ≤ e → (q : List Error) (ts : List ℕ) → Le (stmt (at_depth d) q ts) (stmt (at_depth e) q ts)
stmt_depth h = stmt_mono (at_depth _) (at_depth _) (depth_mono h)

failed_depth : {d e : ℕ} → d ≤ e → (n : Error) (q : List Error) (ts : List ℕ) → Le (failed d n q ts) (failed e n q ts)
unfolding failed
failed_depth h n q ts = search (mono, synchronize_mono (at_depth _) (at_depth _) (depth_mono h)) depth 9

pub next_depth : {d e : ℕ} → d ≤ e → (q : List Error) (ts : List ℕ) → Le (next d q ts) (next e q ts)
unfolding next
next_depth h q ts = search (mono, stmt_depth h, failed_depth h)

-- in words: a reading that d depths were enough for reads the same with more
pub enough : {A : Type 0} {x y : Res A} → Le x y → x ≢ stop too_deep → y ≡ x
enough le_same n = refl
enough le_deep n = absurd (n refl)
