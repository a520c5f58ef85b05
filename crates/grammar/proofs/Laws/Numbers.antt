-- Only errors that can be met wait or are on their way, never more of them than the queue takes and never fewer than waited before, and only numbers of stops stop: a lemma
-- for each nonterminal, and `depth_numbers`, `stmt_numbers`, `failed_nums`. 24 and 28 cannot (Laws/NeverMet.antt); 32 can where the list of parameters has it (`list`). Assumes nothing.
use Rattle.std.specs.Prelude.{◌≡◌, refl, Bool, eqb, length, Option, Some, None}
use Rattle.std.proofs.Math.Bool.{true, false}
use mathlib.Core.List.{List, [], ◌∷◌}
use Prim.Native.Nat.{ℕ, zero, suc}
use Rattle.std.proofs.Common.{arith}
use Rattle.token.specs.Kind
use Rattle.token.specs.declared.Token.{Token}
use Rattle.std.proofs.Common.{Result, Ok, Err}
use Rattle.token.specs.declared.Unread.{Unread}
use Rattle.token.specs.declared.Unread.TheVariants.{LexerError, Nothing, Bad}
use Rattle.tree.specs.Tree.{Tree, Forest, empty}
use Rattle.grammar.specs.Reading.Limit.{malformed, too_deep}
use Rattle.grammar.specs.Reading.Result.{Error, Res, ok, bad, fail, stop, either, then, ifb, push, pop}
use Rattle.grammar.specs.Reading.Look.{looked, look, expect, expect_pattern, try_label, try_assign_keyword}
use Rattle.grammar.specs.Reading.Expr.{Depth, operators, binop_expr, members, tuple_expr, expr}
use Rattle.grammar.specs.Reading.Primary.{group_expr, literal, atom, indexing_expr, field_name, table_field, table_item, table_items, member_access, invocation, path, primary, unpack_expr}
use Rattle.grammar.specs.Reading.Block.{body, block_expr, expr_label, branches}
use Rattle.grammar.specs.Reading.Function.{Param, required, variadic, default, Params, param_mode, variadic_param, plain_param, param, joined, params, function_param_list, function_def, function_assignment_target, function_decl_expr}
use Rattle.grammar.specs.Reading.Stmt.{loop, while_loop, lvalue_list, for_loop, stmt_label, stmt, control_value, control_flow, control_last, synchronize, synchronized, caught, stmts}
use Rattle.grammar.specs.Reading.Depth.{primary_expr, unary_expr, at_depth}
use Rattle.grammar.specs.Reading.Number
use Rattle.grammar.specs.Reading.Next.{front, failed}
use Rattle.grammar.proofs.Laws.Facts.{clash}
use Rattle.grammar.proofs.Laws.Seen.{kind_at, look_seen, not_at}
use Rattle.grammar.proofs.Laws.NeverMet.{primary_no_unpack, params_close}
use Rattle.grammar.proofs.Laws.Waits.{ErrorBut, IsStop, three_never, n_after, n_tested, Waits, Num, n_ok, n_bad, n_fail, n_stop, waits_front, Caught, c_fail, Past, p_ok, p_bad, nums, waits_less, n_unclean, n_then, n_if, c_push, n_caught, n_stays, n_pop, p_either, p_if, n_behind, c_failing}

-- what a reading may come to by its numbers, whatever waits and is left
abbrev pub Numbered : {A : Type 0} → (Error → Type 0) → (List Error → List ℕ → Res A) → Type 0
Numbered J f = (n : ℕ) (q : List Error) (ts : List ℕ) → Waits J n q → Num J n (f q ts)

pub record Nums (J : Error → Type 0) (low : Depth) : Type 0 where
  pub n_unary : Numbered J low.unary
  pub n_right : Numbered J low.right
  pub n_list : (end : ℕ) → Numbered J (low.list end)

-- where J holds of each error's number but 24, 28 and 32
module _ {J : Error → Type 0} (others : (e : Error) → ErrorBut three_never e → J e) where
  looked_nums : (n : ℕ) (q : List Error) (r : List ℕ) (s : (Result Token Unread)) → Waits J n q → Num J n (looked q r s)
  unfolding looked
  looked_nums m q r (Ok tok) w = n_ok
  looked_nums m q r (Err LexerError) w = n_fail (others _ refl) w
  looked_nums m q r (Err Nothing) w = n_fail (others _ refl) w
  looked_nums m q r (Err Bad) w = n_stop {k = malformed} (refl, omega arith)

  pub look_nums : Numbered J look
  unfolding look
  look_nums m q [] w = n_fail (others _ refl) w
  look_nums m q (x ∷ []) w = n_fail (others _ refl) w
  look_nums m q (x ∷ (v ∷ r)) w = looked_nums m q r _ w

  expect_nums : (k : ℕ) (e : Error) → J e → Numbered J (expect k e)
  unfolding expect
  expect_nums k e j = search (nums, look_nums)

  pattern_nums : (e : Error) (m : Option Tree) → J e → Numbered J (expect_pattern e m)
  unfolding expect_pattern
  pattern_nums e None j m q ts w = n_fail j w
  pattern_nums e (Some p) j m q ts w = n_ok

  try_label_nums : Numbered J try_label
  unfolding try_label
  try_label_nums = search (nums, look_nums)

  keyword_nums : Numbered J try_assign_keyword
  unfolding try_assign_keyword
  keyword_nums = search (nums, look_nums)

  module _ (operand : List Error → List ℕ → Res Tree) (h : Numbered J operand) where
    operators_nums : (l n : ℕ) (left : Tree) → Numbered J (operators operand l n left)
    unfolding operators
    operators_nums l zero left m q ts w = n_fail (others _ refl) w
    operators_nums l (suc n) left m q ts w = search (nums, look_nums, h, operators_nums l n) depth 9

  literal_nums : (tok : Token) → Numbered J (literal tok)
  unfolding literal
  literal_nums tok = search (nums, others) depth 15

  field_name_nums : (access : ℕ) (e : Error) → J e → Numbered J (field_name access e)
  unfolding field_name
  field_name_nums access e j = search (nums, expect_nums)

  member_nums : Numbered J member_access
  unfolding member_access
  member_nums = search (nums, others, expect_nums)

  mode_nums : Numbered J param_mode
  unfolding param_mode
  mode_nums = search (nums, others, look_nums) depth 9

  variadic_nums : (v : ℕ) → Numbered J (variadic_param v)
  unfolding variadic_param
  variadic_nums v = search (nums, others, look_nums)

  pub joined_nums : (ps : Params) (p : Param) (k : ℕ) → (empty ps.default_list ≡ false → J Number.param_order) → Numbered J (joined ps p k)
  unfolding joined
  joined_nums ps (variadic v) k j m q ts w = search (nums, others)
  joined_nums ps (default v e) k j m q ts w = search (nums, others)
  joined_nums ps (required v) k j m q ts w = n_if _ (λ _. n_tested _ (λ _ e. n_ok) (λ _ e. n_fail (j e) w)) (λ _. n_fail (others _ refl) w)

  control_last_nums : (end k : ℕ) → Numbered J (control_last end k)
  unfolding control_last
  control_last_nums end k = search (nums, others, look_nums)

  synchronized_nums : {n : ℕ} (q : List Error) (ts : List ℕ) → Waits J (suc n) q → Num J n (synchronized q ts)
  unfolding synchronized either
  synchronized_nums {n} q ts w = go (look q ts) (look_nums (suc n) q ts w)
    where
      go : (d : Res Token) → Num J (suc n) d → Num {A = Unit {0}} J n (either q d (λ tok q₁ rest. ifb (eqb tok.kind Kind.EOF) (λ _. pop q ts) (λ _. ok tt ts)) (λ e q₁ r. pop q₁ r))
      go (ok tok r) h = n_if _ (λ u. n_caught (n_pop q ts w)) (λ u. n_ok)
      go (bad tok p r) (n_bad v l) = n_unclean (waits_less v) l (n_if _ (λ u. n_caught (n_pop q ts w)) (λ u. n_ok))
      go (fail e p r) (n_fail j v) = n_stays p (n_pop p r v)
      go (stop k) (n_stop x) = n_stop x

  -- parameters, where the default is numbered
  module _ (low : Depth) (expr_nums : Numbered J (expr low)) where
    plain_nums : (v : ℕ) → Numbered J (plain_param low v)
    unfolding plain_param
    plain_nums v = search (nums, look_nums, expr_nums)

    pub param_nums : Numbered J (param low)
    unfolding param
    param_nums = search (nums, others, mode_nums, expect_nums, look_nums, variadic_nums, plain_nums) depth 9

    -- a list of them where 32 may be met
    params_nums : J Number.param_order → (n : ℕ) (ps : Params) → Numbered J (params low n ps)
    unfolding params
    params_nums j zero ps m q ts w = n_fail (others _ refl) w
    params_nums j (suc n) ps m q ts w = search (nums, others, look_nums, param_nums, joined_nums, params_nums j n) depth 9

    pub list_nums : J Number.param_order → Numbered J (function_param_list low)
    list_nums j m q ts w = params_nums j _ _ m q ts w

  -- where the list of parameters is numbered
  module _ (low : Depth) (N : Nums J low) (L : Numbered J (expr low) → Numbered J (function_param_list low)) where
    binop_nums : (l : ℕ) → Numbered J (binop_expr low l)
    unfolding binop_expr
    binop_nums zero m q ts w = N.n_unary m q ts w
    binop_nums (suc l) m q ts w = search (nums, binop_nums l, operators_nums)

    members_nums : (n : ℕ) (f : Forest) → Numbered J (members low n f)
    unfolding members
    members_nums zero f m q ts w = n_fail (others _ refl) w
    members_nums (suc n) f m q ts w = search (nums, look_nums, binop_nums, members_nums n) depth 9

    tuple_nums : Numbered J (tuple_expr low)
    unfolding tuple_expr
    tuple_nums = search (nums, look_nums, binop_nums, members_nums) depth 9

    expr_nums : Numbered J (expr low)
    unfolding expr
    expr_nums = search (nums, others, look_nums, keyword_nums, tuple_nums, pattern_nums, N.n_right) depth 9

    group_nums : Numbered J (group_expr low)
    unfolding group_expr
    group_nums = search (nums, others, look_nums, keyword_nums, expr_nums, expect_nums) depth 9

    atom_nums : Numbered J (atom low)
    unfolding atom
    atom_nums = search (nums, look_nums, group_nums, literal_nums)

    indexing_nums : Numbered J (indexing_expr low)
    unfolding indexing_expr
    indexing_nums = search (nums, others, expr_nums, expect_nums)

    field_nums : Numbered J (table_field low)
    unfolding table_field
    field_nums = search (nums, others, look_nums, indexing_nums, field_name_nums) depth 9

    item_nums : Numbered J (table_item low)
    unfolding table_item
    item_nums = search (nums, others, field_nums, expect_nums, binop_nums) depth 9

    items_nums : (n : ℕ) (f : Forest) → Numbered J (table_items low n f)
    unfolding table_items
    items_nums zero f m q ts w = n_fail (others _ refl) w
    items_nums (suc n) f m q ts w = search (nums, others, look_nums, item_nums, items_nums n) depth 9

    invocation_nums : Numbered J (invocation low)
    unfolding invocation
    invocation_nums = search (nums, others, look_nums, expr_nums, expect_nums) depth 9

    path_nums : (calls : Bool) (n : ℕ) (f : Forest) → Numbered J (path low calls n f)
    unfolding path
    path_nums calls zero f m q ts w = n_fail (others _ refl) w
    path_nums calls (suc n) f m q ts w = search (nums, look_nums, member_nums, indexing_nums, invocation_nums, items_nums, path_nums calls n) depth 9

    primary_nums : Numbered J (primary low)
    unfolding primary
    primary_nums = search (nums, atom_nums, path_nums)

    unpack_nums : Numbered J (unpack_expr low)
    unfolding unpack_expr
    unpack_nums m q ts w =
        n_then q w (look_nums m q ts w) λ tok q₁ rest v. n_if _ (λ _. n_ok) λ _.
        n_after q w (primary_nums m q ts w) (primary_no_unpack low q ts) λ t q₂ r x h.
        n_then q₂ x (look_nums m q₂ r x) λ tok₂ q₃ rest₂ y. n_if _ (λ _. n_tested _ (λ _ e. clash e h) (λ _ e. n_ok)) (λ _. n_ok)

    body_nums : Numbered J (body low)
    unfolding body
    body_nums = search (nums, look_nums, N.n_list)

    block_nums : (l : ℕ) → Numbered J (block_expr low l)
    unfolding block_expr
    block_nums l = search (nums, body_nums)

    expr_label_nums : (l : ℕ) → Numbered J (expr_label low l)
    unfolding expr_label
    expr_label_nums l = search (nums, others, look_nums, block_nums)

    branches_nums : (n : ℕ) (f : Forest) → Numbered J (branches low n f)
    unfolding branches
    branches_nums zero f m q ts w = n_fail (others _ refl) w
    branches_nums (suc n) f m q ts w = search (nums, others, look_nums, expect_nums, expr_nums, body_nums, N.n_list, branches_nums n) depth 9

    -- the parameters end before `)`, so their closing is there
    closing_nums : (q : List Error) (ts : List ℕ) → eqb (kind_at ts) Kind.CloseParen ≡ true → (m : ℕ) → Waits J m q → Num J m (expect Kind.CloseParen Number.params_closing q ts)
    unfolding expect
    closing_nums q ts h m w = n_after q w (look_nums m q ts w) (look_seen q ts) λ tok q₁ rest v s. n_tested _ (λ _ e. n_ok) (λ _ e. clash h (not_at s Kind.CloseParen e))

    function_def_nums : (name : ℕ) → Numbered J (function_def low name)
    unfolding function_def
    function_def_nums name m q ts w =
        n_then q w (expect_nums _ _ (others _ refl) m q ts w) λ tok q₁ r v.
        n_after q₁ v (L expr_nums m q₁ r v) (params_close low _ _ q₁ r) λ ps q₂ s x h.
        n_then q₂ x (closing_nums q₂ s h m x) (search (nums, body_nums))

    target_nums : Numbered J (function_assignment_target low)
    unfolding function_assignment_target
    target_nums = search (nums, others, atom_nums, path_nums, pattern_nums)

    function_nums : Numbered J (function_decl_expr low)
    unfolding function_decl_expr
    function_nums = search (nums, look_nums, function_def_nums, target_nums) depth 9

    loop_nums : (l : ℕ) → Numbered J (loop low l)
    unfolding loop
    loop_nums l = search (nums, body_nums)

    while_nums : (l : ℕ) → Numbered J (while_loop low l)
    unfolding while_loop
    while_nums l = search (nums, others, expr_nums, expect_nums, body_nums) depth 9

    lvalue_nums : Numbered J (lvalue_list low)
    unfolding lvalue_list
    lvalue_nums = search (nums, others, keyword_nums, tuple_nums, pattern_nums) depth 9

    for_nums : (l : ℕ) → Numbered J (for_loop low l)
    unfolding for_loop
    for_nums l = search (nums, others, lvalue_nums, expect_nums, expr_nums, body_nums) depth 9

    stmt_label_nums : (l : ℕ) → Numbered J (stmt_label low l)
    unfolding stmt_label
    stmt_label_nums l = search (nums, others, look_nums, loop_nums, while_nums, for_nums) depth 9

    stmt_nums : Numbered J (stmt low)
    unfolding stmt
    stmt_nums = search (nums, others, look_nums, loop_nums, while_nums, for_nums, stmt_label_nums, expr_nums) depth 15

    control_value_nums : Numbered J (control_value low)
    unfolding control_value
    control_value_nums = search (nums, look_nums, expr_nums)

    control_nums : (k : ℕ) → Numbered J (control_flow low k)
    unfolding control_flow
    control_nums k = search (nums, try_label_nums, control_value_nums) depth 9

    synchronize_nums : (inside : Bool) (k n : ℕ) (q : List Error) (ts : List ℕ) → Waits J n q → Past J n (synchronize low inside k q ts)
    unfolding synchronize
    synchronize_nums inside zero n q ts w = p_bad w
    synchronize_nums inside (suc k) n q ts w = search (p_ok, p_either, p_if, look_nums, expr_nums, synchronize_nums inside k) depth 9

    caught_nums : (e : Error) → J e → (n : ℕ) (q : List Error) (ts : List ℕ) → Waits J n q → Caught J n (caught low e q ts)
    unfolding caught ifb
    caught_nums e j n q ts w = go (eqb e Number.end_of_tokens)
      where
        go : (b : Bool) → Caught J n (ifb b (λ _. fail e q ts) λ _. push e q λ q₁. then q₁ (synchronize low true (length ts) q₁ ts) λ u q₂ r. synchronized q₂ r)
        go true = c_fail j w
        go false = c_push e q j w λ q₁ v. n_behind q₁ v (synchronize_nums true (length ts) (suc n) q₁ ts v) λ u q₂ r x. synchronized_nums q₂ r x

    stmts_nums : (end n : ℕ) (f : Forest) → Numbered J (stmts low end n f)
    unfolding stmts
    stmts_nums end zero f m q ts w = n_fail (others _ refl) w
    stmts_nums end (suc n) f m q ts w = search (nums, look_nums, control_nums, control_last_nums, stmt_nums, caught_nums, stmts_nums end n) depth 9

    primary_expr_nums : Numbered J (primary_expr low)
    unfolding primary_expr
    primary_expr_nums = search (nums, others, look_nums, function_nums, branches_nums, block_nums, items_nums, expr_label_nums, unpack_nums) depth 15

    unary_nums : Numbered J (unary_expr low)
    unfolding unary_expr
    unary_nums = search (nums, look_nums, primary_expr_nums, N.n_unary)

  module _ (list : (d : ℕ) → Numbered J (expr (at_depth d)) → Numbered J (function_param_list (at_depth d))) where
    pub depth_numbers : (d : ℕ) → Nums J (at_depth d)
    unfolding at_depth
    depth_numbers zero =
        let deep : IsStop too_deep = (refl, omega arith) in
        record { n_unary = λ n q ts w. n_stop deep; n_right = λ n q ts w. n_stop deep; n_list = λ end n q ts w. n_stop deep }
    depth_numbers (suc d) =
        record {
          n_unary = unary_nums (at_depth d) (depth_numbers d) (list d);
          n_right = expr_nums (at_depth d) (depth_numbers d) (list d);
          n_list = λ end n q ts w. stmts_nums (at_depth d) (depth_numbers d) (list d) end _ _ n q ts w;
        }

    pub stmt_numbers : (d : ℕ) → Numbered J (stmt (at_depth d))
    stmt_numbers d = stmt_nums (at_depth d) (depth_numbers d) (list d)

    pub failed_nums : (d : ℕ) (e : Error) → J e → (n : ℕ) (q : List Error) (ts : List ℕ) → Waits J n q → Caught J n (failed d e q ts)
    unfolding failed front
    failed_nums d e j n q ts w = c_push e q j w λ q₁ v. go q₁ v
      where
        go : (q₁ : List Error) → Waits J (suc n) q₁ → Num {A = Tree} J n (front q₁ λ f q₂. then q₂ (synchronize (at_depth d) false (length ts) q₂ ts) λ u q₃ r. fail f q₃ r)
        go [] v = absurd (omega (arith, v.many))
        go (f ∷ q₂) v = let (i, x) = waits_front v in n_caught (c_failing q₂ f i x (synchronize_nums (at_depth d) (depth_numbers d) (list d) false (length ts) n q₂ ts x))
