-- Statements and statement lists that are read cleanly are valid, and so is every reading at every depth. Assumes nothing.
use Rattle.std.specs.Prelude.{◌≡◌, Bool, eqb, length}
use Rattle.std.proofs.Math.Path.{refl}
use Rattle.std.proofs.Common.{sym, ap, ◌∙◌, eqb-true, ne_eqb}
use Rattle.std.proofs.Math.Bool.{true, false, and-false}
use mathlib.Core.List.{List}
use Prim.Native.Nat.{ℕ, zero, suc}
use Rattle.token.specs.Kind
use Rattle.token.specs.Look.{value_fits}
use Rattle.token.specs.declared.Token.{Token}
use Rattle.operator.specs.Operator.{unary_code, which_unary_op}
use Rattle.tree.specs.Tree.{Tree, Forest, none, snoc}
use Rattle.tree.specs.Node
use Rattle.grammar.specs.Reading.Number
use Rattle.grammar.specs.Reading.Result.{Error}
use Rattle.grammar.specs.Reading.Look.{try_label}
use Rattle.grammar.specs.Reading.Pattern.{conv, modified}
use Rattle.grammar.specs.Reading.Expr.{Depth, Stmts}
use Rattle.grammar.specs.Reading.Stmt.{loop, while_loop, lvalue_list, for_loop, stmt_label, stmt as stmt_read, ends, control_value, control_flow, control_last, is_control, stmts}
use Rattle.grammar.specs.Reading.Depth.{primary_expr, unary_expr, at_depth}
use Rattle.grammar.specs.Canonical.Valid.{IsName, IsLabel, no_label, a_label, tight, unary, ex, jump, body, stmt, Valid, Valids, Pattern, v_table, v_tight, v_unary_op, v_continue, v_break, v_break_value, v_break_label, v_return, v_return_value, v_no_control, v_control, v_body, v_expression, v_loop, v_while, v_for, v_assert, v_none, p_modifier}
use Rattle.grammar.proofs.Laws.Facts.{clash, apart}
use Rattle.grammar.proofs.Laws.Post.{Post, p_ok, p_fail, p_stop, post_then, post_either, post_if, post_push, post_map}
use Rattle.grammar.proofs.Laws.Convert.{none_sound}
use Rattle.grammar.proofs.Laws.Roles.{valids_snoc}
use Rattle.grammar.proofs.Laws.Commas.{no_comma_behind}
use Rattle.grammar.proofs.Laws.Seen.{Saw, look_saw, isnt, not_at, is_at, NotClose, NotLabel}
use Rattle.grammar.proofs.Laws.Sound.Base.{expect_took, OperandOk, ListOk, Sound, anyhow, before, Keyed, no_keyword, a_keyword, keyword_sound, pattern_sound}
use Rattle.grammar.proofs.Laws.Sound.Expr.{tuple_expr_sound, expr_sound}
use Rattle.grammar.proofs.Laws.Sound.Primary.{table_items_sound, unpack_expr_sound}
use Rattle.grammar.proofs.Laws.Sound.Block.{body_sound, begin_sound, expr_label_sound, if_sound}
use Rattle.grammar.proofs.Laws.Sound.Function.{function_sound}

label_value : (k v : ℕ) → eqb k Kind.Label ≡ true → value_fits k v ≡ true → IsName v
label_value k v e h = rw (eqb-true k Kind.Label e) at h

-- a label that was taken, or none
data LabelOk (ts : List ℕ) : ℕ → List ℕ → Type 0 where
  none_there : NotLabel ts → LabelOk ts 0 ts
  label_there : {n : ℕ} {r : List ℕ} → IsName n → LabelOk ts (suc n) r

label_sound : (q : List Error) (ts : List ℕ) → Post (LabelOk ts) (try_label q ts)
unfolding try_label
label_sound q ts =
    post_then q (look_saw q ts) λ tok q₁ rest s. post_if
    (λ _ e. p_ok (label_there (label_value tok.kind tok.value e s.fits)))
    (λ _ e. p_ok (none_there (not_at s Kind.Label e)))

is_label : {ts r : List ℕ} {l : ℕ} → LabelOk ts l r → IsLabel l
is_label (none_there n) = no_label
is_label (label_there n) = a_label n

-- a statement from ts to r; a comma that ends it is excused by `)` alone
pub record StmtOk (ts : List ℕ) (t : Tree) (r : List ℕ) : Type 0 where
  pub valid : NotClose r → Valid stmt t
  pub start : NotClose ts

body_of : {s : Stmts} → ListOk s → Valid body (Node.stmt_list s.suite s.control)
body_of x = v_body x.suite x.jump

over_pattern : {ts r : List ℕ} {m : ℕ} {p : Tree} → Keyed ts m r → Pattern p → Pattern (modified m p)
over_pattern (no_keyword k) h = h
over_pattern (a_keyword a k n) h = p_modifier a h

close_code : eqb (unary_code Kind.CloseParen) 0 ≡ true
unfolding unary_code which_unary_op
close_code = refl

module _ (low : Depth) (S : Sound low) where
  loop_sound : (l : ℕ) (q : List Error) (ts : List ℕ) → IsLabel l → Post (λ t r. Valid stmt t) (loop low l q ts)
  unfolding loop
  loop_sound l q ts h = post_then q (body_sound low S q ts) λ s q₁ r x. p_ok (v_loop h (body_of x))

  while_sound : (l : ℕ) (q : List Error) (ts : List ℕ) → IsLabel l → Post (λ t r. Valid stmt t) (while_loop low l q ts)
  unfolding while_loop
  while_sound l q ts h =
      post_then q (expr_sound low S q ts) λ c q₁ r x.
      post_then q₁ (expect_took Kind.Do Number.missing_do q₁ r) λ tok q₂ s w.
      post_then q₂ (body_sound low S q₂ s) λ b q₃ u y.
      p_ok (v_while h (x.all.valid true false anyhow (before r Kind.Do w.is refl)) (body_of y))

  lvalue_sound : (q : List Error) (ts : List ℕ) → Post (λ p r. Pattern p) (lvalue_list low q ts)
  unfolding lvalue_list
  lvalue_sound q ts =
      post_then q (keyword_sound q ts) λ m q₁ r k.
      post_then q₁ (tuple_expr_sound low S q₁ r) λ t q₂ s x.
      post_then q₂ (pattern_sound Number.cannot_assign q₂ s x.converts) λ p q₃ u y.
      p_ok (over_pattern k y.0)

  for_sound : (l : ℕ) (q : List Error) (ts : List ℕ) → IsLabel l → Post (λ t r. Valid stmt t) (for_loop low l q ts)
  unfolding for_loop
  for_sound l q ts h =
      post_then q (lvalue_sound q ts) λ p q₁ r x.
      post_then q₁ (expect_took Kind.In Number.missing_do q₁ r) λ tok q₂ s w.
      post_then q₂ (expr_sound low S q₂ s) λ e q₃ u y.
      post_then q₃ (expect_took Kind.Do Number.missing_do q₃ u) λ tok₂ q₄ v w₂.
      post_then q₄ (body_sound low S q₄ v) λ b q₅ z o.
      p_ok (v_for h x (y.all.valid true false anyhow (before u Kind.Do w₂.is refl)) (body_of o))

  stmt_label_sound : (l : ℕ) (q : List Error) (ts : List ℕ) → IsLabel l → Post (λ t r. Valid stmt t) (stmt_label low l q ts)
  unfolding stmt_label
  stmt_label_sound l q ts h =
      post_then q (look_saw q ts) λ tok q₁ rest s.
      post_if (λ _ _. loop_sound l q rest h) λ _ _.
      post_if (λ _ _. while_sound l q rest h) λ _ _.
      post_if (λ _ _. for_sound l q rest h) λ _ _.
      p_fail

  pub stmt_sound : (q : List Error) (ts : List ℕ) → Post (StmtOk ts) (stmt_read low q ts)
  unfolding stmt_read
  stmt_sound q ts =
      post_then q (look_saw q ts) λ tok q₁ rest s.
      post_if (λ _ e. post_map (λ t r x. record { valid = λ _. x; start = isnt s Kind.Loop Kind.CloseParen e refl }) (loop_sound 0 q rest no_label)) λ _ _.
      post_if (λ _ e. post_map (λ t r x. record { valid = λ _. x; start = isnt s Kind.While Kind.CloseParen e refl }) (while_sound 0 q rest no_label)) λ _ _.
      post_if (λ _ e. post_map (λ t r x. record { valid = λ _. x; start = isnt s Kind.For Kind.CloseParen e refl }) (for_sound 0 q rest no_label)) λ _ _.
      post_if (λ _ e. post_map (λ t r x. record { valid = λ _. x; start = isnt s Kind.Label Kind.CloseParen e refl }) (stmt_label_sound (suc tok.value) q rest (a_label (label_value tok.kind tok.value e s.fits)))) λ _ n.
      post_if (λ _ e. post_then q (expr_sound low S q rest) λ x q₂ r y. p_ok (record { valid = λ c. v_assert (y.all.valid true false anyhow (λ _. c)); start = isnt s Kind.Assert Kind.CloseParen e refl })) λ _ _.
      post_if (λ _ _. p_fail) λ _ _.
      post_if (λ _ _. p_fail) λ _ _.
      post_if (λ _ _. p_fail) λ _ _.
      post_then q (expr_sound low S q ts) λ x q₂ r y.
      post_if (λ _ _. p_fail) (λ _ e. p_ok (record { valid = λ c. v_expression (y.all.valid false false (λ _. not_at s Kind.Label n) (λ _. c)) e; start = y.all.start }))

  -- the value of a control, or none
  data ValueOk (ts : List ℕ) : Tree → List ℕ → Type 0 where
    no_value : {r : List ℕ} → ValueOk ts Node.absent r
    a_value : {e : Tree} {r : List ℕ} → ((b : Bool) → (b ≡ false → NotLabel ts) → NotClose r → Valid (ex b false) e) → ValueOk ts e r

  value_sound : (q : List Error) (ts : List ℕ) → Post (ValueOk ts) (control_value low q ts)
  unfolding control_value
  value_sound q ts =
      post_then q (look_saw q ts) λ tok q₁ rest s. post_if
      (λ _ _. p_ok no_value)
      (λ _ _. post_map (λ t r x. a_value (λ b h c. x.all.valid b false h (λ _. c))) (expr_sound low S q ts))

  break_of : {ts r u : List ℕ} {l : ℕ} {e : Tree} → LabelOk ts l r → ValueOk r e u → NotClose u → Valid jump (Node.break l e)
  break_of (none_there n) no_value c = v_break no_label
  break_of (none_there n) (a_value h) c = v_break_value (h false (λ _. n) c)
  break_of (label_there n) no_value c = v_break (a_label n)
  break_of (label_there n) (a_value h) c = v_break_label n (h true anyhow c)

  return_of : {r u : List ℕ} {e : Tree} → ValueOk r e u → NotClose u → Valid jump (Node.return e)
  return_of no_value c = v_return
  return_of (a_value h) c = v_return_value (h true anyhow c)

  control_sound : (k : ℕ) (q : List Error) (ts : List ℕ) → Post (λ t r. NotClose r → Valid jump t) (control_flow low k q ts)
  unfolding control_flow
  control_sound k q ts =
      post_if (λ _ _. post_then q (label_sound q ts) λ l q₁ r x. p_ok (λ _. v_continue (is_label x))) λ _ _.
      post_if
      (λ _ _. post_then q (label_sound q ts) λ l q₁ r x. post_then q₁ (value_sound q₁ r) λ e q₂ s y. p_ok (break_of x y))
      (λ _ _. post_then q (value_sound q ts) λ e q₁ r x. p_ok (return_of x))

  -- what ends a list is no `)`
  end_close : (end k : ℕ) → ends end k ≡ true → eqb k Kind.CloseParen ≡ false
  end_close end k e = apart (ends end) k Kind.CloseParen e (and-false (eqb end 1))

  last_sound : (end k : ℕ) (q : List Error) (ts : List ℕ) → Post (λ u r. NotClose ts) (control_last end k q ts)
  unfolding control_last
  last_sound end k q ts =
      post_then q (look_saw q ts) λ tok q₁ rest s. post_if
      (λ _ e. p_ok (rw (sym s.at) (end_close end tok.kind e)))
      (λ _ _. post_push _ _ _)

  stmts_sound : (end n : ℕ) (f : Forest) (q : List Error) (ts : List ℕ) → (NotClose ts → Valids stmt f) → Post (λ s r. ListOk s) (stmts low end n f q ts)
  unfolding stmts
  stmts_sound end zero f q ts h = p_fail
  stmts_sound end (suc n) f q ts h =
      post_then q (look_saw q ts) λ tok q₁ rest s.
      post_if (λ _ e. stmts_sound end n f q rest (λ _. h (isnt s Kind.Semicolon Kind.CloseParen e refl))) λ _ _.
      post_if (λ _ e. p_ok (record { suite = h (rw (sym s.at) (end_close end tok.kind e)); jump = v_no_control })) λ _ _. post_if
      (λ _ e. post_either q _ (control_sound tok.kind q rest) λ c q₂ r x.
      post_then q₂ (last_sound end tok.kind q₂ r) λ u q₃ v y.
      p_ok (record { suite = h (control_close s e); jump = v_control (x y) }))
      (λ _ _. post_either q _ (stmt_sound q ts) λ t q₂ r x. stmts_sound end n (snoc f t) q₂ r (λ c. valids_snoc (h x.start) (x.valid c)))
    where
      control_close : {tok : Token} {rest : List ℕ} → Saw ts tok rest → is_control tok.kind ≡ true → NotClose ts
      control_close {tok} s e = rw (sym s.at) (apart is_control tok.kind Kind.CloseParen e refl)

  primary_expr_sound : (q : List Error) (ts : List ℕ) → Post (λ t r. OperandOk tight ts t) (primary_expr low q ts)
  unfolding primary_expr conv
  primary_expr_sound q ts =
      post_then q (look_saw q ts) λ tok q₁ rest s.
      post_if (λ _ _. p_fail) λ _ _.
      post_if (λ _ e. post_map (λ t r x. record { valid = λ b _. x.0 b; converts = x.1; start = isnt s Kind.Fun Kind.CloseParen e refl }) (function_sound low S q rest)) λ _ _.
      post_if (λ _ e. post_map (λ t r x. record { valid = λ b _. x.0 b; converts = x.1; start = isnt s Kind.If Kind.CloseParen e refl }) (if_sound low S q rest)) λ _ _.
      post_if (λ _ e. post_map (λ t r x. record { valid = λ b _. x.0 b; converts = x.1; start = isnt s Kind.Begin Kind.CloseParen e refl }) (begin_sound low S q rest)) λ _ _.
      post_if (λ _ e. post_then q (table_items_sound low S (length rest) none q rest v_none) λ f q₂ r x. p_ok (record { valid = λ b _. v_table x; converts = none_sound refl; start = isnt s Kind.OpenBrace Kind.CloseParen e refl })) λ _ _.
      post_if
      (λ _ e. post_map (λ t r x. record { valid = λ b h. labelled x.0 b (λ z. clash (is_at s Kind.Label e) (h z)); converts = x.1; start = isnt s Kind.Label Kind.CloseParen e refl })
      (expr_label_sound low S tok.value q rest (label_value tok.kind tok.value e s.fits)))
      (λ _ _. unpack_expr_sound low S q ts)
    where
      labelled : {t : Tree} → Valid (tight true) t → (b : Bool) → (b ≡ false → ⊥) → Valid (tight b) t
      labelled h true n = h
      labelled h false n = absurd (n refl)

  -- an operator is no `)`
  operator_close : (k : ℕ) → eqb (unary_code k) 0 ≡ false → eqb k Kind.CloseParen ≡ false
  operator_close k e = ne_eqb k Kind.CloseParen λ z. clash (ap (λ n. eqb (unary_code n) 0) z ∙ close_code) e

  unary_sound : (q : List Error) (ts : List ℕ) → Post (λ t r. OperandOk unary ts t) (unary_expr low q ts)
  unfolding unary_expr conv
  unary_sound q ts =
      post_then q (look_saw q ts) λ tok q₁ rest s. post_if
      (λ _ _. post_map (λ t r x. record { valid = λ b h. v_tight (x.valid b h); converts = x.converts; start = x.start }) (primary_expr_sound q ts))
      (λ _ e. post_then q (S.s_unary q rest) λ t q₂ r x. p_ok (record {
        valid = λ b _. v_unary_op tok.kind e (x.valid true anyhow);
        converts = none_sound refl;
        start = rw (sym s.at) (operator_close tok.kind e);
      }))

pub depth_sound : (d : ℕ) → Sound (at_depth d)
unfolding at_depth
depth_sound zero = record { s_unary = λ q ts. p_stop; s_right = λ q ts. p_stop; s_list = λ end q ts. p_stop; s_comma = no_comma_behind zero }
depth_sound (suc d) = record {
  s_unary = unary_sound (at_depth d) (depth_sound d);
  s_right = expr_sound (at_depth d) (depth_sound d);
  s_list = λ end q ts. stmts_sound (at_depth d) (depth_sound d) end (length ts) none q ts (λ _. v_none);
  s_comma = no_comma_behind (suc d);
}
