-- Blocks, conditionals and functions that are read cleanly are valid. Assumes nothing.
use Rattle.std.specs.Prelude.{◌≡◌, refl, Bool, List, length}
use Rattle.std.proofs.Math.Bool.{true, false}
use Prim.Native.Nat.{ℕ, zero, suc}
use Rattle.token.specs.Kind
use Rattle.tree.specs.Tree.{Tree, Forest, none, more, one, snoc}
use Rattle.tree.specs.Node
use Rattle.grammar.specs.Reading.Number
use Rattle.grammar.specs.Reading.Result.{Error, ifb}
use Rattle.grammar.specs.Reading.Pattern.{conv}
use Rattle.grammar.specs.Reading.Expr.{Depth, Stmts}
use Rattle.grammar.specs.Reading.Block.{Split, whole, result, split_before, split_kids, split_last, split, block_split, block_of, body as body_read, block_expr, expr_label, branches}
use Rattle.grammar.specs.Canonical.Valid.{IsName, tight, branch, else_clause, control, block, stmt, Valid, Valids, v_if, v_block, v_labelled, v_branch, v_no_else, v_else, v_continue, v_break, v_break_value, v_break_label, v_return, v_return_value, v_no_control, v_control, v_block_plain, v_block_control, v_block_result, v_expression, v_loop, v_while, v_for, v_assert, v_none, v_more}
use Rattle.grammar.proofs.Laws.Post.{Post, p_ok, p_fail, post_then, post_if, post_map}
use Rattle.grammar.proofs.Laws.Convert.{Converts, none_sound}
use Rattle.grammar.proofs.Laws.Roles.{valids_snoc}
use Rattle.grammar.proofs.Laws.Seen.{look_saw}
use Rattle.grammar.proofs.Laws.Sound.Base.{expect_took, ListOk, Sound, anyhow, before}
use Rattle.grammar.proofs.Laws.Sound.Expr.{expr_sound}

-- what the last statement of a block becomes
data SplitOk (f : Forest) : Split → Type 0 where
  is_whole : Valids stmt f → SplitOk f (whole f)
  is_result : {g : Forest} {e : Tree} → Valids stmt g → Valid stmt (Node.expression e) → SplitOk f (result g e)

before_ok : {t : Tree} {f : Forest} {s : Split} → Valid stmt t → SplitOk f s → SplitOk (more t f) (split_before t s)
unfolding split_before
before_ok h (is_whole f) = is_whole (v_more h f)
before_ok h (is_result g e) = is_result (v_more h g) e

split_one : {t : Tree} → Valid stmt t → SplitOk (one t) (split (one t))
unfolding split split_last split_kids ifb
split_one (v_expression e h) = is_result v_none (v_expression e h)
split_one (v_loop l b) = is_whole (v_more (v_loop l b) v_none)
split_one (v_while l c b) = is_whole (v_more (v_while l c b) v_none)
split_one (v_for l p e b) = is_whole (v_more (v_for l p e b) v_none)
split_one (v_assert e) = is_whole (v_more (v_assert e) v_none)

split_ok : {f : Forest} → Valids stmt f → SplitOk f (split f)
unfolding split
split_ok v_none = is_whole v_none
split_ok (v_more h v_none) = split_one h
split_ok (v_more h (v_more g f)) = before_ok h (split_ok (v_more g f))

split_block : {f : Forest} (s : Split) → split f ≡ s → SplitOk f s → Valid block (block_split s)
unfolding block_split
split_block s e (is_whole f) = v_block_plain f e
split_block s e (is_result g h) = v_block_result g h

control_block : {f : Forest} {c : Tree} → Valids stmt f → Valid control c → Valid block (block_of (record { suite = f; control = c }))
unfolding block_of ifb
control_block f v_no_control = split_block (split _) refl (split_ok f)
control_block f (v_control (v_continue l)) = v_block_control f (v_continue l)
control_block f (v_control (v_break l)) = v_block_control f (v_break l)
control_block f (v_control (v_break_value e)) = v_block_control f (v_break_value e)
control_block f (v_control (v_break_label n e)) = v_block_control f (v_break_label n e)
control_block f (v_control v_return) = v_block_control f v_return
control_block f (v_control (v_return_value e)) = v_block_control f (v_return_value e)

pub block_sound : {s : Stmts} → ListOk s → Valid block (block_of s)
block_sound x = control_block x.suite x.jump

-- a block with a label, 0 or 1 + its name
data Labelled (l : ℕ) : Tree → Type 0 where
  a_block : {b : Tree} → Valid block b → Labelled l (Node.block l b)

unlabelled : {b : Bool} {t : Tree} → Labelled 0 t → Valid (tight b) t
unlabelled (a_block h) = v_block h

labelled : {n : ℕ} {t : Tree} → IsName n → Labelled (suc n) t → Valid (tight true) t
labelled n (a_block h) = v_labelled n h

block_converts : {l : ℕ} {t : Tree} → Labelled l t → Converts t
unfolding conv
block_converts (a_block h) = none_sound refl

-- at least one branch
if_made : {b : Bool} {e : Tree} (f : Forest) (t : Tree) → Valids branch (snoc f t) → Valid else_clause e → Valid (tight b) (Node.if_expr (snoc f t) e)
unfolding snoc
if_made none t (v_more h f) e = v_if h f e
if_made (more u g) t (v_more h f) e = v_if h f e

module _ (low : Depth) (S : Sound low) where
  pub body_sound : (q : List Error) (ts : List ℕ) → Post (λ s r. ListOk s) (body_read low q ts)
  unfolding body_read
  body_sound q ts = post_then q (S.s_list 0 q ts) λ s q₁ r x. post_then q₁ (look_saw q₁ r) λ tok q₂ rest w. p_ok x

  block_expr_sound : (l : ℕ) (q : List Error) (ts : List ℕ) → Post (λ t r. Labelled l t) (block_expr low l q ts)
  unfolding block_expr
  block_expr_sound l q ts = post_then q (body_sound q ts) λ s q₁ r x. p_ok (a_block (block_sound x))

  pub begin_sound : (q : List Error) (ts : List ℕ) → Post (λ t r. ((b : Bool) → Valid (tight b) t) × Converts t) (block_expr low 0 q ts)
  begin_sound q ts = post_map (λ t r x. ((λ b. unlabelled x), block_converts x)) (block_expr_sound 0 q ts)

  pub expr_label_sound : (n : ℕ) (q : List Error) (ts : List ℕ) → IsName n → Post (λ t r. Valid (tight true) t × Converts t) (expr_label low (suc n) q ts)
  unfolding expr_label
  expr_label_sound n q ts h =
      post_then q (look_saw q ts) λ tok q₁ rest s. post_if
      (λ _ _. post_map (λ t r x. (labelled h x, block_converts x)) (block_expr_sound (suc n) q rest))
      (λ _ _. p_fail)

  branches_sound : (n : ℕ) (f : Forest) (q : List Error) (ts : List ℕ) → Valids branch f → Post (λ t r. ((b : Bool) → Valid (tight b) t) × Converts t) (branches low n f q ts)
  unfolding branches conv
  branches_sound zero f q ts h = p_fail
  branches_sound (suc n) f q ts h =
      post_then q (expr_sound low S q ts) λ c q₁ r x.
      post_then q₁ (expect_took Kind.Then Number.missing_then q₁ r) λ tok q₂ s w.
      post_then q₂ (S.s_list 1 q₂ s) λ b q₃ u y.
      post_then q₃ (look_saw q₃ u) λ tok₂ q₄ rest z.
      let g = valids_snoc h (v_branch (x.all.valid true false anyhow (before r Kind.Then w.is refl)) (block_sound y)) in
      post_if (λ _ _. p_ok ((λ b. if_made f _ g v_no_else), none_sound refl)) λ _ _. post_if
      (λ _ _. post_then q₃ (body_sound q₃ rest) λ e q₅ v o. p_ok ((λ b. if_made f _ g (v_else (block_sound o))), none_sound refl))
      (λ _ _. branches_sound n (snoc f _) q₃ rest g)

  pub if_sound : (q : List Error) (ts : List ℕ) → Post (λ t r. ((b : Bool) → Valid (tight b) t) × Converts t) (branches low (length ts) none q ts)
  if_sound q ts = branches_sound (length ts) none q ts v_none
