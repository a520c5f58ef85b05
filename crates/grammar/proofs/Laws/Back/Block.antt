-- The words of blocks, conditionals and functions read back, over operands and statement lists that read back at the depth d. Assumes nothing.
use Rattle.std.specs.Prelude.{◌≡◌, Bool, false, not, eqb, length}
use Rattle.std.proofs.Math.Path.{refl, ap}
use Rattle.std.proofs.Common.{◌∙◌, sym, arith, eqb-true}
use mathlib.Core.List.{List, [], ◌∷◌}
use Prim.Native.Nat.{ℕ, zero, suc, ◌≤◌, max}
use Rattle.token.specs.Kind
use Rattle.tree.specs.NodeKind
use Rattle.tree.specs.Tree.{Tree, Forest, node, more, snoc, kind_of}
use Rattle.tree.specs.Node
use Rattle.grammar.specs.Reading.Result.{Res, ok, ifb}
use Rattle.grammar.specs.Reading.Expr.{Stmts}
use Rattle.grammar.specs.Reading.Block.{block_split, block_of, body, branches}
use Rattle.grammar.specs.Reading.Depth.{at_depth}
use Rattle.grammar.specs.Canonical.Write.{own, tokens_if, token, after_elif, write, writes}
use Rattle.grammar.specs.Canonical.Need.{most, need, needs}
use Rattle.grammar.specs.Canonical.Valid.{Valid, Valids, branch, else_clause, jump, block, v_branch, v_no_else, v_else, v_continue, v_break, v_break_value, v_break_label, v_return, v_return_value, v_no_control, v_control, v_block_plain, v_block_control, v_block_result, v_expression, v_none, v_more}
use Rattle.grammar.proofs.Laws.Facts.{not_true}
use Rattle.grammar.proofs.Laws.Back.Steps.{Needs, fits, done, exactly, weigh, lands, max_assoc, then_is, if_yes, if_no, sees, expects, along}
use Rattle.grammar.proofs.Laws.Length.{tokens_length}
use Rattle.grammar.proofs.Laws.Back.Follow.{ends}
use Rattle.grammar.proofs.Laws.Back.Starts.{Starts, starts_length, ex_starts}
use Rattle.grammar.proofs.Laws.Roles.{valids_snoc}
use Rattle.grammar.proofs.Laws.Back.Snoc.{join, join_snoc, join_one, suite_snoc, most_more, most_snoc, split_snoc}
use Rattle.grammar.proofs.Laws.Back.Expr.{Reads, Ended, at_end, at_elif, at_else, after}
use Rattle.grammar.proofs.Laws.Back.Given.{ex_back}

-- nothing is missing where words begin
present : {b : Bool} {n : ℕ} (t : Tree) → Starts b n (write t own []) → eqb (kind_of t) NodeKind.Absent ≡ false
unfolding write
present (node k v f) h = not_true (eqb k NodeKind.Absent) λ e. let l = rw (eqb-true k 0 e) at (starts_length h) in absurd (omega arith)

jump_present : {c : Tree} → Valid jump c → eqb (kind_of c) NodeKind.Absent ≡ false
jump_present (v_continue l) = refl
jump_present (v_break l) = refl
jump_present (v_break_value h) = refl
jump_present (v_break_label l h) = refl
jump_present v_return = refl
jump_present (v_return_value h) = refl

block_present : {b : Tree} → Valid block b → eqb (kind_of b) NodeKind.Absent ≡ false
block_present (v_block_plain h e) = refl
block_present (v_block_control h j) = refl
block_present (v_block_result h e) = refl

branch_longer : {t : Tree} → Valid branch t → (r : List ℕ) → suc (length r) ≤ length (write t own r)
unfolding write
branch_longer (v_branch {c = c} {b = b} h g) r = omega (arith, tokens_length c own (Kind.Then ∷ 0 ∷ write b own r), tokens_length b own r)

-- the end of a conditional, after its branches
abbrev pub else_words : Tree → List ℕ → List ℕ
else_words e r = tokens_if (not (eqb (kind_of e) NodeKind.Absent)) (token Kind.Else) (write e own (Kind.End ∷ 0 ∷ r))

-- a block as it is read: from what statements, with what depth
pub record Block (d : ℕ) (b : Tree) (x : Res Stmts) (r : List ℕ) : Type 0 where
  pub stmts : Stmts
  pub reads : Needs (need b own) d x (ok stmts r)
  pub gives : block_of stmts ≡ b

module _ (d : ℕ) (R : Reads d) where
  block_list : {b : Tree} → Valid block b → (end : ℕ) (q r : List ℕ) → Ended end r → Block d b ((at_depth d).list end q (write b own r)) r
  unfolding write need block_of block_split ifb
  block_list (v_block_plain {f = f} h e) end q r x = record {
    stmts = record { suite = f; control = Node.absent };
    reads = weigh (R.r_list h v_no_control end q r x) (omega arith);
    gives = ap block_split e;
  }
  block_list (v_block_control {f = f} {c = c} h j) end q r x = record {
    stmts = record { suite = f; control = c };
    reads = weigh (R.r_list h (v_control j) end q r x) (omega arith);
    gives = rw (jump_present j);
  }
  block_list (v_block_result {f = f} {e = e} h (v_expression g l)) end q r x = record {
    stmts = record { suite = snoc f (Node.expression e); control = Node.absent };
    reads = rw (present e (ex_starts g [])) (weigh
        (rw (suite_snoc f (Node.expression e) r) at (R.r_list (valids_snoc h (v_expression g l)) v_no_control end q r x))
        (omega (arith, most_snoc f (Node.expression e))));
    gives = ap block_split (split_snoc f e);
  }

  pub block_body : {b : Tree} → Valid block b → (q r : List ℕ) → Block d b (body (at_depth d) q (write b own (Kind.End ∷ 0 ∷ r))) r
  unfolding body
  block_body h q r =
      let x = block_list h 0 q (Kind.End ∷ 0 ∷ r) at_end in
      record { stmts = x.stmts; reads = weigh (then_is _ _ x.reads (sees _ _ _ (fits refl) done)) (omega arith); gives = x.gives }

  -- the branches of a conditional and what follows them, after some
  pub branches_back : (m : ℕ) (f : Forest) {t e : Tree} {g : Forest} → Valid branch t → Valids branch g → Valid else_clause e → (q r : List ℕ)
      → length (write t own (after_elif (writes g) (else_words e r))) ≤ m
      → Needs (max (need t own) (max (most (needs g)) (need e own))) d (branches (at_depth d) m f q (write t own (after_elif (writes g) (else_words e r)))) (ok (Node.if_expr (join f (more t g)) e) r)
  unfolding branches write need
  branches_back zero f {e = e} {g = g} h hs v q r l = absurd (omega (arith, branch_longer h (after_elif (writes g) (else_words e r))))
  branches_back (suc m) f (v_branch {c = c} {b = b} h x) v_none v_no_else q r l =
      let y = block_list x 1 q (Kind.End ∷ 0 ∷ r) at_end in
      weigh (then_is _ _ (ex_back d R h q _ (after (ends refl))) (expects _ _ _ _ (fits refl) (then_is _ _ y.reads
      (sees _ _ _ (fits refl) (if_yes _ _ refl
      (along (λ b. ok (Node.if_expr (snoc f (Node.conditional_branch c b)) Node.absent) r) y.gives
      (exactly (ap (λ g. ok (Node.if_expr g Node.absent) r) (sym (join_one f (Node.conditional_branch c b)))))))))))
      (omega arith)
  branches_back (suc m) f (v_branch {c = c} {b = b} h x) v_none (v_else {b = e} z) q r l =
      let y = block_list x 1 q (Kind.Else ∷ 0 ∷ write e own (Kind.End ∷ 0 ∷ r)) at_else in
      let u = block_body z q r in
      rw (block_present z)
      (weigh (then_is _ _ (ex_back d R h q _ (after (ends refl))) (expects _ _ _ _ (fits refl) (then_is _ _ y.reads
      (sees _ _ _ (fits refl) (if_no _ _ refl (if_yes _ _ refl (then_is _ _ u.reads
      (along (λ b. ok (Node.if_expr (snoc f (Node.conditional_branch c b)) (block_of u.stmts)) r) y.gives
      (exactly (ap (λ e. ok (Node.if_expr (snoc f (Node.conditional_branch c b)) e) r) u.gives ∙ ap (λ g. ok (Node.if_expr g e) r) (sym (join_one f (Node.conditional_branch c b)))))))))))))
      (omega arith))
  branches_back (suc m) f {e = e} (v_branch {c = c} {b = b} h x) (v_more {t = t} {f = g} i is) v q r l =
      let w : List ℕ = write t own (after_elif (writes g) (else_words e r)) in
      let y = block_list x 1 q (Kind.Elif ∷ 0 ∷ w) at_elif in
      weigh (then_is _ _ (ex_back d R h q _ (after (ends refl))) (expects _ _ _ _ (fits refl) (then_is _ _ y.reads
      (sees _ _ _ (fits refl) (if_no _ _ refl (if_no _ _ refl
      (along (λ b. branches (at_depth d) m (snoc f (Node.conditional_branch c b)) q w) y.gives
      (lands (branches_back m (snoc f (Node.conditional_branch c b)) i is v q r (omega (arith, tokens_length (Node.conditional_branch c b) own (Kind.Elif ∷ 0 ∷ w))))
      (ap (λ g. ok (Node.if_expr g e) r) (join_snoc f (Node.conditional_branch c b) (more t g)))))))))))
      (rw (most_more t g) (simp max_assoc))
