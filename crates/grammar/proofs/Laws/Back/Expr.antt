-- The words of valid expressions read back: binary operators, tuples and assignments over operands that read back at the depth d. Assumes nothing.
use Rattle.std.specs.Prelude.{◌≡◌, Bool, false, eqb}
use Rattle.std.proofs.Math.Path.{refl}
use Rattle.std.proofs.Common.{sym}
use Rattle.std.proofs.Math.Bool.{true}
use mathlib.Core.List.{List, ◌∷◌}
use Prim.Native.Nat.{ℕ, zero, suc, pred, ◌≤◌, max}
use Rattle.std.proofs.Math.Nat.{le_refl}
use native.Mathlib.Omega.{arith}
use Rattle.std.proofs.Math.ListN.{length}
use Rattle.token.specs.Kind
use Rattle.operator.specs.Operator.{op_level, op_number, assign_code, level_count}
use Rattle.tree.specs.Tree.{Tree, Forest, more, one, snoc}
use Rattle.tree.specs.Node
use Rattle.grammar.specs.Reading.Result.{Error, Res, ok}
use Rattle.grammar.specs.Reading.Look.{try_assign_keyword, action}
use Rattle.grammar.specs.Reading.Expr.{operators, binop_expr, members, tuple_expr, expr}
use Rattle.grammar.specs.Reading.Depth.{at_depth}
use Rattle.grammar.specs.Canonical.Write.{own, after_commas, as_suite, write, writes}
use Rattle.grammar.specs.Canonical.Need.{most, need, needs}
use Rattle.grammar.specs.Canonical.Valid.{Valid, Valids, Pattern, unary, binop, plain, ex, control, stmt, v_unary, v_up, v_binary_op, v_assign, v_inner, v_single, v_tuple, v_local, v_none, v_more}
use borrow.Author.Tests.{eq-eqb}
use Rattle.grammar.proofs.Laws.Roles.{as_inner}
use Rattle.grammar.proofs.Laws.Back.Steps.{Needs, both, done, weigh, then_ok, then_on, then_is, if_yes, if_no, sees, converts, symbol, fits}
use Rattle.grammar.proofs.Laws.Length.{tokens_length}
use Rattle.grammar.proofs.Laws.Back.Follow.{comma_rank, assign_rank, end_rank, Follows, follows, weaker, comma, ends, op_kind, assign_kind, rank_op, rank_assign, no_op, no_comma, no_assign}
use Rattle.grammar.proofs.Laws.Back.Starts.{Starts, up, first_is, isnt, no_keyword, assign_own, binop_starts, pattern_starts}
use Rattle.grammar.proofs.Laws.Back.Snoc.{join, join_snoc, join_none, most_more}
use Rattle.grammar.proofs.Laws.Back.Patterns.{as_expr}

-- behind an expression: a symbol that ends it, which is `)` where a tuple of one may stand
pub data After : Bool → List ℕ → Type 0 where
  after : {r : List ℕ} → Follows end_rank r → After false r
  close : {close : Bool} {s : List ℕ} → After close (Kind.CloseParen ∷ 0 ∷ s)

after_follows : {c : Bool} {r : List ℕ} → After c r → Follows end_rank r
after_follows (after h) = h
after_follows close = ends refl

-- behind a statement list: one of its ends
pub data Ended : ℕ → List ℕ → Type 0 where
  at_end : {end : ℕ} {s : List ℕ} → Ended end (Kind.End ∷ 0 ∷ s)
  at_elif : {s : List ℕ} → Ended 1 (Kind.Elif ∷ 0 ∷ s)
  at_else : {s : List ℕ} → Ended 1 (Kind.Else ∷ 0 ∷ s)

-- what is shown of the readings with d depths left
pub record Reads (d : ℕ) : Type 0 where
  pub r_unary : {b : Bool} {t : Tree} → Valid (unary b) t → (q r : List ℕ) → Follows 2 r → Needs (need t own) d ((at_depth d).unary q (write t own r)) (ok t r)
  pub r_right : {b c : Bool} {t : Tree} → Valid (ex b c) t → (q r : List ℕ) → After c r → Needs (suc (need t own)) d ((at_depth d).right q (write t own r)) (ok t r)
  pub r_list : {f : Forest} {c : Tree} → Valids stmt f → Valid control c → (end : ℕ) (q r : List ℕ) → Ended end r
      → Needs (suc (max (most (needs f)) (need c own))) d ((at_depth d).list end q (as_suite (writes f) (write c own r))) (ok (record { suite = f; control = c }) r)

-- the loop of a level's operators ends, or takes one
operators_end : {r : List ℕ} (operand : List Error → List ℕ → Res Tree) (l m : ℕ) (t : Tree) (q : List Error) {d : ℕ} → Follows (suc (suc (suc l))) r → length r ≤ m
    → Needs 0 d (operators operand (suc l) m t q r) (ok t r)
unfolding operators
operators_end operand l zero t q (follows h g) e = absurd (omega arith)
operators_end operand l (suc m) t q (follows {k = k} h g) e = sees _ _ _ (symbol k h) (if_no _ _ (no_op k l g) done)

operators_step : {r s : List ℕ} (operand : List Error → List ℕ → Res Tree) (l m k : ℕ) (a : Tree) {b : Tree} (q : List Error) {n d : ℕ} → op_level k ≡ suc l → Needs n d (operand q s) (ok b r)
    → Needs n d (operators operand (suc l) (suc m) a q (k ∷ 0 ∷ s)) (operators operand (suc l) m (Node.binary_op (op_number k) a b) q r)
unfolding operators
operators_step operand l m k a q e h = sees _ _ _ (symbol k (op_kind k e).0) (if_yes _ _ (eq-eqb (op_level k) (suc l) e) (then_on _ _ h))

module _ (d : ℕ) (R : Reads d) where
  -- what is shown of the operands of the level l
  abbrev Back : ℕ → Type 0
  Back l = (b : Bool) (t : Tree) → Valid (binop b l) t → (q r : List ℕ) → Follows (suc (suc l)) r → Needs (need t own) d (binop_expr (at_depth d) l q (write t own r)) (ok t r)

  -- the words of an operand of the level l + 1, then r: the reading comes to the loop at r, with a count that is large enough
  to_loop : (l : ℕ) → Back l → {b : Bool} {t : Tree} → Valid (binop b (suc l)) t → (q r : List ℕ) → Follows (suc (suc l)) r
      → (m : ℕ) × (length r ≤ m) × Needs (need t own) d (binop_expr (at_depth d) (suc l) q (write t own r)) (operators (binop_expr (at_depth d) l) (suc l) m t q r)
  unfolding binop_expr write need
  to_loop l B (v_up h) q r f = (length r, le_refl (length r), then_on _ _ (B _ _ h q r f))
  to_loop l B (v_binary_op {a = a} {b = b} k e h g) q r f =
      let o = op_kind k e in
      let i = to_loop l B h q (k ∷ 0 ∷ write b own r) (follows o.0 (omega (arith, rank_op k e))) in
      rw o.1 (go i.0 i.1 i.2)
    where
      go : (m : ℕ) → length (k ∷ 0 ∷ write b own r) ≤ m
          → Needs (need a own) d (binop_expr (at_depth d) (suc l) q (write a own (k ∷ 0 ∷ write b own r))) (operators (binop_expr (at_depth d) l) (suc l) m a q (k ∷ 0 ∷ write b own r))
          → (n : ℕ) × (length r ≤ n) × Needs (max (need a own) (need b own)) d (binop_expr (at_depth d) (suc l) q (write a own (k ∷ 0 ∷ write b own r))) (operators (binop_expr (at_depth d) l) (suc l) n (Node.binary_op (op_number k) a b) q r)
      go zero x y = absurd (omega arith)
      go (suc m) x y = (
        m,
        omega (arith, tokens_length b own r),
        both y (operators_step (binop_expr (at_depth d) l) l m k a q e (B _ b g q r f)),
      )

  binop_back : (l : ℕ) (b : Bool) (t : Tree) → Valid (binop b l) t → (q r : List ℕ) → Follows (suc (suc l)) r → Needs (need t own) d (binop_expr (at_depth d) l q (write t own r)) (ok t r)
  unfolding binop_expr
  binop_back zero b t (v_unary h) q r f = R.r_unary h q r f
  binop_back (suc l) b t h q r f =
      let i = to_loop l (binop_back l) h q r (weaker (omega arith) f) in
      weigh (both i.2 (operators_end (binop_expr (at_depth d) l) l i.0 t q f i.1)) (omega arith)

  -- a member of a tuple, and what follows one
  pub inner_back : {b : Bool} {t : Tree} → Valid (binop b level_count) t → (q r : List ℕ) → Follows comma_rank r → Needs (need t own) d (binop_expr (at_depth d) level_count q (write t own r)) (ok t r)
  inner_back h q r f = binop_back level_count _ _ h q r f

  commas_follow : {g : Forest} {r : List ℕ} → Valids (binop true level_count) g → Follows comma_rank r → Follows comma_rank (after_commas (writes g) r)
  unfolding write
  commas_follow v_none f = f
  commas_follow (v_more h g) f = comma

  members_back : (m : ℕ) (f : Forest) {g : Forest} → Valids (binop true level_count) g → (q r : List ℕ) → Follows assign_rank r → length (after_commas (writes g) r) ≤ m
      → Needs (most (needs g)) d (members (at_depth d) m f q (after_commas (writes g) r)) (ok (Node.tuple (join f g)) r)
  unfolding members write need
  members_back zero f v_none q r (follows a b) l = absurd (omega arith)
  members_back (suc m) f v_none q r (follows {k = k} a b) l = sees _ _ _ (symbol k a) (if_no _ _ (no_comma k b) (rw (join_none f) done))
  members_back zero f (v_more h hs) q r a l = absurd (omega arith)
  members_back (suc m) f (v_more {t = t} {f = g} h hs) q r a l =
      sees _ _ _ (fits refl) (if_yes _ _ refl (first_is _ _ (binop_starts h _) λ k v s e. if_no _ _ (isnt e Kind.CloseParen refl)
      (weigh (then_is _ _ (inner_back h q _ (commas_follow hs (weaker (omega arith) a)))
      (rw (sym (join_snoc f t g)) (members_back m (snoc f t) hs q r a (omega (arith, tokens_length t own (after_commas (writes g) r))))))
      (sym (most_more t g)))))

  -- tuples, and what is none
  tuple_inner : {b : Bool} {t : Tree} → Valid (binop b level_count) t → (q r : List ℕ) → Follows assign_rank r → Needs (need t own) d (tuple_expr (at_depth d) q (write t own r)) (ok t r)
  unfolding tuple_expr
  tuple_inner h q r (follows {k = k} a b) =
      weigh (then_is _ _ (inner_back h q r (weaker (omega arith) (follows a b)))
      (sees _ _ _ (symbol k a) (if_no _ _ (no_comma k b) done))) (omega arith)

  tuple_single : {b : Bool} {t : Tree} → Valid (binop b level_count) t → (q s : List ℕ)
      → Needs (need t own) d (tuple_expr (at_depth d) q (write t own (Kind.Comma ∷ 0 ∷ Kind.CloseParen ∷ 0 ∷ s))) (ok (Node.tuple (one t)) (Kind.CloseParen ∷ 0 ∷ s))
  unfolding tuple_expr members
  tuple_single h q s =
      weigh (then_is _ _ (inner_back h q _ comma)
      (sees _ _ _ (fits refl) (if_yes _ _ refl (sees _ _ _ (fits refl) (if_yes _ _ refl (sees _ _ _ (fits refl) (if_yes _ _ refl done))))))) (omega arith)

  tuple_back : {b : Bool} {t u : Tree} {g : Forest} → Valid (binop b level_count) t → Valid (binop true level_count) u → Valids (binop true level_count) g → (q r : List ℕ) → Follows assign_rank r
      → Needs (need (Node.tuple (more t (more u g))) own) d (tuple_expr (at_depth d) q (write (Node.tuple (more t (more u g))) own r)) (ok (Node.tuple (more t (more u g))) r)
  unfolding tuple_expr write need join
  tuple_back h g gs q r f =
      then_is _ _ (inner_back h q _ comma)
      (sees _ _ _ (fits refl) (if_yes _ _ refl (members_back _ (one _) (v_more g gs) q r f (le_refl _))))

  -- an expression that is no assignment
  no_assignment : {b : Bool} {n : ℕ} {t : Tree} {r ts : List ℕ} (q : List Error) → Starts b 3 ts → Follows end_rank r → Needs n d (tuple_expr (at_depth d) q ts) (ok t r) → Needs n d (expr (at_depth d) q ts) (ok t r)
  unfolding expr
  no_assignment q b (follows {k = k} a f) h =
      then_ok _ _ (no_keyword q b) (weigh (then_is _ _ h (sees _ _ _ (symbol k a) (if_yes _ _ (no_assign k f) (if_yes _ _ refl done)))) (omega arith))

  -- a pattern, as it is read before it is converted
  pub pattern_back : {p : Tree} (h : Pattern p) (q s : List ℕ) → Follows assign_rank s → Needs (need p own) d (tuple_expr (at_depth d) q (write p own s)) (ok (as_expr h).expr s)
  pattern_back h q s f = let x = as_expr h in rw (x.words, x.depth) at (tuple_inner (as_inner (x.valid false)) q s f)

  -- an assignment with the keyword m, 0 or 1 + its action
  pub assignment_back : {c : Bool} {lhs rhs : Tree} {r : List ℕ} (k m : ℕ) (q ts : List ℕ) → eqb (assign_code k) 0 ≡ false → Pattern lhs → Valid (ex true c) rhs → After c r
      → try_assign_keyword q ts ≡ ok m (write lhs own (k ∷ 0 ∷ write rhs own r))
      → Needs (max (need lhs own) (suc (need rhs own))) d (expr (at_depth d) q ts) (ok (Node.assignment (action m) (pred (assign_code k)) lhs rhs) r)
  unfolding expr
  assignment_back {rhs = rhs} {r = r} k m q ts c p h a e =
      let o = (assign_kind k c).0 in
      weigh (then_ok _ _ e (then_is _ _ (pattern_back p q (k ∷ 0 ∷ write rhs own r) (follows o (omega (arith, rank_assign k c))))
      (sees _ _ _ (symbol k o) (if_no _ _ c (converts _ _ _ _ (as_expr p).back (then_is _ _ (R.r_right h q r a) done)))))) (omega arith)

  pub plain_back : {b c : Bool} {t : Tree} → Valid (plain b c) t → (q r : List ℕ) → After c r → Needs (need t own) d (expr (at_depth d) q (write t own r)) (ok t r)
  unfolding write need
  plain_back (v_inner h) q r a = no_assignment q (binop_starts h _) (after_follows a) (tuple_inner h q r (weaker (omega arith) (after_follows a)))
  plain_back (v_single h) q r close = no_assignment q (binop_starts h _) (ends refl) (tuple_single h q _)
  plain_back (v_tuple h g i) q r a = no_assignment q (binop_starts h _) (after_follows a) (tuple_back h g i q r (weaker (omega arith) (after_follows a)))
  plain_back (v_local (v_assign {lhs = p} {rhs = t} k c h g e)) q r a =
      rw (assign_own p t k (omega arith) c e r, e)
      (assignment_back k 0 q _ c h g a (no_keyword q (up (omega arith) (pattern_starts h _))))
