-- The words of operands read back, with one depth more than what stands inside them. Assumes nothing.
use Rattle.std.specs.Prelude.{◌≡◌, Bool, true, false, List, ◌∷◌, eqb}
use Rattle.std.proofs.Math.Path.{refl, ap}
use Rattle.std.proofs.Common.{◌∙◌, sym, le_refl, arith}
use Prim.Native.Nat.{ℕ, suc, ◌≤◌, max}
use Rattle.token.specs.Kind
use Rattle.operator.specs.Operator.{which_unary_op, unary_code}
use Rattle.tree.specs.NodeKind
use Rattle.tree.specs.Tree.{Tree, none, kind_of}
use Rattle.tree.specs.Node
use Rattle.grammar.specs.Reading.Result.{Res, ok}
use Rattle.grammar.specs.Reading.Primary.{unpack_expr}
use Rattle.grammar.specs.Reading.Block.{block_expr, expr_label}
use Rattle.grammar.specs.Reading.Function.{function_decl_expr, target_name}
use Rattle.grammar.specs.Reading.Depth.{primary_expr, unary_expr, at_depth}
use Rattle.grammar.specs.Canonical.Write.{own, targeted, write}
use Rattle.grammar.specs.Canonical.Need.{most, need, needs}
use Rattle.grammar.specs.Canonical.Valid.{Valid, Target, atom, prim, tight, unary, function, block, v_nil, v_empty_tuple, v_identifier, v_true, v_false, v_integer, v_float, v_string, v_group, v_modified, v_atom, v_primary, v_prim, v_unpack, v_ellipsis, v_table, v_function, v_target, v_if, v_block, v_labelled, v_tight, v_unary_op, v_function_def, v_function_default, v_function_variadic}
use Rattle.grammar.proofs.Laws.Back.Steps.{Needs, fits, symbol, done, exactly, inside, weigh, max_assoc, then_is, if_yes, if_no, sees}
use Rattle.grammar.proofs.Laws.Back.Follow.{Follows, follows, weaker, ellipsis, no_ellipsis, unary_kind}
use Rattle.grammar.proofs.Laws.Roles.{has_target}
use Rattle.grammar.proofs.Laws.Back.Starts.{Starts, Begins, first_is, isnt, target_words, target_depth, prim_starts, tight_starts}
use Rattle.grammar.proofs.Laws.Back.Snoc.{join, most_more}
use Rattle.grammar.proofs.Laws.Back.Expr.{Reads}
use Rattle.grammar.proofs.Laws.Back.Primary.{not_first, table_back, primary_back}
use Rattle.grammar.proofs.Laws.Back.Block.{block_body, branches_back}
use Rattle.grammar.proofs.Laws.Back.Function.{target_starts, target_back, function_back}

-- an operand needs a depth
atom_need : {t : Tree} → Valid atom t → 1 ≤ need t own
unfolding need
atom_need v_nil = omega arith
atom_need v_empty_tuple = omega arith
atom_need (v_identifier h) = omega arith
atom_need v_true = omega arith
atom_need v_false = omega arith
atom_need (v_integer v) = omega arith
atom_need (v_float v) = omega arith
atom_need (v_string h) = omega arith
atom_need (v_group h) = omega arith
atom_need (v_modified l h) = omega arith

prim_need : {t : Tree} → Valid prim t → 1 ≤ need t own
unfolding need
prim_need (v_atom h) = atom_need h
prim_need (v_primary h i g) = omega (arith, atom_need h)

function_need : {n : ℕ} {t : Tree} → Valid (function n) t → 1 ≤ need t own
unfolding need
function_need (v_function_def h g) = omega arith
function_need (v_function_default h i e g) = omega arith
function_need (v_function_variadic h i g) = omega arith

tight_need : {b : Bool} {t : Tree} → Valid (tight b) t → 1 ≤ need t own
unfolding need
tight_need (v_prim h) = prim_need h
tight_need (v_unpack h) = omega arith
tight_need v_ellipsis = omega arith
tight_need (v_table h) = omega arith
tight_need (v_function h) = function_need h
tight_need (v_target {p = p} {d = t} g h) = rw (target_depth own 2 p t refl (has_target g h)) (omega (arith, function_need h))
tight_need (v_if h g e) = omega arith
tight_need (v_block h) = omega arith
tight_need (v_labelled l h) = omega arith

pub unary_need : {b : Bool} {t : Tree} → Valid (unary b) t → 1 ≤ need t own
unfolding need
unary_need (v_tight h) = tight_need h
unary_need (v_unary_op k e h) = omega arith

-- what has an ellipsis behind it is none
prim_kind : {t : Tree} → Valid prim t → eqb (kind_of t) NodeKind.Unpack ≡ false
prim_kind (v_atom v_nil) = refl
prim_kind (v_atom v_empty_tuple) = refl
prim_kind (v_atom (v_identifier h)) = refl
prim_kind (v_atom v_true) = refl
prim_kind (v_atom v_false) = refl
prim_kind (v_atom (v_integer v)) = refl
prim_kind (v_atom (v_float v)) = refl
prim_kind (v_atom (v_string h)) = refl
prim_kind (v_atom (v_group h)) = refl
prim_kind (v_atom (v_modified l h)) = refl
prim_kind (v_primary h i g) = refl

-- a function's words from its parameters on, and behind `fun`
function_words : {n : ℕ} {t : Tree} → Valid (function n) t → (r : List ℕ) → (s : List ℕ) × (write t targeted r ≡ Kind.OpenParen ∷ 0 ∷ s) × (write t own r ≡ Kind.Fun ∷ 0 ∷ Kind.OpenParen ∷ 0 ∷ s)
unfolding write
function_words (v_function_def h g) r = (_, refl, refl)
function_words (v_function_default h i e g) r = (_, refl, refl)
function_words (v_function_variadic h i g) r = (_, refl, refl)

no_unary : {b : Bool} {k : ℕ} → Begins b 2 k → eqb (unary_code k) 0 ≡ true
unfolding unary_code which_unary_op
no_unary h = rw (isnt h Kind.OpAdd refl, isnt h Kind.OpSub refl, isnt h Kind.OpInv refl, isnt h Kind.Not refl)

module _ (d : ℕ) (R : Reads d) where
  -- a path and perhaps an ellipsis
  unpack_first : {n : ℕ} {r : List ℕ} {y : Res Tree} (q : List ℕ) → Starts false 1 r → Needs n (suc d) (unpack_expr (at_depth d) q r) y → Needs n (suc d) (primary_expr (at_depth d) q r) y
  unfolding primary_expr
  unpack_first q h g =
      first_is _ _ h λ k v s e. if_no _ _ (isnt e Kind.Class refl) (if_no _ _ (isnt e Kind.Fun refl) (if_no _ _ (isnt e Kind.If refl)
      (if_no _ _ (isnt e Kind.Begin refl) (if_no _ _ (isnt e Kind.OpenBrace refl) (if_no _ _ (isnt e Kind.Label refl) g)))))

  prim_back : {t : Tree} → Valid prim t → (q r : List ℕ) → Follows 2 r → Needs (need t own) (suc d) (unpack_expr (at_depth d) q (write t own r)) (ok t r)
  unfolding unpack_expr
  prim_back h q r (follows {k = k} a f) =
      first_is _ _ (prim_starts h _) λ i v s e. if_no _ _ (isnt e Kind.Ellipsis refl)
      (weigh (then_is _ _ (primary_back d R h q r (weaker (omega arith) (follows a f))) (sees _ _ _ (symbol k a) (if_no _ _ (no_ellipsis k f) done))) (omega arith))

  unpack_back : {t : Tree} → Valid prim t → (q r : List ℕ) → Needs (need t own) (suc d) (unpack_expr (at_depth d) q (write t own (Kind.Ellipsis ∷ 0 ∷ r))) (ok (Node.unpack t) r)
  unfolding unpack_expr
  unpack_back h q r =
      first_is _ _ (prim_starts h _) λ i v s e. if_no _ _ (isnt e Kind.Ellipsis refl)
      (weigh (then_is _ _ (primary_back d R h q _ ellipsis) (sees _ _ _ (fits refl) (if_yes _ _ refl (if_no _ _ (prim_kind h) done)))) (omega arith))

  -- functions
  fun_back : {t : Tree} → Valid (function 0) t → (q r : List ℕ) → Needs (need t own) (suc d) (function_decl_expr (at_depth d) q (write t targeted r)) (ok t r)
  unfolding function_decl_expr
  fun_back h q r =
      let o = function_words h r in
      rw o.1 (sees _ _ _ (fits refl) (if_yes _ _ refl (rw o.1 at (function_back d R h q r))))

  fun_target : {p t : Tree} → Target p → Valid (function (target_name p)) t → (q r : List ℕ)
      → Needs (max (need p own) (need t own)) (suc d) (function_decl_expr (at_depth d) q (write p own (write t targeted r))) (ok (Node.assignment 2 0 p t) r)
  unfolding function_decl_expr
  fun_target {p} g h q r =
      let o = function_words h r in
      rw o.1 (not_first _ _ (target_starts g _) λ k v s e. if_no _ _ e
      (weigh (then_is _ _ (target_back d R g q o.0) (then_is _ _ (rw o.1 at (function_back d R h q r)) done)) (omega arith)))

  block_back : {b : Tree} (l : ℕ) → Valid block b → (q r : List ℕ) → Needs (need b own) d (block_expr (at_depth d) l q (write b own (Kind.End ∷ 0 ∷ r))) (ok (Node.block l b) r)
  unfolding block_expr
  block_back l h q r =
      let u = block_body d R h q r in
      weigh (then_is _ _ u.reads (exactly (ap (λ b. ok (Node.block l b) r) u.gives))) (omega arith)

  tight_back : {b : Bool} {t : Tree} → Valid (tight b) t → (q r : List ℕ) → Follows 2 r → Needs (need t own) (suc d) (primary_expr (at_depth d) q (write t own r)) (ok t r)
  unfolding primary_expr unpack_expr expr_label write need join
  tight_back (v_prim h) q r f = unpack_first q (prim_starts h _) (prim_back h q r f)
  tight_back (v_unpack h) q r f = weigh (unpack_first q (prim_starts h _) (unpack_back h q r)) (omega (arith, prim_need h))
  tight_back v_ellipsis q r f =
      inside (sees _ _ _ (fits refl) (if_no _ _ refl (if_no _ _ refl (if_no _ _ refl (if_no _ _ refl (if_no _ _ refl (if_no _ _ refl
      (sees _ _ _ (fits refl) (if_yes _ _ refl done)))))))))
  tight_back (v_table h) q r f =
      inside (sees _ _ _ (fits refl) (if_no _ _ refl (if_no _ _ refl (if_no _ _ refl (if_no _ _ refl (if_yes _ _ refl
      (weigh (then_is _ _ (table_back d R h q r) done) (omega arith))))))))
  tight_back {t = t} (v_function h) q r f =
      let o = function_words h r in
      rw o.2 (sees _ _ _ (fits refl) (if_no _ _ refl (if_yes _ _ refl (rw o.1 at (fun_back h q r)))))
  tight_back (v_target {p = p} {d = t} g h) q r f =
      let e = has_target g h in
      rw (target_words own 2 p t refl e r, target_depth own 2 p t refl e) (sees _ _ _ (fits refl) (if_no _ _ refl (if_yes _ _ refl (fun_target g h q r))))
  tight_back (v_if {b = b} {e = e} {f = g} h hs i) q r f =
      weigh (inside (sees _ _ _ (fits refl) (if_no _ _ refl (if_no _ _ refl (if_yes _ _ refl (branches_back d R _ none h hs i q r (le_refl _)))))))
      (ap suc (sym (max_assoc (need b own) (most (needs g)) (need e own)) ∙ ap (λ n. max n (need e own)) (sym (most_more b g))))
  tight_back (v_block h) q r f = inside (sees _ _ _ (fits refl) (if_no _ _ refl (if_no _ _ refl (if_no _ _ refl (if_yes _ _ refl (block_back 0 h q r))))))
  tight_back (v_labelled {n = n} l h) q r f =
      inside (sees _ _ _ (fits l) (if_no _ _ refl (if_no _ _ refl (if_no _ _ refl (if_no _ _ refl (if_no _ _ refl (if_yes _ _ refl
      (sees _ _ _ (fits refl) (if_yes _ _ refl (block_back (suc n) h q r))))))))))

  pub unary_back : {b : Bool} {t : Tree} → Valid (unary b) t → (q r : List ℕ) → Follows 2 r → Needs (need t own) (suc d) (unary_expr (at_depth d) q (write t own r)) (ok t r)
  unfolding unary_expr write need
  unary_back (v_tight h) q r f = first_is _ _ (tight_starts h _) λ k v s e. if_yes _ _ (no_unary e) (tight_back h q r f)
  unary_back {t = t} (v_unary_op {t = u} k e h) q r f =
      let o = unary_kind k e in
      rw o.1 (sees _ _ _ (symbol k o.0) (if_no _ _ e (weigh (then_is _ _ (inside (R.r_unary h q r f)) done) (omega arith))))
