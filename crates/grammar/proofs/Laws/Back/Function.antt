-- The words of functions and their targets read back, over operands and statement lists that read back at the depth d. Assumes nothing.
use Rattle.std.specs.Prelude.{◌≡◌, Bool, cond, eqb, length, Some}
use Rattle.std.proofs.Math.Path.{refl}
use Rattle.std.proofs.Common.{ap, ◌∙◌, sym, le_refl, arith}
use Rattle.std.proofs.Math.Bool.{true, false}
use Rattle.std.proofs.lemmas.Bool.{false≢true}
use mathlib.Core.List.{List, ◌∷◌}
use Prim.Native.Nat.{ℕ, zero, suc, ◌≤◌, max}
use Rattle.token.specs.Kind
use Rattle.tree.specs.Tree.{Tree, Forest, none, more, one, snoc, kind_of}
use Rattle.tree.specs.Node
use Rattle.grammar.specs.Reading.Result.{ok, ifb}
use Rattle.grammar.specs.Reading.Pattern.{pattern, conv, receiver, by_item}
use Rattle.grammar.specs.Reading.Primary.{with_path}
use Rattle.grammar.specs.Reading.Function.{required, variadic, default, Params, param_mode, variadic_param, plain_param, param, joined, params, function_def, function_assignment_target}
use Rattle.grammar.specs.Reading.Depth.{at_depth}
use Rattle.grammar.specs.Canonical.Write.{own, targeted, named, after_commas, target_atom, as_row, write, writes}
use Rattle.grammar.specs.Canonical.Need.{most, need, needs}
use Rattle.grammar.specs.Canonical.Valid as Valid
use Rattle.grammar.specs.Canonical.Valid.{Valid, Valids, Target, IsNamed, read_only, read_write, ex, function, item, block, v_nil, v_empty_tuple, v_identifier, v_true, v_false, v_integer, v_float, v_string, v_group, v_modified, v_function_def, v_function_default, v_function_variadic, v_attribute, v_index, v_param, v_none, v_more, t_name, t_attribute, t_index}
use Rattle.grammar.proofs.Laws.Back.Steps.{Needs, Fits, fits, done, exactly, enough, inside, both, weigh, lands, then_ok, then_is, if_yes, if_no, sees, expects, converted}
use Rattle.grammar.proofs.Laws.Roles.{valids_snoc}
use Rattle.grammar.proofs.Laws.Back.Snoc.{join, join_snoc, join_one, row_snoc, most_more, most_snoc}
use Rattle.grammar.proofs.Laws.Back.Patterns.{by_snoc}
use Rattle.grammar.proofs.Laws.Back.Expr.{Reads, close}
use Rattle.grammar.proofs.Laws.Back.Given.{ex_back}
use Rattle.grammar.proofs.Laws.Back.Block.{block_body}
use Rattle.grammar.proofs.Laws.Back.Primary.{Not, other, not_first, named_words, paren_stops, atom_back, path_back}

-- the access and the name of a parameter
record Named (v : ℕ) : Type 0 where
  name : ℕ
  access : ℕ
  is : Node.named name access ≡ v
  fits_name : Fits Kind.Identifier name
  mode : (q s : List ℕ) → param_mode q (named v s) ≡ ok access (Kind.Identifier ∷ name ∷ s)
  starts : (s : List ℕ) → Not Kind.CloseParen (named v s)

a_named : {v : ℕ} → IsNamed v → Named v
unfolding param_mode
a_named (read_only n h) = record {
  name = n;
  access = 0;
  is = refl;
  fits_name = fits h;
  mode = λ q s. rw (named_words n s).0 (enough (sees _ _ _ (fits h) (if_no _ _ refl (if_no _ _ refl (if_yes _ _ refl done)))) (le_refl 0));
  starts = λ s. rw (named_words n s).0 (other (fits h) refl);
}
a_named (read_write n h) = record {
  name = n;
  access = 1;
  is = refl;
  fits_name = fits h;
  mode = λ q s. rw (named_words n s).1 (enough (sees _ _ _ (fits refl) (if_yes _ _ refl done)) (le_refl 0));
  starts = λ s. rw (named_words n s).1 (other (fits refl) refl);
}

-- the parameters so far, where none has a default
abbrev so_far : Forest → Params
so_far f = record { required_list = f; default_list = none; variadic_one = Node.absent }

-- behind a parameter: a comma, which is taken, or `)`
abbrev sign : Bool → ℕ
sign b = cond b Kind.Comma Kind.CloseParen

abbrev on : Bool → List ℕ → List ℕ
on b s = cond b s (Kind.CloseParen ∷ 0 ∷ s)

sign_is : (b : Bool) → Fits (sign b) 0 × (eqb (sign b) Kind.Ellipsis ≡ false) × (eqb (sign b) Kind.OpAssign ≡ false)
sign_is true = (fits refl, refl, refl)
sign_is false = (fits refl, refl, refl)

joined_required : (b : Bool) (f : Forest) (v : ℕ) (q s : List ℕ) → joined (so_far f) (required v) (sign b) q s ≡ ok (so_far (snoc f (Node.param_def v))) s
unfolding joined ifb
joined_required true f v q s = refl
joined_required false f v q s = refl

joined_default : (f : Forest) (v : ℕ) (e : Tree) (q s : List ℕ)
    → joined (so_far f) (default v e) Kind.CloseParen q s ≡ ok (record { required_list = f; default_list = one (Node.default_def v e); variadic_one = Node.absent }) s
unfolding joined ifb snoc
joined_default f v e q s = refl

joined_variadic : (f : Forest) (v : ℕ) (q s : List ℕ)
    → joined (so_far f) (variadic v) Kind.CloseParen q s ≡ ok (record { required_list = f; default_list = none; variadic_one = Node.param_def v }) s
unfolding joined ifb
joined_variadic f v q s = refl

on_length : (b : Bool) (s : List ℕ) → length (on b s) ≤ suc (suc (length s))
on_length true s = omega arith
on_length false s = omega arith

named_longer : {v : ℕ} → IsNamed v → (r : List ℕ) → suc (suc (length r)) ≤ length (named v r)
named_longer (read_only n h) r = rw (named_words n r).0 (omega arith)
named_longer (read_write n h) r = rw (named_words n r).1 (omega arith)

param_longer : {t : Tree} → Valid Valid.param t → (r : List ℕ) → suc (suc (length r)) ≤ length (write t own r)
unfolding write
param_longer (v_param h) r = named_longer h r

with_snoc : (a : Tree) (f : Forest) (i : Tree) → with_path a (snoc f i) ≡ Node.primary a (snoc f i)
unfolding snoc
with_snoc a none i = refl
with_snoc a (more t f) i = refl

-- a target is no parameter list
atom_target : {a : Tree} → target_atom (kind_of a) ≡ true → Valid Valid.atom a → (r : List ℕ) → Not Kind.OpenParen (write a own r)
unfolding write
atom_target e v_nil r = other (fits refl) refl
atom_target e v_empty_tuple r = absurd (false≢true e)
atom_target e (v_identifier h) r = other (fits h) refl
atom_target e v_true r = other (fits refl) refl
atom_target e v_false r = other (fits refl) refl
atom_target e (v_integer v) r = other (fits refl) refl
atom_target e (v_float v) r = other (fits refl) refl
atom_target e (v_string h) r = other (fits h) refl
atom_target e (v_group h) r = absurd (false≢true e)
atom_target e (v_modified l h) r = absurd (false≢true e)

pub target_starts : {p : Tree} → Target p → (r : List ℕ) → Not Kind.OpenParen (write p own r)
unfolding write
target_starts (t_name h) r = other (fits h) refl
target_starts (t_attribute e h g i) r = atom_target e h _
target_starts (t_index e h g i) r = atom_target e h _

-- parameters need no depth
params_need : {f : Forest} → Valids Valid.param f → most (needs f) ≡ 0
unfolding need
params_need v_none = refl
params_need (v_more {f = f} (v_param {v = v} h) hs) = let e = params_need hs in omega (arith, most_more (Node.param_def v) f)

module _ (d : ℕ) (R : Reads d) where
  on_is : (b : Bool) (m : ℕ) (p : Params) (q s : List ℕ)
      → Needs 0 d (ifb (eqb (sign b) Kind.Comma) (λ _. params (at_depth d) m p q s) (λ _. params (at_depth d) m p q (sign b ∷ 0 ∷ s))) (params (at_depth d) m p q (on b s))
  on_is true m p q s = if_yes _ _ refl done
  on_is false m p q s = if_no _ _ refl done

  -- one parameter
  param_required : {v : ℕ} → IsNamed v → (b : Bool) (q s : List ℕ) → Needs 0 d (param (at_depth d) q (named v (sign b ∷ 0 ∷ s))) (ok (required v) (sign b ∷ 0 ∷ s))
  unfolding param plain_param
  param_required h b q s =
      let n = a_named h in
      let g = sign_is b in
      then_ok _ _ (n.mode q _) (expects _ _ _ _ n.fits_name (sees _ _ _ g.0 (if_no _ _ g.1
      (sees _ _ _ g.0 (if_no _ _ g.2 (exactly (ap (λ v. ok (required v) (sign b ∷ 0 ∷ s)) n.is)))))))

  param_default : {v : ℕ} {e : Tree} → IsNamed v → Valid (ex true true) e → (q s : List ℕ)
      → Needs (need e own) d (param (at_depth d) q (named v (Kind.OpAssign ∷ 0 ∷ write e own (Kind.CloseParen ∷ 0 ∷ s)))) (ok (default v e) (Kind.CloseParen ∷ 0 ∷ s))
  unfolding param plain_param
  param_default {e = e} h g q s =
      let n = a_named h in
      then_ok _ _ (n.mode q _) (expects _ _ _ _ n.fits_name (sees _ _ _ (fits refl) (if_no _ _ refl (sees _ _ _ (fits refl) (if_yes _ _ refl
      (weigh (then_is _ _ (ex_back d R g q _ close) (exactly (ap (λ v. ok (default v e) (Kind.CloseParen ∷ 0 ∷ s)) n.is))) (omega arith)))))))

  param_variadic : {v : ℕ} → IsNamed v → (q s : List ℕ) → Needs 0 d (param (at_depth d) q (named v (Kind.Ellipsis ∷ 0 ∷ Kind.CloseParen ∷ 0 ∷ s))) (ok (variadic v) (Kind.CloseParen ∷ 0 ∷ s))
  unfolding param variadic_param
  param_variadic h q s =
      let n = a_named h in
      then_ok _ _ (n.mode q _) (expects _ _ _ _ n.fits_name (sees _ _ _ (fits refl) (if_yes _ _ refl
      (sees _ _ _ (fits refl) (if_no _ _ refl (exactly (ap (λ v. ok (variadic v) (Kind.CloseParen ∷ 0 ∷ s)) n.is)))))))

  required_step : {t : Tree} → Valid Valid.param t → (b : Bool) (m : ℕ) (f : Forest) (q s : List ℕ)
      → Needs 0 d (params (at_depth d) (suc m) (so_far f) q (write t own (sign b ∷ 0 ∷ s))) (params (at_depth d) m (so_far (snoc f t)) q (on b s))
  unfolding params write
  required_step (v_param {v = v} h) b m f q s =
      not_first _ _ ((a_named h).starts _) λ k w u e. if_no _ _ e
      (then_is _ _ (param_required h b q s)
      (sees _ _ _ (sign_is b).0 (then_ok _ _ (joined_required b f v q _) (on_is b m (so_far (snoc f (Node.param_def v))) q s))))

  -- required parameters and the token behind them: the reading goes on behind, with a count that is large enough
  required_back : {t : Tree} {g : Forest} → Valid Valid.param t → Valids Valid.param g → (b : Bool) (m : ℕ) (f : Forest) (q s : List ℕ)
      → length (write t own (after_commas (writes g) (sign b ∷ 0 ∷ s))) ≤ m
      → (n : ℕ) × (length (on b s) ≤ n) × Needs 0 d (params (at_depth d) m (so_far f) q (write t own (after_commas (writes g) (sign b ∷ 0 ∷ s)))) (params (at_depth d) n (so_far (join f (more t g))) q (on b s))
  unfolding write
  required_back h v_none b zero f q s l = absurd (omega (arith, param_longer h (sign b ∷ 0 ∷ s)))
  required_back {t} h v_none b (suc m) f q s l = (
    m,
    omega (arith, param_longer h (sign b ∷ 0 ∷ s), on_length b s),
    lands (required_step h b m f q s) (ap (λ f. params (at_depth d) m (so_far f) q (on b s)) (sym (join_one f t))),
  )
  required_back h (v_more {t = u} {f = g} i is) b zero f q s l =
      absurd (omega (arith, param_longer h (Kind.Comma ∷ 0 ∷ write u own (after_commas (writes g) (sign b ∷ 0 ∷ s)))))
  required_back {t} h (v_more {t = u} {f = g} i is) b (suc m) f q s l =
      let w : List ℕ = write u own (after_commas (writes g) (sign b ∷ 0 ∷ s)) in
      let x = required_back i is b m (snoc f t) q s (omega (arith, param_longer h (Kind.Comma ∷ 0 ∷ w))) in (
        x.0,
        x.1,
        both (required_step h true m f q w) (lands x.2 (ap (λ f. params (at_depth d) x.0 (so_far f) q (on b s)) (join_snoc f t (more u g)))),
      )

  -- the end of the parameters
  params_end : (m : ℕ) (p : Params) (q s : List ℕ) → 1 ≤ m → Needs 0 d (params (at_depth d) m p q (Kind.CloseParen ∷ 0 ∷ s)) (ok p (Kind.CloseParen ∷ 0 ∷ s))
  unfolding params
  params_end zero p q s l = absurd (omega arith)
  params_end (suc m) p q s l = sees _ _ _ (fits refl) (if_yes _ _ refl done)

  default_end : {v : ℕ} {e : Tree} → IsNamed v → Valid (ex true true) e → (m : ℕ) (f : Forest) (q s : List ℕ) → length (named v (Kind.OpAssign ∷ 0 ∷ write e own (Kind.CloseParen ∷ 0 ∷ s))) ≤ m
      → Needs (need e own) d (params (at_depth d) m (so_far f) q (named v (Kind.OpAssign ∷ 0 ∷ write e own (Kind.CloseParen ∷ 0 ∷ s))))
      (ok (record { required_list = f; default_list = one (Node.default_def v e); variadic_one = Node.absent }) (Kind.CloseParen ∷ 0 ∷ s))
  unfolding params
  default_end {e = e} h g zero f q s l = absurd (omega (arith, named_longer h (Kind.OpAssign ∷ 0 ∷ write e own (Kind.CloseParen ∷ 0 ∷ s))))
  default_end {v} {e} h g (suc m) f q s l =
      let i : 1 ≤ m = omega (arith, named_longer h (Kind.OpAssign ∷ 0 ∷ write e own (Kind.CloseParen ∷ 0 ∷ s))) in
      not_first _ _ ((a_named h).starts _) λ k w u x. if_no _ _ x
      (weigh (then_is _ _ (param_default h g q s) (sees _ _ _ (fits refl) (then_ok _ _ (joined_default f v e q _) (if_no _ _ refl (params_end m _ q s i))))) (omega arith))

  variadic_end : {v : ℕ} → IsNamed v → (m : ℕ) (f : Forest) (q s : List ℕ) → length (named v (Kind.Ellipsis ∷ 0 ∷ Kind.CloseParen ∷ 0 ∷ s)) ≤ m
      → Needs 0 d (params (at_depth d) m (so_far f) q (named v (Kind.Ellipsis ∷ 0 ∷ Kind.CloseParen ∷ 0 ∷ s)))
      (ok (record { required_list = f; default_list = none; variadic_one = Node.param_def v }) (Kind.CloseParen ∷ 0 ∷ s))
  unfolding params
  variadic_end h zero f q s l = absurd (omega (arith, named_longer h (Kind.Ellipsis ∷ 0 ∷ Kind.CloseParen ∷ 0 ∷ s)))
  variadic_end {v} h (suc m) f q s l =
      let i : 1 ≤ m = omega (arith, named_longer h (Kind.Ellipsis ∷ 0 ∷ Kind.CloseParen ∷ 0 ∷ s)) in
      not_first _ _ ((a_named h).starts _) λ k w u x. if_no _ _ x
      (then_is _ _ (param_variadic h q s) (sees _ _ _ (fits refl) (then_ok _ _ (joined_variadic f v q _) (if_no _ _ refl (params_end m _ q s i)))))

  -- a function behind its target, or behind `fun`
  function_with : {b : Tree} {n : ℕ} {p : Params} (name : ℕ) (x : List ℕ) → Valid block b → (q r : List ℕ)
      → Needs n d (params (at_depth d) (length x) (so_far none) q x) (ok p (Kind.CloseParen ∷ 0 ∷ write b own (Kind.End ∷ 0 ∷ r)))
      → Needs (max n (need b own)) d (function_def (at_depth d) name q (Kind.OpenParen ∷ 0 ∷ x)) (ok (Node.function_def (Node.signature_def name p.required_list p.default_list p.variadic_one) b) r)
  unfolding function_def
  function_with {p = p} name x h q r y =
      let u = block_body d R h q r in
      expects _ _ _ _ (fits refl) (then_is _ _ y (expects _ _ _ _ (fits refl)
      (weigh (then_is _ _ u.reads (exactly (ap (λ b. ok (Node.function_def (Node.signature_def name p.required_list p.default_list p.variadic_one) b) r) u.gives))) (omega arith))))

  pub function_back : {n : ℕ} {t : Tree} → Valid (function n) t → (q r : List ℕ) → Needs (need t own) (suc d) (function_def (at_depth d) n q (write t targeted r)) (ok t r)
  unfolding write need join
  function_back (v_function_def {n = n} v_none g) q r = weigh (inside (function_with n _ g q r (params_end _ _ q _ (omega arith)))) (omega arith)
  function_back (v_function_def {n = n} {b = b} (v_more {f = f} h hs) g) q r =
      let s : List ℕ = write b own (Kind.End ∷ 0 ∷ r) in
      let x = required_back h hs false _ none q s (le_refl _) in
      weigh (inside (function_with n _ g q r (both x.2 (params_end x.0 _ q s (omega (arith, x.1)))))) (omega (arith, params_need (v_more h hs)))
  function_back (v_function_default {n = n} v_none i e g) q r = weigh (inside (function_with n _ g q r (default_end i e _ none q _ (le_refl _)))) (omega arith)
  function_back (v_function_default {n = n} {v = v} {e = e} {b = b} (v_more {f = f} h hs) i j g) q r =
      let s : List ℕ = write b own (Kind.End ∷ 0 ∷ r) in
      let x = required_back h hs true _ none q (named v (Kind.OpAssign ∷ 0 ∷ write e own (Kind.CloseParen ∷ 0 ∷ s))) (le_refl _) in
      weigh (inside (function_with n _ g q r (both x.2 (default_end i j x.0 _ q s x.1)))) (omega (arith, params_need (v_more h hs)))
  function_back (v_function_variadic {n = n} v_none i g) q r = weigh (inside (function_with n _ g q r (variadic_end i _ none q _ (le_refl _)))) (omega arith)
  function_back (v_function_variadic {n = n} {v = v} {b = b} (v_more {f = f} h hs) i g) q r =
      let s : List ℕ = write b own (Kind.End ∷ 0 ∷ r) in
      let x = required_back h hs true _ none q (named v (Kind.Ellipsis ∷ 0 ∷ Kind.CloseParen ∷ 0 ∷ s)) (le_refl _) in
      weigh (inside (function_with n _ g q r (both x.2 (variadic_end i x.0 _ q s x.1)))) (omega (arith, params_need (v_more h hs)))

  -- a path of members and indexes from an atom, as a target
  path_target : {a i : Tree} {f : Forest} → Valid Valid.atom a → Valids (item false) f → Valid (item false) i → (p : Tree) → by_item (receiver 0 a 0 f) i ≡ Some p → (q s : List ℕ)
      → Needs (max (need a own) (max (most (needs f)) (need i own))) (suc d) (function_assignment_target (at_depth d) q (write a own (as_row (writes f) (write i own (Kind.OpenParen ∷ 0 ∷ s))))) (ok p (Kind.OpenParen ∷ 0 ∷ s))
  unfolding function_assignment_target join conv
  path_target {a} {i} {f} h g j p e q s =
      let w : List ℕ = Kind.OpenParen ∷ 0 ∷ s in
      rw (sym (row_snoc f i w))
      (weigh (then_is _ _ (atom_back d R h q _)
      (then_is _ _ (path_back d R _ none (valids_snoc g j) q w paren_stops (le_refl _))
      (exactly (converted q w _ (ap (λ t. conv t pattern) (with_snoc a f i) ∙ by_snoc 0 a 0 f i ∙ e)))))
      (omega (arith, most_snoc f i)))

  pub target_back : {p : Tree} → Target p → (q s : List ℕ) → Needs (need p own) (suc d) (function_assignment_target (at_depth d) q (write p own (Kind.OpenParen ∷ 0 ∷ s))) (ok p (Kind.OpenParen ∷ 0 ∷ s))
  unfolding write need
  target_back (t_name {n = n} h) q s =
      unfold function_assignment_target join conv in
      weigh (then_is _ _ (atom_back d R (v_identifier h) q _)
      (then_is _ _ (path_back d R {c = false} _ none v_none q (Kind.OpenParen ∷ 0 ∷ s) paren_stops (le_refl _)) (exactly (converted q _ _ refl)))) (omega arith)
  target_back (t_attribute {n = n} e h g i) q s = weigh (path_target h g (v_attribute i) _ refl q s) (omega arith)
  target_back (t_index e h g i) q s = weigh (path_target h g (v_index i) _ refl q s) (omega arith)
