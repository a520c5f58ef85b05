-- Functions that are read cleanly are valid: their target, their parameters, their body. Assumes nothing.
use Rattle.std.specs.Prelude.{◌≡◌, refl, Bool, List, eqb, length, Option, Some, None}
use Rattle.std.proofs.Math.Bool.{true, false}
use Prim.Native.Nat.{ℕ, zero, suc}
use Rattle.token.specs.Kind
use Rattle.token.specs.declared.Token.{Token}
use Rattle.tree.specs.Tree.{Tree, Forest, none, one, snoc, kind_of}
use Rattle.tree.specs.Node
use Rattle.grammar.specs.Reading.Number
use Rattle.grammar.specs.Reading.Result.{Error}
use Rattle.grammar.specs.Reading.Look.{expect_pattern}
use Rattle.grammar.specs.Reading.Expr.{Depth}
use Rattle.grammar.specs.Reading.Primary.{literal, atom as atom_read, with_path}
use Rattle.grammar.specs.Reading.Pattern.{conv, to_pattern, by_item}
use Rattle.grammar.specs.Reading.Function.{Param, required, variadic, default, Params, param_mode, variadic_param, plain_param, param as param_read, joined, params, function_def, function_assignment_target, target_name, function_decl_expr}
use Rattle.grammar.specs.Canonical.Valid.{IsName, IsNamed, read_only, read_write, atom, tight, ex, function, item, param, block, Valid, Valids, Target, v_function, v_target, v_function_def, v_function_default, v_function_variadic, v_param, v_none, v_more, t_name, t_attribute, t_index, v_nil, v_empty_tuple, v_identifier, v_true, v_false, v_integer, v_float, v_string, v_group, v_modified, v_attribute, v_index}
use Rattle.grammar.proofs.Laws.Facts.{clash, other, or_true}
use Rattle.grammar.proofs.Laws.Post.{Post, p_ok, p_fail, post_then, post_if, post_map, post_both, post_success}
use Rattle.grammar.proofs.Laws.Convert.{Converts, none_sound, front_valid, last_valid}
use Rattle.grammar.specs.Canonical.Write.{target_atom}
use Rattle.grammar.proofs.Laws.Roles.{valids_snoc}
use Rattle.grammar.proofs.Laws.Seen.{Saw, look_saw, not_at, is_at, NotComma, kind_at}
use Rattle.grammar.proofs.Laws.Sound.Base.{expect_took, name_value, Sound, anyhow}
use Rattle.grammar.proofs.Laws.Sound.Expr.{expr_sound}
use Rattle.grammar.proofs.Laws.Sound.Primary.{atom_sound, path_sound}
use Rattle.grammar.proofs.Laws.Sound.Block.{block_sound, body_sound}

-- a parameter that ends before r
data ParamOk (r : List ℕ) : Param → Type 0 where
  is_required : {v : ℕ} → IsNamed v → ParamOk r (required v)
  is_variadic : {v : ℕ} → IsNamed v → ParamOk r (variadic v)
  is_default : {v : ℕ} {e : Tree} → IsNamed v → Valid (ex true true) e → NotComma r → ParamOk r (default v e)

-- the parameters before ts; behind a default or a variadic one only `)` can stand
data ParamsOk (ts : List ℕ) : Params → Type 0 where
  all_required : {f : Forest} → Valids param f → ParamsOk ts (record { required_list = f; default_list = none; variadic_one = Node.absent })
  with_default : {f : Forest} {v : ℕ} {e : Tree} → Valids param f → IsNamed v → Valid (ex true true) e → eqb (kind_at ts) Kind.CloseParen ≡ true
      → ParamsOk ts (record { required_list = f; default_list = one (Node.default_def v e); variadic_one = Node.absent })
  with_variadic : {f : Forest} {v : ℕ} → Valids param f → IsNamed v → eqb (kind_at ts) Kind.CloseParen ≡ true
      → ParamsOk ts (record { required_list = f; default_list = none; variadic_one = Node.param_def v })

function_made : {ts : List ℕ} {n : ℕ} {ps : Params} {b : Tree} → ParamsOk ts ps → Valid block b
    → Valid (function n) (Node.function_def (Node.signature_def n ps.required_list ps.default_list ps.variadic_one) b)
function_made (all_required f) b = v_function_def f b
function_made (with_default f v e c) b = v_function_default f v e b
function_made (with_variadic f v c) b = v_function_variadic f v b

function_converts : {n : ℕ} {t : Tree} → Valid (function n) t → Converts t
unfolding conv
function_converts (v_function_def f b) = none_sound refl
function_converts (v_function_default f v e b) = none_sound refl
function_converts (v_function_variadic f v b) = none_sound refl

-- an access before a name
data Mode : ℕ → Type 0 where
  mode : {a : ℕ} → ((n : ℕ) → IsName n → IsNamed (Node.named n a)) → Mode a

mode_sound : (q : List Error) (ts : List ℕ) → Post (λ a r. Mode a) (param_mode q ts)
unfolding param_mode
mode_sound q ts =
    post_then q (look_saw q ts) λ tok q₁ rest s.
    post_if (λ _ _. p_ok (mode read_write)) λ _ _.
    post_if (λ _ _. p_ok (mode read_only)) λ _ _.
    post_if (λ _ _. p_ok (mode read_only)) λ _ _.
    p_fail

named_by : {a : ℕ} (n : ℕ) → Mode a → IsName n → IsNamed (Node.named n a)
named_by n (mode h) x = h n x

variadic_sound : {v : ℕ} (q : List Error) (ts : List ℕ) → IsNamed v → Post (λ p r. ParamOk r p) (variadic_param v q ts)
unfolding variadic_param
variadic_sound q ts h = post_then q (look_saw q ts) λ tok q₁ rest s. post_if (λ _ _. p_fail) (λ _ _. p_ok (is_variadic h))

data TargetOk : Option Tree → Type 0 where
  no_target : TargetOk None
  a_target : {p : Tree} → Target p → TargetOk (Some p)

item_target : {a i : Tree} {f : Forest} → Valid atom a → target_atom (kind_of a) ≡ true → Valids (item false) f → Valid (item false) i → TargetOk (by_item (Node.primary a f) i)
item_target h e f (v_attribute n) = a_target (t_attribute e h f n)
item_target h e f (v_index x) = a_target (t_index e h f x)

expect_target : (e : Error) (q : List Error) (ts : List ℕ) (m : Option Tree) → TargetOk m → Post (λ p r. Target p) (expect_pattern e m q ts)
unfolding expect_pattern
expect_target e q ts None no_target = p_fail
expect_target e q ts (Some p) (a_target h) = p_ok h

literal_target : (tok : Token) (q : List Error) (rest : List ℕ) → Post (λ a r. target_atom (kind_of a) ≡ true) (literal tok q rest)
unfolding literal
literal_target tok q rest =
    post_if (λ _ _. p_ok refl) λ _ _. post_if (λ _ _. p_ok refl) λ _ _. post_if (λ _ _. p_ok refl) λ _ _. post_if (λ _ _. p_ok refl) λ _ _.
    post_if (λ _ _. p_ok refl) λ _ _. post_if (λ _ _. p_ok refl) λ _ _. post_if (λ _ _. p_ok refl) λ _ _. p_fail

-- a parameter that joined required ones: only behind a required one a comma can stand
data JoinedOk (r : List ℕ) (k : ℕ) : Params → Type 0 where
  goes_on : {f : Forest} → Valids param f → JoinedOk r k (record { required_list = f; default_list = none; variadic_one = Node.absent })
  is_last : {ps : Params} → eqb k Kind.Comma ≡ false → ParamsOk r ps → JoinedOk r k ps

joined_sound : {f : Forest} {p : Param} {r rest : List ℕ} (tok : Token) (q : List Error) → Saw r tok rest → Valids param f → ParamOk r p
    → Post (λ ps s. JoinedOk r tok.kind ps) (joined (record { required_list = f; default_list = none; variadic_one = Node.absent }) p tok.kind q r)
unfolding joined snoc
joined_sound tok q s f (is_required h) = post_if (λ _ _. post_if (λ _ _. p_ok (goes_on (valids_snoc f (v_param h)))) (λ _ _. p_fail)) (λ _ _. p_fail)
joined_sound tok q s f (is_variadic h) =
    post_if (λ _ _. p_fail) λ _ n.
    post_if (λ _ c. p_ok (is_last n (with_variadic f h (is_at s Kind.CloseParen c)))) (λ _ _. p_fail)
joined_sound {r = r} tok q s f (is_default h e n) =
    post_if
    (λ _ o. p_ok (or_true (eqb tok.kind Kind.Comma) (eqb tok.kind Kind.CloseParen) o
    (λ c. clash (is_at s Kind.Comma c) n)
    (λ c. is_last (other tok.kind Kind.CloseParen Kind.Comma c refl) (with_default f h e (is_at s Kind.CloseParen c)))))
    (λ _ _. p_fail)

behind_comma : {r s : List ℕ} {k : ℕ} {ps : Params} → JoinedOk r k ps → eqb k Kind.Comma ≡ true → ParamsOk s ps
behind_comma (goes_on f) c = all_required f
behind_comma (is_last n x) c = clash c n

before_end : {r : List ℕ} {k : ℕ} {ps : Params} → JoinedOk r k ps → ParamsOk r ps
before_end (goes_on f) = all_required f
before_end (is_last n x) = x

-- what a path of members and indexes from an atom that is no group is
target_sound : {a : Tree} {f : Forest} → Valid atom a → target_atom (kind_of a) ≡ true → Valids (item false) f → TargetOk (to_pattern (with_path a f))
unfolding conv
target_sound v_nil e v_none = no_target
target_sound v_empty_tuple e v_none = no_target
target_sound (v_identifier n) e v_none = a_target (t_name n)
target_sound v_true e v_none = no_target
target_sound v_false e v_none = no_target
target_sound (v_integer v) e v_none = no_target
target_sound (v_float v) e v_none = no_target
target_sound (v_string n) e v_none = no_target
target_sound (v_group x) e v_none = clash e refl
target_sound (v_modified a x) e v_none = clash e refl
target_sound h e (v_more i f) = item_target h e (front_valid i f) (last_valid i f)

module _ (low : Depth) (S : Sound low) where
  plain_sound : {v : ℕ} (q : List Error) (ts : List ℕ) → IsNamed v → Post (λ p r. ParamOk r p) (plain_param low v q ts)
  unfolding plain_param
  plain_sound q ts h =
      post_then q (look_saw q ts) λ tok q₁ rest s. post_if
      (λ _ _. post_then q (post_both (expr_sound low S q rest) (post_success (S.s_comma q rest))) λ e q₂ r x. p_ok (is_default h (x.0.all.valid true true anyhow anyhow) x.1))
      (λ _ _. p_ok (is_required h))

  param_sound : (q : List Error) (ts : List ℕ) → Post (λ p r. ParamOk r p) (param_read low q ts)
  unfolding param_read
  param_sound q ts =
      post_then q (mode_sound q ts) λ a q₁ r m.
      post_then q₁ (expect_took Kind.Identifier Number.invalid_param q₁ r) λ name q₂ s c.
      post_then q₂ (look_saw q₂ s) λ tok q₃ rest w.
      let h = named_by name.value m (name_value name.kind name.value c.was c.fits) in
      post_if (λ _ _. variadic_sound q₂ rest h) (λ _ _. plain_sound q₂ s h)

  params_sound : (n : ℕ) (ps : Params) (q : List Error) (ts : List ℕ) → ParamsOk ts ps → Post (λ ps r. ParamsOk r ps) (params low n ps q ts)
  unfolding params
  params_sound zero ps q ts x = p_fail
  params_sound (suc n) ps q ts (all_required f) =
      post_then q (look_saw q ts) λ tok q₁ rest s. post_if (λ _ _. p_ok (all_required f)) λ _ _.
      post_then q (param_sound q ts) λ p q₂ r y.
      post_then q₂ (look_saw q₂ r) λ tok₂ q₃ rest₂ s₂.
      post_then q₂ (joined_sound tok₂ q₂ s₂ f y) λ ps₂ q₄ u j.
      post_if (λ _ c. params_sound n ps₂ q₂ rest₂ (behind_comma j c)) (λ _ _. params_sound n ps₂ q₂ r (before_end j))
  params_sound (suc n) ps q ts (with_default f v e c) =
      post_then q (look_saw q ts) λ tok q₁ rest s. post_if (λ _ _. p_ok (with_default f v e c)) (λ _ n. clash c (not_at s Kind.CloseParen n))
  params_sound (suc n) ps q ts (with_variadic f v c) =
      post_then q (look_saw q ts) λ tok q₁ rest s. post_if (λ _ _. p_ok (with_variadic f v c)) (λ _ n. clash c (not_at s Kind.CloseParen n))

  atom_target : (q : List Error) (ts : List ℕ) → eqb (kind_at ts) Kind.OpenParen ≡ false → Post (λ a r. target_atom (kind_of a) ≡ true) (atom_read low q ts)
  unfolding atom_read
  atom_target q ts n = post_then q (look_saw q ts) λ tok q₁ rest s. post_if (λ _ e. clash (is_at s Kind.OpenParen e) n) (λ _ _. literal_target tok q rest)

  assignment_target_sound : (q : List Error) (ts : List ℕ) → eqb (kind_at ts) Kind.OpenParen ≡ false → Post (λ p r. Target p) (function_assignment_target low q ts)
  unfolding function_assignment_target
  assignment_target_sound q ts n =
      post_then q (post_both (atom_sound low S q ts) (atom_target q ts n)) λ a q₁ r x.
      post_then q₁ (path_sound low S false (length r) none q₁ r v_none) λ f q₂ s h.
      expect_target Number.function_target q₂ s _ (target_sound x.0.valid x.1 h)

  function_def_sound : (name : ℕ) (q : List Error) (ts : List ℕ) → Post (λ t r. Valid (function name) t) (function_def low name q ts)
  unfolding function_def
  function_def_sound name q ts =
      post_then q (expect_took Kind.OpenParen Number.params_opening q ts) λ tok q₁ r c.
      post_then q₁ (params_sound (length r) _ q₁ r (all_required v_none)) λ ps q₂ s x.
      post_then q₂ (expect_took Kind.CloseParen Number.params_closing q₂ s) λ tok₂ q₃ u c₂.
      post_then q₃ (body_sound low S q₃ u) λ b q₄ v y.
      p_ok (function_made x (block_sound y))

  pub function_sound : (q : List Error) (ts : List ℕ) → Post (λ t r. ((b : Bool) → Valid (tight b) t) × Converts t) (function_decl_expr low q ts)
  unfolding function_decl_expr conv
  function_sound q ts =
      post_then q (look_saw q ts) λ tok q₁ rest s.
      post_if (λ _ _. post_map (λ t r x. ((λ b. v_function x), function_converts x)) (function_def_sound 0 q ts)) λ _ e.
      post_then q (assignment_target_sound q ts (not_at s Kind.OpenParen e)) λ p q₂ r x.
      post_then q₂ (function_def_sound (target_name p) q₂ r) λ d q₃ u y.
      p_ok ((λ b. v_target x y), none_sound refl)
