-- Atoms, groups, tables, paths and `...` that are read cleanly are valid. Assumes nothing.
use Rattle.std.specs.Prelude.{◌≡◌, Bool, cond, ◌&&◌, List, eqb, length}
use Rattle.std.proofs.Math.Path.{refl}
use Rattle.std.proofs.Common.{sym, subst, eqb-true}
use Rattle.std.proofs.Math.Bool.{true, false}
use Prim.Native.Nat.{ℕ, zero, suc, ◌+◌, ◌*◌, ◌/◌}
use Rattle.token.specs.Kind
use Rattle.token.specs.Look.{value_fits}
use Rattle.token.specs.declared.Token.{Token}
use Rattle.operator.specs.Operator.{level_count}
use Rattle.tree.specs.NodeKind
use Rattle.tree.specs.Tree.{Tree, Forest, node, none, snoc}
use Rattle.tree.specs.Node
use Rattle.grammar.specs.Reading.Number
use Rattle.grammar.specs.Reading.Result.{Error}
use Rattle.grammar.specs.Reading.Pattern.{conv}
use Rattle.grammar.specs.Reading.Expr.{Depth}
use Rattle.grammar.specs.Reading.Primary.{with_action, group_expr, literal, atom as atom_read, indexing_expr, field_name, table_field, table_item as table_item_read, table_items, member_access, invocation, path, with_path, primary, unpack_expr}
use Rattle.grammar.specs.Canonical.Valid.{IsName, IsNamed, read_only, read_write, Role, atom, prim, tight, ex, item, field, table_item, Valid, Valids, v_nil, v_empty_tuple, v_identifier, v_true, v_false, v_integer, v_float, v_string, v_group, v_modified, v_atom, v_primary, v_prim, v_unpack, v_ellipsis, v_attribute, v_index, v_invoke, v_invoke_table, v_field, v_field_index, v_table_item, v_none, v_more, no_argument}
use Rattle.grammar.proofs.Laws.Post.{Post, p_ok, p_fail, post_then, post_if, post_map}
use Rattle.grammar.proofs.Laws.Convert.{Converts, none_sound, unpack_sound, group_sound, modified_sound, identifier_sound, ellipsis_sound, primary_sound}
use Rattle.grammar.proofs.Laws.Views.{given_ex, arguments_sound}
use Rattle.grammar.proofs.Laws.Roles.{valids_snoc}
use Rattle.grammar.proofs.Laws.Seen.{Saw, look_saw, isnt, NotClose}
use Rattle.grammar.proofs.Laws.Sound.Base.{expect_took, name_value, OperandOk, AnyOk, Sound, anyhow, before, Keyed, no_keyword, a_keyword, keyword_sound}
use Rattle.grammar.proofs.Laws.Sound.Expr.{binop_sound, expr_sound}

-- what stands at the start of an operand and may have a path
pub record PrimOk (role : Role) (ts : List ℕ) (t : Tree) : Type 0 where
  pub valid : Valid role t
  pub converts : Converts t
  pub start : NotClose ts

string_value : (k v : ℕ) → eqb k Kind.StringLiteral ≡ true → value_fits k v ≡ true → IsName v
string_value k v e h = rw (eqb-true k Kind.StringLiteral e) at h

literal_sound : {ts rest : List ℕ} (tok : Token) (q : List Error) → Saw ts tok rest → Post (λ t r. PrimOk atom ts t) (literal tok q rest)
unfolding literal conv
literal_sound tok q s =
    post_if (λ _ e. let n = name_value tok.kind tok.value e s.fits in p_ok (record { valid = v_identifier n; converts = identifier_sound n; start = isnt s Kind.Identifier Kind.CloseParen e refl })) λ _ _.
    post_if (λ _ e. p_ok (record { valid = v_nil; converts = none_sound refl; start = isnt s Kind.Nil Kind.CloseParen e refl })) λ _ _.
    post_if (λ _ e. p_ok (record { valid = v_true; converts = none_sound refl; start = isnt s Kind.True Kind.CloseParen e refl })) λ _ _.
    post_if (λ _ e. p_ok (record { valid = v_false; converts = none_sound refl; start = isnt s Kind.False Kind.CloseParen e refl })) λ _ _.
    post_if (λ _ e. p_ok (record { valid = v_integer tok.value; converts = none_sound refl; start = isnt s Kind.IntegerLiteral Kind.CloseParen e refl })) λ _ _.
    post_if (λ _ e. p_ok (record { valid = v_float tok.value; converts = none_sound refl; start = isnt s Kind.FloatLiteral Kind.CloseParen e refl })) λ _ _.
    post_if (λ _ e. p_ok (record { valid = v_string (string_value tok.kind tok.value e s.fits); converts = none_sound refl; start = isnt s Kind.StringLiteral Kind.CloseParen e refl })) λ _ _.
    p_fail

-- an assignment is no pattern, whatever its action
with_action_converts : (a : ℕ) (t : Tree) → Converts t → Converts (with_action (suc a) t)
unfolding conv
with_action_converts a (node k v f) x = go (eqb k NodeKind.Assignment) refl
  where
    go : (b : Bool) → eqb k NodeKind.Assignment ≡ b → Converts (cond b (node k (a + 4 * (v / 4)) f) (node k v f))
    go true e = none_sound (rw (eqb-true k NodeKind.Assignment e))
    go false e = x

module _ (low : Depth) (S : Sound low) where
  grouped : {ts r s : List ℕ} {m : ℕ} {e : Tree} → Keyed ts m r → AnyOk r e s → (Valid atom (Node.group m (with_action m e))) × Converts (Node.group m (with_action m e))
  grouped (no_keyword k) x = (v_group (x.bare k true true anyhow anyhow), group_sound x.all.converts)
  grouped (a_keyword h k n) x = (v_modified h (given_ex h (x.all.valid true true anyhow anyhow)), modified_sound h (with_action_converts _ _ x.all.converts))

  group_expr_sound : (q : List Error) (ts : List ℕ) → Post (λ t r. Valid atom t × Converts t) (group_expr low q ts)
  unfolding group_expr conv
  group_expr_sound q ts =
      post_then q (look_saw q ts) λ tok q₁ rest s. post_if (λ _ e. p_ok (v_empty_tuple, none_sound refl)) λ _ _.
      post_then q (keyword_sound q ts) λ m q₂ r key.
      post_then q₂ (expr_sound low S q₂ r) λ e q₃ u x.
      post_then q₃ (expect_took Kind.CloseParen Number.group_closing q₃ u) λ tok₂ q₄ v c.
      p_ok (grouped key x)

  pub atom_sound : (q : List Error) (ts : List ℕ) → Post (λ t r. PrimOk atom ts t) (atom_read low q ts)
  unfolding atom_read
  atom_sound q ts =
      post_then q (look_saw q ts) λ tok q₁ rest s. post_if
      (λ _ e. post_map (λ t r x. record { valid = x.0; converts = x.1; start = isnt s Kind.OpenParen Kind.CloseParen e refl }) (group_expr_sound q rest))
      (λ _ _. literal_sound tok q s)

  pub indexing_sound : (q : List Error) (ts : List ℕ) → Post (λ t r. Valid (ex true false) t) (indexing_expr low q ts)
  unfolding indexing_expr
  indexing_sound q ts =
      post_then q (expr_sound low S q ts) λ e q₁ r x.
      post_then q₁ (expect_took Kind.CloseSquare Number.index_closing q₁ r) λ tok q₂ s c.
      p_ok (x.all.valid true false anyhow (before r Kind.CloseSquare c.is refl))

  -- a name behind `var` or `let`
  field_name_sound : (access : ℕ) (e : Error) (q : List Error) (ts : List ℕ) → ((n : ℕ) → IsName n → IsNamed (Node.named n access)) → Post (λ t r. Valid field t) (field_name access e q ts)
  unfolding field_name
  field_name_sound access e q ts h =
      post_then q (expect_took Kind.Identifier e q ts) λ tok q₁ r c.
      p_ok (v_field (h tok.value (name_value tok.kind tok.value c.was c.fits)))

  table_field_sound : (q : List Error) (ts : List ℕ) → Post (λ t r. Valid field t) (table_field low q ts)
  unfolding table_field
  table_field_sound q ts =
      post_then q (look_saw q ts) λ tok q₁ rest s.
      post_if (λ _ _. post_then q (indexing_sound q rest) λ e q₂ r x. p_ok (v_field_index x)) λ _ _.
      post_if (λ _ _. field_name_sound 1 _ q rest read_write) λ _ _.
      post_if (λ _ _. field_name_sound 0 _ q rest read_only) λ _ _.
      post_if (λ _ e. p_ok (v_field (read_only tok.value (name_value tok.kind tok.value e s.fits)))) λ _ _.
      p_fail

  table_item_sound : (q : List Error) (ts : List ℕ) → Post (λ t r. Valid table_item t) (table_item_read low q ts)
  unfolding table_item_read
  table_item_sound q ts =
      post_then q (table_field_sound q ts) λ f q₁ r x.
      post_then q₁ (expect_took Kind.OpAssign Number.missing_assign q₁ r) λ tok q₂ s c.
      post_then q₂ (binop_sound low S level_count q₂ s) λ e q₃ u y.
      p_ok (v_table_item x (y.valid true anyhow))

  pub table_items_sound : (n : ℕ) (f : Forest) (q : List Error) (ts : List ℕ) → Valids table_item f → Post (λ f r. Valids table_item f) (table_items low n f q ts)
  unfolding table_items
  table_items_sound zero f q ts h = p_fail
  table_items_sound (suc n) f q ts h =
      post_then q (look_saw q ts) λ tok q₁ rest s. post_if (λ _ _. p_ok h) λ _ _.
      post_then q (table_item_sound q ts) λ i q₂ r x.
      post_then q₂ (look_saw q₂ r) λ tok₂ q₃ rest₂ s₂.
      post_if (λ _ _. table_items_sound n (snoc f i) q₂ rest₂ (valids_snoc h x)) λ _ _.
      post_if (λ _ _. p_ok (valids_snoc h x)) (λ _ _. p_fail)

  invocation_sound : (q : List Error) (ts : List ℕ) → Post (λ t r. Valid (item true) t) (invocation low q ts)
  unfolding invocation
  invocation_sound q ts =
      post_then q (look_saw q ts) λ tok q₁ rest s. post_if (λ _ _. p_ok (v_invoke no_argument)) λ _ _.
      post_then q (expr_sound low S q ts) λ e q₂ r x.
      post_then q₂ (expect_took Kind.CloseParen Number.arguments_closing q₂ r) λ tok₂ q₃ u c.
      p_ok (v_invoke (arguments_sound (x.all.valid true true anyhow anyhow)))

  member_sound : (calls : Bool) (q : List Error) (ts : List ℕ) → Post (λ t r. Valid (item calls) t) (member_access q ts)
  unfolding member_access
  member_sound calls q ts =
      post_then q (expect_took Kind.Identifier Number.member_name q ts) λ tok q₁ r c.
      p_ok (v_attribute (name_value tok.kind tok.value c.was c.fits))

  -- an invocation stands only where calls are allowed
  called : {calls : Bool} {i : Tree} → calls ≡ true → Valid (item true) i → Valid (item calls) i
  called {calls} {i} e h = subst (λ c. Valid (item c) i) (sym e) h

  allowed : (calls n k : Bool) → calls && n && k ≡ true → calls ≡ true
  allowed true n k e = refl
  allowed false n k e = e

  pub path_sound : (calls : Bool) (n : ℕ) (f : Forest) (q : List Error) (ts : List ℕ) → Valids (item calls) f → Post (λ f r. Valids (item calls) f) (path low calls n f q ts)
  unfolding path
  path_sound calls zero f q ts h = p_fail
  path_sound calls (suc n) f q ts h =
      post_then q (look_saw q ts) λ tok q₁ rest s.
      post_if (λ _ _. post_then q (member_sound calls q rest) λ i q₂ r x. path_sound calls n (snoc f i) q₂ r (valids_snoc h x)) λ _ _.
      post_if (λ _ _. post_then q (indexing_sound q rest) λ e q₂ r x. path_sound calls n (snoc f (Node.index e)) q₂ r (valids_snoc h (v_index x))) λ _ _.
      post_if (λ _ e. post_then q (invocation_sound q rest) λ i q₂ r x. path_sound calls n (snoc f i) q₂ r (valids_snoc h (called (allowed calls _ _ e) x))) λ _ _.
      post_if (λ _ e. post_then q (table_items_sound (length rest) none q rest v_none) λ items q₂ r x. path_sound calls n (snoc f (Node.invoke_table items)) q₂ r (valids_snoc h (called (allowed calls _ _ e) (v_invoke_table x)))) λ _ _.
      p_ok h

  with_path_sound : {ts : List ℕ} {a : Tree} {f : Forest} → PrimOk atom ts a → Valids (item true) f → PrimOk prim ts (with_path a f)
  with_path_sound x v_none = record { valid = v_atom x.valid; converts = x.converts; start = x.start }
  with_path_sound x (v_more i f) = record { valid = v_primary x.valid i f; converts = primary_sound x.valid i f; start = x.start }

  primary_read_sound : (q : List Error) (ts : List ℕ) → Post (λ t r. PrimOk prim ts t) (primary low q ts)
  unfolding primary
  primary_read_sound q ts =
      post_then q (atom_sound q ts) λ a q₁ r x.
      post_then q₁ (path_sound true (length r) none q₁ r v_none) λ f q₂ s h.
      p_ok (with_path_sound x h)

  pub unpack_expr_sound : (q : List Error) (ts : List ℕ) → Post (λ t r. OperandOk tight ts t) (unpack_expr low q ts)
  unfolding unpack_expr
  unpack_expr_sound q ts =
      post_then q (look_saw q ts) λ tok q₁ rest s.
      post_if (λ _ e. p_ok (record { valid = λ b _. v_ellipsis; converts = ellipsis_sound; start = isnt s Kind.Ellipsis Kind.CloseParen e refl })) λ _ _.
      post_then q (primary_read_sound q ts) λ t q₂ r x.
      post_then q₂ (look_saw q₂ r) λ tok₂ q₃ rest₂ s₂. post_if
      (λ _ _. post_if (λ _ _. p_fail) (λ _ _. p_ok (record { valid = λ b _. v_unpack x.valid; converts = unpack_sound x.valid x.converts; start = x.start })))
      (λ _ _. p_ok (record { valid = λ b _. v_prim x.valid; converts = x.converts; start = x.start }))
