-- What is shown of a clean reading's success: the tokens that were taken, and in which roles a tree is valid, by what stands before and behind it. Assumes nothing.
use Rattle.std.specs.Prelude.{◌≡◌, refl, Bool, true, false, cond, ◌&&◌, List, ℕ, zero, suc, pred, ◌+◌, ◌*◌, ◌<◌, eqb, Option, Some, None}
use Rattle.std.proofs.Common.{sym, subst, arith, eqb-true}
use Rattle.token.specs.Kind
use Rattle.token.specs.Look.{value_fits}
use Rattle.token.specs.declared.Token.{Token}
use Rattle.operator.specs.Operator.{assign_code, level_count}
use Rattle.tree.specs.NodeKind
use Rattle.tree.specs.Tree.{Tree, Forest, node, more, one, two, snoc}
use Rattle.tree.specs.Node
use Rattle.grammar.specs.Reading.Result.{Error, Res}
use Rattle.grammar.specs.Reading.Look.{expect, expect_pattern, keyword, try_assign_keyword, action}
use Rattle.grammar.specs.Reading.Pattern.{conv, to_pattern}
use Rattle.grammar.specs.Reading.Expr.{Stmts, Depth, operators}
use Rattle.grammar.specs.Canonical.Write.{own, fun_gives, has_function}
use Rattle.grammar.specs.Canonical.Valid.{IsName, Role, unary, binop, assign, plain, ex, stmt, control, Valid, Valids, Pattern, v_binary_op, v_assign, v_inner, v_single, v_tuple, v_local, v_plain, v_keyword, v_none, v_target, tight}
use Rattle.grammar.proofs.Laws.Facts.{clash, other, by_test, and_l, and_r}
use Rattle.grammar.proofs.Laws.Commas.{NoCommaBehind}
use Rattle.grammar.proofs.Laws.Seen.{kind_at, look_saw, is_at, NotClose, NotLabel}
use Rattle.grammar.proofs.Laws.Post.{Post, p_ok, p_fail, post_then, post_if}
use Rattle.grammar.proofs.Laws.Convert.{PatternOk, no_pattern, a_pattern, Converts, Convert, c_none, c_more, convert_snoc, none_sound, tuple_sound}
use Rattle.grammar.proofs.Laws.Roles.{as_inner, valids_snoc}
use Rattle.grammar.proofs.Laws.Views.{fun_of}

-- a token of the kind k was taken
pub record Took (k : ℕ) (ts : List ℕ) (tok : Token) : Type 0 where
  pub is : eqb (kind_at ts) k ≡ true
  pub was : eqb tok.kind k ≡ true
  pub fits : value_fits tok.kind tok.value ≡ true

pub expect_took : (k : ℕ) (e : Error) (q : List Error) (ts : List ℕ) → Post (λ tok r. Took k ts tok) (expect k e q ts)
unfolding expect
expect_took k e q ts =
    post_then q (look_saw q ts) λ tok q₁ r s.
    post_if (λ _ h. p_ok (record { is = is_at s k h; was = h; fits = s.fits })) (λ _ _. p_fail)

-- a token that is a name
pub name_value : (k v : ℕ) → eqb k Kind.Identifier ≡ true → value_fits k v ≡ true → IsName v
name_value k v e h = rw (eqb-true k Kind.Identifier e) at h

-- an operand, in a role that depends on whether a label may come first
pub record OperandOk (role : Bool → Role) (ts : List ℕ) (t : Tree) : Type 0 where
  pub valid : (b : Bool) → (b ≡ false → NotLabel ts) → Valid (role b) t
  pub converts : Converts t
  pub start : NotClose ts

-- an expression from ts to r, in a role that depends on that and on whether `)` comes next
pub record ExprOk (role : Bool → Bool → Role) (ts : List ℕ) (t : Tree) (r : List ℕ) : Type 0 where
  pub valid : (b c : Bool) → (b ≡ false → NotLabel ts) → (c ≡ false → NotClose r) → Valid (role b c) t
  pub converts : Converts t
  pub start : NotClose ts

-- without a keyword it is plain
pub record AnyOk (ts : List ℕ) (t : Tree) (r : List ℕ) : Type 0 where
  pub all : ExprOk ex ts t r
  pub bare : eqb (keyword (kind_at ts)) 0 ≡ true → (b c : Bool) → (b ≡ false → NotLabel ts) → (c ≡ false → NotClose r) → Valid (plain b c) t

pub record ListOk (s : Stmts) : Type 0 where
  pub suite : Valids stmt s.suite
  pub jump : Valid control s.control

pub record Sound (low : Depth) : Type 0 where
  pub s_unary : (q : List Error) (ts : List ℕ) → Post (λ t r. OperandOk unary ts t) (low.unary q ts)
  pub s_right : (q : List Error) (ts : List ℕ) → Post (AnyOk ts) (low.right q ts)
  pub s_list : (end : ℕ) (q : List Error) (ts : List ℕ) → Post (λ s r. ListOk s) (low.list end q ts)
  pub s_comma : NoCommaBehind low

-- nothing is asked where a label may come first, or where `)` may come next
pub anyhow : {A : Type 0} → true ≡ false → A
anyhow e = clash refl e

-- behind a token that is not `)`
pub before : (r : List ℕ) (k : ℕ) → eqb (kind_at r) k ≡ true → eqb k Kind.CloseParen ≡ false → false ≡ false → NotClose r
before r k e h _ = other (kind_at r) k Kind.CloseParen e h

pub operators_sound : (l : ℕ) (operand : List Error → List ℕ → Res Tree) → ((q : List Error) (ts : List ℕ) → Post (λ t r. OperandOk (λ b. binop b l) ts t) (operand q ts))
    → (us : List ℕ) (n : ℕ) (left : Tree) (q : List Error) (ts : List ℕ) → OperandOk (λ b. binop b (suc l)) us left → Post (λ t r. OperandOk (λ b. binop b (suc l)) us t) (operators operand (suc l) n left q ts)
unfolding operators conv
operators_sound l operand H us zero left q ts x = p_fail
operators_sound l operand H us (suc n) left q ts x =
    post_then q (look_saw q ts) λ tok q₁ rest s. post_if
    (λ _ e. post_then q (H q rest) λ right q₂ r y.
    operators_sound l operand H us n _ q₂ r (record {
      valid = λ b h. v_binary_op tok.kind (eqb-true _ _ e) (x.valid b h) (y.valid true anyhow);
      converts = none_sound refl;
      start = x.start;
    }))
    (λ _ _. p_ok x)

-- the members of a tuple: one, with a comma behind it, or more
pub data MembersOk (us ts : List ℕ) : Forest → Type 0 where
  first : {t : Tree} → OperandOk (λ b. binop b level_count) us t → eqb (kind_at ts) Kind.Comma ≡ true → MembersOk us ts (one t)
  others : {t u : Tree} {f : Forest} → OperandOk (λ b. binop b level_count) us t → Valid (binop true level_count) u → Valids (binop true level_count) f → Convert (more u f) → MembersOk us ts (more t (more u f))

pub members_snoc : {us ts ss : List ℕ} {f : Forest} {t : Tree} → MembersOk us ts f → Valid (binop true level_count) t → Converts t → MembersOk us ss (snoc f t)
unfolding snoc
members_snoc (first x c) h d = others x h v_none (c_more d c_none)
members_snoc (others x g f c) h d = others x g (valids_snoc f h) (convert_snoc c d)

-- a tuple that ends before r
pub tuple_made : {us ts : List ℕ} {f : Forest} (r : List ℕ) → MembersOk us ts f → (eqb (kind_at ts) Kind.Comma ≡ true → eqb (kind_at r) Kind.CloseParen ≡ true) → ExprOk plain us (Node.tuple f) r
tuple_made r (first {t = t} x c) close = record {
  valid = λ b c' h g. single b c' (x.valid b h) g;
  converts = tuple_sound (c_more x.converts c_none);
  start = x.start;
}
  where
    single : (b c' : Bool) → Valid (binop b level_count) t → (c' ≡ false → NotClose r) → Valid (plain b c') (Node.tuple (one t))
    single b true h g = v_single h
    single b false h g = clash (close c) (g refl)
tuple_made r (others x g f c) close = record {
  valid = λ b c' h i. v_tuple (x.valid b h) g f;
  converts = tuple_sound (c_more x.converts c);
  start = x.start;
}

-- a keyword that was taken, 1 + its action, or none
pub data Keyed (ts : List ℕ) : ℕ → List ℕ → Type 0 where
  no_keyword : eqb (keyword (kind_at ts)) 0 ≡ true → Keyed ts 0 ts
  a_keyword : {a : ℕ} {r : List ℕ} → a < 4 → eqb (keyword (kind_at ts)) 0 ≡ false → NotClose ts → Keyed ts (suc a) r

-- the keywords and their actions
data Action (k : ℕ) : ℕ → Type 0 where
  no_action : Action k 0
  an_action : {a : ℕ} → a < 4 → eqb k Kind.CloseParen ≡ false → Action k (suc a)

action_of : (k : ℕ) → Action k (keyword k)
action_of k =
    go (eqb k Kind.Local) refl (eqb k Kind.NonLocal) refl (eqb k Kind.Let) refl (eqb k Kind.Var) refl
  where
    go : (a : Bool) → eqb k Kind.Local ≡ a → (b : Bool) → eqb k Kind.NonLocal ≡ b → (c : Bool) → eqb k Kind.Let ≡ c → (d : Bool) → eqb k Kind.Var ≡ d
        → Action k (cond a 1 (cond b 2 (cond c 3 (cond d 4 0))))
    go true e b f c g d h = an_action {a = 0} (omega arith) (other k Kind.Local Kind.CloseParen e refl)
    go false e true f c g d h = an_action {a = 1} (omega arith) (other k Kind.NonLocal Kind.CloseParen f refl)
    go false e false f true g d h = an_action {a = 2} (omega arith) (other k Kind.Let Kind.CloseParen g refl)
    go false e false f false g true h = an_action {a = 3} (omega arith) (other k Kind.Var Kind.CloseParen h refl)
    go false e false f false g false h = no_action

pub keyword_sound : (q : List Error) (ts : List ℕ) → Post (Keyed ts) (try_assign_keyword q ts)
unfolding try_assign_keyword
keyword_sound q ts =
    post_then q (look_saw q ts) λ tok q₁ r s. post_if
    (λ _ e. p_ok (no_keyword (rw (sym s.at) e)))
    (λ _ e. p_ok (taken tok.kind (keyword tok.kind) s.at (action_of tok.kind) e (rw (sym s.at) e)))
  where
    taken : {r : List ℕ} (k m : ℕ) → k ≡ kind_at ts → Action k m → eqb m 0 ≡ false → eqb (keyword (kind_at ts)) 0 ≡ false → Keyed ts m r
    taken k m h no_action e f = clash refl e
    taken k m h (an_action a c) e f = a_keyword a f (rw (sym h) c)

pub pattern_sound : (e : Error) (q : List Error) (ts : List ℕ) {t : Tree} → Converts t → Post (λ p r. Pattern p × (r ≡ ts)) (expect_pattern e (to_pattern t) q ts)
unfolding expect_pattern
pattern_sound e q ts {t} x = go (to_pattern t) x.as_is
  where
    go : (m : Option Tree) → PatternOk m → Post (λ p r. Pattern p × (r ≡ ts)) (expect_pattern e m q ts)
    go None no_pattern = p_fail
    go (Some p) (a_pattern h) = p_ok (h, refl)

-- an assignment: `fun` gives it, or its own form
data AssignOk (c : Bool) (a : ℕ) (t : Tree) : Type 0 where
  by_fun : ((b : Bool) → Valid (tight b) t) → AssignOk c a t
  by_assign : Valid (assign own c a) t → AssignOk c a t

assign_ok : {c : Bool} {p e : Tree} (a k : ℕ) → eqb (assign_code k) 0 ≡ false → Pattern p → Valid (ex true c) e → AssignOk c a (Node.assignment a (pred (assign_code k)) p e)
assign_ok {c} {p} {e} a k n h x =
    by_test (fun_gives own (a + 4 * pred (assign_code k)) && has_function (two p e))
    (λ y.
    let f = fun_of h x (and_r (fun_gives own (a + 4 * pred (assign_code k))) (has_function (two p e)) y) in
    by_fun λ b. subst (λ v. Valid (tight b) (node NodeKind.Assignment v (two p e)))
    (sym (eqb-true (a + 4 * pred (assign_code k)) 2 (and_l (fun_gives own (a + 4 * pred (assign_code k))) (has_function (two p e)) y)))
    (v_target f.to f.of))
    (λ z. by_assign (v_assign k n h x z))

plain_of : {b c : Bool} {t : Tree} → AssignOk c 0 t → Valid (plain b c) t
plain_of {b} (by_fun f) = v_inner (as_inner (f b))
plain_of (by_assign h) = v_local h

ex_of : {b c : Bool} {a : ℕ} {t : Tree} → a < 4 → AssignOk c a t → Valid (ex b c) t
ex_of {b} {a = zero} h (by_fun f) = v_plain (v_inner (as_inner (f b)))
ex_of {b} {a = suc a} h (by_fun f) = v_plain (v_inner (as_inner (f b)))
ex_of {a = zero} h (by_assign x) = v_plain (v_local x)
ex_of {a = suc a} h (by_assign x) = v_keyword {a = a} (omega arith) x

-- what is no assignment has no keyword
pub plain_any : {ts r s : List ℕ} {m : ℕ} {t : Tree} → Keyed ts m r → eqb m 0 ≡ true → ExprOk plain r t s → AnyOk ts t s
plain_any (no_keyword k) z x = record {
  all = record { valid = λ b c h g. v_plain (x.valid b c h g); converts = x.converts; start = x.start };
  bare = λ _. x.valid;
}
plain_any (a_keyword {a = a} h k n) z x = let e = eqb-true (suc a) 0 z in absurd (omega arith)

pub assigned : {ts r u v : List ℕ} {m : ℕ} {p e : Tree} (k : ℕ) → Keyed ts m r → NotClose r → eqb (assign_code k) 0 ≡ false → Pattern p → AnyOk u e v
    → AnyOk ts (Node.assignment (action m) (pred (assign_code k)) p e) v
unfolding conv
assigned k (no_keyword w) c n h z = record {
  all = record {
    valid = λ b c' _ g. v_plain (plain_of (assign_ok 0 k n h (z.all.valid true c' anyhow g)));
    converts = none_sound refl;
    start = c;
  };
  bare = λ _ b c' _ g. plain_of (assign_ok 0 k n h (z.all.valid true c' anyhow g));
}
assigned k (a_keyword {a = a} ha w nc) c n h z = record {
  all = record {
    valid = λ b c' _ g. ex_of ha (assign_ok a k n h (z.all.valid true c' anyhow g));
    converts = none_sound refl;
    start = nc;
  };
  bare = λ y. clash y w;
}
