-- How the words of a valid tree begin. Assumes nothing.
use Rattle.std.specs.Prelude.{◌≡◌, refl, Bool, true, false, cond, ◌&&◌, ◌||◌, List, ◌∷◌, ℕ, zero, suc, pred, ◌+◌, ◌*◌, ◌/◌, ◌%◌, ◌≤◌, ◌<◌, max, eqb, leb, length}
use Rattle.std.proofs.lemmas.Bool.{false≢true}
use Rattle.std.proofs.Common.{le_refl, arith, le-leb, leb-true}
use Rattle.token.specs.Kind
use Rattle.token.specs.declared.Token.{Token}
use Rattle.operator.specs.Operator.{which_unary_op, unary_code, assign_code}
use Rattle.operator.specs.Below.{equal_below}
use Rattle.tree.specs.NodeKind
use Rattle.tree.specs.Tree.{Tree, node, two, kind_of}
use Rattle.tree.specs.Node
use Rattle.tree.specs.Choice.{pick}
use Rattle.grammar.specs.Reading.Result.{Error, Res, ok, then, ifb}
use Rattle.grammar.specs.Reading.Look.{looked, look, try_assign_keyword}
use Rattle.grammar.specs.Canonical.Write.{Place, own, modified, targeted, label, keyword, keyword_of, has_function, fun_gives, write}
use Rattle.grammar.specs.Canonical.Need.{need}
use Rattle.grammar.specs.Canonical.Valid.{Valid, Pattern, atom, prim, tight, unary, binop, assign, plain, ex, stmt, IsLabel, no_label, a_label, v_nil, v_empty_tuple, v_identifier, v_true, v_false, v_integer, v_float, v_string, v_group, v_modified, v_atom, v_primary, v_prim, v_unpack, v_ellipsis, v_table, v_function, v_target, v_if, v_block, v_labelled, v_tight, v_unary_op, v_unary, v_up, v_binary_op, v_assign, v_inner, v_single, v_tuple, v_local, v_plain, v_keyword, v_function_def, v_function_default, v_function_variadic, v_expression, v_loop, v_while, v_for, v_assert, p_identifier, p_attribute, p_index, p_tuple, p_pack, p_ellipsis, p_modifier}
use Rattle.grammar.proofs.Laws.Facts.{apart}
use Rattle.grammar.proofs.Laws.Roles.{has_target}
use Rattle.grammar.proofs.Laws.Back.Steps.{Needs, Fits, fits, symbol, word, sees, if_yes, done, enough}
use Rattle.grammar.proofs.Laws.Back.Follow.{unary_kind, assign_kind}

-- the kinds that words begin with, by what begins so. 1: atoms. 2: what binds tighter than operators. 3: unary operators. 4: keywords of assignments. 5: statements
abbrev pub grade : ℕ → ℕ
grade k =
    cond (eqb k Kind.OpenParen || eqb k Kind.Identifier || eqb k Kind.Nil || eqb k Kind.True || eqb k Kind.False || eqb k Kind.IntegerLiteral || eqb k Kind.FloatLiteral || eqb k Kind.StringLiteral) 1
    (cond (eqb k Kind.Ellipsis || eqb k Kind.OpenBrace || eqb k Kind.Fun || eqb k Kind.If || eqb k Kind.Begin) 2
    (cond (eqb k Kind.OpAdd || eqb k Kind.OpSub || eqb k Kind.OpInv || eqb k Kind.Not) 3
    (cond (eqb k Kind.Local || eqb k Kind.NonLocal || eqb k Kind.Let || eqb k Kind.Var) 4
    (cond (eqb k Kind.Loop || eqb k Kind.While || eqb k Kind.For || eqb k Kind.Assert || eqb k Kind.Label) 5
    6))))

-- a kind of the grade n or less, or where b a label
abbrev pub begins : Bool → ℕ → ℕ → Bool
begins b n k = leb (grade k) n || (eqb k Kind.Label && b)

pub data Begins (b : Bool) (n k : ℕ) : Type 0 where
  begun : begins b n k ≡ true → Begins b n k

-- another kind is not seen there
pub isnt : {b : Bool} {n k : ℕ} → Begins b n k → (c : ℕ) → begins b n c ≡ false → eqb k c ≡ false
isnt {b} {n} {k} (begun h) c g = apart (begins b n) k c h g

-- the words begin so
pub data Starts (b : Bool) (n : ℕ) : List ℕ → Type 0 where
  starts : {k v : ℕ} {s : List ℕ} → Fits k v → Begins b n k → Starts b n (k ∷ v ∷ s)

pub starts_length : {b : Bool} {n : ℕ} {r : List ℕ} → Starts b n r → 2 ≤ length r
starts_length (starts h g) = omega arith

or_right : (x y : Bool) → y ≡ true → x || y ≡ true
or_right true y e = refl
or_right false y e = e

wider : {b c : Bool} {m n : ℕ} {r : List ℕ} → m ≤ n → (b ≡ true → c ≡ true) → Starts b m r → Starts c n r
wider {b} {c} {m} {n} l f (starts {k = k} t (begun h)) = starts t (begun (go (leb (grade k) m) refl (eqb k Kind.Label) h))
  where
    go : (x : Bool) → leb (grade k) m ≡ x → (y : Bool) → x || (y && b) ≡ true → leb (grade k) n || (y && c) ≡ true
    go true e y g = let i = leb-true (grade k) m e in rw (le-leb (grade k) n (omega arith))
    go false e true g = or_right (leb (grade k) n) c (f g)
    go false e false g = absurd (false≢true g)

-- where no label is meant, and where one may be
pub up : {b : Bool} {m n : ℕ} {r : List ℕ} → m ≤ n → Starts b m r → Starts b n r
up l h = wider l (λ e. e) h

any : {b : Bool} {m n : ℕ} {r : List ℕ} → m ≤ n → Starts false m r → Starts b n r
any l h = wider l (λ e. absurd (false≢true e)) h

-- a look at such a token
pub first_is : {A : Type 0} {b : Bool} {i : ℕ} {r : List ℕ} (q : List Error) (go : Token → List Error → List ℕ → Res A) {n d : ℕ} {y : Res A}
    → Starts b i r → ((k v : ℕ) (s : List ℕ) → Begins b i k → Needs n d (go (word k v) q s) y) → Needs n d (then q (look q r) go) y
first_is q go (starts t h) f = sees q _ go t (f _ _ _ h)

-- no keyword
pub no_keyword : {b : Bool} {r : List ℕ} (q : List Error) → Starts b 3 r → try_assign_keyword q r ≡ ok 0 r
unfolding try_assign_keyword
no_keyword q h = enough (first_is q _ h λ k v s e. if_yes _ _ (rw (isnt e Kind.Local refl, isnt e Kind.NonLocal refl, isnt e Kind.Let refl, isnt e Kind.Var refl)) done) (le_refl 0)

-- a keyword
pub keyword_seen : (a : ℕ) → a < 4 → (q s : List ℕ) → try_assign_keyword q (keyword_of a ∷ 0 ∷ s) ≡ ok (suc a) s
unfolding try_assign_keyword look looked then ifb
keyword_seen zero h q s = refl
keyword_seen (suc zero) h q s = refl
keyword_seen (suc (suc zero)) h q s = refl
keyword_seen (suc (suc (suc zero))) h q s = refl
keyword_seen (suc (suc (suc (suc a)))) h q s = absurd (omega arith)

pub keyword_starts : (a : ℕ) → a < 4 → {b : Bool} {s : List ℕ} → Starts b 4 (keyword_of a ∷ 0 ∷ s)
keyword_starts zero h = starts (fits refl) (begun refl)
keyword_starts (suc zero) h = starts (fits refl) (begun refl)
keyword_starts (suc (suc zero)) h = starts (fits refl) (begun refl)
keyword_starts (suc (suc (suc zero))) h = starts (fits refl) (begun refl)
keyword_starts (suc (suc (suc (suc a)))) h = absurd (omega arith)

-- the words of an assignment
pub assign_own : {a : ℕ} (lhs rhs : Tree) (k : ℕ) → a < 4 → eqb (assign_code k) 0 ≡ false
    → (fun_gives own (a + 4 * pred (assign_code k)) && has_function (two lhs rhs)) ≡ false
    → (r : List ℕ) → write (Node.assignment a (pred (assign_code k)) lhs rhs) own r ≡ keyword a (write lhs own (k ∷ 0 ∷ write rhs own r))
unfolding write
assign_own {a} lhs rhs k l c e r =
    let n : ℕ = pred (assign_code k) in
    let f : (a + 4 * n) % 4 ≡ a = omega arith in
    let g : (a + 4 * n) / 4 ≡ n = omega arith in
    rw (e, f, g, (assign_kind k c).1)

pub assign_modified : {a : ℕ} (lhs rhs : Tree) (k : ℕ) → a < 4 → eqb (assign_code k) 0 ≡ false
    → (fun_gives modified (a + 4 * pred (assign_code k)) && has_function (two lhs rhs)) ≡ false
    → (r : List ℕ) → write (Node.assignment a (pred (assign_code k)) lhs rhs) modified r ≡ write lhs own (k ∷ 0 ∷ write rhs own r)
unfolding write
assign_modified {a} lhs rhs k l c e r =
    let n : ℕ = pred (assign_code k) in
    let g : (a + 4 * n) / 4 ≡ n = omega arith in
    rw (e, g, (assign_kind k c).1)

-- `fun` with a target is written so
pub target_words : (l : Place) (v : ℕ) (p d : Tree) → fun_gives l v ≡ true → has_function (two p d) ≡ true → (r : List ℕ)
    → write (node NodeKind.Assignment v (two p d)) l r ≡ Kind.Fun ∷ 0 ∷ write p own (write d targeted r)
unfolding write
target_words l v p d e f r = rw (e, f)

pub target_depth : (l : Place) (v : ℕ) (p d : Tree) → fun_gives l v ≡ true → has_function (two p d) ≡ true → need (node NodeKind.Assignment v (two p d)) l ≡ max (need p own) (need d own)
unfolding need
target_depth l v p d e f = rw (e, f)

-- each role
atom_starts : {t : Tree} → Valid atom t → (r : List ℕ) → Starts false 1 (write t own r)
unfolding write
atom_starts v_nil r = starts (fits refl) (begun refl)
atom_starts v_empty_tuple r = starts (fits refl) (begun refl)
atom_starts (v_identifier h) r = starts (fits h) (begun refl)
atom_starts v_true r = starts (fits refl) (begun refl)
atom_starts v_false r = starts (fits refl) (begun refl)
atom_starts (v_integer v) r = starts (fits refl) (begun refl)
atom_starts (v_float v) r = starts (fits refl) (begun refl)
atom_starts (v_string h) r = starts (fits h) (begun refl)
atom_starts (v_group h) r = starts (fits refl) (begun refl)
atom_starts (v_modified l h) r = starts (fits refl) (begun refl)

pub prim_starts : {t : Tree} → Valid prim t → (r : List ℕ) → Starts false 1 (write t own r)
unfolding write
prim_starts (v_atom h) r = atom_starts h r
prim_starts (v_primary h i g) r = atom_starts h _

pub pattern_starts : {p : Tree} → Pattern p → (r : List ℕ) → Starts false 2 (write p own r)
unfolding write
pattern_starts (p_identifier h) r = starts (fits h) (begun refl)
pattern_starts (p_attribute h g i) r = up (omega arith) (atom_starts h _)
pattern_starts (p_index h g i) r = up (omega arith) (atom_starts h _)
pattern_starts (p_tuple h g) r = starts (fits refl) (begun refl)
pattern_starts (p_pack {p = p} h) r = go (eqb (kind_of p) NodeKind.Pack) _ _ (pattern_starts h _)
  where
    go : (b : Bool) (x y : List ℕ) → Starts false 2 y → Starts false 2 (pick b (λ _. Kind.OpenParen ∷ 0 ∷ x) (λ _. y))
    go true x y h = starts (fits refl) (begun refl)
    go false x y h = h
pattern_starts p_ellipsis r = starts (fits refl) (begun refl)
pattern_starts (p_modifier l h) r = starts (fits refl) (begun refl)

pub tight_starts : {b : Bool} {t : Tree} → Valid (tight b) t → (r : List ℕ) → Starts b 2 (write t own r)
unfolding write
tight_starts (v_prim h) r = any (omega arith) (prim_starts h r)
tight_starts (v_unpack h) r = any (omega arith) (prim_starts h _)
tight_starts v_ellipsis r = starts (fits refl) (begun refl)
tight_starts (v_table h) r = starts (fits refl) (begun refl)
tight_starts (v_function (v_function_def h g)) r = starts (fits refl) (begun refl)
tight_starts (v_function (v_function_default h i e g)) r = starts (fits refl) (begun refl)
tight_starts (v_function (v_function_variadic h i g)) r = starts (fits refl) (begun refl)
tight_starts (v_target {p = p} {d = d} t h) r = rw (target_words own 2 p d refl (has_target t h) r) (starts (fits refl) (begun refl))
tight_starts (v_if h g e) r = starts (fits refl) (begun refl)
tight_starts (v_block h) r = starts (fits refl) (begun refl)
tight_starts (v_labelled h g) r = starts (fits h) (begun refl)

unary_grade : (k : ℕ) → k < 76 → cond (eqb (unary_code k) 0) 3 (grade k) ≡ 3
unfolding unary_code which_unary_op
unary_grade = equal_below (λ k. cond (eqb (unary_code k) 0) 3 (grade k)) (λ k. 3) 76 tt

unary_begins : {b : Bool} (k : ℕ) → k < 76 → eqb (unary_code k) 0 ≡ false → Begins b 3 k
unary_begins k h e = let g : grade k ≡ 3 = rw e at (unary_grade k h) in begun (rw g)

unary_starts : {b : Bool} {t : Tree} → Valid (unary b) t → (r : List ℕ) → Starts b 3 (write t own r)
unfolding write
unary_starts (v_tight h) r = up (omega arith) (tight_starts h r)
unary_starts (v_unary_op k e h) r = let u = unary_kind k e in rw u.1 (starts (symbol k u.0) (unary_begins k u.0 e))

pub binop_starts : {b : Bool} {l : ℕ} {t : Tree} → Valid (binop b l) t → (r : List ℕ) → Starts b 3 (write t own r)
unfolding write
binop_starts (v_unary h) r = unary_starts h r
binop_starts (v_up h) r = binop_starts h r
binop_starts (v_binary_op k e h g) r = binop_starts h _

pub plain_starts : {b c : Bool} {t : Tree} → Valid (plain b c) t → (r : List ℕ) → Starts b 3 (write t own r)
unfolding write
plain_starts (v_inner h) r = binop_starts h r
plain_starts (v_single h) r = binop_starts h _
plain_starts (v_tuple h g i) r = binop_starts h _
plain_starts (v_local (v_assign {lhs = p} {rhs = t} k c h g e)) r = rw (assign_own p t k (omega arith) c e r) (any (omega arith) (pattern_starts h _))

-- an assignment with a keyword, the a-th, begins with it
assign_starts : {b c : Bool} (a : ℕ) {t : Tree} → a < 3 → Valid (assign own c (suc a)) t → (r : List ℕ) → Starts b 4 (write t own r)
unfolding write
assign_starts a l (v_assign {lhs = p} {rhs = t} k c h g e) r = rw (assign_own p t k (omega arith) c e r) (keyword_starts (suc a) (omega arith))

pub ex_starts : {b c : Bool} {t : Tree} → Valid (ex b c) t → (r : List ℕ) → Starts b 4 (write t own r)
unfolding write
ex_starts (v_plain h) r = up (omega arith) (plain_starts h r)
ex_starts (v_keyword {a = a} l h) r = assign_starts a l h r

label_starts : {l k : ℕ} (s : List ℕ) → IsLabel l → k < 76 → Begins false 5 k → Starts false 5 (label l (k ∷ 0 ∷ s))
label_starts s no_label h g = starts (symbol _ h) g
label_starts s (a_label n) h g = starts (fits n) (begun refl)

pub stmt_starts : {t : Tree} → Valid stmt t → (r : List ℕ) → Starts false 5 (write t own r)
unfolding write
stmt_starts (v_expression h e) r = up (omega arith) (ex_starts h r)
stmt_starts (v_loop l h) r = label_starts _ l (omega arith) (begun refl)
stmt_starts (v_while l h g) r = label_starts _ l (omega arith) (begun refl)
stmt_starts (v_for l p h g) r = label_starts _ l (omega arith) (begun refl)
stmt_starts (v_assert h) r = starts (fits refl) (begun refl)
