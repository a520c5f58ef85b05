-- The kinds of operators, and what may follow a tree's words in canonical tokens: one symbol, by a rank that says what it could go on with. Assumes nothing.
use Rattle.std.specs.Prelude.{◌≡◌, refl, ◌≢◌, Bool, true, false, cond, ◌&&◌, ◌||◌, List, ◌∷◌, ℕ, suc, pred, ◌+◌, ◌-◌, ◌≤◌, ◌<◌, min, eqb, ltb}
use Rattle.std.proofs.Common.{ap, ◌∙◌, le_trans, arith, ne_eqb, eq-eqb, leb-true}
use Rattle.token.specs.Kind
use Rattle.operator.specs.Operator.{level_count, which_binary_op, which_assignment_op, op_level, op_number, op_token, unary_code, unary_token, assign_code, assign_token, no_token}
use Rattle.operator.specs.Laws.{op_far, unary_far, assign_far, near, op_token_number, unary_token_code, assign_token_code}
use Rattle.operator.specs.Below.{equal_below, most_below}
use Rattle.std.proofs.lemmas.Bool.{eqb-false}
use Rattle.grammar.proofs.Laws.Facts.{and_l, and_r}

-- operators are kinds of symbols
pub op_kind : (k : ℕ) {l : ℕ} → op_level k ≡ suc l → (k < 76) × (op_token (op_number k) ≡ k)
op_kind k e =
    let h = near (op_level k) k op_far (omega arith) in
    (h, op_token_number k (omega arith) (omega arith))

-- the same of a code that is 1 + the place of its token
code_kind : (code token : ℕ → ℕ) (k : ℕ) → (76 ≤ k → code k ≡ 0) → (k < no_token → 0 < code k → token (code k - 1) ≡ k) → eqb (code k) 0 ≡ false → (k < 76) × (token (pred (code k)) ≡ k)
code_kind code token k far back e =
    let p : code k ≢ 0 = eqb-false (code k) 0 e in
    let h = near (code k) k far p in
    (h, ap token (omega arith) ∙ back (omega arith) (omega arith))

pub unary_kind : (k : ℕ) → eqb (unary_code k) 0 ≡ false → (k < 76) × (unary_token (pred (unary_code k)) ≡ k)
unary_kind k = code_kind unary_code unary_token k unary_far (unary_token_code k)

pub assign_kind : (k : ℕ) → eqb (assign_code k) 0 ≡ false → (k < 76) × (assign_token (pred (assign_code k)) ≡ k)
assign_kind k = code_kind assign_code assign_token k assign_far (assign_token_code k)

-- what a symbol could go on with. 0: a path. 1: an operand, as `...`. 1 + l: an operand of the level l. Above these: a tuple, an assignment, nothing
abbrev pub comma_rank : ℕ
comma_rank = level_count + 2

abbrev pub assign_rank : ℕ
assign_rank = level_count + 3

abbrev pub end_rank : ℕ
end_rank = level_count + 4

unfoldable pub rank : ℕ → ℕ
rank k =
    cond (eqb (assign_code k) 0)
    (cond (eqb (op_level k) 0)
    (cond (eqb k Kind.OpAccess || eqb k Kind.OpenSquare || eqb k Kind.OpenParen || eqb k Kind.OpenBrace) 0
    (cond (eqb k Kind.Ellipsis) 1
    (cond (eqb k Kind.Comma) comma_rank
    end_rank)))
    (suc (op_level k)))
    assign_rank

-- a symbol of the rank n or more comes next
pub data Follows (n : ℕ) : List ℕ → Type 0 where
  follows : {k : ℕ} {s : List ℕ} → k < 76 → n ≤ rank k → Follows n (k ∷ 0 ∷ s)

pub weaker : {m n : ℕ} {r : List ℕ} → m ≤ n → Follows n r → Follows m r
weaker l (follows h g) = follows h (le_trans l g)

-- the ranks of operators
apart_codes : (k : ℕ) → k < 76 → min (assign_code k) (op_level k) ≤ 0
unfolding assign_code which_assignment_op op_level which_binary_op
apart_codes = most_below (λ k. min (assign_code k) (op_level k)) (λ k. 0) 76 tt

pub rank_op : (k : ℕ) {l : ℕ} → op_level k ≡ suc l → rank k ≡ suc (suc l)
unfolding rank
rank_op k e =
    let z = apart_codes k (op_kind k e).0 in
    rw (eq-eqb (assign_code k) 0 (omega arith), ne_eqb (op_level k) 0 (omega arith), e)

pub rank_assign : (k : ℕ) → eqb (assign_code k) 0 ≡ false → rank k ≡ assign_rank
unfolding rank
rank_assign k e = rw e

-- the symbols that end an expression, and others
abbrev pub closes : ℕ → Bool
closes k =
    eqb k Kind.CloseParen || eqb k Kind.CloseSquare || eqb k Kind.CloseBrace || eqb k Kind.Semicolon || eqb k Kind.Then || eqb k Kind.Elif
    || eqb k Kind.Else || eqb k Kind.In || eqb k Kind.Do || eqb k Kind.End

ranks : (k : ℕ) → k < 76 → cond (closes k) (rank k) end_rank ≡ end_rank
unfolding rank assign_code which_assignment_op op_level which_binary_op
ranks = equal_below (λ k. cond (closes k) (rank k) end_rank) (λ k. end_rank) 76 tt

pub ends : {k : ℕ} {s : List ℕ} → ltb k 76 && closes k ≡ true → Follows end_rank (k ∷ 0 ∷ s)
ends {k} e =
    let h = leb-true (suc k) 76 (and_l (ltb k 76) (closes k) e) in
    let c : cond (closes k) (rank k) end_rank ≡ end_rank = ranks k h in
    let g : rank k ≡ end_rank = rw (and_r (ltb k 76) (closes k) e) at c in
    follows h (omega arith)

pub comma : {s : List ℕ} → Follows comma_rank (Kind.Comma ∷ 0 ∷ s)
unfolding rank assign_code which_assignment_op op_level which_binary_op
comma = follows {k = Kind.Comma} (omega arith) (omega arith)

pub ellipsis : {s : List ℕ} → Follows 1 (Kind.Ellipsis ∷ 0 ∷ s)
unfolding rank assign_code which_assignment_op op_level which_binary_op
ellipsis = follows {k = Kind.Ellipsis} (omega arith) (omega arith)

-- what does not come next
no_kind : (k c : ℕ) {n : ℕ} → n ≤ rank k → rank c < n → eqb k c ≡ false
no_kind k c h g = ne_eqb k c λ e. let z : rank k ≡ rank c = ap rank e in absurd (omega arith)

pub no_path : (k : ℕ) → 1 ≤ rank k → (eqb k Kind.OpAccess ≡ false) × (eqb k Kind.OpenSquare ≡ false) × (eqb k Kind.OpenParen ≡ false) × (eqb k Kind.OpenBrace ≡ false)
unfolding rank assign_code which_assignment_op op_level which_binary_op
no_path k h = (no_kind k Kind.OpAccess h (omega arith), no_kind k Kind.OpenSquare h (omega arith), no_kind k Kind.OpenParen h (omega arith), no_kind k Kind.OpenBrace h (omega arith))

pub no_ellipsis : (k : ℕ) → 2 ≤ rank k → eqb k Kind.Ellipsis ≡ false
unfolding rank assign_code which_assignment_op op_level which_binary_op
no_ellipsis k h = no_kind k Kind.Ellipsis h (omega arith)

pub no_comma : (k : ℕ) → assign_rank ≤ rank k → eqb k Kind.Comma ≡ false
unfolding rank assign_code which_assignment_op op_level which_binary_op
no_comma k h = no_kind k Kind.Comma h (omega arith)

pub no_op : (k l : ℕ) → suc (suc (suc l)) ≤ rank k → eqb (op_level k) (suc l) ≡ false
no_op k l h = ne_eqb (op_level k) (suc l) λ e. let z = rank_op k e in absurd (omega arith)

pub no_assign : (k : ℕ) → end_rank ≤ rank k → eqb (assign_code k) 0 ≡ true
no_assign k h = go (eqb (assign_code k) 0) refl
  where
    go : (b : Bool) → eqb (assign_code k) 0 ≡ b → b ≡ true
    go true e = refl
    go false e = let z = rank_assign k e in absurd (omega arith)
