-- Laws of the operators' tables at all token kinds or all numbers: below a bound by one test that antt computes, and past the symbols there is no operator. Assumes nothing.
use Rattle.std.specs.Prelude.{Option, Some, None, ◌≡◌, refl, ◌≢◌, true, false, List, [], ◌∷◌, ℕ, zero, suc, ◌-◌, ◌≤◌, ◌<◌, T, eqb, ltb, leb, length, get_or}
use Rattle.std.proofs.Common.{ap, ⊎_elim, eq-zero-or-pos, arith, eqb→eq, ne_eqb, leb-true}
use Rattle.operator.specs.declared.BinaryOp.{BinaryOp}
use Rattle.operator.specs.declared.AssignmentOp.{AssignmentOp}
use Rattle.operator.specs.Operator.{which_unary_op, which_binary_op, which_assignment_op, precedence_level, assignment_number, op_level, op_number, number_found, binary_code, binary_found, op_tokens, op_token, number_level, unary_code, unary_token, assign_code, assign_token, no_token, level_count}
use Rattle.operator.specs.Below.{sum_below, none_below, fails, passes, below, equal_below, most_below, back_below}
use Rattle.operator.specs.Table.{column_count, decision, entry, faults}

-- operators are kinds of symbols
far : {k : ℕ} → 76 ≤ k → (c : ℕ) → ltb c 76 ≡ true → eqb k c ≡ false
far {k} h c l = let g = leb-true (suc c) 76 l in ne_eqb k c (omega arith)

pub op_far : {k : ℕ} → 76 ≤ k → op_level k ≡ 0
unfolding op_level which_binary_op
op_far h = simp (far h)

pub binary_far : {k : ℕ} → 76 ≤ k → binary_code k ≡ 0
unfolding binary_code which_binary_op
binary_far h = simp (far h)

pub unary_far : {k : ℕ} → 76 ≤ k → unary_code k ≡ 0
unfolding unary_code which_unary_op
unary_far h = simp (far h)

pub assign_far : {k : ℕ} → 76 ≤ k → assign_code k ≡ 0
unfolding assign_code which_assignment_op
assign_far h = simp (far h)

-- a code that is none from 76 on is that of a symbol
pub near : (n k : ℕ) → (76 ≤ k → n ≡ 0) → n ≢ 0 → k < 76
near n k h p = let f : ¬ (76 ≤ k) = λ l. p (h l) in omega arith

-- binary operators: a number tells the token and the token the number
pub op_token_number : (k : ℕ) → k < no_token → 0 < op_level k → op_token (op_number k) ≡ k
unfolding op_level op_number op_token which_binary_op
op_token_number = back_below op_level (λ k. op_token (op_number k)) no_token tt

pub op_number_token : (n : ℕ) → n < length op_tokens → op_number (op_token n) ≡ n
unfolding op_number op_token which_binary_op
op_number_token = equal_below (λ n. op_number (op_token n)) (λ n. n) (length op_tokens) tt

-- so the level of an operator is that of its number
pub number_level_is : (k : ℕ) → 0 < op_level k → number_level (op_number k) ≡ op_level k
unfolding number_level
number_level_is k h =
    let l : k < 76 = near (op_level k) k op_far (omega arith) in
    ap op_level (op_token_number k (omega arith) h)

-- unary operators
pub unary_token_code : (k : ℕ) → k < no_token → 0 < unary_code k → unary_token (unary_code k - 1) ≡ k
unfolding unary_code unary_token which_unary_op
unary_token_code = back_below unary_code (λ k. unary_token (unary_code k - 1)) no_token tt

-- assignments
pub assign_token_code : (k : ℕ) → k < no_token → 0 < assign_code k → assign_token (assign_code k - 1) ≡ k
unfolding assign_code assign_token which_assignment_op
assign_token_code = back_below assign_code (λ k. assign_token (assign_code k - 1)) no_token tt

-- a table without faults has each number of the definitions
pub entry_is : (table : List (List ℕ)) → faults table ≡ 0 → (kind column : ℕ) → kind < no_token → column < column_count → entry table kind column ≡ decision kind column
unfolding faults
entry_is table e kind column k c =
    let row = none_below (λ kind. sum_below (λ column. fails (eqb (entry table kind column) (decision kind column))) column_count) no_token e kind k in
    let one = none_below (λ column. fails (eqb (entry table kind column) (decision kind column))) column_count row column c in
    eqb→eq (entry table kind column) (decision kind column) (passes (eqb (entry table kind column) (decision kind column)) one)

-- there is nothing to say of a kind that no token has
none : (column : ℕ) → ◌≡◌ {A = ℕ} (get_or (0 ∷ 0 ∷ 0 ∷ 0 ∷ []) column 0) 0
none zero = refl
none (suc zero) = refl
none (suc (suc zero)) = refl
none (suc (suc (suc zero))) = refl
none (suc (suc (suc (suc n)))) = refl

pub decision_far : (kind column : ℕ) → 76 ≤ kind → decision kind column ≡ 0
unfolding decision
decision_far kind column h = simp (unary_far h, binary_far h, op_far h, assign_far h) (none column)

-- the number of a binary operator, from what the table has for it
number_found_code : (w : Option BinaryOp) → binary_found w - 1 ≡ number_found w
number_found_code (Some op) = omega arith
number_found_code None = refl

pub number_code : (k : ℕ) → binary_code k - 1 ≡ op_number k
unfolding binary_code op_number
number_code k = number_found_code (which_binary_op k)

-- every operator has a level, and an assignment's number is at most 1 + that of the last operator
pub precedence_least : (op : BinaryOp) → 1 ≤ precedence_level op
precedence_least op = grind arith

pub assignment_most : (op : AssignmentOp) → assignment_number op ≤ 18
assignment_most op = grind arith

-- a code that is none from 76 on is at most what it is at most before
at_most : (code : ℕ → ℕ) (most : ℕ) → ((k : ℕ) → 76 ≤ k → code k ≡ 0) → T (below (λ k. leb (code k) most) 76) → (k : ℕ) → code k ≤ most
at_most code most h t k = ⊎_elim (λ z. omega arith) (λ p. most_below code (λ k. most) 76 t k (near (code k) k (h k) (omega arith))) (eq-zero-or-pos (code k))

pub unary_most : (k : ℕ) → unary_code k ≤ 4
unfolding unary_code which_unary_op
unary_most = at_most unary_code 4 (λ k h. unary_far h) tt

pub assign_most : (k : ℕ) → assign_code k ≤ 11
unfolding assign_code which_assignment_op
assign_most = at_most assign_code 11 (λ k h. assign_far h) tt

-- a level is one of those there are, and an operator's number has one
level_most : (k : ℕ) → op_level k ≤ level_count
unfolding op_level which_binary_op
level_most = at_most op_level level_count (λ k h. op_far h) tt

pub number_level_most : (n : ℕ) → number_level n ≤ level_count
unfolding number_level
number_level_most n = level_most (op_token n)

pub number_level_least : (n : ℕ) → n < length op_tokens → 1 ≤ number_level n
unfolding number_level op_level op_token which_binary_op
number_level_least = most_below (λ n. 1) number_level (length op_tokens) tt
