-- Operators by their tokens: the ranges of their numbers, their levels, and binary operators in their places. Assumes nothing.
use Rattle.std.specs.Prelude.{◌≡◌, refl, Bool, true, false, cond, ℕ, suc, pred, ◌+◌, ◌*◌, ◌/◌, ◌%◌, ◌≤◌, ◌<◌, eqb, ltb}
use Rattle.std.proofs.Common.{arith, eq-eqb, ne_eqb, le-leb, le-ltb}
use Rattle.std.proofs.Math.Dec.{eqb-suc-zero}
use Rattle.tree.specs.Tree.{Tree}
use Rattle.tree.specs.Node
use Rattle.operator.specs.Operator.{op_level, op_number, unary_code, assign_code, which_unary_op, which_binary_op, which_assignment_op}
use Rattle.operator.specs.Below.{equal_below, most_below}
use Rattle.grammar.proofs.Laws.Back.Follow.{op_kind, unary_kind, assign_kind}
use Rattle.tables.specs.Operators.{Levels, LastBinary, binary_of, level}
use Rattle.tables.specs.Class as Class
use Rattle.tables.specs.Class.{binary_class, class}
use Rattle.tables.specs.Demand.{Tight, Level, left_side, right_side, first_demand, second_demand, demand}
use Rattle.tables.specs.Kinds.{passes, unlabelled, closed}
use Rattle.tables.specs.Sound.{top, exceeds, arity}
use Rattle.tables.specs.Check.{mode_of, inner_mode, begins_labelled, ends_single}
use Rattle.tables.proofs.Valid.Meets.Demands.{fits_between, within, within_same}
use Rattle.tables.proofs.Valid.Meets.Kids.{two_fits, shaped}
use Rattle.tables.proofs.Valid.Meets.Met.{Met, by_class, told, suits, kid}

pub unary_range : (k : ℕ) → eqb (unary_code k) 0 ≡ false → ltb 3 (pred (unary_code k)) ≡ false
unfolding unary_code which_unary_op
unary_range k e = le-ltb 3 (pred (unary_code k)) (most_below (λ k. pred (unary_code k)) (λ k. 3) 76 tt k (unary_kind k e).0)

pub assign_most : (k : ℕ) → eqb (assign_code k) 0 ≡ false → pred (assign_code k) ≤ 10
unfolding assign_code which_assignment_op
assign_most k e = most_below (λ k. pred (assign_code k)) (λ k. 10) 76 tt k (assign_kind k e).0

op_range : (k : ℕ) {l : ℕ} → op_level k ≡ suc l → ltb LastBinary (op_number k) ≡ false
unfolding op_number which_binary_op
op_range k e = le-ltb LastBinary (op_number k) (most_below op_number (λ k. LastBinary) 76 tt k (op_kind k e).0)

level_below : (k : ℕ) → k < 76 → cond (eqb (op_level k) 0) 0 (level (op_number k)) ≡ op_level k
unfolding op_level op_number which_binary_op level binary_of
level_below = equal_below (λ k. cond (eqb (op_level k) 0) 0 (level (op_number k))) op_level 76 tt

level_number : (k l : ℕ) → op_level k ≡ suc l → level (op_number k) ≡ suc l
level_number k l e = rw (e, eqb-suc-zero l) at (level_below k (op_kind k e).0)

-- a binary operator of the level 1 + l
middle_told : (c : ℕ) (t : Tree) → Class.Primary ≤ c → c ≤ Class.LastOperator → by_class c t ≡ true
middle_told c t l u = rw (ne_eqb c 0 (λ e. omega arith), ne_eqb c Class.Lone (λ e. omega arith), ne_eqb c Class.Tuple (λ e. omega arith), ne_eqb c Class.Local (λ e. omega arith), ne_eqb c Class.Statement (λ e. omega arith))

pub binary_met : {begin : Bool} {a b : Tree} (k l : ℕ) → suc l ≤ Levels → op_level k ≡ suc l → Met (Level (suc l)) begin false a → Met (Level l) true false b
    → Met (Level (suc l)) begin false (Node.binary_op (op_number k) a b)
unfolding shaped arity exceeds top suits demand first_demand second_demand left_side right_side unlabelled closed told class binary_class mode_of inner_mode begins_labelled ends_single passes
binary_met {a = a} {b = b} k l u e h g =
    let right : 100 * suc l + Tight ≡ Level l = omega arith in
    record {
      fit = two_fits refl (op_range k e) (kid h (rw (level_number k l e, within_same (Level (suc l))))) (kid g (rw (level_number k l e, right, within_same (Level l))));
      class = rw (level_number k l e) (fits_between (Level (suc l)) (Class.Unary + suc l) (omega arith) (omega arith));
      begins = h.begins;
      ends = λ x. refl;
      tells = rw (level_number k l e) (middle_told (Class.Unary + suc l) (Node.binary_op (op_number k) a b) (omega arith) (omega arith));
    }

pub within_level : (l : ℕ) → suc l ≤ Levels → within (Level l) (Level (suc l)) ≡ true
unfolding within
within_level l u = rw (le-leb ((Level (suc l)) % 100) ((Level l) % 100) (omega arith), le-leb ((Level l) / 100 % 100) ((Level (suc l)) / 100 % 100) (omega arith), eq-eqb ((Level l) / 10000) 0 (omega arith))
