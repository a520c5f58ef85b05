-- Precedence climbing reads what `binop_expr` reads: an operand, then in one loop every operator that binds at least as tight as the level, each with its right side.
-- Assumes nothing.
use mathlib.Core.Path.{◌≡◌, refl, sym, ap, ◌∙◌}
use mathlib.Core.Bool.{Bool, true, false}
use mathlib.Core.List.{List, [], ◌∷◌}
use Prim.Native.Nat.{ℕ, zero, suc, pred, ◌+◌, ◌-◌, ◌≤◌, ◌<◌}
use native.Mathlib.Omega.{arith}
use lib.Dec.{eqb, ltb}
use lib.ListN.{length, drop}
use borrow.Author.Tests.{eq-eqb, ne_eqb, lt-ltb, le-ltb, ltb-true, ltb-false}
use Rattle.token.specs.Look.{seen_word}
use Rattle.token.specs.declared.Token.{Token}
use Rattle.std.proofs.Common.{Option, Some, Result, Ok, Err}
use Rattle.token.specs.declared.Unread.{Unread}
use Rattle.token.specs.declared.Unread.TheVariants.{LexerError, Nothing, Bad}
use Rattle.operator.specs.Operator.{which_binary_op, precedence_level, binary_number, level_found, op_level, op_number}
use Rattle.operator.specs.declared.BinaryOp.{BinaryOp}
use Rattle.operator.specs.Laws.{precedence_least}
use Rattle.tree.specs.Tree.{Tree}
use Rattle.tree.specs.Node
use Rattle.grammar.specs.Reading.Number
use Rattle.grammar.specs.Reading.Result.{Res, ok, bad, fail, stop, then, ifb, Error}
use Rattle.grammar.specs.Reading.Look.{looked, look}
use Rattle.grammar.specs.Reading.Expr.{Depth, operators, binop_expr}
use Rattle.grammar.specs.Reading.Depth.{at_depth}
use Rattle.grammar.proofs.Laws.Keep.{Keep, k_ok, k_fail, k_stop, k_weaken, k_all, k_both, k_on, Keeps, here}
use Rattle.grammar.proofs.Laws.Progress.{binop_keeps, depth_keeps}
use Rattle.grammar.proofs.Laws.Taken.{Left, left_step}
use Rattle.grammar.proofs.Laws.Count.{same_then}
use Rattle.scan.specs.Post.{Taken}
use Rattle.nodes.proofs.Algebra.{then_fail, then_ok, then_then, then_same}
use Rattle.scan.proofs.Laws.{Looks}
use Rattle.scan.proofs.Looking.{counted}
use Rattle.scan.proofs.Text.{left}
use Rattle.cycle.proofs.PathsExpr.{suc_pred, none_found}

-- the operators of the levels up to l, after a left side: the right side of one of the level k is read at the level k - 1
unfoldable pub climb : Depth → ℕ → ℕ → Tree → List Error → List ℕ → Res Tree
climb low l zero left q ts = fail Number.end_of_tokens q ts
climb low l (suc n) left q ts =
    then q (look q ts) λ tok q₁ rest.
    ifb (eqb (op_level tok.kind) 0) (λ _. ok left ts) λ _.
    ifb (ltb l (op_level tok.kind)) (λ _. ok left ts) λ _.
    then q (binop_expr low (pred (op_level tok.kind)) q rest) λ right q₂ r. climb low l n (Node.binary_op (op_number tok.kind) left right) q₂ r

-- the level of the operator that stands first, 0 if none does
abbrev level_seen : Res Token → ℕ
level_seen (ok tok r) = op_level tok.kind
level_seen (bad tok q r) = 0
level_seen (fail e q r) = 0
level_seen (stop n) = 0

abbrev first_level : List ℕ → ℕ
first_level ts = level_seen (look [] ts)

-- what a look tells
looked_then : {B : Type 0} (q : List Error) (r : List ℕ) (s : (Result Token Unread)) (f g : Token → List Error → List ℕ → Res B) → ((tok : Token) → looked q r s ≡ ok tok r → level_seen (looked [] r s) ≡ op_level tok.kind → f tok q r ≡ g tok q r) → then q (looked q r s) f ≡ then q (looked q r s) g
unfolding looked then
looked_then q r (Ok tok) f g h = h tok refl refl
looked_then q r (Err LexerError) f g h = refl
looked_then q r (Err Nothing) f g h = refl
looked_then q r (Err Bad) f g h = refl

look_then : {B : Type 0} (q : List Error) (ts : List ℕ) (f g : Token → List Error → List ℕ → Res B) → ((tok : Token) (r : List ℕ) → look q ts ≡ ok tok r → first_level ts ≡ op_level tok.kind → length r < length ts → f tok q r ≡ g tok q r) → then q (look q ts) f ≡ then q (look q ts) g
unfolding look then
look_then q [] f g h = refl
look_then q (w ∷ []) f g h = refl
look_then q (w ∷ (v ∷ r)) f g h = looked_then q r (seen_word w v) f g λ tok e i. h tok r e i (omega arith)

looked_keep : {B : Type 0} {I : List ℕ → Type 0} (q : List Error) (r : List ℕ) (s : (Result Token Unread)) (f : Token → List Error → List ℕ → Res B) → ((tok : Token) → level_seen (looked [] r s) ≡ op_level tok.kind → Keep I (λ e s. Unit {0}) (f tok q r)) → Keep I (λ e s. Unit {0}) (then q (looked q r s) f)
unfolding looked then
looked_keep q r (Ok tok) f h = h tok refl
looked_keep q r (Err LexerError) f h = k_fail tt
looked_keep q r (Err Nothing) f h = k_fail tt
looked_keep q r (Err Bad) f h = k_stop

look_keep : {B : Type 0} {I : List ℕ → Type 0} (q : List Error) (ts : List ℕ) (f : Token → List Error → List ℕ → Res B) → ((tok : Token) (r : List ℕ) → first_level ts ≡ op_level tok.kind → Keep I (λ e s. Unit {0}) (f tok q r)) → Keep I (λ e s. Unit {0}) (then q (look q ts) f)
unfolding look then
look_keep q [] f h = k_fail tt
look_keep q (w ∷ []) f h = k_fail tt
look_keep q (w ∷ (v ∷ r)) f h = looked_keep q r (seen_word w v) f λ tok i. h tok r i

-- k is the level of no operator that a loop of the level l takes
abbrev Ends : ℕ → ℕ → Type 0
Ends k l = (k ≡ 0 → ⊥) → l < k

by_level : {A : Type 0} (k l : ℕ) → (Ends k l → A) → ((k ≡ 0 → ⊥) → k ≤ l → A) → A
by_level zero l f g = f (λ h. absurd (h refl))
by_level {A} (suc k) l f g = by (ltb l (suc k)) refl
  where
    by : (b : Bool) → ltb l (suc k) ≡ b → A
    by true e = f (λ h. ltb-true l (suc k) e)
    by false e = g (omega arith) (ltb-false l (suc k) e)

-- the loop's two tests
abbrev tested : {A : Type 0} → ℕ → ℕ → (Unit {0} → A) → (Unit {0} → A) → A
tested k l x y = ifb (eqb k 0) x λ _. ifb (ltb l k) x y

tested_ends : {A : Type 0} (k l : ℕ) (x y : Unit {0} → A) → Ends k l → tested k l x y ≡ x tt
unfolding ifb
tested_ends zero l x y h = refl
tested_ends (suc k) l x y h = rw (ne_eqb (suc k) 0 (omega arith), lt-ltb l (suc k) (h (omega arith)))

tested_takes : {A : Type 0} (k l : ℕ) (x y : Unit {0} → A) → (k ≡ 0 → ⊥) → k ≤ l → tested k l x y ≡ y tt
unfolding ifb
tested_takes k l x y h i = rw (ne_eqb k 0 h, le-ltb l k i)

-- no operator of the levels up to l stands first
abbrev Past : ℕ → List ℕ → Type 0
Past l ts = Ends (first_level ts) l

-- one turn of the loop
abbrev climb_on : Depth → ℕ → ℕ → Tree → List ℕ → List ℕ → Token → List Error → List ℕ → Res Tree
climb_on low l n t q ts tok q₁ rest = tested (op_level tok.kind) l (λ _. ok t ts) λ _. then q (binop_expr low (pred (op_level tok.kind)) q rest) λ right q₂ r. climb low l n (Node.binary_op (op_number tok.kind) t right) q₂ r

module _ (low : Depth) (K : (r : List ℕ) → Keeps (Left r) low) where
  -- a reading of the level l ends before what is no operator of the levels up to l
  module _ (l : ℕ) (s : (q : List Error) (ts : List ℕ) → Keep (Past l) (λ e r. Unit {0}) (binop_expr low l q ts)) where
    operators_past : (n : ℕ) (t : Tree) (q : List Error) (ts : List ℕ) → Past l ts → Keep (Past (suc l)) (λ e r. Unit {0}) (operators (binop_expr low l) (suc l) n t q ts)
    unfolding operators ifb
    operators_past zero t q ts p = k_fail tt
    operators_past (suc n) t q ts p =
        look_keep q ts _ λ tok r i. by_level (op_level tok.kind) (suc l)
        (λ b. rw (ne_eqb (op_level tok.kind) (suc l) (λ z. let w = b (omega arith) in omega arith)) (k_ok {r = ts} (rw i b)))
        (λ b w. let a = p (λ e. b (sym i ∙ e)) in rw (eq-eqb (op_level tok.kind) (suc l) (omega arith)) (k_on q (s q r) λ right q₂ r₂ p₂. operators_past n _ q₂ r₂ p₂))

  binop_past : (l : ℕ) (q : List Error) (ts : List ℕ) → Keep (Past l) (λ e r. Unit {0}) (binop_expr low l q ts)
  unfolding binop_expr
  binop_past zero q ts = k_all (λ t r h. omega arith) (λ e r. tt) _
  binop_past (suc l) q ts = k_on q (binop_past l q ts) λ t q₁ r p. operators_past l (binop_past l) (length r) t q₁ r p

  reads : (l : ℕ) (q : List Error) (ts : List ℕ) → Keep (λ r. (length r ≤ length ts) × Past l r) (λ e r. Unit {0}) (binop_expr low l q ts)
  reads l q ts = k_weaken (λ t r i. i) (λ e r j. tt) (k_both (binop_keeps (Left ts) (left_step ts) low (K ts) l q ts (here (omega arith))) (binop_past l q ts))

  module _ (l : ℕ) where
    -- behind a reading of the level l, climbing to the level suc l meets operators of that level alone
    climb_level : (n m : ℕ) (t : Tree) (q : List Error) (ts : List ℕ) → Past l ts → length ts ≤ n → length ts ≤ m → climb low (suc l) n t q ts ≡ operators (binop_expr low l) (suc l) m t q ts
    unfolding climb operators look then ifb
    climb_level zero zero t q ts p h g = refl
    climb_level zero (suc m) t q [] p h g = refl
    climb_level zero (suc m) t q (x ∷ ts) p h g = absurd (omega arith)
    climb_level (suc n) zero t q [] p h g = refl
    climb_level (suc n) zero t q (x ∷ ts) p h g = absurd (omega arith)
    climb_level (suc n) (suc m) t q ts p h g =
        look_then q ts _ _ λ tok r e i j. by_level (op_level tok.kind) (suc l)
        (λ b. tested_ends (op_level tok.kind) (suc l) _ _ b ∙ rw (ne_eqb (op_level tok.kind) (suc l) (λ z. let w = b (omega arith) in omega arith)))
        (λ b w. let a = p (λ e. b (sym i ∙ e)) in
        let z : op_level tok.kind ≡ suc l = omega arith in
        tested_takes (op_level tok.kind) (suc l) _ _ b w ∙ rw (z, eq-eqb (suc l) (suc l) refl) (same_then _ q (reads l q r) λ right q₂ r₂ k. climb_level n m _ q₂ r₂ k.1 (omega arith) (omega arith)))

    -- climbing to the level suc l is climbing to the level l, and then the operators of the level suc l
    abbrev last : Tree → List Error → List ℕ → Res Tree
    last u q r = operators (binop_expr low l) (suc l) (length r) u q r

    climb_more : (n : ℕ) (t : Tree) (q : List Error) (ts : List ℕ) → length ts ≤ n → climb low (suc l) n t q ts ≡ then q (climb low l n t q ts) last
    unfolding climb
    climb_more zero t q ts h = sym (then_fail q last)
    climb_more (suc n) t q ts h =
        look_then q ts (climb_on low (suc l) n t q ts) (λ tok q₁ r. then q₁ (climb_on low l n t q ts tok q₁ r) last) (λ tok r e i j. by_level (op_level tok.kind) l
        (λ b. sym (ap (λ (d : Res Token). then q d (climb_on low (suc l) n t q ts)) e ∙ then_ok q (climb_on low (suc l) n t q ts)) ∙ climb_level (suc n) (length ts) t q ts (rw i b) h (omega arith) ∙ sym (then_ok q last) ∙ sym (ap (λ (d : Res Tree). then q d last) (tested_ends (op_level tok.kind) l _ _ b)))
        (λ b w. tested_takes (op_level tok.kind) (suc l) _ _ b (omega arith) ∙ same_then _ q (reads (pred (op_level tok.kind)) q r) (λ right q₂ r₂ k. climb_more n _ q₂ r₂ (omega arith)) ∙ sym (then_then q _ _ _) ∙ sym (ap (λ (d : Res Tree). then q d last) (tested_takes (op_level tok.kind) l _ _ b w))))
        ∙ sym (then_then q (look q ts) _ _)

  pub binop_climb : (l : ℕ) (q : List Error) (ts : List ℕ) → binop_expr low (suc l) q ts ≡ then q (low.unary q ts) (λ t q₁ r. climb low (suc l) (length r) t q₁ r)
  unfolding binop_expr
  binop_climb zero q ts = then_same q _ λ t q₁ r. sym (climb_level zero (length r) (length r) t q₁ r (λ h. omega arith) (omega arith) (omega arith))
  binop_climb (suc l) q ts = ap (λ (d : Res Tree). then q d (last (suc l))) (binop_climb l q ts) ∙ then_then q _ _ _ ∙ then_same q _ λ t q₁ r. sym (climb_more (suc l) (length r) t q₁ r (omega arith))

-- as the code goes
pub binop_step : (d l : ℕ) (q : List Error) (ts : List ℕ) → (l ≡ 0 → ⊥) → binop_expr (at_depth d) l q ts ≡ then q ((at_depth d).unary q ts) (λ t q₁ r. climb (at_depth d) l (length r) t q₁ r)
binop_step d l q ts h = rw (← suc_pred l h) (binop_climb (at_depth d) (λ r. depth_keeps (Left r) (left_step r) d) (l - 1) q ts)

-- the loop with a count that is as long as the list
module _ (low : Depth) (l : ℕ) (acc : Tree) (q : List Error) where
  climb_step : (fuel : ℕ) (ts : List ℕ) → length ts ≤ fuel → climb low l fuel acc q ts ≡ then q (look q ts) (climb_on low l (fuel - 1) acc q ts)
  unfolding climb
  climb_step fuel ts h = counted q ts (λ n. climb low l n acc q ts) (λ n. climb_on low l n acc q ts) refl (λ n. refl) fuel h

  pub climb_looks : (T : List ℕ) (fuel p : ℕ) → length T ≤ p + fuel → Looks q (drop p T) (climb low l fuel acc q (drop p T))
  climb_looks T fuel p enough = record { go = _; is = climb_step fuel (drop p T) (left T p fuel enough) }

  module _ {T : List ℕ} (fuel p : ℕ) (enough : length T ≤ p + fuel) {k n v : ℕ} (at : Taken T p k n v) {w : Option BinaryOp} (is : w ≡ which_binary_op k) where
    seen : climb low l fuel acc q (drop p T) ≡ climb_on low l (fuel - 1) acc q (drop p T) (record { kind = k; newline = n; value = v }) q (drop (p + 2) T)
    seen = climb_step fuel (drop p T) (left T p fuel enough) ∙ rw at.same (then_ok q _)

    pub climb_none : ((op : BinaryOp) → w ≡ Some op → ⊥) → climb low l fuel acc q (drop p T) ≡ ok acc (drop p T)
    unfolding op_level
    climb_none e = seen ∙ tested_ends (op_level k) l _ _ (λ h. absurd (h (ap level_found (sym is ∙ none_found e))))

    -- an operator of the level c
    module _ {op : BinaryOp} (e : w ≡ Some op) {c : ℕ} (i : c ≡ precedence_level op) where
      level_is : op_level k ≡ c
      unfolding op_level
      level_is = ap level_found (sym is ∙ e) ∙ sym i

      pub climb_ends : l < c → climb low l fuel acc q (drop p T) ≡ ok acc (drop p T)
      climb_ends h = seen ∙ tested_ends (op_level k) l _ _ (λ _. rw level_is h)

      pub climb_takes : {x : ℕ} → c ≤ l → x ≡ binary_number op → climb low l fuel acc q (drop p T) ≡ then q (binop_expr low (c - 1) q (drop (p + 2) T)) (λ t q₂ r. climb low l (fuel - 1) (Node.binary_op x acc t) q₂ r)
      unfolding op_number
      climb_takes h j =
          let m = precedence_least op in
          let z : pred (op_level k) ≡ c - 1 = omega (arith, level_is) in
          seen ∙ tested_takes (op_level k) l _ _ (λ x. omega (arith, level_is)) (omega (arith, level_is)) ∙ rw (z, ← is, e, j)
