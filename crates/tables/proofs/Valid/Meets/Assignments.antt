-- Assignments, functions and groups with a modifier: the kinds whose class, or demand, hangs on a function's name or on an action. Assumes nothing.
use Rattle.std.specs.Prelude.{◌≡◌, Bool, true, false, ℕ, zero, suc, pred, ◌+◌, ◌*◌, ◌%◌, ◌≤◌, ◌<◌, ltb}
use Rattle.std.proofs.Math.Path.{refl}
use Rattle.std.proofs.Common.{arith}
use Rattle.std.proofs.Math.Dec.{eqb, eqb-suc-zero}
use borrow.Author.Tests.{eqb-true, eq-eqb, ne_eqb, lt-ltb, le-ltb}
use Rattle.tree.specs.NodeKind
use Rattle.tree.specs.Tree.{Tree, Forest, node, one, two, kind_of}
use Rattle.tree.specs.Node
use Rattle.operator.specs.Operator.{assign_code}
use Rattle.grammar.specs.Reading.Function.{target_name}
use Rattle.grammar.specs.Canonical.Write.{Place, is_target, function_named, has_function}
use Rattle.grammar.specs.Canonical.Valid.{Valid, assign, v_assign}
use Rattle.grammar.proofs.Laws.Facts.{clash, and_l, and_r, by_test}
use Rattle.tables.specs.Choice.{where_zero, where_is}
use Rattle.tables.specs.Class as Class
use Rattle.tables.specs.Class.{keyword_class, named_class, assignment_class, class}
use Rattle.tables.specs.Demand as Demand
use Rattle.tables.specs.Demand.{Tight, assigned, inside, first_demand, second_demand, demand, fits}
use Rattle.tables.specs.Kinds.{passes, unlabelled, closed}
use Rattle.tables.specs.Sound.{top, exceeds, arity}
use Rattle.tables.specs.Children.{value_in, first_tree, last_tree}
use Rattle.tables.specs.Check.{name_given, function_form, group_mode, inner_mode, mode_of, class_of, begins_labelled, ends_single}
use Rattle.tables.proofs.Valid.Meets.Asked.{Function}
use Rattle.tables.proofs.Valid.Meets.Demands.{either, within}
use Rattle.tables.proofs.Valid.Meets.Kids.{Fit, two_fits, shaped}
use Rattle.tables.proofs.Valid.Meets.Met.{Met, by_class, told, suits, kid, ready, met}

-- the classes of an assignment
by_assignment : (P : ℕ → Type 0) (v m : ℕ) → P Class.Tight → P Class.Local → P Class.Keyword → P Class.Given → P (assignment_class v m)
unfolding assignment_class named_class keyword_class where_zero where_is
by_assignment P v m t l k g =
    let own = either P (eqb (v % 4) 0) l k in
    either P (eqb m 0) own
    (either P (eqb m 1) (either P (eqb v 2) t own)
    (either P (eqb v 2) t (either P (ltb v 4) g own)))

keyword_fits : (v : ℕ) → fits Demand.Expr (keyword_class v) ≡ true
unfolding keyword_class where_zero fits
keyword_fits v = either (λ c. fits Demand.Expr c ≡ true) (eqb (v % 4) 0) refl refl

-- without a function that has a name: that of the keyword, or `let` with `fun`
own_class : (a op m : ℕ) → a < 4 → m ≤ 1 → fits (where_zero a Demand.Grouped Demand.Expr) (assignment_class (a + 4 * op) m) ≡ true
unfolding assignment_class keyword_class where_zero where_is fits
own_class zero op zero l h = let e : (0 + 4 * op) % 4 ≡ 0 = omega arith in rw e
own_class zero op (suc zero) l h =
    let e : (0 + 4 * op) % 4 ≡ 0 = omega arith in
    rw (ne_eqb (0 + 4 * op) 2 (λ z. omega arith), e)
own_class zero op (suc (suc m)) l h = absurd (omega arith)
own_class (suc a) op zero l h = rw (eqb-suc-zero a) (keyword_fits (suc a + 4 * op))
own_class (suc a) op (suc zero) l h = rw (eqb-suc-zero a) (either (λ c. fits Demand.Expr c ≡ true) (eqb (suc a + 4 * op) 2) refl (keyword_fits (suc a + 4 * op)))
own_class (suc a) op (suc (suc m)) l h = absurd (omega arith)

-- a right side that is an expression is no function with a name
form_most : (lhs rhs : Tree) → fits Demand.Expr (class_of rhs) ≡ true → function_form (two lhs rhs) ≤ 1
unfolding function_form class mode_of inner_mode where_zero fits
form_most lhs (node k v f) h =
    by_test (has_function (two lhs (node k v f)))
    (λ e.
    let is_fun : k ≡ NodeKind.FunctionDef = eqb-true k NodeKind.FunctionDef (and_l (eqb k NodeKind.FunctionDef) _ (and_r (is_target lhs) (function_named (target_name lhs) (node k v f)) e)) in
    rw e (by_test (eqb (value_in (first_tree f)) 0)
    (λ z. rw z (omega arith))
    (λ z. clash (rw (is_fun, z) at h) refl)))
    (λ e. rw e (omega arith))

-- under a group's modifier: an assignment of its action, and what is none
given_action : (a op : ℕ) (lhs rhs : Tree) → a < 4 → inside (suc a) (group_mode (one (Node.assignment a op lhs rhs))) ≡ Demand.Given
unfolding inside group_mode last_tree
given_action a op lhs rhs l =
    let e : 1 + (a + 4 * op) % 4 ≡ suc a = omega arith in
    rw (e, eqb-suc-zero a, eq-eqb (suc a) (suc a) refl)

pub given_assign : {p : Place} {close : Bool} {a : ℕ} {t : Tree} → a < 4 → Valid (assign p close a) t → inside (suc a) (group_mode (one t)) ≡ Demand.Given
given_assign {a = a} l (v_assign {lhs = lhs} {rhs = rhs} k e p h n) = given_action a (pred (assign_code k)) lhs rhs l

pub given_other : (a : ℕ) (t : Tree) → eqb (kind_of t) NodeKind.Assignment ≡ false → inside (suc a) (group_mode (one t)) ≡ Demand.Unassigned
unfolding inside group_mode last_tree
given_other a (node k v f) e = rw (e, eqb-suc-zero a)

assignment_told : (v : ℕ) (f : Forest) → told (node NodeKind.Assignment v f) ≡ true
unfolding told class mode_of inner_mode
assignment_told v f = by_assignment (λ c. by_class c (node NodeKind.Assignment v f) ≡ true) v (function_form f) refl refl refl refl

expr_assigned : (v m : ℕ) → within Demand.Expr (assigned v m) ≡ true
unfolding assigned within
expr_assigned v m = either (λ d. within Demand.Expr d ≡ true) (eqb m 0) refl (either (λ d. within Demand.Expr d ≡ true) (ltb v 4) refl refl)

module _ (a op : ℕ) {lhs rhs : Tree} (known : a < 4) (most : op ≤ 10) where
  assignment_fits : {d : ℕ} {begin close : Bool} → within d (assigned (a + 4 * op) (function_form (two lhs rhs))) ≡ true → Met Demand.Pattern false false lhs → Met d begin close rhs → Fit (Node.assignment a op lhs rhs)
  unfolding shaped arity exceeds top mode_of inner_mode suits within demand first_demand second_demand unlabelled closed
  assignment_fits w p h = two_fits refl (le-ltb 43 (a + 4 * op) (omega arith)) (kid p refl) (kid h (rw w))

  pub assign_met : {close : Bool} → Met Demand.Pattern false false lhs → Met Demand.Expr true close rhs → Met (where_zero a Demand.Grouped Demand.Expr) false close (Node.assignment a op lhs rhs)
  unfolding class mode_of inner_mode begins_labelled ends_single passes
  assign_met p h = record {
    fit = assignment_fits (expr_assigned (a + 4 * op) (function_form (two lhs rhs))) p h;
    class = own_class a op (function_form (two lhs rhs)) known (form_most lhs rhs h.class);
    begins = λ e. refl;
    ends = h.ends;
    tells = assignment_told (a + 4 * op) (two lhs rhs);
  }

-- a function has a name or none
pub function_met : {n : ℕ} {f : Forest} {b : Tree} → Fit (Node.function_def (node NodeKind.SignatureDef n f) b) → Met (Function n) false false (Node.function_def (node NodeKind.SignatureDef n f) b)
unfolding ready told class mode_of inner_mode where_zero fits begins_labelled ends_single passes
function_met {n} h = met h (by_test (eqb n 0) (λ e. rw e) (λ e. rw e))

-- `fun` with a target
module _ (a n : ℕ) {p d : Tree} (known : a < 4) (fun : has_function (two p d) ≡ true) (target : Met Demand.Pattern false false p) (of : Met (Function n) false false d) where
  form_some : eqb (function_form (two p d)) 0 ≡ false
  unfolding function_form
  form_some = rw fun (either (λ m. eqb m 0 ≡ false) (eqb (name_given (two p d)) 0) refl refl)

  fun_fits : Fit (Node.assignment a 0 p d)
  unfolding assigned where_zero within
  fun_fits =
      assignment_fits a 0 known (omega arith)
      (rw (form_some, lt-ltb (a + 4 * 0) 4 (omega arith)) (either (λ e. within e Demand.ExprOrNamed ≡ true) (eqb n 0) refl refl))
      target of

  pub given_target : Met (inside (suc a) (group_mode (one (Node.assignment a 0 p d)))) true true (Node.assignment a 0 p d)
  unfolding class mode_of inner_mode fits
  given_target = record {
    fit = fun_fits;
    class = rw (given_action a 0 p d known) (by_assignment (λ c. fits Demand.Given c ≡ true) (a + 4 * 0) (function_form (two p d)) refl refl refl refl);
    begins = λ e. clash refl e;
    ends = λ e. clash refl e;
    tells = assignment_told (a + 4 * 0) (two p d);
  }

pub let_target : (n : ℕ) {p d : Tree} {begin : Bool} → has_function (two p d) ≡ true → Met Demand.Pattern false false p → Met (Function n) false false d → Met Tight begin false (Node.assignment 2 0 p d)
unfolding class mode_of inner_mode assignment_class named_class where_is fits begins_labelled ends_single passes
let_target n {p} {d} fun target of = record {
  fit = fun_fits 2 n (omega arith) fun target of;
  class = rw (form_some 2 n (omega arith) fun target of) (either (λ c. fits Tight c ≡ true) (eqb (function_form (two p d)) 1) refl refl);
  begins = λ e. refl;
  ends = of.ends;
  tells = assignment_told 2 (two p d);
}
