-- Nodes of assignments and groups whose children meet their demands: what their class says. Assumes nothing.
use Rattle.std.specs.Prelude.{◌≡◌, Bool, ◌&&◌, ltb, Some}
use Rattle.std.proofs.Math.Path.{refl}
use Rattle.std.proofs.Common.{sym, subst, ◌∙◌}
use Rattle.std.proofs.Math.Bool.{true, false, and-false}
use Prim.Native.Nat.{ℕ, zero, suc, pred, ◌+◌, ◌*◌, ◌/◌, ◌%◌, ◌≤◌, ◌<◌}
use native.Mathlib.Omega.{arith}
use Rattle.std.proofs.Math.Dec.{eqb}
use borrow.Author.Tests.{eqb-true, ne_eqb, ltb-true, ltb-false, le-ltb, lt-ltb}
use Rattle.operator.specs.Operator.{assign_code, assign_token, which_assignment_op}
use Rattle.operator.specs.Below.{equal_below}
use Rattle.tree.specs.NodeKind
use Rattle.tree.specs.Tree.{Tree, node, none, more, one, two, kind_of}
use Rattle.grammar.specs.Reading.Function.{target_name}
use Rattle.grammar.specs.Canonical.Write.{Place, own, modified, is_target, function_named, has_function, fun_gives}
use Rattle.grammar.specs.Canonical.Valid.{assign, ex, given, function, Valid, Pattern, Target, v_function, v_target, v_assign, v_local, v_keyword, v_given, v_given_assign, v_given_target, v_group, v_modified}
use Rattle.grammar.proofs.Laws.Facts.{clash, by_test, and_l, and_r}
use Rattle.grammar.proofs.Laws.Views.{target_of, Fun, fun_of}
use Rattle.tables.specs.Choice.{where_zero, where_is}
use Rattle.tables.specs.Class as Class
use Rattle.tables.specs.Class.{keyword_class, named_class, assignment_class}
use Rattle.tables.specs.Demand as Demand
use Rattle.tables.specs.Demand.{assigned, inside}
use Rattle.tables.specs.Children.{kind_in, value_in, children_in, first_tree, last_tree}
use Rattle.tables.specs.Check.{class_of, function_form, name_given, group_mode, ends_single}
use Rattle.tables.proofs.Valid.Meets.Demands.{by_fits}
use Rattle.tables.proofs.Valid.Builds.Classes.{Ends, bound, as_atom, as_tight, as_plain, as_any, Expression, Any, Means, Kid, Rule, value_of, Named, tables}
use Rattle.tables.proofs.Valid.Builds.Roles.{any_of}
use Rattle.tables.proofs.Valid.Builds.Places.{same_kind, in_range, no_kid, any_class, at_class, any_in, plain_in, simple, exactly}

-- an assignment's operator, 0 or 1 + it, has a token
assign_codes : (n : ℕ) → n < 11 → assign_code (assign_token n) ≡ suc n
unfolding assign_code assign_token which_assignment_op
assign_codes = equal_below (λ n. assign_code (assign_token n)) suc 11 tt

-- an assignment with its operator's token, where `fun` doesn't give it
assign_valid : {p : Place} {close : Bool} {t u : Tree} (v : ℕ) → v ≤ 43 → Pattern t → Valid (ex true close) u → (fun_gives p v && has_function (two t u)) ≡ false
    → Valid (assign p close (v % 4)) (node NodeKind.Assignment v (two t u))
assign_valid {p} {close} {t} {u} v h x y e =
    let c : assign_code (assign_token (v / 4)) ≡ suc (v / 4) = assign_codes (v / 4) (omega arith) in
    let z : v % 4 + 4 * pred (assign_code (assign_token (v / 4))) ≡ v = rw c (omega arith) in
    subst (λ n. Valid (assign p close (v % 4)) (node NodeKind.Assignment n (two t u))) z
    (v_assign (assign_token (v / 4)) (rw c (ne_eqb (suc (v / 4)) 0 λ w. omega arith)) x y (rw z e))

-- one that `fun` gives under its action's modifier
given_valid : {t u : Tree} (v : ℕ) → v < 4 → Fun t u → Valid (given (v % 4)) (node NodeKind.Assignment v (two t u))
given_valid {t} {u} v h x =
    let e : v % 4 + 4 * 0 ≡ v = omega arith in
    subst (λ n. Valid (given (v % 4)) (node NodeKind.Assignment n (two t u))) e (v_given_target x.to x.of)

-- the name in the signature of a function that `fun` gives to a target
name_is : (n : ℕ) (u : Tree) → function_named n u ≡ true → value_in (first_tree (children_in (Some u))) ≡ n
name_is n (node k v none) e = clash (and_r (eqb k NodeKind.FunctionDef) false e) refl
name_is n (node k v (more (node l w f) g)) e = eqb-true w n (and_r (eqb k NodeKind.FunctionDef) (eqb w n) e)

-- the forms, where `fun` gives a function to a target: with no name, or with the target's
form_cases : (P : ℕ → Type 0) (t u : Tree) → (has_function (two t u) ≡ false → P 0) → (has_function (two t u) ≡ true → target_name t ≡ 0 → P 1) → (has_function (two t u) ≡ true → P 2) → P (function_form (two t u))
unfolding function_form
form_cases P t u nothing unnamed named =
    by_test (has_function (two t u))
    (λ y.
    by_test (eqb (name_given (two t u)) 0)
    (λ z. rw (y, z) (unnamed y (sym (name_is (target_name t) u (and_r (is_target t) (function_named (target_name t) u) y)) ∙ eqb-true (name_given (two t u)) 0 z)))
    (λ n. rw (y, n) (named y)))
    (λ n. rw n (nothing n))

module _ (v : ℕ) (t u : Tree) (range : v ≤ 43) (lhs : Pattern t) where
  abbrev whole : Tree
  whole = node NodeKind.Assignment v (two t u)

  -- an assignment of a class, which its action's modifier gives too
  assignment : (c : ℕ) → (c ≤ Class.Keyword → Expression c whole) → Valid (given (v % 4)) whole → Any c whole
  assignment c x g = record { own = x; lone = λ h. refl; under = λ y. g }

  -- the classes of its own keyword
  keyword_means : ((close : Bool) → Ends close u → Valid (assign own close (v % 4)) whole) → Valid (given (v % 4)) whole → Means (keyword_class v) whole
  unfolding keyword_class where_zero ends_single
  keyword_means w g = go (v % 4) refl
    where
      go : (a : ℕ) → v % 4 ≡ a → Means (keyword_class v) whole
      go zero e =
          let x : Expression Class.Local whole = as_plain {c = Class.Local} {t = whole} (omega arith) (omega arith) λ begin close p q. v_local (rw e at (w close q)) in
          rw e (assignment Class.Local (λ h. x) g)
      go (suc a) e =
          let x : Expression Class.Keyword whole = as_any {t = whole} λ begin close p q. v_keyword {a = a} (omega arith) (rw e at (w close q)) in
          let n : eqb (suc a) 0 ≡ false = ne_eqb (suc a) 0 λ z. omega arith in
          rw (e, n) (assignment Class.Keyword (λ h. x) g)

  -- any right side that is an expression
  plain_means : ((close : Bool) → Ends close u → Valid (ex true close) u) → (fun_gives own v && has_function (two t u)) ≡ false → Valid (given (v % 4)) whole → Means (keyword_class v) whole
  plain_means r e g = keyword_means (λ close q. assign_valid v range lhs (r close q) e) g

  -- `fun` doesn't give the assignment
  no_form : has_function (two t u) ≡ false → Kid Demand.Expr true true u → Means (keyword_class v) whole
  no_form n k =
      plain_means (any_in k) (rw n (and-false (fun_gives own v)))
      (v_given_assign (assign_valid v range lhs (any_in k true k.ends) (rw n (and-false (fun_gives modified v)))))

  -- nor one with an operator
  large : 4 ≤ v → Kid Demand.Expr true true u → Means (keyword_class v) whole
  large h k =
      plain_means (any_in k) (rw (ne_eqb v 2 (λ e. omega arith)))
      (v_given_assign (assign_valid v range lhs (any_in k true k.ends) (rw (le-ltb v 4 h))))

  -- `fun` gives it by itself
  tight_means : v ≡ 2 → Fun t u → Means Class.Tight whole
  tight_means e x =
      let y : Expression Class.Tight whole = bound (as_tight {t = whole} λ begin p. rw e (v_target x.to x.of)) in
      assignment Class.Tight (λ h. y) (given_valid v (omega arith) x)

  -- a function that `fun` gives, with or without a name
  fun_in : has_function (two t u) ≡ true → Kid Demand.ExprOrNamed true true u → Fun t u
  fun_in e k =
      by_fits Demand.ExprOrNamed (class_of u) k.class
      (λ low high. fun_of lhs (any_of ((any_class (class_of u) (omega arith) k.means).own high) true true k.begins k.ends) e)
      (λ z. record { to = target; of = named (at_class u (class_of u) Class.Named z k.means) })
    where
      target : Target t
      target = target_of lhs (and_l (is_target t) (function_named (target_name t) u) e)

      named : Named u → Valid (function (target_name t)) u
      named h = h (target_name t) (and_r (is_target t) (function_named (target_name t) u) e)

  -- a function without a name is an expression
  unnamed : target_name t ≡ 0 → Fun t u → (close : Bool) → Ends close u → Valid (ex true close) u
  unnamed e x close q =
      let y : Valid (function 0) u = rw e at x.of in
      any_of (bound (as_tight {t = u} λ begin p. v_function y)) true close (λ z. clash refl z) q

  -- an action without an operator, by the form
  small_unnamed : v < 4 → has_function (two t u) ≡ true → target_name t ≡ 0 → Kid Demand.ExprOrNamed true true u → Means (where_is v 2 Class.Tight (keyword_class v)) whole
  unfolding where_is
  small_unnamed h e z k =
      let x = fun_in e k in
      by_test (eqb v 2)
      (λ y. rw y (tight_means (eqb-true v 2 y) x))
      (λ n. rw n (plain_means (unnamed z x) (rw n) (given_valid v h x)))

  small_named : v < 4 → has_function (two t u) ≡ true → Kid Demand.ExprOrNamed true true u → Means (named_class v) whole
  unfolding named_class
  small_named h e k =
      let x = fun_in e k in
      by_test (eqb v 2)
      (λ y. rw y (tight_means (eqb-true v 2 y) x))
      (λ n. rw (n, lt-ltb v 4 h) (assignment Class.Given (λ m. absurd (omega arith)) (given_valid v h x)))

  assigned_means : Kid (assigned v (function_form (two t u))) true true u → Means (assignment_class v (function_form (two t u))) whole
  unfolding assigned assignment_class where_is named_class
  assigned_means =
      form_cases (λ m. Kid (assigned v m) true true u → Means (assignment_class v m) whole) t u
      (λ n k. no_form n k)
      (λ y z k.
      by_test (ltb v 4)
      (λ h. small_unnamed (ltb-true v 4 h) y z (rw h at k))
      (λ n. let l = ltb-false v 4 n in rw (ne_eqb v 2 (λ e. omega arith)) (large l (rw n at k))))
      (λ y k.
      by_test (ltb v 4)
      (λ h. small_named (ltb-true v 4 h) y (rw h at k))
      (λ n. let l = ltb-false v 4 n in rw (ne_eqb v 2 (λ e. omega arith), n) (large l (rw n at k))))

pub of_assignment : Rule NodeKind.Assignment
unfolding tables
of_assignment v h t u k l = assigned_means v t u (ltb-false 43 v h) (exactly Class.Pattern (omega arith) k) l

-- under a group's modifier: no assignment, or one of its action
under_in : {t : Tree} → Kid Demand.Given true true t → eqb (kind_of t) NodeKind.Assignment ≡ true → Valid (given (value_of t % 4)) t
under_in {t} k y = in_range Demand.Given refl k λ low high. (any_class (class_of t) high k.means).under y

given_in : {t : Tree} (a : ℕ) → Kid (inside (suc a) (group_mode (one t))) true true t → Valid (given a) t
unfolding inside group_mode last_tree
given_in {t} a k =
    let modified : eqb (suc a) 0 ≡ false = ne_eqb (suc a) 0 λ e. omega arith in
    by_test (eqb (kind_in (Some t)) NodeKind.Assignment)
    (λ y.
    let some : eqb (1 + value_of t % 4) 0 ≡ false = ne_eqb (1 + value_of t % 4) 0 λ e. omega arith in
    by_test (eqb (1 + value_of t % 4) (suc a))
    (λ z.
    let e : value_of t % 4 ≡ a = omega (arith, eqb-true (1 + value_of t % 4) (suc a) z) in
    subst (λ n. Valid (given n) t) e (under_in (rw (modified, y, some, z) at k) (rw same_kind at y)))
    (λ n. no_kid (rw (modified, y, some, n) at k)))
    (λ n. v_given (rw same_kind at n) (plain_in Demand.Unassigned refl (omega arith) (rw (modified, n) at k)))

pub of_group : Rule NodeKind.Group
unfolding tables inside
of_group zero h t k = simple refl refl (bound (as_atom (v_group (plain_in Demand.Grouped refl (omega arith) k))))
of_group (suc a) h t k = simple refl refl (bound (as_atom (v_modified {a = a} (omega (arith, ltb-false 4 (suc a) h)) (given_in a k))))
