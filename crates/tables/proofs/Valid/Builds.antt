-- A tree that the tables call legal is one that a clean reading can give. Each node has a class; what the class says of its tree is shown kind by kind, children first.
-- Assumes nothing.
pub mod Classes
pub mod Roles
pub mod Places
pub mod Lists
pub mod Statements
pub mod Expressions
pub mod Assignments
pub mod Parts
pub mod Atoms
use Rattle.std.specs.Prelude.{◌≡◌, refl, Bool, true, false, not, ◌&&◌, ◌||◌, ℕ, zero, suc, ◌≤◌, ◌<◌, eqb, ltb}
use Rattle.std.proofs.Common.{sym, subst, arith, eqb-true, ltb-true, ltb-false}
use Rattle.std.proofs.lemmas.Bool.{eqb-false}
use Rattle.tree.specs.NodeKind
use Rattle.tree.specs.Tree.{Tree, Forest, node, none, more, one, two, three, count}
use Rattle.grammar.specs.Canonical.Valid.{stmt, Valid}
use Rattle.grammar.proofs.Laws.Facts.{clash, by_test, and_l, and_r}
use Rattle.tables.specs.Class as Class
use Rattle.tables.specs.Class.{class}
use Rattle.tables.specs.Demand.{demand, fits, of_members}
use Rattle.tables.specs.Sound.{top, exceeds, arity, sound}
use Rattle.tables.specs.Kinds.{unlabelled, closed}
use Rattle.tables.specs.Children.{last_tree, Each}
use Rattle.tables.specs.Check.{class_of, mode_of, inner_class, begins_labelled, ends_single, banned, kids_fit, node_fits, all_fit, all_fits, legal_tree}
use Rattle.tables.proofs.Valid.Builds.Classes.{missing, Means, Kid, KidOf, Shown, Shaped, Rule, Rules, tables, done, ◌▸◌}
use Rattle.tables.proofs.Valid.Builds.Places.{at_class}
use Rattle.tables.proofs.Valid.Builds.Lists.{list_means}
use Rattle.tables.proofs.Valid.Builds.Statements.{of_expression, of_loop, of_while, of_for, of_assert, of_statements, of_continue, of_break, of_return}
use Rattle.tables.proofs.Valid.Builds.Expressions.{of_primary, of_unary, of_binary, of_unpack, of_tuple, of_table, of_if, of_block_expr, of_function}
use Rattle.tables.proofs.Valid.Builds.Assignments.{of_assignment, of_group}
use Rattle.tables.proofs.Valid.Builds.Parts.{of_table_item, of_block, of_branch, of_signature, of_param, of_default, of_field, of_field_index}
use Rattle.tables.proofs.Valid.Builds.Atoms.{of_nil, of_empty_tuple, of_identifier, of_boolean, of_integer, of_float, of_string, of_attribute, of_index, of_invoke, of_invoke_table, of_identifier_pattern, of_attribute_pattern, of_index_pattern, of_tuple_pattern, of_pack, of_modifier}

-- every kind has its rule
of_absent : Rule NodeKind.Absent
unfolding tables
of_absent = missing

rules : Rules 0 47
rules =
    of_absent ▸ tt ▸ of_expression ▸ of_loop ▸ of_while ▸ of_for ▸ of_assert ▸ of_statements ▸ of_continue ▸ of_break ▸ of_return
    ▸ of_primary ▸ of_unary ▸ of_binary ▸ of_assignment ▸ of_unpack ▸ of_tuple ▸ of_table ▸ of_if ▸ of_block_expr ▸ of_function
    ▸ of_table_item ▸ of_block ▸ of_branch ▸ of_signature ▸ of_param ▸ of_default ▸ of_field ▸ of_field_index
    ▸ of_nil ▸ of_empty_tuple ▸ of_identifier ▸ of_boolean ▸ of_integer ▸ of_float ▸ of_string ▸ of_group
    ▸ of_attribute ▸ of_index ▸ of_invoke ▸ of_invoke_table
    ▸ of_identifier_pattern ▸ of_attribute_pattern ▸ of_index_pattern ▸ of_tuple_pattern ▸ of_pack ▸ of_modifier ▸ done

find : {j n : ℕ} → Rules j n → (k : ℕ) → j ≤ k → k < n → Rule k
find done k h l = absurd (omega arith)
find (◌▸◌ {j = j} r rs) k h l =
    by_test (eqb k j)
    (λ y. subst Rule (sym (eqb-true k j y)) r)
    (λ n. find rs k (omega (arith, eqb-false k j n)) l)

-- a kind that no value but 0 is in range of
zero_value : (k v : ℕ) → exceeds k 1 ≡ true → exceeds k v ≡ false → v ≡ 0
unfolding exceeds
zero_value k v e h =
    by_test (eqb k NodeKind.SignatureDef) (λ y. clash e (rw y)) λ n₀.
    by_test (eqb k NodeKind.IntegerLiteral) (λ y. clash e (rw (n₀, y))) λ n₁.
    by_test (eqb k NodeKind.FloatLiteral) (λ y. clash e (rw (n₀, n₁, y))) λ n₂.
    omega (arith, ltb-true (top k) 1 (rw (n₀, n₁, n₂) at e), ltb-false (top k) v (rw (n₀, n₁, n₂) at h))

rule_at : (k v : ℕ) → eqb k NodeKind.List ≡ false → exceeds k v ≡ false → Rule k → Shaped k v (arity k)
rule_at k v e h r =
    by_test (exceeds k 1)
    (λ y. rw (zero_value k v y h) (rw (e, y) at r))
    (λ n. let s : (v : ℕ) → exceeds k v ≡ false → Shaped k v (arity k) = rw (e, n) at r in s v h)

-- what the code tests of a child
starts : (a b c : Bool) → not ((a && b) || c) ≡ true → not a ≡ false → b ≡ false
starts true true c e y = clash e refl
starts true false c e y = refl
starts false b c e y = clash refl y

stops : (a c d : Bool) → not (a || (not c && d)) ≡ true → c ≡ false → d ≡ false
stops a true d e y = clash refl y
stops a false false e y = refl
stops true false true e y = clash e refl
stops false false true e y = clash e refl

kid_of : (k v m j : ℕ) (t : Tree) → (fits (demand k v m j) (class_of t) && not (banned k v t)) ≡ true → Means (class_of t) t → KidOf k v m j t
kid_of k v m j t e h =
    let b : not (banned k v t) ≡ true = and_r (fits (demand k v m j) (class_of t)) (not (banned k v t)) e in
    record {
      class = and_l (fits (demand k v m j) (class_of t)) (not (banned k v t)) e;
      begins = starts (unlabelled k v) (begins_labelled t) (not (closed k) && ends_single t) b;
      ends = stops (unlabelled k v && begins_labelled t) (closed k) (ends_single t) b;
      means = h;
    }

-- every tree of a forest is what its class says
abbrev EachMeans : Forest → Type 0
EachMeans f = Each (λ t. Means (class_of t) t) f

-- the first of the children from the number j on, and the others
first_kid : (k v m j : ℕ) (t : Tree) (f : Forest) → kids_fit k v m j (more t f) ≡ true → EachMeans (more t f) → KidOf k v m j t
unfolding kids_fit
first_kid k v m j t f e s = kid_of k v m j t (and_l (fits (demand k v m j) (class_of t) && not (banned k v t)) (kids_fit k v m (suc j) f) e) s.0

other_kids : (k v m j : ℕ) (t : Tree) (f : Forest) → kids_fit k v m j (more t f) ≡ true → kids_fit k v m (suc j) f ≡ true
unfolding kids_fit
other_kids k v m j t f e = and_r (fits (demand k v m j) (class_of t) && not (banned k v t)) (kids_fit k v m (suc j) f) e

shaped : (k v n : ℕ) (f : Forest) → Shaped k v n → count f ≡ n → kids_fit k v (mode_of k f) 1 f ≡ true → EachMeans f → Shown k v f
unfolding count
shaped k v zero none h c e s = h
shaped k v zero (more t f) h c e s = absurd (omega arith)
shaped k v (suc n) none h c e s = absurd (omega arith)
shaped k v (suc zero) (more t none) h c e s = h t (first_kid k v (mode_of k (one t)) 1 t none e s)
shaped k v (suc zero) (more t (more u f)) h c e s = absurd (omega arith)
shaped k v (suc (suc n)) (more t none) h c e s = absurd (omega arith)
shaped k v (suc (suc zero)) (more t (more u none)) h c e s =
    let m = mode_of k (two t u) in
    h t u (first_kid k v m 1 t (one u) e s) (first_kid k v m 2 u none (other_kids k v m 1 t (one u) e) s.1)
shaped k v (suc (suc zero)) (more t (more u (more w f))) h c e s = absurd (omega arith)
shaped k v (suc (suc (suc n))) (more t (more u none)) h c e s = absurd (omega arith)
shaped k v (suc (suc (suc zero))) (more t (more u (more w none))) h c e s =
    let m = mode_of k (three t u w) in
    let e₂ = other_kids k v m 1 t (two u w) e in
    h t u w (first_kid k v m 1 t (two u w) e s) (first_kid k v m 2 u (one w) e₂ s.1) (first_kid k v m 3 w none (other_kids k v m 2 u (one w) e₂) s.1.1)
shaped k v (suc (suc (suc zero))) (more t (more u (more w (more x f)))) h c e s = absurd (omega arith)
shaped k v (suc (suc (suc (suc n)))) (more t (more u (more w f))) h c e s = absurd h

-- lists
members : (m j : ℕ) (f : Forest) → kids_fit NodeKind.List 0 m j f ≡ true → EachMeans f → Each (Kid (of_members m) true true) f
unfolding demand unlabelled closed
members m j none e s = tt
members m j (more t f) e s = (first_kid NodeKind.List 0 m j t f e s, members m (suc j) f (other_kids NodeKind.List 0 m j t f e) s.1)

list_node : (k v : ℕ) (f : Forest) → k ≡ NodeKind.List → exceeds k v ≡ false → EachMeans f → kids_fit k v (mode_of k f) 1 f ≡ true → Shown k v f
unfolding class mode_of exceeds top
list_node k v f x h s =
    let z : v ≡ 0 = omega (arith, ltb-false 0 v (rw x at h)) in
    rw (x, z) (λ e. list_means (inner_class (last_tree f)) f (members (mode_of NodeKind.List f) 1 f e s))

-- the record's own numbers
kind_range : (k v n : ℕ) → sound k v n ≡ true → k ≤ NodeKind.Modifier
unfolding sound
kind_range k v n e = by_test (ltb NodeKind.Modifier k) (λ y. clash e (rw y)) (λ z. ltb-false NodeKind.Modifier k z)

value_range : (k v n : ℕ) → sound k v n ≡ true → exceeds k v ≡ false
unfolding sound
value_range k v n e =
    by_test (ltb NodeKind.Modifier k) (λ y. clash e (rw y)) λ z.
    by_test (exceeds k v) (λ y. clash e (rw (z, y))) (λ w. w)

arity_is : (k v n : ℕ) → eqb k NodeKind.List ≡ false → sound k v n ≡ true → n ≡ arity k
unfolding sound
arity_is k v n l e =
    by_test (ltb NodeKind.Modifier k) (λ y. clash e (rw y)) λ z.
    by_test (exceeds k v) (λ y. clash e (rw (z, y))) (λ w. eqb-true n (arity k) (rw (z, w, l) at e))

at_node : (k v : ℕ) (f : Forest) → node_fits (node k v f) ≡ true → EachMeans f → Shown k v f
at_node k v f e s =
    let own : sound k v (count f) ≡ true = and_l (sound k v (count f)) (kids_fit k v (mode_of k f) 1 f) e in
    let kids : kids_fit k v (mode_of k f) 1 f ≡ true = and_r (sound k v (count f)) (kids_fit k v (mode_of k f) 1 f) e in
    let value : exceeds k v ≡ false = value_range k v (count f) own in
    let kind : k ≤ NodeKind.Modifier = kind_range k v (count f) own in
    by_test (eqb k NodeKind.List)
    (λ y. list_node k v f (eqb-true k NodeKind.List y) value s kids)
    (λ n. shaped k v (arity k) f (rule_at k v n value (find rules k (omega arith) (omega arith))) (arity_is k v (count f) n own) kids s)

mutual
  unfolding all_fit

  tree_means : (t : Tree) → all_fit t ≡ true → Means (class_of t) t
  tree_means (node k v f) e = at_node k v f (and_l (node_fits (node k v f)) (all_fits f) e) (each_means f (and_r (node_fits (node k v f)) (all_fits f) e))

  each_means : (f : Forest) → all_fits f ≡ true → EachMeans f
  each_means none e = tt
  each_means (more t f) e = (tree_means t (and_l (all_fit t) (all_fits f) e), each_means f (and_r (all_fit t) (all_fits f) e))

pub legal_valid : (t : Tree) → legal_tree t ≡ true → Valid stmt t
unfolding legal_tree
legal_valid t e =
    let fit : all_fit t ≡ true = and_l (all_fit t) (eqb (class_of t) Class.Statement) e in
    let statement : class_of t ≡ Class.Statement = eqb-true (class_of t) Class.Statement (and_r (all_fit t) (eqb (class_of t) Class.Statement) e) in
    at_class t (class_of t) Class.Statement statement (tree_means t fit)
