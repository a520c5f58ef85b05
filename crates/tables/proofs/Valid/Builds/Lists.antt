-- A list whose members meet what its class demands of them: what the class says. Assumes nothing.
use Rattle.std.specs.Prelude.{◌≡◌, refl, true, false, ℕ, ◌+◌, ◌*◌, ◌-◌, ◌≤◌, ◌<◌, eqb, ltb, leb}
use Rattle.std.proofs.Common.{arith, eqb-true, ne_eqb, leb-true, leb-false, le-ltb, lt-ltb, ltb-false}
use Rattle.std.proofs.lemmas.Bool.{eqb-false, lt-leb}
use Rattle.tree.specs.Tree.{Tree, Forest, none, more, count}
use Rattle.tree.specs.Node
use Rattle.grammar.proofs.Laws.Facts.{by_test}
use Rattle.tables.specs.Operators.{Levels}
use Rattle.tables.specs.Class as Class
use Rattle.tables.specs.Class.{list_class, plain_list, default_list, argument_list}
use Rattle.tables.specs.Demand as Demand
use Rattle.tables.specs.Demand.{of_members}
use Rattle.tables.specs.Children.{Each}
use Rattle.tables.proofs.Valid.Builds.Classes.{Part, empty_list, only, listed, Operand, Argument, Means, Kid}
use Rattle.tables.proofs.Valid.Builds.Roles.{any_of}
use Rattle.tables.proofs.Valid.Builds.Places.{no_tuple, in_range, expression, operand_in, exactly}

-- the classes that a list of n members can have
list_cases : (P : ℕ → Type 0) (n c : ℕ) → P Class.Nothing → (n ≡ 0 → P Class.Empty) → (0 < n → P Class.Operands) → (n ≡ 1 → P Class.Argument) → (n ≡ 1 → P (Class.Lists + Class.Default))
    → (0 < n → Class.Pattern ≤ c → c < Class.Lists → (c ≡ Class.Default → ⊥) → P (Class.Lists + c)) → P (list_class n c)
unfolding list_class plain_list default_list argument_list
list_cases P n c nothing empty operands argument default parts =
    by_test (eqb n 0) (λ y. rw y (empty (eqb-true n 0 y))) λ n₀.
    let some : 0 < n = omega (arith, eqb-false n 0 n₀) in
    by_test (leb c Class.LastOperator) (λ y. rw (n₀, y) (operands some)) λ n₁.
    by_test (leb Class.Pattern c)
    (λ y.
    by_test (leb Class.Lists c) (λ z. rw (n₀, n₁, y, z) nothing) λ n₂.
    by_test (eqb c Class.Default)
    (λ z. by_test (ltb 1 n) (λ w. rw (n₀, n₁, y, n₂, z, w) nothing) λ n₃. rw (n₀, n₁, y, n₂, z, n₃) (default (omega (arith, ltb-false 1 n n₃))))
    λ n₃. rw (n₀, n₁, y, n₂, n₃) (parts some (leb-true Class.Pattern c y) (leb-false Class.Lists c n₂) (eqb-false c Class.Default n₃)))
    λ n₂.
    by_test (eqb n 1)
    (λ y.
    by_test (eqb c Class.Local) (λ z. rw (n₀, n₁, n₂, y, z) (argument (eqb-true n 1 y))) λ n₃.
    by_test (eqb c Class.Keyword) (λ z. rw (n₀, n₁, n₂, y, n₃, z) (argument (eqb-true n 1 y))) λ n₄. rw (n₀, n₁, n₂, y, n₃, n₄) nothing)
    λ n₃. rw (n₀, n₁, n₂, n₃) nothing

-- members
abbrev Members : ℕ → Forest → Type 0
Members m f = Each (Kid (of_members m) true true) f

each_map : {P Q : Tree → Type 0} → ((t : Tree) → P t → Q t) → (f : Forest) → Each P f → Each Q f
each_map h none e = tt
each_map h (more t f) e = (h t e.0, each_map h f e.1)

operand : (t : Tree) → Kid Demand.Operand true true t → Operand t
operand t k begin p = operand_in Levels (omega arith) k begin p

argument : {t : Tree} → Kid Demand.Assignment true true t → Argument t
argument {t} k = record {
  valid = any_of (expression Demand.Assignment refl (omega arith) k) true true k.begins k.ends;
  no_tuple = in_range Demand.Assignment refl k λ low high. no_tuple t λ e. omega arith;
}

part : (c : ℕ) → Class.Pattern ≤ c → c < Class.Lists → (t : Tree) → Kid (101 * (Class.Lists + c - Class.Lists)) true true t → Part c t
part c low high t k =
    let e : 101 * (Class.Lists + c - Class.Lists) ≡ 101 * c + 10000 * 0 = omega arith in
    rw (lt-leb c Class.Given (omega arith), lt-ltb c Class.Lists high) at (exactly c (omega arith) (rw e at k))

-- the lists of each class
Wanted : ℕ → ℕ → Type 0
Wanted n m = (f : Forest) → count f ≡ n → Members m f → Means m (Node.list f)

empty_means : (n : ℕ) → n ≡ 0 → Wanted n Class.Empty
unfolding Wanted count
empty_means n e none h k = empty_list
empty_means n e (more t f) h k = absurd (omega arith)

operands_mean : (n : ℕ) → 0 < n → Wanted n Class.Operands
unfolding Wanted count of_members
operands_mean n e none h k = absurd (omega arith)
operands_mean n e (more t f) h k = listed (operand t k.0) (each_map operand f k.1)

argument_means : (n : ℕ) → n ≡ 1 → Wanted n Class.Argument
unfolding Wanted count of_members
argument_means n e none h k = absurd (omega arith)
argument_means n e (more t none) h k = only (argument k.0)
argument_means n e (more t (more u f)) h k = absurd (omega arith)

default_means : (n : ℕ) → n ≡ 1 → Wanted n (Class.Lists + Class.Default)
unfolding Wanted count of_members
default_means n e none h k = absurd (omega arith)
default_means n e (more t none) h k = only (exactly Class.Default (omega arith) k.0)
default_means n e (more t (more u f)) h k = absurd (omega arith)

parts_mean : (n c : ℕ) → 0 < n → Class.Pattern ≤ c → c < Class.Lists → (c ≡ Class.Default → ⊥) → Wanted n (Class.Lists + c)
unfolding Wanted count of_members
parts_mean n c e low high d none h k = absurd (omega arith)
parts_mean n c e low high d (more t f) h k =
    let l : ℕ = Class.Lists + c in
    let no_operands : eqb l Class.Operands ≡ false = ne_eqb l Class.Operands λ x. omega arith in
    let no_argument : eqb l Class.Argument ≡ false = ne_eqb l Class.Argument λ x. omega arith in
    let no_default : eqb l (Class.Lists + Class.Default) ≡ false = ne_eqb l (Class.Lists + Class.Default) λ x. d (omega arith) in
    let something : leb Class.Nothing l ≡ false = lt-leb Class.Nothing l (omega arith) in
    let back : l - Class.Lists ≡ c = omega arith in
    let members_of : of_members l ≡ 101 * (l - Class.Lists) = rw (no_operands, no_argument, lt-leb l Class.Argument (omega arith), something) in
    let members : Each (Kid (101 * (l - Class.Lists)) true true) (more t f) = each_map (λ t k. rw members_of at k) (more t f) k in
    rw (lt-leb l Class.Given (omega arith), le-ltb l Class.Lists (omega arith), ne_eqb l Class.Empty (λ x. omega arith), no_operands, no_argument, no_default, something, back)
    (listed (part c low high t members.0) (each_map (part c low high) f members.1))

pub list_means : (c : ℕ) (f : Forest) → Members (list_class (count f) c) f → Means (list_class (count f) c) (Node.list f)
unfolding Wanted
list_means c f =
    let n : ℕ = count f in
    list_cases (Wanted n) n c (λ g e k. tt) (empty_means n) (operands_mean n) (argument_means n) (default_means n) (parts_mean n c) f refl
