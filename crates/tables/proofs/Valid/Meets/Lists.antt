-- Lists whose members all meet one demand: their class, and that they fit. Assumes nothing.
use Rattle.std.specs.Prelude.{◌≡◌, refl, Bool, true, false, not, ℕ, suc, ◌+◌, ◌-◌, ◌≤◌, ◌<◌, eqb, Some}
use Rattle.std.proofs.Math.Bool.{and-false}
use Rattle.std.proofs.Common.{arith, eq-eqb, ne_eqb, le-leb}
use Rattle.std.proofs.Math.Dec.{eqb-suc-zero}
use Rattle.std.proofs.lemmas.Bool.{eqb-false, lt-leb}
use Rattle.tree.specs.NodeKind
use Rattle.tree.specs.Tree.{Tree, Forest, node, none, more, count, kind_of}
use Rattle.tree.specs.Node
use Rattle.grammar.specs.Canonical.Valid.{item, table_item, param, branch, stmt}
use Rattle.grammar.proofs.Laws.Facts.{by_test}
use Rattle.tables.specs.Class as Class
use Rattle.tables.specs.Class.{class, default_list, plain_list, argument_list, list_class}
use Rattle.tables.specs.Demand as Demand
use Rattle.tables.specs.Demand.{only, of_members, demand, fits}
use Rattle.tables.specs.Kinds.{unlabelled, closed}
use Rattle.tables.specs.Sound.{top, exceeds, sound}
use Rattle.tables.specs.Children.{last_tree}
use Rattle.tables.specs.Check.{inner_class, mode_of, class_of, ends_single, kids_fit, all_fit, all_fits}
use Rattle.tables.proofs.Valid.Meets.Asked.{Default, asked}
use Rattle.tables.proofs.Valid.Meets.Demands.{by_fits, within, within_same, fits_up}
use Rattle.tables.proofs.Valid.Meets.Kids.{Fit, Kid}
use Rattle.tables.proofs.Valid.Meets.Met.{Met, positive, no_list}

-- each tree meets the demand on it
pub data Mets (d : Tree → ℕ) : Forest → Type 0 where
  m_none : Mets d none
  m_more : {begin close : Bool} {t : Tree} {f : Forest} → Met (d t) begin close t → Mets d f → Mets d (more t f)

-- a list of the class c has members that meet the demand, and 1 + n members that meet it make a list of the class
pub record Member (d : Tree → ℕ) (c n : ℕ) : Type 0 where
  pub takes : (t : Tree) → within (d t) (of_members c) ≡ true
  pub makes : (t : Tree) → 1 ≤ class_of t → fits (d t) (class_of t) ≡ true → list_class (suc n) (class_of t) ≡ c

members_fit : {d : Tree → ℕ} {f : Forest} → Mets d f → all_fits f ≡ true
unfolding all_fit
members_fit m_none = refl
members_fit (m_more h g) = rw (h.fit.fit, members_fit g)

kids : {d : Tree → ℕ} {c n : ℕ} {f : Forest} (j : ℕ) → Member d c n → Mets d f → kids_fit NodeKind.List 0 c j f ≡ true
unfolding kids_fit demand unlabelled closed
kids j w m_none = refl
kids {d} {c} j w (m_more {t = t} h g) = rw (fits_up (d t) (of_members c) (class_of t) (w.takes t) (positive h) h.class, kids (suc j) w g)

-- the class is the last one's
inner_same : (t : Tree) → eqb (kind_of t) NodeKind.List ≡ false → inner_class (Some t) ≡ class_of t
unfolding mode_of
inner_same (node k v f) e = rw e

last_class : {d : Tree → ℕ} {c n : ℕ} {t : Tree} {f : Forest} → Member d c n → Mets d (more t f) → list_class (suc n) (inner_class (last_tree (more t f))) ≡ c
unfolding last_tree
last_class w (m_more {t = t} h m_none) = rw (inner_same t (no_list h)) (w.makes t (positive h) h.class)
last_class w (m_more h (m_more g r)) = last_class w (m_more g r)

-- a list that fits, and whose class meets the demand e
pub record Listed (e : ℕ) (f : Forest) : Type 0 where
  pub fit : Fit (Node.list f)
  pub class : fits e (class_of (Node.list f)) ≡ true

pub some_listed : {d : Tree → ℕ} {c e : ℕ} {t : Tree} {f : Forest} → Member d c (count f) → fits e c ≡ true → Mets d (more t f) → Listed e (more t f)
unfolding all_fit mode_of class count sound top exceeds
some_listed w e m = record {
  fit = record { fit = rw (last_class w m, kids 1 w m, members_fit m) };
  class = rw (last_class w m) e;
}

pub none_listed : {e : ℕ} → fits e Class.Empty ≡ true → Listed e none
unfolding all_fit kids_fit mode_of list_class class count sound top exceeds
none_listed z = record { fit = record { fit = refl }; class = z }

pub listed : {d : Tree → ℕ} {c e : ℕ} {f : Forest} → ((n : ℕ) → Member d c n) → fits e c ≡ true → fits e Class.Empty ≡ true → Mets d f → Listed e f
listed w e z m_none = none_listed z
listed w e z (m_more {f = f} h g) = some_listed (w (count f)) e (m_more h g)

pub list_kid : {k v m j : ℕ} {f : Forest} → Listed (demand k v m j) f → unlabelled k v ≡ false → Kid k v m j (Node.list f)
unfolding ends_single
list_kid {k} l u = record { fit = l.fit.fit; class = l.class; free = rw (u, and-false (not (closed k))) }

-- the members
pub exactly : (x c : ℕ) → x < Class.Lists → 1 ≤ c → fits (only x) c ≡ true → c ≡ x
exactly x c l p h = by_fits (only x) c h (λ a b. omega arith) (λ e. omega arith)

exact : (x : ℕ) → Class.Pattern ≤ x → x < Class.Lists → (x ≡ Class.Default → ⊥) → (n : ℕ) → Member (λ t. only x) (Class.Lists + x) n
unfolding list_class plain_list of_members
exact x l u e n = record {
  takes = λ t.
      let same : only (Class.Lists + x - Class.Lists) ≡ only x = omega arith in
      rw (ne_eqb (Class.Lists + x) Class.Operands (omega arith), ne_eqb (Class.Lists + x) Class.Argument (omega arith), lt-leb (Class.Lists + x) Class.Argument (omega arith), lt-leb Class.Nothing (Class.Lists + x) (omega arith), same, within_same (only x));
  makes = λ t p h. rw (exactly x (class_of t) u p h, eqb-suc-zero n, lt-leb x Class.LastOperator (omega arith), le-leb Class.Pattern x l, lt-leb Class.Lists x u, ne_eqb x Class.Default e);
}

pub patterns : (n : ℕ) → Member (λ p. Demand.Pattern) (Class.Lists + Class.Pattern) n
patterns = exact Class.Pattern (omega arith) (omega arith) (λ e. omega arith)

pub stmts : (n : ℕ) → Member (asked stmt) (Class.Lists + Class.Statement) n
stmts = exact Class.Statement (omega arith) (omega arith) (λ e. omega arith)

pub items : (calls : Bool) (n : ℕ) → Member (asked (item calls)) (Class.Lists + Class.Item) n
items calls = exact Class.Item (omega arith) (omega arith) (λ e. omega arith)

pub table_items : (n : ℕ) → Member (asked table_item) (Class.Lists + Class.TableItem) n
table_items = exact Class.TableItem (omega arith) (omega arith) (λ e. omega arith)

pub params : (n : ℕ) → Member (asked param) (Class.Lists + Class.Param) n
params = exact Class.Param (omega arith) (omega arith) (λ e. omega arith)

pub branches : (n : ℕ) → Member (asked branch) (Class.Lists + Class.Branch) n
branches = exact Class.Branch (omega arith) (omega arith) (λ e. omega arith)

pub operands : (n : ℕ) → Member (λ t. Demand.Operand) Class.Operands n
unfolding list_class of_members within
operands n = record {
  takes = λ t. refl;
  makes = λ t p h. by_fits Demand.Operand (class_of t) h (λ a b. rw (eqb-suc-zero n, le-leb (class_of t) Class.LastOperator b)) (λ e. absurd (omega arith));
}

-- the only default, and the only argument where it is an assignment
pub default : Member (λ t. Default) (Class.Lists + Class.Default) 0
unfolding list_class plain_list default_list of_members within
default = record { takes = λ t. refl; makes = λ t p h. rw (exactly Class.Default (class_of t) (omega arith) p h) }

pub argument : Member (λ t. Demand.Assignment) Class.Argument 0
unfolding list_class argument_list of_members within
argument = record {
  takes = λ t. refl;
  makes = λ t p h.
      by_fits Demand.Assignment (class_of t) h
      (λ a b. rw (lt-leb (class_of t) Class.LastOperator (omega arith), lt-leb Class.Pattern (class_of t) (omega arith))
      (by_test (eqb (class_of t) Class.Local)
      (λ e. rw e)
      (λ e. let no : class_of t ≡ Class.Local → ⊥ = eqb-false (class_of t) Class.Local e in rw (e, eq-eqb (class_of t) Class.Keyword (omega arith)))))
      (λ e. absurd (omega arith));
}
