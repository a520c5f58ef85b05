-- What a tree's kind takes from the classes that it can have, and what a demand says of its kind. Assumes nothing.
use Rattle.std.specs.Prelude.{◌≡◌, refl, Bool, true, false, not, ℕ, eqb, leb}
use Rattle.std.proofs.Math.Bool.{and-false}
use Rattle.std.proofs.Common.{arith, eqb-true, leb-true, leb-false}
use Rattle.tree.specs.NodeKind
use Rattle.tree.specs.Tree.{Tree, node, kind_of}
use Rattle.tree.specs.Node
use Rattle.grammar.specs.Reading.Stmt.{lone_ellipsis}
use Rattle.grammar.proofs.Laws.Facts.{clash, by_test}
use Rattle.tables.specs.Class as Class
use Rattle.tables.specs.Class.{class}
use Rattle.tables.specs.Demand as Demand
use Rattle.tables.specs.Demand.{demand, fits}
use Rattle.tables.specs.Kinds.{passes, unlabelled, closed}
use Rattle.tables.specs.Sound.{top, exceeds, arity}
use Rattle.tables.specs.Check.{class_of, begins_labelled, ends_single}
use Rattle.tables.proofs.Valid.Meets.Demands.{fits_between, by_fits}
use Rattle.tables.proofs.Valid.Meets.Kids.{Kid, none_fits, shaped}
use Rattle.tables.proofs.Valid.Meets.Met.{Met, by_class, by_its_class, positive, told, ready, met}

-- a missing child
pub absent_met : {d : ℕ} {begin close : Bool} → fits d Class.Absent ≡ true → Met d begin close Node.absent
unfolding shaped arity exceeds top ready told class begins_labelled ends_single passes
absent_met e = met (none_fits refl refl) (rw e)

pub absent_kid : {k v m j : ℕ} → fits (demand k v m j) Class.Absent ≡ true → Kid k v m j Node.absent
unfolding shaped arity exceeds top class begins_labelled ends_single passes
absent_kid {k} {v} e = record { fit = (none_fits {v = 0} refl refl).fit; class = e; free = rw (and-false (unlabelled k v), and-false (not (closed k))) }

-- what is no missing child
pub some_kind : (d : ℕ) (t : Tree) → fits d (class_of t) ≡ true → fits d Class.Absent ≡ false → eqb (kind_of t) NodeKind.Absent ≡ false
unfolding class
some_kind d (node k v f) h e =
    by_test (eqb k NodeKind.Absent)
    (λ z. clash h (rw (eqb-true k NodeKind.Absent z) e))
    (λ z. z)

module _ {d : ℕ} {begin close : Bool} {t : Tree} (h : Met d begin close t) where
  -- the same tree where its class is one of fewer
  fewer : (e : ℕ) → fits e (class_of t) ≡ true → Met e begin close t
  fewer e c = record { fit = h.fit; class = c; begins = h.begins; ends = h.ends; tells = h.tells }

  other_class : (c : ℕ) → by_class c t ≡ false → class_of t ≡ c → ⊥
  other_class c e q = clash (rw q at (by_its_class h)) e

module _ {begin close : Bool} {t : Tree} where
  -- no `...` alone
  pub stated : lone_ellipsis t ≡ false → Met Demand.Expr begin close t → Met Demand.Stated begin close t
  stated l h =
      let no = other_class h Class.Lone l in
      fewer h Demand.Stated
      (by_fits Demand.Expr (class_of t) h.class
      (λ a b. fits_between Demand.Stated (class_of t) (omega arith) b)
      (λ e. absurd (omega (arith, positive h))))

  -- no assignment
  pub unassigned : eqb (kind_of t) NodeKind.Assignment ≡ false → Met Demand.Grouped begin close t → Met Demand.Unassigned begin close t
  unassigned l h =
      let no = other_class h Class.Local l in
      fewer h Demand.Unassigned
      (by_fits Demand.Grouped (class_of t) h.class
      (λ a b. fits_between Demand.Unassigned (class_of t) a (omega arith))
      (λ e. absurd (omega (arith, positive h))))

  -- no tuple: an operand or an assignment
  pub untupled : {P : Type 0} → eqb (kind_of t) NodeKind.Tuple ≡ false → Met Demand.Expr begin close t → (Met Demand.Operand begin close t → P) → (Met Demand.Assignment begin close t → P) → P
  untupled l h f g =
      let no = other_class h Class.Tuple l in
      by_fits Demand.Expr (class_of t) h.class
      (λ a b. by_test (leb (class_of t) Class.LastOperator)
      (λ e. f (fewer h Demand.Operand (fits_between Demand.Operand (class_of t) a (leb-true (class_of t) Class.LastOperator e))))
      (λ e. g (fewer h Demand.Assignment (fits_between Demand.Assignment (class_of t) (omega (arith, leb-false (class_of t) Class.LastOperator e)) b))))
      (λ e. absurd (omega (arith, positive h)))
