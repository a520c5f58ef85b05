-- A tree that meets a demand, with what the tables ask of it besides: under a wider demand, as a child of a node, and by computation. Assumes nothing.
use Rattle.std.specs.Prelude.{◌≡◌, refl, Bool, true, false, cond, not, ◌&&◌, ◌||◌, ℕ, ◌≤◌, eqb, ltb}
use Rattle.std.proofs.Common.{arith}
use borrow.Author.Tests.{eqb-false, not-true}
use Rattle.tree.specs.NodeKind
use Rattle.tree.specs.Tree.{Tree, node, none, more, kind_of}
use Rattle.grammar.proofs.Laws.Facts.{clash, and_l, and_r, by_test}
use Rattle.grammar.specs.Reading.Stmt.{lone_ellipsis}
use Rattle.tables.specs.Class as Class
use Rattle.tables.specs.Demand.{demand, fits}
use Rattle.tables.specs.Kinds.{unlabelled, closed}
use Rattle.tables.specs.Check.{class_of, begins_labelled, ends_single}
use Rattle.tables.proofs.Valid.Meets.Demands.{within, fits_up}
use Rattle.tables.proofs.Valid.Meets.Kids.{Fit, Kid}

-- an expression statement is of one that has a class
abbrev some_child : Tree → Bool
some_child (node k v none) = true
some_child (node k v (more t f)) = not (eqb k NodeKind.Expression) || ltb 0 (class_of t)

-- what classes tell of a tree: three of them its kind
abbrev pub by_class : ℕ → Tree → Bool
by_class c t =
    cond (eqb c 0) false
    (cond (eqb c Class.Lone) (lone_ellipsis t)
    (cond (eqb c Class.Tuple) (eqb (kind_of t) NodeKind.Tuple)
    (cond (eqb c Class.Local) (eqb (kind_of t) NodeKind.Assignment)
    (cond (eqb c Class.Statement) (some_child t)
    true))))

unfoldable pub told : Tree → Bool
told t = not (eqb (kind_of t) NodeKind.List) && by_class (class_of t) t

-- a tree that fits the demand d, and that begins with no label and ends in no tuple of one member unless it may
pub record Met (d : ℕ) (begin close : Bool) (t : Tree) : Type 0 where
  pub fit : Fit t
  pub class : fits d (class_of t) ≡ true
  pub begins : begin ≡ false → begins_labelled t ≡ false
  pub ends : close ≡ false → ends_single t ≡ false
  pub tells : told t ≡ true

module _ {d : ℕ} {begin close : Bool} {t : Tree} (h : Met d begin close t) where
  pub no_list : eqb (kind_of t) NodeKind.List ≡ false
  unfolding told
  no_list = not-true (eqb (kind_of t) NodeKind.List) (and_l (not (eqb (kind_of t) NodeKind.List)) (by_class (class_of t) t) h.tells)

  pub by_its_class : by_class (class_of t) t ≡ true
  unfolding told
  by_its_class = and_r (not (eqb (kind_of t) NodeKind.List)) (by_class (class_of t) t) h.tells

  pub positive : 1 ≤ class_of t
  positive =
      by_test (eqb (class_of t) 0)
      (λ e. clash (rw e at by_its_class) refl)
      (λ e. let some = eqb-false (class_of t) 0 e in omega arith)

-- under a wider demand
pub wider : {d e : ℕ} {begin close first last : Bool} {t : Tree} → within d e ≡ true → (first ≡ false → begin ≡ false) → (last ≡ false → close ≡ false) → Met d begin close t → Met e first last t
wider {d} {e} {t = t} w b c h = record {
  fit = h.fit;
  class = fits_up d e (class_of t) w (positive h) h.class;
  begins = λ x. h.begins (b x);
  ends = λ x. h.ends (c x);
  tells = h.tells;
}

-- whether what meets a demand can be a node's child
unfoldable pub suits : ℕ → Bool → Bool → ℕ → ℕ → ℕ → ℕ → Bool
suits d begin close k v m j = within d (demand k v m j) && (not (unlabelled k v && begin) && not (not (closed k) && close))

free_side : (asked allowed is : Bool) → not (asked && allowed) ≡ true → (allowed ≡ false → is ≡ false) → asked && is ≡ false
free_side true true is s f = clash s refl
free_side true false is s f = f refl
free_side false allowed is s f = refl

pub kid : {d : ℕ} {begin close : Bool} {t : Tree} {k v m j : ℕ} → Met d begin close t → suits d begin close k v m j ≡ true → Kid k v m j t
unfolding suits
kid {d} {begin} {close} {t} {k} {v} {m} {j} h s =
    let sides = and_r (within d (demand k v m j)) (not (unlabelled k v && begin) && not (not (closed k) && close)) s in
    record {
      fit = h.fit.fit;
      class = fits_up d (demand k v m j) (class_of t) (and_l (within d (demand k v m j)) (not (unlabelled k v && begin) && not (not (closed k) && close)) s) (positive h) h.class;
      free = rw (free_side (unlabelled k v) begin (begins_labelled t) (and_l (not (unlabelled k v && begin)) (not (not (closed k) && close)) sides) h.begins, free_side (not (closed k)) close (ends_single t) (and_r (not (unlabelled k v && begin)) (not (not (closed k) && close)) sides) h.ends);
    }

-- a node that begins with no label and doesn't end in a tuple of one member
unfoldable pub ready : ℕ → Tree → Bool
ready d t = (fits d (class_of t) && told t) && (not (begins_labelled t) && not (ends_single t))

pub met : {d : ℕ} {begin close : Bool} {t : Tree} → Fit t → ready d t ≡ true → Met d begin close t
unfolding ready
met {d} {t = t} f r =
    let first = and_l (fits d (class_of t) && told t) (not (begins_labelled t) && not (ends_single t)) r in
    let sides = and_r (fits d (class_of t) && told t) (not (begins_labelled t) && not (ends_single t)) r in
    record {
      fit = f;
      class = and_l (fits d (class_of t)) (told t) first;
      begins = λ x. not-true (begins_labelled t) (and_l (not (begins_labelled t)) (not (ends_single t)) sides);
      ends = λ x. not-true (ends_single t) (and_r (not (begins_labelled t)) (not (ends_single t)) sides);
      tells = and_r (fits d (class_of t)) (told t) first;
    }
