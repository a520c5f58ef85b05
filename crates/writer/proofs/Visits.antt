-- A visit of a node, and the pass over all nodes with what is kept of the trees that stand. Assumes nothing.
use mathlib.Core.Path.{◌≡◌, refl, sym, ap, ◌∙◌, subst}
use mathlib.Core.Bool.{Bool, true, false}
use mathlib.Core.List.{List, [], ◌∷◌}
use Prim.Native.Nat.{ℕ, ◌+◌, ◌≤◌, ◌<◌}
use native.Mathlib.Omega.{arith}
use lib.Dec.{eqb, leb}
use borrow.Author.Tests.{leb-false}
use lib.ListN.{length}
use Rattle.tree.specs.Tree.{Tree, node, count}
use Rattle.tree.specs.Records.{stack_records, back}
use Rattle.tables.specs.Class as Class
use Rattle.tables.specs.Class.{class}
use Rattle.tables.specs.Children.{kind_in, value_in, children_in}
use Rattle.tables.specs.Check.{class_of, mode_of, begins_labelled, legal_tree}
use Rattle.std.specs.Prelude.{IfSome, Option, Some, None}
use Rattle.writer.specs.declared.legal.Kids.{Kids}
use Rattle.writer.specs.Stack.{At, Skipped}
use Rattle.writer.specs.Standing.{serves, far, word, entry, Entry, Kept, AtNode, Keeps, Tells}
use Rattle.writer.specs.Verdict.{Items, KidsFitAs, KidsFit, VisitedAs, Visited, Whole}
use Rattle.writer.proofs.Laws.{at_many, length_back}
use Rattle.writer.proofs.Places.{class_same}
use Rattle.writer.proofs.Keeping.{at_one, at_each, kept_back, keeps_right, keeps_room}
use Rattle.writer.proofs.Validity.{Passed, Next, way_at, passed_start, passed_next, passed_end, whole_bad, whole_good}

-- ---------------------------------------------------------------- by the answers
module _ {L : List ℕ} {p m : ℕ} {r : Option Kids} (w : KidsFit L p m r) where
  pub kids_at : {x : Option Kids} → r ≡ x → (t : Tree) (s : List Tree) → At L p (t ∷ s) → KidsFitAs L m t s x
  kids_at e t s a = rw e at (w.how t s a)

  module _ {k : Kids} (fit : r ≡ Some k) where
    pub fit_begins : Skipped L p k.begin
    fit_begins = record { how = λ t s a. (kids_at fit t s a).1 }

    pub fit_items : Items L p k.items
    fit_items = record { how = λ t s a. (kids_at fit t s a).3 }

-- ---------------------------------------------------------------- what is to be kept of a node
pub class_found : (t : Tree) {k v m c : ℕ} → k ≡ kind_in (Some t) → v ≡ value_in (Some t) → m ≡ mode_of (kind_in (Some t)) (children_in (Some t)) → c ≡ class k v m → c ≡ class_of t
class_found t ke ve me ce = ce ∙ rw (ke, ve, me) (class_same t)

pub entry_made : (t : Tree) (s : List Tree) {c b : ℕ} {l x : Bool} {w : Option ℕ} → c ≡ class_of t → l ≡ begins_labelled t → x ≡ serves t s → b ≡ length (stack_records s) → w ≡ word c l x b → IfSome w (λ w. Entry w t s)
unfolding entry word
entry_made t s {c} {b} {l} {x} {w} ce le xe be e = go (leb 128 c) (leb far b) refl refl
  where
    go : (y z : Bool) → leb 128 c ≡ y → leb far b ≡ z → IfSome w (λ w. Entry w t s)
    go true z f g = rw (e, f) tt
    go false true f g = rw (e, f, g) tt
    go false false f g = rw (e, f, g) (record { small = rw ce at (leb-false 128 c f); same = rw (ce, le, xe, be) })

-- ---------------------------------------------------------------- where the pass stands: h trees before p, and what is kept of them
pub record Going (L F : List ℕ) (p h base : ℕ) : Type 0 where
  pub whole : Whole L
  pub passed : Passed L whole.top p
  pub many : length passed.stack ≡ h
  pub kept : Kept F base passed.stack
  pub room : h ≤ base + length F

none_kept : {L : List ℕ} (F : List ℕ) (s : List Tree) → At L 0 s → Kept F 0 s
unfolding Kept
none_kept F [] a = tt
none_kept F (t ∷ s) a = absurd (omega (arith, at_many a))

pub going_start : {L : List ℕ} (F : List ℕ) → Whole L → Going L F 0 0 0
going_start F y =
    let x = passed_start y.here in
    let a = way_at x.way in
    record { whole = y; passed = x; many = omega (arith, at_many a); kept = none_kept F x.stack a; room = omega arith }

module _ {L F : List ℕ} {p h base : ℕ} (g : Going L F p h base) (z : p < length L) where
  abbrev next_one : Next L g.whole.top p g.passed.stack
  next_one = passed_next g.passed z

  -- the node that comes
  abbrev pub next_node : AtNode L F base h (p + 2)
  next_node =
      let n = next_one in
      let l = length_back n.kids n.rest in
      let e : length g.passed.stack ≡ length (back n.kids n.rest) = ap length n.is in
      let many = g.many in
      record { kind = n.kind; value = n.value; kids = n.kids; rest = n.rest; here = n.at; many = omega arith; kept = subst (λ (s : List Tree). Kept F base s) n.is g.kept; room = g.room }

  module _ {r : Option (Option ℕ)} (w : Visited L (p + 2) r) where
    pub next_bad : r ≡ None → (t : Tree) → At L (length L) (t ∷ []) → false ≡ legal_tree t
    next_bad e t a =
        let n = next_one in
        let f = w.how (node n.kind n.value n.kids) n.rest n.at in
        at_each g.whole.here (λ u s. false ≡ legal_tree u) (sym (whole_bad g.whole.top (n.bad (rw e at f)))) t [] a

    pub next_good : {word : Option ℕ} {i base' : ℕ} {F' : List ℕ} → r ≡ Some word → i + count next_node.kids ≡ h → Keeps F F' base i word base' → Going L F' (p + 2) (i + 1) base'
    next_good {word} {i} {base'} {F'} e number keeps =
        let n = next_one in
        let v : VisitedAs (node n.kind n.value n.kids) n.rest (Some word) = rw e at (w.how _ _ n.at) in
        let x = n.fits v.0 in
        let y = next_node in
        let l : length n.rest ≡ i = omega (arith, y.many) in
        let k = keeps_right keeps _ n.rest l v.1 (kept_back F base n.kids n.rest y.kept) in
        let room = keeps_room keeps in
        record {
          whole = g.whole;
          passed = x.0;
          many = ap length x.1 ∙ omega arith;
          kept = subst (λ (s : List Tree). Kept F' base' s) (sym x.1) k;
          room = omega arith;
        }

-- all nodes were visited: the whole stands alone
module _ {L F : List ℕ} {p h base : ℕ} (g : Going L F p h base) (z : length L ≤ p) where
  alone : g.passed.stack ≡ g.whole.top ∷ []
  alone =
      let a = way_at g.passed.way in
      let i = a.inside in
      let e : p ≡ length L = omega arith in
      at_one (subst (λ (q : ℕ). At L q g.passed.stack) e a) g.whole.here

  pub end_good : {c : ℕ} → Tells L (length L) (λ t s. class_of t) c → (t : Tree) → At L (length L) (t ∷ []) → eqb c Class.Statement ≡ legal_tree t
  end_good {c} w t a = at_each g.whole.here (λ u s. eqb c Class.Statement ≡ legal_tree u) (sym (whole_good g.whole.top (passed_end g.passed z) (w.how _ _ g.whole.here))) t [] a
