-- The pass over a node's children, from the last of the trees that stand to the first child, with what is kept of them. Assumes nothing.
use mathlib.Core.Path.{◌≡◌, refl, sym, ap, ◌∙◌, subst}
use mathlib.Core.Bool.{Bool, true, false, ◌&&◌, and-true, and_assoc}
use mathlib.Core.List.{List, [], ◌∷◌, ◌++◌}
use Prim.Native.Nat.{ℕ, suc, ◌+◌, ◌-◌, ◌≤◌, ◌<◌}
use native.Mathlib.Omega.{arith}
use lib.ListN.{length, length-append}
use Rattle.std.specs.Prelude.{Option, Some, None}
use Rattle.tree.specs.Tree.{Tree, Forest, none, more, count}
use Rattle.tree.specs.Records.{back}
use Rattle.grammar.specs.Canonical.Write.{target_items}
use Rattle.tables.specs.Children.{kind_in, first_tree}
use Rattle.tables.specs.Kinds.{target_item}
use Rattle.tables.specs.Demand.{demand}
use Rattle.tables.specs.Check.{kids_fit}
use Rattle.writer.specs.declared.legal.Kids.{Kids}
use Rattle.writer.specs.Stack.{At, Skipped}
use Rattle.writer.specs.Standing.{Kept, On, AtNode, Tells}
use Rattle.writer.specs.Verdict.{KidFits, FirstAs, KidsFitAs, KidsFit}
use Rattle.writer.proofs.Laws.{back_append, length_back, pop}
use Rattle.writer.proofs.Kids.{from_last, test_back}
use Rattle.writer.proofs.Targets.{item, items_all}
use Rattle.writer.proofs.Validity.{kid_test, kids_all}
use Rattle.writer.proofs.Keeping.{at_each}

-- what is told of the node at p holds for every tree that ends there
kids_one : {L : List ℕ} {p m : ℕ} {t : Tree} {s : List Tree} {r : Option Kids} → At L p (t ∷ s) → KidsFitAs L m t s r → KidsFit L p m r
kids_one {L} {m = m} {r = r} a w = record { how = at_each a (λ t s. KidsFitAs L m t s r) w }

-- ---------------------------------------------------------------- the tree at the bottom
unfoldable pub bottom : List Tree → Option Tree
bottom [] = None
bottom (t ∷ []) = Some t
bottom (t ∷ (u ∷ s)) = bottom (u ∷ s)

bottom_back : (f : Forest) (t : Tree) (u : List Tree) → bottom (back f (t ∷ u)) ≡ bottom (t ∷ u)
unfolding bottom back
bottom_back none t u = refl
bottom_back (more x f) t u = bottom_back f x (t ∷ u)

bottom_first : (f : Forest) → (count f ≡ 0 → ⊥) → bottom (back f []) ≡ first_tree f
unfolding bottom back count
bottom_first none n = absurd (n refl)
bottom_first (more t f) n = bottom_back f t []

-- ---------------------------------------------------------------- where the pass stands: j children are left, the last of them is the tree number i - 1 and ends at q
pub record Walk (L F : List ℕ) (base h p m k v j i q first : ℕ) (items : Bool) : Type 0 where
  pub node_at : AtNode L F base h p
  pub kind : k ≡ node_at.kind
  pub value : v ≡ node_at.value
  pub kids : List Tree
  pub at : At L q (kids ++ node_at.rest)
  pub many : length kids ≡ j
  pub number : i ≡ j + length node_at.rest
  pub inside : i ≤ h
  pub kept : Kept F base (kids ++ node_at.rest)
  pub same : kids_fit k v m 1 node_at.kids ≡ from_last (kid_test k v m) kids
  pub all_items : target_items node_at.kids ≡ items && from_last item kids
  pub under : (j ≡ 0 → ⊥) → bottom kids ≡ first_tree node_at.kids
  pub ended : j ≡ 0 → FirstAs L first node_at.kids node_at.rest

no_first_child : (L : List ℕ) (e : ℕ) (f : Forest) (s : List Tree) → count f ≡ 0 → FirstAs L e f s
unfolding count
no_first_child L e none s z = tt
no_first_child L e (more t f) s z = absurd (omega arith)

pub walk_start : {L F : List ℕ} {base h p k v n : ℕ} (m : ℕ) (y : AtNode L F base h p) → k ≡ y.kind → v ≡ y.value → n ≡ count y.kids → Walk L F base h p m k v n h (p - 2) (p - 2) true
unfolding from_last
walk_start {L} {F} {base} {h} {p} {k} {v} {n} m y ke ve ne =
    let l = length_back y.kids [] in
    let z = y.many in
    record {
      node_at = y;
      kind = ke;
      value = ve;
      kids = back y.kids [];
      at = subst (λ (x : List Tree). At L (p - 2) x) (back_append y.kids [] y.rest) (pop y.here).under;
      many = omega arith;
      number = omega arith;
      inside = omega arith;
      kept = subst (λ (x : List Tree). Kept F base x) (back_append y.kids [] y.rest) y.kept;
      same = kids_all k v m y.kids 1 ∙ sym (test_back (kid_test k v m) y.kids []);
      all_items = items_all y.kids 1 ∙ sym (test_back item y.kids []);
      under = λ g. bottom_first y.kids (λ e. g (omega arith));
      ended = λ g. no_first_child L (p - 2) y.kids y.rest (omega arith);
    }

module _ {L F : List ℕ} {base h p m k v j i q first : ℕ} {items : Bool} (w : Walk L F base h p m k v j i q first items) where
  -- the last of those that are left
  record Looks (u : List Tree) : Type 0 where
    pub top : Tree
    pub more : List Tree
    pub is : u ≡ top ∷ more

  looks : 0 < j → Looks w.kids
  looks z = go w.kids w.many
    where
      go : (u : List Tree) → length u ≡ j → Looks u
      go [] e = absurd (omega arith)
      go (t ∷ u) e = record { top = t; more = u; is = refl }

  module _ (z : 0 < j) where
    top_at : At L q ((looks z).top ∷ ((looks z).more ++ w.node_at.rest))
    top_at = subst (λ (x : List Tree). At L q (x ++ w.node_at.rest)) (looks z).is w.at

    top_kept : Kept F base ((looks z).top ∷ ((looks z).more ++ w.node_at.rest))
    top_kept = subst (λ (x : List Tree). Kept F base (x ++ w.node_at.rest)) (looks z).is w.kept

    top_bottom : bottom ((looks z).top ∷ (looks z).more) ≡ first_tree w.node_at.kids
    top_bottom = ap bottom (sym (looks z).is) ∙ w.under (λ x. omega arith)

    top_many : suc (length (looks z).more) ≡ j
    top_many = ap length (sym (looks z).is) ∙ w.many

  pub walk_on : 0 < j → On L F base (i - 1) q
  walk_on z =
      let n = w.number in
      let many = top_many z in
      let a = length-append (looks z).more w.node_at.rest in
      let room = w.node_at.room in
      let inside = w.inside in
      record { top = (looks z).top; rest = (looks z).more ++ w.node_at.rest; here = top_at z; many = omega arith; kept = top_kept z; room = omega arith }

  module _ (z : 0 < j) {asked : ℕ} {r : Bool} (ask : asked ≡ demand k v m j) (fit : KidFits L k v asked q r) where
    -- the test of the child, and of those before it
    tested : from_last (kid_test k v m) w.kids ≡ r && from_last (kid_test k v m) (looks z).more
    unfolding from_last
    tested =
        let e = fit.how (looks z).top _ (top_at z) in
        let n = top_many z in
        ap (from_last (kid_test k v m)) (looks z).is ∙ rw (e, ask, n)

    pub walk_bad : r ≡ false → KidsFit L p m None
    walk_bad e = kids_one w.node_at.here (rw (← w.kind, ← w.value, w.same, tested, e))

    pub walk_next : {q' : ℕ} {items' : Bool} → r ≡ true → Skipped L q q' → Tells L q (λ t s. items && target_item (kind_in (Some t))) items' → Walk L F base h p m k v (j - 1) (i - 1) q' q items'
    unfolding from_last bottom Kept
    walk_next {q'} {items'} e skipped told =
        let many = top_many z in
        let number = w.number in
        let inside = w.inside in
        record {
          node_at = w.node_at;
          kind = w.kind;
          value = w.value;
          kids = (looks z).more;
          at = skipped.how _ _ (top_at z);
          many = omega arith;
          number = omega arith;
          inside = omega arith;
          kept = (top_kept z).1;
          same = w.same ∙ tested ∙ rw e;
          all_items = w.all_items ∙ ap (λ (u : List Tree). items && from_last item u) (looks z).is ∙ rw (told.how _ _ (top_at z)) (sym (and_assoc items (target_item (kind_in (Some (looks z).top))) (from_last item (looks z).more)));
          under = λ g. lower (looks z).more (λ x. g (omega (arith, ap length x))) (top_bottom z);
          ended = λ g. last_one (looks z).more (omega arith) (top_bottom z) (top_at z);
        }
      where
        lower : (u : List Tree) → (u ≡ [] → ⊥) → bottom ((looks z).top ∷ u) ≡ first_tree w.node_at.kids → bottom u ≡ first_tree w.node_at.kids
        lower [] g x = absurd (g refl)
        lower (t ∷ u) g x = x

        last_one : (u : List Tree) → length u ≡ 0 → bottom ((looks z).top ∷ u) ≡ first_tree w.node_at.kids → At L q ((looks z).top ∷ (u ++ w.node_at.rest)) → FirstAs L q w.node_at.kids w.node_at.rest
        last_one (t ∷ u) g x a = absurd (omega arith)
        last_one [] g x a = the_first w.node_at.kids x
          where
            the_first : (f : Forest) → Some (looks z).top ≡ first_tree f → FirstAs L q f w.node_at.rest
            the_first none y = tt
            the_first (more t f) y = let e : (looks z).top ≡ t = cc in subst (λ (b : Tree). At L q (b ∷ w.node_at.rest)) e a

  pub walk_end : j ≡ 0 → KidsFit L p m (Some (record { begin = q; first = first; items = items }))
  unfolding from_last
  walk_end z = go w.kids w.many w.at w.same w.all_items
    where
      go : (u : List Tree) → length u ≡ j → At L q (u ++ w.node_at.rest) → kids_fit k v m 1 w.node_at.kids ≡ from_last (kid_test k v m) u → target_items w.node_at.kids ≡ items && from_last item u → KidsFit L p m (Some (record { begin = q; first = first; items = items }))
      go [] l a s e = kids_one w.node_at.here (rw (← w.kind, ← w.value) s, a, w.ended z, sym (e ∙ and-true items))
      go (t ∷ u) l a s e = absurd (omega arith)
