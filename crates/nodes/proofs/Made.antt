-- What was written becomes a tree by a record behind it. Assumes nothing.
use mathlib.Core.Path.{◌≡◌, refl, sym, ◌∙◌}
use mathlib.Core.List.{List, [], ◌∷◌, ◌++◌, append_assoc, append-nil}
use Prim.Native.Nat.{ℕ, ◌+◌, ◌*◌}
use native.Mathlib.Omega.{arith}
use lib.ListN.{length, take, drop}
use Rattle.tree.specs.Tree.{Tree, Forest, node, none, more, one, two, three, count, snoc, records, all_records}
use Rattle.tree.specs.Store.{Emitted}
use Rattle.grammar.specs.Reading.Result.{Res, Error}
use Rattle.scan.specs.Post.{As, Moved, Room, Wrote}
use Rattle.nodes.specs.Ends.{Ended}

-- the record of a node, after those of its kids
pub put : (k : ℕ) (f : Forest) (Z : List ℕ) {v word a r : ℕ} {S S' : List ℕ} → Emitted a word v r S S' → take a S ≡ Z ++ all_records f → word ≡ k + 256 * count f → take r S' ≡ Z ++ records (node k v f)
unfolding records
put k f Z e kids w = e.text ∙ rw (kids, w, append_assoc)

pub all_one : (t : Tree) → all_records (one t) ≡ records t
unfolding records
all_one t = append-nil (records t)

pub all_two : (t u : Tree) → all_records (two t u) ≡ records t ++ records u
unfolding records
all_two t u = rw append-nil

-- the words of a node over one, two and three trees
pub over_one : (k v : ℕ) (t : Tree) → records (node k v (one t)) ≡ records t ++ (k + 256) ∷ v ∷ []
unfolding records count
over_one k v t = rw append-nil

pub over_two : (k v : ℕ) (t u : Tree) → records (node k v (two t u)) ≡ records t ++ (records u ++ (k + 512) ∷ v ∷ [])
unfolding records count
over_two k v t u = rw (append-nil, append_assoc)

pub over_three : (k v : ℕ) (t u s : Tree) → records (node k v (three t u s)) ≡ records t ++ (records u ++ (records s ++ (k + 768) ∷ v ∷ []))
unfolding records count
over_three k v t u s = rw (append-nil, append_assoc, append_assoc)

pub all_snoc : (f : Forest) (t : Tree) → all_records (snoc f t) ≡ all_records f ++ records t
unfolding records snoc
all_snoc none t = append-nil (records t)
all_snoc (more u f) t = rw (all_snoc f t, append_assoc)

pub count_snoc : (f : Forest) (t : Tree) → count (snoc f t) ≡ count f + 1
unfolding count snoc
count_snoc none t = refl
count_snoc (more u f) t = rw (count_snoc f t) (omega arith)

-- what ends by a record of its own, after those of its kids
module _ {E : Type 0} {D : Res E} {K : Tree → List Error → List ℕ → Res E} {T : List ℕ} {pos least slack at : ℕ} {S Q : List ℕ} {q r : ℕ} {S'' Q'' : List ℕ} (k : ℕ) where
  pub made_none : {v word : ℕ} → Emitted at word v r S S'' → As Q D Q'' (K (node k v none) Q'' (drop q T)) → Moved (length T) least q Q Q'' → Room pos at slack q r → word ≡ k + 0 → Wrote records D K T pos least slack at S Q q r S'' Q''
  unfolding records count
  made_none {v} e same moved room g = record { what = node k v none; same = same; moved = moved; room = room; text = put k none (take at S) e (sym (append-nil (take at S))) g }

  module _ {v word : ℕ} {C : Type 0} {d : Res C} {pos' least' slack' : ℕ} {Q₁ : List ℕ} {p a : ℕ} {S' Q' : List ℕ} where
    pub made : {k' : Forest → List Error → List ℕ → Res C} (g : Wrote all_records d k' T pos' least' slack' at S Q₁ p a S' Q') → Emitted a word v r S' S'' → As Q D Q'' (K (node k v g.what) Q'' (drop q T)) → Moved (length T) least q Q Q'' → Room pos at slack q r → word ≡ k + 256 * count g.what → Wrote records D K T pos least slack at S Q q r S'' Q''
    made g e same moved room i = record { what = node k v g.what; same = same; moved = moved; room = room; text = put k g.what (take at S) e g.text i }

    module _ {k' : Tree → List Error → List ℕ → Res C} (g : Wrote records d k' T pos' least' slack' at S Q₁ p a S' Q') where
      pub made_one : Emitted a word v r S' S'' → As Q D Q'' (K (node k v (one g.what)) Q'' (drop q T)) → Moved (length T) least q Q Q'' → Room pos at slack q r → word ≡ k + 256 → Wrote records D K T pos least slack at S Q q r S'' Q''
      unfolding count
      made_one e same moved room i = record { what = node k v (one g.what); same = same; moved = moved; room = room; text = put k (one g.what) (take at S) e (rw all_one g.text) i }

      pub made_two : {C' : Type 0} {d₂ : Res C'} {k₂ : Tree → List Error → List ℕ → Res C'} {pos₂ least₂ slack₂ : ℕ} {Q₃ : List ℕ} {p₂ a₂ : ℕ} {S₂ Q₄ : List ℕ} (h : Wrote records d₂ k₂ T pos₂ least₂ slack₂ a S' Q₃ p₂ a₂ S₂ Q₄) → Emitted a₂ word v r S₂ S''
          → As Q D Q'' (K (node k v (two g.what h.what)) Q'' (drop q T)) → Moved (length T) least q Q Q'' → Room pos at slack q r → word ≡ k + 512 → Wrote records D K T pos least slack at S Q q r S'' Q''
      unfolding count
      made_two h e same moved room i = record { what = node k v (two g.what h.what); same = same; moved = moved; room = room; text = put k (two g.what h.what) (take at S) e (h.text ∙ rw (g.text, all_two, append_assoc)) i }

-- one more tree after a forest
pub joined : (f : Forest) (t : Tree) (Z : List ℕ) {X Y : List ℕ} → Y ≡ X ++ records t → X ≡ Z ++ all_records f → Y ≡ Z ++ all_records (snoc f t)
joined f t Z e h = e ∙ rw (h, all_snoc, append_assoc)

-- what a function that ends a tree made of it
pub remade : {A B C E : Type 0} {words : A → List ℕ} {fits : A → Type 0} {words' : B → List ℕ} {make : A → B} {d : Res C} {k : A → List Error → List ℕ → Res C} {T : List ℕ} {pos' least' slack' at : ℕ} {S Q₁ : List ℕ} {p a : ℕ} {S' Q' : List ℕ}
    (g : Wrote words d k T pos' least' slack' at S Q₁ p a S' Q') {most r : ℕ} {S'' : List ℕ} → Ended words fits words' make a most r S' S'' → fits g.what
    → {D : Res E} {K : B → List Error → List ℕ → Res E} {pos least slack : ℕ} {Q : List ℕ} {q : ℕ} {Q'' : List ℕ} → As Q D Q'' (K (make g.what) Q'' (drop q T)) → Moved (length T) least q Q Q'' → Room pos at slack q r
    → Wrote words' D K T pos least slack at S Q q r S'' Q''
remade {make = make} {at = at} {S = S} g e f same moved room = record { what = make g.what; same = same; moved = moved; room = room; text = e.text (take at S) g.what f g.text }
