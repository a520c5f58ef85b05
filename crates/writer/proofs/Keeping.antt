-- What is kept of the trees that stand: how it is read and written, and the trees that a place determines. Assumes nothing.
use mathlib.Core.Path.{◌≡◌, refl, sym, ap, ◌∙◌, subst}
use mathlib.Core.Bool.{Bool, true, false}
use mathlib.Core.List.{List, [], ◌∷◌}
use Prim.Native.Nat.{ℕ, suc, ◌+◌, ◌-◌, ◌/◌, ◌%◌, ◌≤◌, ◌<◌}
use native.Mathlib.Omega.{arith}
use lib.Dec.{eqb, ltb, leb}
use native.Mathlib.Decide.{ℕ_discrete}
use borrow.Author.Tests.{eq-eqb, ne_eqb, eqb-true, ltb-false, leb-false}
use lib.ListN.{length, get_or, set, take, length-append, length-set}
use mir.Val.{bool_byte}
use lib.Seq.{take-take, take-append_seam, get_or-set_same, get_or-set_other}
use Rattle.std.specs.Prelude.{IfSome, MatchOption, Option, Some, None}
use Rattle.tree.specs.NodeKind
use Rattle.tree.specs.Tree.{Tree, Forest, node, none, more, count, records}
use Rattle.tree.specs.Records.{stack_records, StackSmall, back, stack_same}
use Rattle.grammar.proofs.Laws.Facts.{clash}
use Rattle.tables.specs.Kinds.{gives_name}
use Rattle.tables.specs.Sound.{exceeds, arity, sound}
use Rattle.tables.specs.Check.{class_of, begins_labelled, first_labelled}
use Rattle.tables.specs.Children.{kind_in, count_in, value_in, children_in, first_tree, last_tree}
use Rattle.writer.specs.Stack.{At, Here, Skipped, SpotAs, Spot, Somewhere, Says}
use Rattle.writer.specs.Standing.{first_of, first_kept, keep_from, keep_in, name_serves, serves_as, serves, one, entry, Entry, Kept, Keeps, On, AtNode, SoundAt, Tells}
use Rattle.writer.specs.Verdict.{FirstAs, First}
use Rattle.writer.proofs.Laws.{at_many, at_length, length_back, pop}
use Rattle.writer.proofs.Spots.{back_last}
use Rattle.writer.proofs.Places.{stands, first_is_last}

-- ---------------------------------------------------------------- a place determines the trees before it
pub at_one : {L : List ℕ} {p : ℕ} {s u : List Tree} → At L p s → At L p u → s ≡ u
at_one a b = stack_same a.small b.small (sym a.text ∙ b.text)

module _ {L : List ℕ} {q : ℕ} {t : Tree} {s : List Tree} (a : At L q (t ∷ s)) where
  -- what holds of one tree there holds of every one
  pub at_each : (P : Tree → List Tree → Type 0) → P t s → (t' : Tree) (s' : List Tree) → At L q (t' ∷ s') → P t' s'
  at_each P x t' s' b =
      let e = at_one a b in
      let y : t ≡ t' = cc in
      let z : s ≡ s' = cc in
      subst (λ (u : Tree). P u s') y (subst (λ (u : List Tree). P t u) z x)

  pub tells_one : {A : Type 0} {what : Tree → List Tree → A} {r : A} → r ≡ what t s → Tells L q what r
  tells_one {what = what} {r = r} e = record { how = at_each (λ t s. r ≡ what t s) e }

  pub says_one : {A : Type 0} {what : Option Tree → A} {r : A} → r ≡ what (Some t) → Says L q what r
  says_one {A} {what} {r} e = record { how = λ m s' h. go m s' h.how }
    where
      go : (m : Option Tree) (s' : List Tree) → SpotAs L q m s' → r ≡ what m
      go None s' z = absurd (omega (arith, at_many a))
      go (Some t') s' b = let x = at_one b a in cc

  pub skipped_one : {r : ℕ} → At L r s → Skipped L q r
  skipped_one {r} b = record { how = at_each (λ t s. At L r s) b }

  -- where the trees under the top one end
  pub at_under : At L (length (stack_records s)) s
  unfolding stack_records StackSmall
  at_under =
      let n = at_length a in
      let l = length-append (stack_records s) (records t) in
      let i = a.inside in
      record {
        text = sym (take-take (length (stack_records s)) q L (omega arith)) ∙ ap (take (length (stack_records s))) a.text ∙ take-append_seam (stack_records s) (records t);
        inside = omega arith;
        small = a.small.1;
      }

-- the place under a tree
pub under_spot : {L : List ℕ} {b : ℕ} (s : List Tree) → At L b s → (u : List Tree) × Spot L b (first_of s) u
unfolding stack_records
under_spot [] a = ([], record { how = at_length a })
under_spot (t ∷ s) a = (s, record { how = a })

pub under_place : {L : List ℕ} {b : ℕ} {s : List Tree} → At L b s → Somewhere L b
under_place {s = s} a = let x = under_spot s a in record { tree = first_of s; rest = x.0; spot = x.1 }

-- ---------------------------------------------------------------- a word of what is kept
-- a flag as the code has it
pub byte_is : (b : Bool) → bool_byte b ≡ one b
byte_is true = refl
byte_is false = refl

pub one_is : (b : Bool) → (one b ≤ 1) × (eqb (one b) 1 ≡ b)
one_is true = (omega arith, refl)
one_is false = (omega arith, refl)

module _ {w : ℕ} {t : Tree} {s : List Tree} (e : Entry w t s) where
  pub entry_begin : w / 512 ≡ length (stack_records s)
  unfolding entry
  entry_begin = omega (arith, e.small, e.same, (one_is (begins_labelled t)).0, (one_is (serves t s)).0)

  pub entry_class : w % 128 ≡ class_of t
  unfolding entry
  entry_class = omega (arith, e.small, e.same, (one_is (begins_labelled t)).0, (one_is (serves t s)).0)

  pub entry_labelled : eqb (w / 128 % 2) 1 ≡ begins_labelled t
  unfolding entry
  entry_labelled =
      let x : w / 128 % 2 ≡ one (begins_labelled t) = omega (arith, e.small, e.same, (one_is (begins_labelled t)).0, (one_is (serves t s)).0) in
      rw x (one_is (begins_labelled t)).1

  pub entry_serves : eqb (w / 256 % 2) 1 ≡ serves t s
  unfolding entry
  entry_serves =
      let x : w / 256 % 2 ≡ one (serves t s) = omega (arith, e.small, e.same, (one_is (begins_labelled t)).0, (one_is (serves t s)).0) in
      rw x (one_is (serves t s)).1

-- ---------------------------------------------------------------- the trees that are kept
module _ {L F : List ℕ} {base i q : ℕ} (y : On L F base i q) where
  on_entry : base ≤ i → Entry (get_or F (i - base) 0) y.top y.rest
  unfolding Kept
  on_entry h =
      let m = y.many in
      subst (λ (n : ℕ). Entry (get_or F (n - base) 0) y.top y.rest) m (y.kept.0 (omega arith))

  -- what was found to be kept of the tree
  pub word_found : {r : Option ℕ} {w : ℕ} → MatchOption r (i < base) (λ (w : ℕ). (base ≤ i) × (w ≡ get_or F (i - base) 0)) → r ≡ Some w → Entry w y.top y.rest
  word_found found e =
      let f = rw e at found in
      rw f.1 (on_entry f.0)

  pub on_here : Here L q
  on_here = record { top = y.top; rest = y.rest; here = y.here }

  pub on_place : Somewhere L q
  on_place = record { tree = Some y.top; rest = y.rest; spot = stands y.here }

-- ---------------------------------------------------------------- a word more
kept_set : (F : List ℕ) (base i w : ℕ) (s : List Tree) → length s ≤ i + base → Kept F base s → Kept (set F i w) base s
unfolding Kept
kept_set F base i w [] h k = tt
kept_set F base i w (t ∷ s) h k = (
  (λ (b : base ≤ length s).
      let n : length s - base ≡ i → ⊥ = λ e. omega arith in
      rw (get_or-set_other F i (length s - base) w 0 n) (k.0 b)),
  kept_set F base i w s (omega arith) k.1,
)

-- none below the number base is kept
kept_none : (F : List ℕ) (base : ℕ) (s : List Tree) → length s ≤ base → Kept F base s
unfolding Kept
kept_none F base [] h = tt
kept_none F base (t ∷ s) h = ((λ (b : base ≤ length s). absurd (omega arith)), kept_none F base s (omega arith))

-- those under a node's children
pub kept_back : (F : List ℕ) (base : ℕ) (f : Forest) (s : List Tree) → Kept F base (back f s) → Kept F base s
unfolding Kept back
kept_back F base none s k = k
kept_back F base (more t f) s k = (kept_back F base f (t ∷ s) k).1

-- ---------------------------------------------------------------- a node's last child, and both of two
pub last_on : {L F : List ℕ} {base h p : ℕ} (y : AtNode L F base h p) → (count y.kids ≡ 0 → ⊥) → (o : On L F base (h - 1) (p - 2)) × (last_tree y.kids ≡ Some o.top)
unfolding count
last_on {L} {F} {base} {h} {p} y n = go y.kids n (pop y.here).under y.kept y.many y.room
  where
    go : (f : Forest) → (count f ≡ 0 → ⊥) → At L (p - 2) (back f y.rest) → Kept F base (back f y.rest) → count f + length y.rest ≡ h → h ≤ base + length F → (o : On L F base (h - 1) (p - 2)) × (last_tree f ≡ Some o.top)
    go none n a k m r = absurd (n refl)
    go (more t f) n a k m r =
        let x = back_last t f y.rest in
        let l = length_back (more t f) y.rest in
        let e : length (back (more t f) y.rest) ≡ suc (length x.0) = ap length x.3 in
        let c : count (more t f) ≡ suc (count f) = refl in
        (record { top = x.1; rest = x.0; here = subst (λ (z : List Tree). At L (p - 2) z) x.3 a; many = omega arith; kept = subst (λ (z : List Tree). Kept F base z) x.3 k; room = omega arith }, x.2)

pub record Two (L F : List ℕ) (base h p : ℕ) : Type 0 where
  pub kind : ℕ
  pub value : ℕ
  pub first : Tree
  pub second : Tree
  pub rest : List Tree
  pub here : At L p (node kind value (more first (more second none)) ∷ rest)
  pub last : At L (p - 2) (second ∷ (first ∷ rest))
  pub many : suc (suc (length rest)) ≡ h
  pub kept : Kept F base (second ∷ (first ∷ rest))
  pub room : h ≤ base + length F

pub a_pair : {L F : List ℕ} {base h p : ℕ} → AtNode L F base h p → Says L p count_in 2 → Two L F base h p
unfolding count back
a_pair {L} {F} {base} {h} {p} y c = go y.kids y.here y.kept y.many (c.how _ _ (stands y.here))
  where
    r : h ≤ base + length F
    r = y.room

    go : (f : Forest) → At L p (node y.kind y.value f ∷ y.rest) → Kept F base (back f y.rest) → count f + length y.rest ≡ h → 2 ≡ count f → Two L F base h p
    go none a k m z = absurd (omega arith)
    go (more t none) a k m z = absurd (omega arith)
    go (more t (more u none)) a k m z = record { kind = y.kind; value = y.value; first = t; second = u; rest = y.rest; here = a; last = (pop a).under; many = omega arith; kept = k; room = r }
    go (more t (more u (more w f))) a k m z = absurd (omega arith)

module _ {L F : List ℕ} {base h p : ℕ} (y : Two L F base h p) where
  pub two_last : On L F base (h - 1) (p - 2)
  two_last =
      let m = y.many in
      let r = y.room in
      record { top = y.second; rest = y.first ∷ y.rest; here = y.last; many = omega arith; kept = y.kept; room = omega arith }

  pub two_room : (2 ≤ h) × (2 ≤ p)
  two_room = (omega (arith, y.many), omega (arith, at_many y.last))

  pub two_first : {q : ℕ} → Skipped L (p - 2) q → On L F base (h - 2) q
  unfolding Kept
  two_first k =
      let m = y.many in
      let r = y.room in
      record { top = y.first; rest = y.rest; here = k.how _ _ y.last; many = omega arith; kept = y.kept.1; room = omega arith }

pub node_room : {L F : List ℕ} {base h p : ℕ} → AtNode L F base h p → 2 ≤ p
node_room y = omega (arith, at_many y.here)

pub node_place : {L F : List ℕ} {base h p : ℕ} → AtNode L F base h p → Somewhere L p
node_place y = record { tree = Some (node y.kind y.value y.kids); rest = y.rest; spot = stands y.here }

pub node_here : {L F : List ℕ} {base h p : ℕ} → AtNode L F base h p → Here L p
node_here y = record { top = node y.kind y.value y.kids; rest = y.rest; here = y.here }

-- the children of a kind
sound_arity : (k v n : ℕ) → sound k v n ≡ true → (k ≡ NodeKind.List → ⊥) → n ≡ arity k
unfolding sound
sound_arity k v n e z = go (ltb NodeKind.Modifier k) (exceeds k v) refl refl
  where
    go : (a b : Bool) → ltb NodeKind.Modifier k ≡ a → exceeds k v ≡ b → n ≡ arity k
    go true b x y = clash (rw x at e) refl
    go false true x y = clash (rw (x, y) at e) refl
    go false false x y = eqb-true n (arity k) (rw (x, y, ne_eqb k NodeKind.List z) at e)

pub arity_at : {L F : List ℕ} {base h p k n : ℕ} → AtNode L F base h p → SoundAt L p → Says L p kind_in k → k ≡ n → (n ≡ NodeKind.List → ⊥) → Says L p count_in (arity n)
arity_at y w kind e z =
    let k = sym (kind.how _ _ (stands y.here)) ∙ e in
    says_one y.here (sym (sound_arity y.kind y.value (count y.kids) (w.how _ _ y.here) (λ x. z (sym k ∙ x)) ∙ ap arity k))

-- the only child is the first and the last
pub the_only : {L F : List ℕ} {base h p : ℕ} (y : AtNode L F base h p) → Says L p count_in 1 → (o : On L F base (h - 1) (p - 2)) × (first_tree y.kids ≡ Some o.top) × (1 ≤ h)
the_only y c =
    let n = c.how _ _ (stands y.here) in
    let x = last_on y (λ e. omega arith) in
    (x.0, first_is_last y.kids (sym n) ∙ x.1, omega (arith, y.many))

-- ---------------------------------------------------------------- whether a tree serves a `fun` with a target
serves_is : (t : Tree) (s : List Tree) → serves t s ≡ serves_as (kind_in (Some t)) (children_in (Some t)) s
serves_is (node k v f) s = refl

module _ {L : List ℕ} {p k n : ℕ} {r : Bool} (kind : Says L p kind_in k) (e : k ≡ n) where
  pub serves_arm : Tells L p (λ t s. serves_as n (children_in (Some t)) s) r → Tells L p serves r
  serves_arm x = record { how = λ t s a. x.how t s a ∙ ap (λ (z : ℕ). serves_as z (children_in (Some t)) s) (sym e ∙ kind.how (Some t) s (stands a)) ∙ sym (serves_is t s) }

  pub serves_known : Tells L p serves r → Tells L p (λ t s. serves_as n (children_in (Some t)) s) r
  serves_known x = record { how = λ t s a. x.how t s a ∙ serves_is t s ∙ ap (λ (z : ℕ). serves_as z (children_in (Some t)) s) (sym (kind.how (Some t) s (stands a)) ∙ e) }

-- what is said at a place is told of its tree
pub says_tells : {A : Type 0} {L : List ℕ} {p : ℕ} {what : Option Tree → A} {r : A} → Says L p what r → Tells L p (λ t s. what (Some t)) r
says_tells x = record { how = λ t s a. x.how (Some t) s (stands a) }

pub no_name : (f : Forest) (m : Option Tree) → first_tree f ≡ None → name_serves f m ≡ false
no_name none m e = refl
no_name (more t f) m e =
    let z : ◌≡◌ {A = ℕ} 0 1 = cc in
    absurd (omega arith)

pub a_name : (f : Forest) (m : Option Tree) {n : ℕ} → (first_tree f ≡ None → ⊥) → n ≡ value_in (first_tree f) → gives_name (kind_in m) (value_in m) n ≡ name_serves f m
a_name none m z e = absurd (z refl)
a_name (more t f) m z e = rw e

-- the first child of a node that has n children, and what is told of how it begins
pub first_on : {L F : List ℕ} {base h p e n : ℕ} (y : AtNode L F base h p) → First L p e → Says L p count_in n → (n ≡ 0 → ⊥) → (o : On L F base (h - n) e) × (first_labelled y.kids ≡ begins_labelled o.top) × (n ≤ h)
unfolding count begins_labelled back
first_on {L} {F} {base} {h} {p} {e} {n} y first c z = go y.kids (first.how _ _ y.here) y.kept y.many (c.how _ _ (stands y.here)) y.room
  where
    go : (f : Forest) → FirstAs L e f y.rest → Kept F base (back f y.rest) → count f + length y.rest ≡ h → n ≡ count f → h ≤ base + length F → (o : On L F base (h - n) e) × (first_labelled f ≡ begins_labelled o.top) × (n ≤ h)
    go none a k m g r = absurd (z g)
    go (more t f) a k m g r = (record { top = t; rest = y.rest; here = a; many = omega arith; kept = kept_back F base f (t ∷ y.rest) k; room = omega arith }, refl, omega arith)

-- ---------------------------------------------------------------- what is kept after one tree more, the number i
-- that tree alone, or behind those that were kept
data KeptFrom (n base i : ℕ) : ℕ → Type 0 where
  itself : KeptFrom n base i i
  others : base ≤ i → i - base < n → KeptFrom n base i base

from_is : (n base i : ℕ) → KeptFrom n base i (first_kept n base i)
unfolding first_kept
from_is n base i = go (ltb i base) (leb n (i - base)) refl refl
  where
    go : (x y : Bool) → ltb i base ≡ x → leb n (i - base) ≡ y → KeptFrom n base i (first_kept n base i)
    go true y e g = rw e itself
    go false true e g = rw (e, g) itself
    go false false e g = rw (e, g) (others (ltb-false i base e) (leb-false n (i - base) g))

pub from_room : (base : ℕ) {n i r : ℕ} → r ≡ first_kept n base i → 0 < n → (r ≤ i) × (i - r < n)
from_room base {n} {i} e z = rw e (go (from_is n base i))
  where
    go : {r : ℕ} → KeptFrom n base i r → (r ≤ i) × (i - r < n)
    go itself = (omega arith, omega arith)
    go (others h l) = (h, l)

keep_stored : (F : List ℕ) (base i w : ℕ) (t : Tree) (s : List Tree) → length s ≡ i → 0 < length F → Entry w t s → Kept F base s → Kept (set F (i - first_kept (length F) base i) w) (first_kept (length F) base i) (t ∷ s)
unfolding Kept
keep_stored F base i w t s l z e k = go (from_is (length F) base i)
  where
    go : {r : ℕ} → KeptFrom (length F) base i r → Kept (set F (i - r) w) r (t ∷ s)
    go itself = ((λ (b : i ≤ length s). rw (l, get_or-set_same F (i - i) w 0 (omega arith)) e), kept_none (set F (i - i) w) i s (omega arith))
    go (others h n) = ((λ (b : base ≤ length s). rw (l, get_or-set_same F (i - base) w 0 n) e), kept_set F base (i - base) w s (omega arith) k)

-- what is kept is right then, and there is room for it
module _ {F F' : List ℕ} {base i r : ℕ} {w : Option ℕ} (x : Keeps F F' base i w r) where
  pub keeps_right : (t : Tree) (s : List Tree) → length s ≡ i → IfSome w (λ w. Entry w t s) → Kept F base s → Kept F' r (t ∷ s)
  unfolding keep_from keep_in
  keeps_right t s l e k = rw (x.from, x.words) (go w e (ℕ_discrete (length F) 0))
    where
      none_kept : {n : ℕ} (G : List ℕ) → n ≡ i + 1 → Kept G n (t ∷ s)
      none_kept {n} G z = kept_none G n (t ∷ s) (omega arith)

      go : (w : Option ℕ) → IfSome w (λ w. Entry w t s) → Dec (length F ≡ 0) → Kept (keep_in F base i w) (keep_from (length F) base i w) (t ∷ s)
      go None e d = none_kept F refl
      go (Some w) e (yes b) = rw (eq-eqb (length F) 0 b) (none_kept F refl)
      go (Some w) e (no b) = rw (ne_eqb (length F) 0 b) (keep_stored F base i w t s l (omega arith) e k)

  pub keeps_room : i + 1 ≤ r + length F'
  unfolding keep_from keep_in
  keeps_room = rw (x.from, x.words) (go w (ℕ_discrete (length F) 0))
    where
      go : (w : Option ℕ) → Dec (length F ≡ 0) → i + 1 ≤ keep_from (length F) base i w + length (keep_in F base i w)
      go None d = omega arith
      go (Some w) (yes b) = rw (eq-eqb (length F) 0 b) (omega arith)
      go (Some w) (no b) = rw (ne_eqb (length F) 0 b) (simp length-set (omega (arith, from_room base {n = length F} {i = i} refl (omega arith))))
