-- What the definition makes of a node, told from the first word of its record. Assumes nothing.
use mathlib.Core.Path.{◌≡◌, refl, sym, ap, ◌∙◌}
use mathlib.Core.List.{List, ◌∷◌, ◌++◌, append_assoc, append-nil}
use Prim.Native.Nat.{ℕ, suc, ◌+◌, ◌*◌, ◌%◌, ◌≤◌, ◌<◌}
use native.Mathlib.Omega.{arith}
use borrow.Author.Tests.{ne_eqb, eqb-true}
use lib.Dec.{eqb, lit<}
use Rattle.std.specs.Prelude.{Option, Some, None, option_and_then}
use Rattle.tree.specs.NodeKind
use Rattle.tree.specs.Tree.{Tree, Forest, node, none, more, one, two, count, records}
use Rattle.tree.specs.Records.{Small, Smalls}
use Rattle.tree.specs.Rows.{Row, end, on, rows, push, rows_push}
use Rattle.tree.specs.Choice.{both}
use Rattle.grammar.specs.Reading.Pattern.{Role, pattern, members, maybe, over, grouped, listed, last_of, front_of, receiver, by_item, by_path, conv, all_conv}
use Rattle.grammar.proofs.Laws.Facts.{by_test}
use Rattle.pattern.specs.Word

-- the children that are patterns are as many as the children
abbrev Counted : Option Forest → ℕ → Type 0
Counted None n = Unit {0}
Counted (Some g) n = count g ≡ n

counted : (f : Forest) (o : Role) → Counted (all_conv f o) (count f)
unfolding conv count
counted none o = refl
counted (more t f) o = go (conv t o) (all_conv f o) (counted f o)
  where
    go : (x : Option Tree) (y : Option Forest) → Counted y (count f) → Counted (both more x y) (suc (count f))
    go None y c = tt
    go (Some p) None c = tt
    go (Some p) (Some g) c = ap suc c

-- what is made of one pattern only, given the patterns of a node's children
not_one : (h : Forest → Option Tree) → h none ≡ None → ((p q : Tree) (f : Forest) → h (more p (more q f)) ≡ None) → (m : Option Forest) {n : ℕ} → Counted m n → (n ≡ 1 → ⊥) → option_and_then h m ≡ None
unfolding count
not_one h a b None c d = refl
not_one h a b (Some none) c d = a
not_one h a b (Some (more p none)) c d = absurd (d (sym c))
not_one h a b (Some (more p (more q f))) c d = b p q f

only_one : (h : Forest → Option Tree) (m : Option Tree) → option_and_then h (both more m (Some none)) ≡ option_and_then (λ p. h (one p)) m
only_one h None = refl
only_one h (Some p) = refl

-- what a first word tells: of no children, and of one
childless : (n k : ℕ) (f : Forest) → n < 256 → k + 256 * count f ≡ n → (f ≡ none) × (k ≡ n)
unfolding count
childless n k none l e = (refl, omega arith)
childless n k (more t f) l e = absurd (omega arith)

record Single (n k : ℕ) (f : Forest) : Type 0 where
  kid : Tree
  only : f ≡ one kid
  kind : k ≡ n

single : (n k : ℕ) (f : Forest) → n < 256 → k < 256 → k + 256 * count f ≡ n + 256 → Single n k f
unfolding count
single n k none l m e = absurd (omega arith)
single n k (more u none) l m e = record { kid = u; only = refl; kind = omega arith }
single n k (more t (more u f)) l m e = absurd (omega arith)

-- an Identifier
pub record Ident (k v : ℕ) (f : Forest) : Type 0 where
  pub bare : f ≡ none
  pub is : conv (node k v f) pattern ≡ Some (node NodeKind.IdentifierPattern v none)

pub ident : (k v : ℕ) (f : Forest) → k + 256 * count f ≡ Word.Identifier → Ident k v f
unfolding conv
ident k v f e =
    let c = childless Word.Identifier k f (lit< tt) e in
    record { bare = c.0; is = rw (c.0, c.1) }

-- a Group, an Unpack, a Tuple: a node over one child, in the role o, and what is made of the child's pattern
pub record Over (o : Role) (h : Forest → Option Tree) (k v : ℕ) (f : Forest) : Type 0 where
  pub kid : Tree
  pub only : f ≡ one kid
  pub is : conv (node k v f) pattern ≡ option_and_then (λ p. h (one p)) (conv kid o)

over_one : (o : Role) (h : Forest → Option Tree) (n k v : ℕ) (f : Forest) → n < 256 → ((u : Tree) → conv (node n v (one u)) pattern ≡ option_and_then h (both more (conv u o) (Some none))) → k < 256 → k + 256 * count f ≡ n + 256 → Over o h k v f
over_one o h n k v f l is m e = go (single n k f l m e)
  where
    go : Single n k f → Over o h k v f
    go s = record { kid = s.kid; only = s.only; is = rw (s.only, s.kind) (is s.kid ∙ only_one h (conv s.kid o)) }

pub group : (k v : ℕ) (f : Forest) → k < 256 → k + 256 * count f ≡ Word.Group → Over pattern (grouped v) k v f
unfolding conv
group k v f = over_one pattern (grouped v) NodeKind.Group k v f (lit< tt) (λ u. refl)

pub unpack : (k v : ℕ) (f : Forest) → k < 256 → k + 256 * count f ≡ Word.Unpack → Over maybe (over NodeKind.Pack) k v f
unfolding conv
unpack k v f = over_one maybe (over NodeKind.Pack) NodeKind.Unpack k v f (lit< tt) (λ u. refl)

pub tuple : (k v : ℕ) (f : Forest) → k < 256 → k + 256 * count f ≡ Word.Tuple → Over members (over NodeKind.TuplePattern) k v f
unfolding conv
tuple k v f = over_one members (over NodeKind.TuplePattern) NodeKind.Tuple k v f (lit< tt) (λ u. refl)

-- what an Unpack has: nothing, or an expression
pub absent : (k v : ℕ) (f : Forest) → k + 256 * count f ≡ Word.Absent → (f ≡ none) × (conv (node k v f) maybe ≡ Some (node NodeKind.Absent v none))
unfolding conv
absent k v f e =
    let c = childless Word.Absent k f (lit< tt) e in
    (c.0, rw (c.0, c.1))

pub present : (k v : ℕ) (f : Forest) → (k + 256 * count f ≡ Word.Absent → ⊥) → conv (node k v f) maybe ≡ conv (node k v f) pattern
unfolding conv count
present k v none e =
    let q : k ≡ NodeKind.Absent → ⊥ = λ z. e (omega arith) in
    rw (ne_eqb k NodeKind.Absent q)
present k v (more t f) e = by_test (eqb k NodeKind.Absent) (λ z. rw (eqb-true k NodeKind.Absent z)) (λ z. rw z)

-- the list of a tuple's members
pub list_is : (k w : ℕ) (f : Forest) → k ≡ NodeKind.List → conv (node k w f) members ≡ option_and_then (listed w) (all_conv f pattern)
unfolding conv
list_is k w f e = rw e

pub not_list : (k w : ℕ) (f : Forest) → k < 256 → ((k + 256 * count f) % 256 ≡ NodeKind.List → ⊥) → conv (node k w f) members ≡ None
unfolding conv
not_list k w f h e =
    let q : k ≡ NodeKind.List → ⊥ = λ z. e (omega arith) in
    rw (ne_eqb k NodeKind.List q)

pub no_members : (k w : ℕ) (f : Forest) → k + 256 * count f < 256 → conv (node k w f) members ≡ None
unfolding conv count
no_members k w none h = by_test (eqb k NodeKind.List) (λ z. rw z) (λ z. rw z)
no_members k w (more t f) h = absurd (omega arith)

-- a Primary: an atom and a path
pub record Primary (k v : ℕ) (f : Forest) : Type 0 where
  pub atom : Tree
  pub list : Tree
  pub both_kids : f ≡ two atom list
  pub is : conv (node k v f) pattern ≡ by_path v atom list

pub primary : (k v : ℕ) (f : Forest) → k < 256 → k + 256 * count f ≡ Word.Primary → Primary k v f
unfolding conv count
primary k v none h e = absurd (omega arith)
primary k v (more a none) h e = absurd (omega arith)
primary k v (more a (more l none)) h e =
    let q : k ≡ NodeKind.Primary = omega arith in
    record { atom = a; list = l; both_kids = refl; is = rw q }
primary k v (more a (more l (more t f))) h e = absurd (omega arith)

pub not_path : (v : ℕ) (a : Tree) (k w : ℕ) (f : Forest) → k < 256 → ((k + 256 * count f) % 256 ≡ NodeKind.List → ⊥) → by_path v a (node k w f) ≡ None
not_path v a k w f h e =
    let q : k ≡ NodeKind.List → ⊥ = λ z. e (omega arith) in
    rw (ne_eqb k NodeKind.List q)

pub no_path : (v : ℕ) (a : Tree) (k w : ℕ) (f : Forest) → k + 256 * count f < 256 → by_path v a (node k w f) ≡ None
unfolding count
no_path v a k w none h = by_test (eqb k NodeKind.List) (λ z. rw z) (λ z. rw z)
no_path v a k w (more t f) h = absurd (omega arith)

-- a path with items: the last one, and those before it
pub record Path (v : ℕ) (a : Tree) (k w : ℕ) (f : Forest) : Type 0 where
  pub front : Forest
  pub last : Tree
  pub kind : k ≡ NodeKind.List
  pub many : count f ≡ suc (count front)
  pub split : (r : Row) → push r f ≡ on (push r front) last
  pub small : Smalls f → Smalls front × Small last
  pub is : by_path v a (node k w f) ≡ by_item (receiver v a w front) last

split_of : (t : Tree) (f : Forest) (r : Row) → push r (more t f) ≡ on (push r (front_of t f)) (last_of t f)
unfolding push last_of front_of
split_of t none r = refl
split_of t (more u f) r = split_of u f (on r t)

count_front : (t : Tree) (f : Forest) → suc (count f) ≡ suc (count (front_of t f))
unfolding count front_of
count_front t none = refl
count_front t (more u f) = ap suc (count_front u f)

small_split : (t : Tree) (f : Forest) → Smalls (more t f) → Smalls (front_of t f) × Small (last_of t f)
unfolding Small front_of last_of
small_split t none s = (tt, s.0)
small_split t (more u f) s =
    let z = small_split u f s.1 in
    ((s.0, z.0), z.1)

pub some_path : (v : ℕ) (a : Tree) (k w : ℕ) (f : Forest) → k < 256 → (k + 256 * count f) % 256 ≡ NodeKind.List → 256 ≤ k + 256 * count f → Path v a k w f
unfolding count
some_path v a k w none h m l = absurd (omega arith)
some_path v a k w (more t f) h m l =
    let q : k ≡ NodeKind.List = omega arith in
    record { front = front_of t f; last = last_of t f; kind = q; many = count_front t f; split = split_of t f; small = small_split t f; is = rw q }

-- the last item
pub attribute_is : (to : Tree) (k x : ℕ) (f : Forest) → k + 256 * count f ≡ Word.Attribute → (f ≡ none) × (by_item to (node k x f) ≡ Some (node NodeKind.AttributePattern x (one to)))
attribute_is to k x f e =
    let c = childless Word.Attribute k f (lit< tt) e in
    (c.0, rw (c.0, c.1))

pub record Index (to : Tree) (k x : ℕ) (f : Forest) : Type 0 where
  pub expr : Tree
  pub only : f ≡ one expr
  pub is : by_item to (node k x f) ≡ Some (node NodeKind.IndexPattern 0 (two to expr))

pub index_is : (to : Tree) (k x : ℕ) (f : Forest) → k < 256 → k + 256 * count f ≡ Word.Index → Index to k x f
index_is to k x f h e = go (single NodeKind.Index k f (lit< tt) h e)
  where
    go : Single NodeKind.Index k f → Index to k x f
    go s = record { expr = s.kid; only = s.only; is = rw (s.only, s.kind) }

pub no_item : (to : Tree) (k x : ℕ) (f : Forest) → (k + 256 * count f ≡ Word.Attribute → ⊥) → (k + 256 * count f ≡ Word.Index → ⊥) → by_item to (node k x f) ≡ None
unfolding count
no_item to k x none a b =
    by_test (eqb k NodeKind.Attribute) (λ z. absurd (a (omega (arith, eqb-true k NodeKind.Attribute z))))
    (λ z. by_test (eqb k NodeKind.Index) (λ y. rw (eqb-true k NodeKind.Index y)) (λ y. rw (z, y)))
no_item to k x (more t none) a b =
    by_test (eqb k NodeKind.Attribute) (λ z. rw (eqb-true k NodeKind.Attribute z))
    (λ z. by_test (eqb k NodeKind.Index) (λ y. absurd (b (omega (arith, eqb-true k NodeKind.Index y)))) (λ y. rw (z, y)))
no_item to k x (more t (more u f)) a b =
    by_test (eqb k NodeKind.Attribute) (λ z. rw (eqb-true k NodeKind.Attribute z))
    (λ z. by_test (eqb k NodeKind.Index) (λ y. rw (eqb-true k NodeKind.Index y)) (λ y. rw (z, y)))

-- no other node is a pattern
not_ident : (v : ℕ) (f : Forest) → (NodeKind.Identifier + 256 * count f ≡ Word.Identifier → ⊥) → conv (node NodeKind.Identifier v f) pattern ≡ None
unfolding conv count
not_ident v none h = absurd (h refl)
not_ident v (more t f) h = refl

not_primary : (v : ℕ) (f : Forest) → (NodeKind.Primary + 256 * count f ≡ Word.Primary → ⊥) → conv (node NodeKind.Primary v f) pattern ≡ None
unfolding conv count
not_primary v none h = refl
not_primary v (more a none) h = refl
not_primary v (more a (more l none)) h = absurd (h refl)
not_primary v (more a (more l (more t f))) h = refl

not_group : (v : ℕ) (f : Forest) → (NodeKind.Group + 256 * count f ≡ Word.Group → ⊥) → conv (node NodeKind.Group v f) pattern ≡ None
unfolding conv
not_group v f h = not_one (grouped v) refl (λ p q f. refl) (all_conv f pattern) (counted f pattern) (λ e. h (omega arith))

not_unpack : (v : ℕ) (f : Forest) → (NodeKind.Unpack + 256 * count f ≡ Word.Unpack → ⊥) → conv (node NodeKind.Unpack v f) pattern ≡ None
unfolding conv
not_unpack v f h = not_one (over NodeKind.Pack) refl (λ p q f. refl) (all_conv f maybe) (counted f maybe) (λ e. h (omega arith))

not_tuple : (v : ℕ) (f : Forest) → (NodeKind.Tuple + 256 * count f ≡ Word.Tuple → ⊥) → conv (node NodeKind.Tuple v f) pattern ≡ None
unfolding conv
not_tuple v f h = not_one (over NodeKind.TuplePattern) refl (λ p q f. refl) (all_conv f members) (counted f members) (λ e. h (omega arith))

pub other : (k v : ℕ) (f : Forest) → (k + 256 * count f ≡ Word.Identifier → ⊥) → (k + 256 * count f ≡ Word.Group → ⊥) → (k + 256 * count f ≡ Word.Unpack → ⊥) → (k + 256 * count f ≡ Word.Tuple → ⊥) → (k + 256 * count f ≡ Word.Primary → ⊥)
    → conv (node k v f) pattern ≡ None
unfolding conv
other k v f a b c d e =
    by_test (eqb k NodeKind.Identifier) (λ z. let q = eqb-true k NodeKind.Identifier z in rw q (not_ident v f (rw q at a))) λ z₁.
    by_test (eqb k NodeKind.Group) (λ z. let q = eqb-true k NodeKind.Group z in rw q (not_group v f (rw q at b))) λ z₂.
    by_test (eqb k NodeKind.Unpack) (λ z. let q = eqb-true k NodeKind.Unpack z in rw q (not_unpack v f (rw q at c))) λ z₃.
    by_test (eqb k NodeKind.Tuple) (λ z. let q = eqb-true k NodeKind.Tuple z in rw q (not_tuple v f (rw q at d))) λ z₄.
    by_test (eqb k NodeKind.Primary) (λ z. let q = eqb-true k NodeKind.Primary z in rw q (not_primary v f (rw q at e))) λ z₅.
    rw (z₁, z₂, z₃, z₄, z₅)

-- the records that are to be, of a row and what stands after it
unfoldable pub convR : Row → Option Row
convR end = Some end
convR (on r t) = both on (convR r) (conv t pattern)

abbrev pub wordsR : Option Row → List ℕ → Option (List ℕ)
wordsR None Y = None
wordsR (Some q) Y = Some (rows q ++ Y)

abbrev pub wordsM : Option Tree → Option (List ℕ)
wordsM None = None
wordsM (Some p) = Some (records p)

pub pattern_on_top : (r : Row) (t : Tree) (Y : List ℕ) (p : Tree) → conv t pattern ≡ Some p → wordsR (convR (on r t)) Y ≡ wordsR (convR r) (records p ++ Y)
unfolding convR rows
pattern_on_top r t Y p e = rw e (go (convR r))
  where
    go : (m : Option Row) → wordsR (both on m (Some p)) Y ≡ wordsR m (records p ++ Y)
    go None = refl
    go (Some q) = ap Some (append_assoc (rows q) (records p) Y)

pub none_on_top : (r : Row) (t : Tree) (Y : List ℕ) → conv t pattern ≡ None → wordsR (convR (on r t)) Y ≡ None
unfolding convR
none_on_top r t Y e = rw e (go (convR r))
  where
    go : (m : Option Row) → wordsR (both on m None) Y ≡ None
    go None = refl
    go (Some q) = refl

pub same_as : (r : Row) (t u : Tree) (Y : List ℕ) → conv t pattern ≡ conv u pattern → wordsR (convR (on r t)) Y ≡ wordsR (convR (on r u)) Y
unfolding convR
same_as r t u Y e = rw e

pub wrapped : (r : Row) (t u : Tree) (k v : ℕ) (Y : List ℕ) → conv t pattern ≡ option_and_then (λ p. Some (node k v (one p))) (conv u pattern) → wordsR (convR (on r t)) Y ≡ wordsR (convR (on r u)) ((k + 256) ∷ v ∷ Y)
unfolding convR rows records count
wrapped r t u k v Y e = rw e (go (convR r) (conv u pattern))
  where
    go : (m : Option Row) (n : Option Tree) → wordsR (both on m (option_and_then (λ p. Some (node k v (one p))) n)) Y ≡ wordsR (both on m n) ((k + 256) ∷ v ∷ Y)
    go None n = refl
    go (Some q) None = refl
    go (Some q) (Some p) = ap Some (simp (append_assoc, append-nil))

pushed : (r : Row) (f : Forest) → convR (push r f) ≡ both push (convR r) (all_conv f pattern)
unfolding convR push conv
pushed r none = go (convR r)
  where
    go : (m : Option Row) → m ≡ both push m (Some none)
    go None = refl
    go (Some q) = refl
pushed r (more t f) = pushed (on r t) f ∙ go (convR r) (conv t pattern) (all_conv f pattern)
  where
    go : (m : Option Row) (n : Option Tree) (o : Option Forest) → both push (both on m n) o ≡ both push m (both more n o)
    go None n o = refl
    go (Some q) None o = refl
    go (Some q) (Some p) None = refl
    go (Some q) (Some p) (Some g) = refl

pub tupled : (r : Row) (t : Tree) (w : ℕ) (f : Forest) (Y : List ℕ) → conv t pattern ≡ option_and_then (λ p. Some (node NodeKind.TuplePattern 0 (one p))) (option_and_then (listed w) (all_conv f pattern)) → 0 < count f
    → wordsR (convR (on r t)) Y ≡ wordsR (convR (push r f)) ((NodeKind.List + 256 * count f) ∷ w ∷ Word.TuplePattern ∷ 0 ∷ Y)
unfolding convR rows records count push
tupled r t w f Y e h = rw (e, pushed) (go (convR r) (all_conv f pattern) (counted f pattern))
  where
    go : (m : Option Row) (n : Option Forest) → Counted n (count f) → wordsR (both on m (option_and_then (λ p. Some (node NodeKind.TuplePattern 0 (one p))) (option_and_then (listed w) n))) Y ≡ wordsR (both push m n) ((NodeKind.List + 256 * count f) ∷ w ∷ Word.TuplePattern ∷ 0 ∷ Y)
    go None n c = refl
    go (Some q) None c = refl
    go (Some q) (Some none) c = absurd (omega arith)
    go (Some q) (Some (more p g)) c = ap Some (rw (← c, rows_push (on q p) g) (simp (append_assoc, append-nil)))
