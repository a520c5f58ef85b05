-- The parts of an access, which ends in an attribute or an index, and where they stand. Assumes nothing.
use mathlib.Core.Path.{◌≡◌, refl, sym, ap, ◌∙◌}
use mathlib.Core.Bool.{false}
use mathlib.Core.List.{List, ◌++◌, append_assoc}
use Prim.Native.Nat.{ℕ, suc, ◌+◌, ◌*◌, ◌-◌, ◌/◌, ◌%◌, ◌≤◌, ◌<◌}
use native.Mathlib.Omega.{arith}
use lib.ListN.{length, take, get_or}
use Rattle.std.specs.Prelude.{Option, Some, None}
use Rattle.tree.specs.NodeKind
use Rattle.tree.specs.Tree.{Tree, Forest, node, none, one, two, count, records}
use Rattle.tree.specs.Records.{Small, Smalls}
use Rattle.tree.specs.Rows.{Row, end, on, rows, width, SmallRow, push, Trees, width_push, small_push, rows_long}
use Rattle.grammar.specs.Reading.Pattern.{pattern, receiver, by_item, by_path, conv}
use Rattle.pattern.specs.Word
use Rattle.pattern.specs.Contract.{Is, has_members}
use Rattle.pattern.proofs.Conv.{primary, not_path, no_path, some_path, attribute_is, Index, index_is, no_item, pattern_on_top, none_on_top}
use Rattle.pattern.proofs.Steps.{Ahead, Node, at_node, View, none_of, kid_small, no_member}

-- a Primary: the receiver and the path
pub record Receives (C S : List ℕ) (i : ℕ) (t : Tree) : Type 0 where
  pub v : ℕ
  pub atom : Tree
  pub list : Tree
  pub small : Small atom
  pub value : get_or S (i - 1) 0 ≡ v
  pub node_of : Node C S (i - 2) (i - 4) (i - 3) (on end atom) list
  pub is : conv t pattern ≡ by_path v atom list

two_small : (f : Forest) (a l : Tree) → f ≡ two a l → Smalls f → Small a × Small l
unfolding Small
two_small f a l e s =
    let z = rw e at s in
    (z.0, z.1.0)

pub primary_at : (C S : List ℕ) (i : ℕ) (t : Tree) → i ≤ length S → Small t → take i S ≡ C ++ rows (on end t) → get_or S (i - 2) 0 ≡ Word.Primary → Receives C S i t
unfolding push
primary_at C S i t h s e w =
    let n = at_node C S i (i - 2) (i - 1) end t refl refl h s e in
    let p = primary n.kind n.val n.kids n.less (sym n.word ∙ w) in
    let z = two_small n.kids p.atom p.list p.both_kids n.smalls in
    record {
      v = n.val;
      atom = p.atom;
      list = p.list;
      small = z.0;
      value = n.value;
      node_of = at_node C S (i - 2) (i - 4) (i - 3) (on end p.atom) p.list (omega arith) (omega arith) (omega arith) z.1 (n.text ∙ ap (λ (f : Forest). C ++ rows (push end f)) p.both_kids);
      is = ap (λ (t : Tree). conv t pattern) n.shape ∙ p.is;
    }

-- a path with items, taken apart: the last one, and those before it
pub record Shape (C S : List ℕ) (i : ℕ) (t : Tree) : Type 0 where
  pub v : ℕ
  pub atom : Tree
  pub w : ℕ
  pub front : Forest
  pub last : Tree
  pub small : Small atom
  pub smalls : Smalls front
  pub prim_value : get_or S (i - 1) 0 ≡ v
  pub list_word : get_or S (i - 4) 0 ≡ NodeKind.List + 256 * suc (count front)
  pub list_value : get_or S (i - 3) 0 ≡ w
  pub node_of : Node C S (i - 4) (i - 6) (i - 5) (push (on end atom) front) last
  pub room : length C + 8 ≤ i
  pub is : conv t pattern ≡ by_item (receiver v atom w front) last

module _ {C S : List ℕ} {i : ℕ} {t : Tree} (p : Receives C S i t) where
  pub primary_room : length C + 6 ≤ i
  unfolding width
  primary_room =
      let n = p.node_of in
      let o = rows_long (on end p.atom) in
      omega arith

  not_path_step : (get_or S (i - 4) 0 % 256 ≡ NodeKind.List → ⊥) → conv t pattern ≡ None
  not_path_step z =
      let k = p.node_of in
      p.is ∙ ap (by_path p.v p.atom) k.shape ∙ not_path p.v p.atom k.kind k.val k.kids k.less (λ q. z (ap (λ (n : ℕ). n % 256) k.word ∙ q))

  no_path_step : get_or S (i - 4) 0 < 256 → conv t pattern ≡ None
  no_path_step z =
      let k = p.node_of in
      p.is ∙ ap (by_path p.v p.atom) k.shape ∙ no_path p.v p.atom k.kind k.val k.kids (omega arith)

  pub path_none : has_members (get_or S (i - 4) 0) ≡ false → conv t pattern ≡ None
  path_none z = no_member _ z not_path_step no_path_step

module _ {C S : List ℕ} {i : ℕ} {t : Tree} (h : i ≤ length S) (p : Receives C S i t) where
  pub shape_of : get_or S (i - 4) 0 % 256 ≡ NodeKind.List → 256 ≤ get_or S (i - 4) 0 → Shape C S i t
  unfolding width
  shape_of z l =
      let k = p.node_of in
      let w = k.word in
      let a = some_path p.v p.atom k.kind k.val k.kids k.less (ap (λ (n : ℕ). n % 256) (sym w) ∙ z) (omega arith) in
      let y = a.small k.smalls in
      let n = at_node C S (i - 4) (i - 6) (i - 5) (push (on end p.atom) a.front) a.last (omega arith) (omega arith) (omega arith) y.1 (k.text ∙ ap (λ (r : Row). C ++ rows r) (a.split (on end p.atom))) in
      let o = rows_long (push (on end p.atom) a.front) in
      let q = width_push (on end p.atom) a.front in
      record {
        v = p.v;
        atom = p.atom;
        w = k.val;
        front = a.front;
        last = a.last;
        small = p.small;
        smalls = y.0;
        prim_value = p.value;
        list_word = omega arith;
        list_value = k.value;
        node_of = n;
        room = omega arith;
        is = p.is ∙ ap (by_path p.v p.atom) k.shape ∙ a.is;
      }

module _ {C S : List ℕ} {i : ℕ} {t : Tree} (s : Shape C S i t) where
  -- the atom and the items before the last one, and the receiver that they are
  abbrev pub before_last : Row
  before_last = push (on end s.atom) s.front

  abbrev receiver_of : Tree
  receiver_of = receiver s.v s.atom s.w s.front

  last_is : {m : Option Tree} → by_item receiver_of (node s.node_of.kind s.node_of.val s.node_of.kids) ≡ m → conv t pattern ≡ m
  last_is e = s.is ∙ ap (by_item receiver_of) s.node_of.shape ∙ e

  wide : width before_last ≡ get_or S (i - 4) 0 / 256
  unfolding width
  wide = width_push (on end s.atom) s.front ∙ omega arith

  all_small : SmallRow before_last
  unfolding SmallRow
  all_small = small_push (on end s.atom) s.front (tt, s.small) s.smalls

  -- they stand up to j
  pub front_trees : (j : ℕ) → take j S ≡ C ++ rows before_last → Trees C (take j S) (get_or S (i - 4) 0 / 256)
  front_trees j e = record { row = before_last; many = wide; small = all_small; text = e }

  pub no_item_step : (get_or S (i - 6) 0 ≡ Word.Attribute → ⊥) → (get_or S (i - 6) 0 ≡ Word.Index → ⊥) → conv t pattern ≡ None
  no_item_step a b =
      let n = s.node_of in
      last_is (no_item receiver_of n.kind n.val n.kids (λ q. a (n.word ∙ q)) (λ q. b (n.word ∙ q)))

  -- an attribute last: the rest of the path and the atom stand before it
  attribute_of : get_or S (i - 6) 0 ≡ Word.Attribute → (s.node_of.kids ≡ none) × (by_item receiver_of (node s.node_of.kind s.node_of.val s.node_of.kids) ≡ Some (node NodeKind.AttributePattern s.node_of.val (one receiver_of)))
  attribute_of e = let n = s.node_of in attribute_is receiver_of n.kind n.val n.kids (sym n.word ∙ e)

  pub attribute_pat : get_or S (i - 6) 0 ≡ Word.Attribute → conv t pattern ≡ Some (node NodeKind.AttributePattern (get_or S (i - 5) 0) (one receiver_of))
  attribute_pat e = last_is ((attribute_of e).1 ∙ rw s.node_of.value)

  pub attribute_text : get_or S (i - 6) 0 ≡ Word.Attribute → take (i - 6) S ≡ C ++ rows before_last
  unfolding push
  attribute_text e = s.node_of.text ∙ rw (attribute_of e).0

  pub attribute_trees : get_or S (i - 6) 0 ≡ Word.Attribute → Trees C (take (i - 6) S) (get_or S (i - 4) 0 / 256)
  attribute_trees e = front_trees (i - 6) (attribute_text e)

  -- an index last: its expression stands before it
  pub index_of : get_or S (i - 6) 0 ≡ Word.Index → Index receiver_of s.node_of.kind s.node_of.val s.node_of.kids
  index_of e =
      let n = s.node_of in
      index_is receiver_of n.kind n.val n.kids n.less (sym n.word ∙ e)

  pub index_pat : (e : get_or S (i - 6) 0 ≡ Word.Index) → conv t pattern ≡ Some (node NodeKind.IndexPattern 0 (two receiver_of (index_of e).expr))
  index_pat e = last_is (index_of e).is

  pub index_text : (e : get_or S (i - 6) 0 ≡ Word.Index) → take (i - 6) S ≡ C ++ rows (on before_last (index_of e).expr)
  unfolding push
  index_text e = s.node_of.text ∙ ap (λ (f : Forest). C ++ rows (push before_last f)) (index_of e).only

  index_small : (e : get_or S (i - 6) 0 ≡ Word.Index) → Small (index_of e).expr
  index_small e = kid_small s.node_of.kids (index_of e).expr (index_of e).only s.node_of.smalls

  -- with the expression, and the expression alone
  pub index_trees : get_or S (i - 6) 0 ≡ Word.Index → Trees C (take (i - 6) S) (get_or S (i - 4) 0 / 256 + 1)
  unfolding width SmallRow
  index_trees e =
      let a = wide in
      record { row = on before_last (index_of e).expr; many = omega arith; small = (all_small, index_small e); text = index_text e }

  pub index_first : (e : get_or S (i - 6) 0 ≡ Word.Index) → Trees (C ++ rows before_last) (take (i - 6) S) 1
  unfolding width SmallRow rows
  index_first e =
      record { row = on end (index_of e).expr; many = refl; small = (tt, index_small e); text = index_text e ∙ rw append_assoc }

-- the top of a row is an access
module _ {m : Option Tree} {B S : List ℕ} {i : ℕ} {Y : List ℕ} (x : View m B S i Y) where
  pub top_text : take i S ≡ (B ++ rows x.under) ++ records x.tree
  unfolding rows
  top_text = x.whole ∙ rw append_assoc

  pub no_top : conv x.tree pattern ≡ None → m ≡ None
  no_top e = none_of m (x.same ∙ none_on_top x.under x.tree Y e)

  pub top_passed : {T : List ℕ} (p : Tree) → conv x.tree pattern ≡ Some p → T ≡ B ++ rows x.under → Ahead m B T (records p ++ Y)
  top_passed p e t = record { row = x.under; small = x.rest; text = t; same = x.same ∙ pattern_on_top x.under x.tree Y p e }

  pub top_pat : (m ≡ None → ⊥) → Is (conv x.tree pattern)
  top_pat d = go (conv x.tree pattern) refl
    where
      go : (c : Option Tree) → conv x.tree pattern ≡ c → Is (conv x.tree pattern)
      go None e = absurd (d (no_top e))
      go (Some p) e = record { what = p; same = e }

pub top_primary : {m : Option Tree} {B S : List ℕ} {i : ℕ} {Y : List ℕ} → i ≤ length S → (x : View m B S i Y) → get_or S (i - 2) 0 ≡ Word.Primary → Receives (B ++ rows x.under) S i x.tree
unfolding rows
top_primary {B = B} {S = S} {i = i} h x e = primary_at (B ++ rows x.under) S i x.tree h x.small (top_text x) e
