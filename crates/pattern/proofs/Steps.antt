-- One turn of a scan, from the right, over the records of trees that are all to be patterns. Assumes nothing.
use mathlib.Core.Path.{◌≡◌, refl, sym, ap, ◌∙◌}
use mathlib.Core.Bool.{true, false}
use mathlib.Core.List.{List, [], ◌∷◌, ◌++◌, append-nil}
use Prim.Native.Nat.{ℕ, suc, ◌+◌, ◌*◌, ◌-◌, ◌%◌, ◌≤◌, ◌<◌}
use native.Mathlib.Omega.{arith}
use borrow.Author.Tests.{eqb-true, eqb-false, leb-true, leb-false}
use lib.Dec.{eqb}
use lib.ListN.{length, take, get_or, length-take, length-append}
use lib.Seq.{length-take-le}
use Rattle.std.specs.Prelude.{Option, Some, None, is_some, option_and_then}
use Rattle.tree.specs.NodeKind
use Rattle.tree.specs.Tree.{Tree, Forest, node, none, one, count, records, all_records}
use Rattle.tree.specs.Records.{Small, Smalls}
use Rattle.tree.specs.Rows.{Row, end, on, rows, width, SmallRow, push, rows_push, small_push, rows_long, top}
use Rattle.tree.specs.Choice.{both}
use Rattle.grammar.specs.Reading.Pattern.{pattern, maybe, members, over, modified, grouped, listed, conv, all_conv, to_pattern}
use Rattle.grammar.proofs.Laws.Facts.{by_test}
use Rattle.pattern.specs.Word
use Rattle.pattern.specs.Contract.{Whole, has_members}
use Rattle.pattern.proofs.Conv.{ident, Over, group, unpack, absent, present, tuple, list_is, not_list, no_members, other, convR, wordsR, wordsM, pattern_on_top, none_on_top, same_as, wrapped, tupled}

-- the words T are B and trees that are to be patterns, Y is what follows them, and all of that is the pattern m
pub record Ahead (m : Option Tree) (B T Y : List ℕ) : Type 0 where
  pub row : Row
  pub small : SmallRow row
  pub text : T ≡ B ++ rows row
  pub same : wordsM m ≡ wordsR (convR row) Y

-- the node whose record stands before i, at a and b
pub record Node (B S : List ℕ) (i a b : ℕ) (r : Row) (u : Tree) : Type 0 where
  pub kind : ℕ
  pub val : ℕ
  pub kids : Forest
  pub shape : u ≡ node kind val kids
  pub less : kind < 256
  pub smalls : Smalls kids
  pub room : length B + length (rows r) + 2 ≤ i
  pub word : get_or S a 0 ≡ kind + 256 * count kids
  pub value : get_or S b 0 ≡ val
  pub text : take a S ≡ B ++ rows (push r kids)

pub at_node : (B S : List ℕ) (i a b : ℕ) (r : Row) (u : Tree) → a ≡ i - 2 → b ≡ i - 1 → i ≤ length S → Small u → take i S ≡ B ++ rows (on r u) → Node B S i a b r u
unfolding Small
at_node B S i a b r (node k v f) p q h s e =
    let t = top B S i r k v f h e in
    let n : i - 2 ≡ length B + length (rows (push r f)) = sym (length-take-le (i - 2) S (omega arith)) ∙ ap length t.text ∙ length-append B (rows (push r f)) in
    let l : length (rows (push r f)) ≡ length (rows r) + length (all_records f) = ap length (rows_push r f) ∙ length-append (rows r) (all_records f) in
    record {
      kind = k;
      val = v;
      kids = f;
      shape = refl;
      less = s.0;
      smalls = s.1;
      room = omega arith;
      word = rw p t.word;
      value = rw q t.value;
      text = rw p t.text;
    }

-- the top of the row
pub record View (m : Option Tree) (B S : List ℕ) (i : ℕ) (Y : List ℕ) : Type 0 where
  pub under : Row
  pub tree : Tree
  pub rest : SmallRow under
  pub small : Small tree
  pub whole : take i S ≡ B ++ rows (on under tree)
  pub here : Node B S i (i - 2) (i - 1) under tree
  pub same : wordsM m ≡ wordsR (convR (on under tree)) Y

view_row : (m : Option Tree) (B S : List ℕ) (i : ℕ) (Y : List ℕ) (row : Row) → i ≤ length S → length B < i → SmallRow row → take i S ≡ B ++ rows row → wordsM m ≡ wordsR (convR row) Y → View m B S i Y
unfolding SmallRow rows
view_row m B S i Y end h l s e w =
    let n : i ≡ length B = sym (length-take-le i S h) ∙ ap length (e ∙ append-nil B) in
    absurd (omega arith)
view_row m B S i Y (on r t) h l s e w =
    record { under = r; tree = t; rest = s.0; small = s.1; whole = e; here = at_node B S i (i - 2) (i - 1) r t refl refl h s.1 e; same = w }

module _ {m : Option Tree} {B S : List ℕ} {i : ℕ} {Y : List ℕ} where
  pub view : i ≤ length S → Ahead m B (take i S) Y → length B < i → View m B S i Y
  view h a l = view_row m B S i Y a.row h l a.small a.text a.same

-- where a turn stands there is more than what stood before the trees
pub shorter : (S : List ℕ) (from i : ℕ) → from < i → length (take from S) < i
shorter S from i h = rw length-take (omega arith)

-- a row's top that is no pattern
pub none_of : (m : Option Tree) → wordsM m ≡ None → m ≡ None
none_of None e = refl
none_of (Some p) e = absurd (let z : ◌≡◌ {A = ℕ} 0 1 = cc in omega arith)

failed : {m : Option Tree} {B S : List ℕ} {i : ℕ} {Y : List ℕ} → (x : View m B S i Y) → conv (node x.here.kind x.here.val x.here.kids) pattern ≡ None → m ≡ None
failed {m = m} {Y = Y} x e = none_of m (x.same ∙ none_on_top x.under x.tree Y (ap (λ (t : Tree). conv t pattern) x.here.shape ∙ e))

-- where the row has ended
row_end : (m : Option Tree) (B S : List ℕ) (i : ℕ) (Y : List ℕ) (row : Row) → i ≤ length S → i ≤ length B → take i S ≡ B ++ rows row → wordsM m ≡ wordsR (convR row) Y → wordsM m ≡ Some Y
unfolding convR rows width
row_end m B S i Y end h l e w = w
row_end m B S i Y (on r t) h l e w =
    let n : i ≡ length B + length (rows (on r t)) = sym (length-take-le i S h) ∙ ap length e ∙ length-append B (rows (on r t)) in
    let o = rows_long (on r t) in
    absurd (omega arith)

pub all_read : {m : Option Tree} {B : List ℕ} (S : List ℕ) (i : ℕ) {Y : List ℕ} → i ≤ length S → Ahead m B (take i S) Y → i ≤ length B → wordsM m ≡ Some Y
all_read {m = m} {B = B} S i {Y = Y} h a l = row_end m B S i Y a.row h l a.text a.same

pub decided_yes : (m : Option Tree) {Y : List ℕ} → wordsM m ≡ Some Y → true ≡ is_some m
decided_yes None e = absurd (let z : ◌≡◌ {A = ℕ} 0 1 = cc in omega arith)
decided_yes (Some p) e = refl

-- at the start: one tree
pub whole_ahead : {t : Tree} {S : List ℕ} {from to : ℕ} → Whole t S from to → Ahead (to_pattern t) (take from S) (take to S) []
unfolding SmallRow rows convR
whole_ahead {t = t} g = record { row = on end t; small = (tt, g.small); text = g.text; same = sym (go (to_pattern t)) }
  where
    go : (n : Option Tree) → wordsR (both on (Some end) n) [] ≡ wordsM n
    go None = refl
    go (Some p) = ap Some (append-nil (records p))

-- the steps that read the top's record only
pub kid_small : (f : Forest) (u : Tree) → f ≡ one u → Smalls f → Small u
unfolding Small
kid_small f u e s = (rw e at s).0

module _ {m : Option Tree} {B S : List ℕ} {i : ℕ} {Y : List ℕ} (x : View m B S i Y) where
  word_is : {n : ℕ} → get_or S (i - 2) 0 ≡ n → x.here.kind + 256 * count x.here.kids ≡ n
  word_is e = sym x.here.word ∙ e

  same_here : wordsM m ≡ wordsR (convR (on x.under (node x.here.kind x.here.val x.here.kids))) Y
  same_here = x.same ∙ ap (λ (t : Tree). wordsR (convR (on x.under t)) Y) x.here.shape

  pub ident_step : get_or S (i - 2) 0 ≡ Word.Identifier → Ahead m B (take (i - 2) S) (Word.IdentifierPattern ∷ get_or S (i - 1) 0 ∷ Y)
  unfolding push records count
  ident_step e =
      let n = x.here in
      let j = ident n.kind n.val n.kids (word_is e) in
      record {
        row = x.under;
        small = x.rest;
        text = n.text ∙ rw j.bare;
        same = same_here ∙ pattern_on_top x.under (node n.kind n.val n.kids) Y (node NodeKind.IdentifierPattern n.val none) j.is ∙ rw n.value;
      }

  -- the top's only child takes its place
  kid_text : (u : Tree) → x.here.kids ≡ one u → take (i - 2) S ≡ B ++ rows (on x.under u)
  unfolding push
  kid_text u e = x.here.text ∙ rw e

  kid_ahead : (u : Tree) (X : List ℕ) → x.here.kids ≡ one u → wordsR (convR (on x.under (node x.here.kind x.here.val x.here.kids))) Y ≡ wordsR (convR (on x.under u)) X → Ahead m B (take (i - 2) S) X
  unfolding SmallRow
  kid_ahead u X e w =
      record { row = on x.under u; small = (x.rest, kid_small x.here.kids u e x.here.smalls); text = kid_text u e; same = same_here ∙ w }

  group_of : get_or S (i - 2) 0 ≡ Word.Group → Over pattern (grouped x.here.val) x.here.kind x.here.val x.here.kids
  group_of e = group x.here.kind x.here.val x.here.kids x.here.less (word_is e)

  unpack_of : get_or S (i - 2) 0 ≡ Word.Unpack → Over maybe (over NodeKind.Pack) x.here.kind x.here.val x.here.kids
  unpack_of e = unpack x.here.kind x.here.val x.here.kids x.here.less (word_is e)

  tuple_of : get_or S (i - 2) 0 ≡ Word.Tuple → Over members (over NodeKind.TuplePattern) x.here.kind x.here.val x.here.kids
  tuple_of e = tuple x.here.kind x.here.val x.here.kids x.here.less (word_is e)

  pub group_bare : get_or S (i - 2) 0 ≡ Word.Group → get_or S (i - 1) 0 ≡ 0 → Ahead m B (take (i - 2) S) Y
  group_bare e z =
      let n = x.here in
      let g = group_of e in
      let v : n.val ≡ 0 = sym n.value ∙ z in
      kid_ahead g.kid Y g.only
      (same_as x.under (node n.kind n.val n.kids) g.kid Y (g.is ∙ ap (λ (v : ℕ). option_and_then (λ p. Some (modified v p)) (conv g.kid pattern)) v ∙ go (conv g.kid pattern)))
    where
      go : (c : Option Tree) → option_and_then (λ p. Some p) c ≡ c
      go None = refl
      go (Some p) = refl

  pub group_modified : get_or S (i - 2) 0 ≡ Word.Group → (get_or S (i - 1) 0 ≡ 0 → ⊥) → Ahead m B (take (i - 2) S) (Word.Modifier ∷ (get_or S (i - 1) 0 - 1) ∷ Y)
  group_modified e z =
      let n = x.here in
      let g = group_of e in
      let y = n.value in
      let v : n.val ≡ suc (get_or S (i - 1) 0 - 1) = omega arith in
      kid_ahead g.kid _ g.only
      (wrapped x.under (node n.kind n.val n.kids) g.kid NodeKind.Modifier (get_or S (i - 1) 0 - 1) Y (g.is ∙ ap (λ (v : ℕ). option_and_then (λ p. Some (modified v p)) (conv g.kid pattern)) v))

  pub no_pattern : (get_or S (i - 2) 0 ≡ Word.Identifier → ⊥) → (get_or S (i - 2) 0 ≡ Word.Group → ⊥) → (get_or S (i - 2) 0 ≡ Word.Unpack → ⊥) → (get_or S (i - 2) 0 ≡ Word.Tuple → ⊥) → (get_or S (i - 2) 0 ≡ Word.Primary → ⊥) → m ≡ None
  no_pattern a b c d e =
      let n = x.here in
      failed x (other n.kind n.val n.kids (λ q. a (n.word ∙ q)) (λ q. b (n.word ∙ q)) (λ q. c (n.word ∙ q)) (λ q. d (n.word ∙ q)) (λ q. e (n.word ∙ q)))

  no_tuple : (e : get_or S (i - 2) 0 ≡ Word.Tuple) → conv (tuple_of e).kid members ≡ None → m ≡ None
  no_tuple e z = failed x ((tuple_of e).is ∙ ap (λ (t : Option Tree). option_and_then (λ p. Some (node NodeKind.TuplePattern 0 (one p))) t) z)

-- what the test of a list's first word tells
pub some_members : (n : ℕ) → has_members n ≡ true → (n % 256 ≡ NodeKind.List) × (256 ≤ n)
some_members n e =
    by_test (eqb (n % 256) NodeKind.List) (λ z. (eqb-true _ _ z, leb-true _ _ (rw z at e)))
    (λ z. absurd (let y = rw z at e in let q : ◌≡◌ {A = ℕ} 0 1 = cc in omega arith))

pub no_member : {P : Type 0} (n : ℕ) → has_members n ≡ false → ((n % 256 ≡ NodeKind.List → ⊥) → P) → (n < 256 → P) → P
no_member n e f g = by_test (eqb (n % 256) NodeKind.List) (λ z. g (leb-false _ _ (rw z at e))) (λ z. f (eqb-false _ _ z))

-- the steps that read the record of the top's only child too
module _ {m : Option Tree} {B S : List ℕ} {i : ℕ} {Y : List ℕ} (h : i ≤ length S) (x : View m B S i Y) where
  kid_node : (u : Tree) → x.here.kids ≡ one u → Node B S (i - 2) (i - 4) (i - 3) x.under u
  kid_node u e = at_node B S (i - 2) (i - 4) (i - 3) x.under u (omega arith) (omega arith) (omega arith) (kid_small x.here.kids u e x.here.smalls) (kid_text x u e)

  kid_room : (u : Tree) → x.here.kids ≡ one u → length B + 4 ≤ i
  kid_room u e = omega (arith, (kid_node u e).room)

  pub unpack_room : get_or S (i - 2) 0 ≡ Word.Unpack → length B + 4 ≤ i
  unpack_room e = kid_room (unpack_of x e).kid (unpack_of x e).only

  pub unpack_absent : get_or S (i - 2) 0 ≡ Word.Unpack → get_or S (i - 4) 0 ≡ Word.Absent → Ahead m B (take (i - 4) S) (Word.Absent ∷ get_or S (i - 3) 0 ∷ Word.Pack ∷ 0 ∷ Y)
  unfolding push records count
  unpack_absent e z =
      let n = x.here in
      let g = unpack_of x e in
      let k = kid_node g.kid g.only in
      let a = absent k.kind k.val k.kids (sym k.word ∙ z) in
      let c : conv (node n.kind n.val n.kids) pattern ≡ Some (node NodeKind.Pack 0 (one (node NodeKind.Absent k.val none))) = g.is ∙ ap (λ (t : Option Tree). option_and_then (λ p. Some (node NodeKind.Pack 0 (one p))) t) (ap (λ (t : Tree). conv t maybe) k.shape ∙ a.1) in
      record {
        row = x.under;
        small = x.rest;
        text = k.text ∙ rw a.0;
        same = same_here x ∙ pattern_on_top x.under (node n.kind n.val n.kids) Y (node NodeKind.Pack 0 (one (node NodeKind.Absent k.val none))) c ∙ rw k.value;
      }

  pub unpack_other : get_or S (i - 2) 0 ≡ Word.Unpack → (get_or S (i - 4) 0 ≡ Word.Absent → ⊥) → Ahead m B (take (i - 2) S) (Word.Pack ∷ 0 ∷ Y)
  unpack_other e z =
      let n = x.here in
      let g = unpack_of x e in
      let k = kid_node g.kid g.only in
      let a : conv g.kid maybe ≡ conv g.kid pattern = ap (λ (t : Tree). conv t maybe) k.shape ∙ present k.kind k.val k.kids (λ q. z (k.word ∙ q)) ∙ sym (ap (λ (t : Tree). conv t pattern) k.shape) in
      kid_ahead x g.kid _ g.only
      (wrapped x.under (node n.kind n.val n.kids) g.kid NodeKind.Pack 0 Y (g.is ∙ ap (λ (t : Option Tree). option_and_then (λ p. Some (node NodeKind.Pack 0 (one p))) t) a))

  pub tuple_room : get_or S (i - 2) 0 ≡ Word.Tuple → length B + 4 ≤ i
  tuple_room e = kid_room (tuple_of x e).kid (tuple_of x e).only

  pub tuple_step : get_or S (i - 2) 0 ≡ Word.Tuple → get_or S (i - 4) 0 % 256 ≡ NodeKind.List → 256 ≤ get_or S (i - 4) 0 → Ahead m B (take (i - 4) S) (get_or S (i - 4) 0 ∷ get_or S (i - 3) 0 ∷ Word.TuplePattern ∷ 0 ∷ Y)
  tuple_step e z l =
      let n = x.here in
      let g = tuple_of x e in
      let k = kid_node g.kid g.only in
      let q : k.kind ≡ NodeKind.List = omega arith in
      let c : conv (node n.kind n.val n.kids) pattern ≡ option_and_then (λ p. Some (node NodeKind.TuplePattern 0 (one p))) (option_and_then (listed k.val) (all_conv k.kids pattern))
      = g.is ∙ ap (λ (t : Option Tree). option_and_then (λ p. Some (node NodeKind.TuplePattern 0 (one p))) t) (ap (λ (t : Tree). conv t members) k.shape ∙ list_is k.kind k.val k.kids q) in
      let y : get_or S (i - 4) 0 ≡ NodeKind.List + 256 * count k.kids = omega arith in
      record {
        row = push x.under k.kids;
        small = small_push x.under k.kids x.rest k.smalls;
        text = k.text;
        same = same_here x ∙ tupled x.under (node n.kind n.val n.kids) k.val k.kids Y c (omega arith) ∙ rw (y, k.value);
      }

  tuple_not_list : get_or S (i - 2) 0 ≡ Word.Tuple → (get_or S (i - 4) 0 % 256 ≡ NodeKind.List → ⊥) → m ≡ None
  tuple_not_list e z =
      let k = kid_node (tuple_of x e).kid (tuple_of x e).only in
      no_tuple x e (ap (λ (t : Tree). conv t members) k.shape ∙ not_list k.kind k.val k.kids k.less (λ q. z (ap (λ (n : ℕ). n % 256) k.word ∙ q)))

  tuple_empty : get_or S (i - 2) 0 ≡ Word.Tuple → get_or S (i - 4) 0 < 256 → m ≡ None
  tuple_empty e z =
      let k = kid_node (tuple_of x e).kid (tuple_of x e).only in
      no_tuple x e (ap (λ (t : Tree). conv t members) k.shape ∙ no_members k.kind k.val k.kids (omega arith))

  pub tuple_none : get_or S (i - 2) 0 ≡ Word.Tuple → has_members (get_or S (i - 4) 0) ≡ false → m ≡ None
  tuple_none e z = no_member _ z (tuple_not_list e) (tuple_empty e)
