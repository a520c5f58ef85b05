-- The store after records were put and moved, one after the other. Assumes nothing.
use mathlib.Core.Path.{◌≡◌, refl, sym, ap, ◌∙◌}
use mathlib.Core.Bool.{Bool, true, false}
use mathlib.Core.List.{List, [], ◌∷◌, ◌++◌, append_assoc, append-nil}
use Prim.Native.Nat.{ℕ, ◌+◌, ◌*◌, ◌-◌, ◌%◌, ◌≤◌}
use native.Mathlib.Omega.{arith}
use native.Mathlib.Nat.{le_trans}
use borrow.Author.Tests.{eqb-true, eqb-false}
use lib.Dec.{eqb}
use lib.ListN.{length, take, drop, get_or, length-append, length-take, length-drop, take-append-drop}
use lib.Seq.{take-take, take-add, take_at, drop_at, drop-drop, drop-append-add, length-take-le}
use Rattle.std.specs.Prelude.{Option, Some}
use Rattle.std.proofs.lemmas.Option.{none-some}
use Rattle.tree.specs.NodeKind
use Rattle.tree.specs.Tree.{Tree, Forest, node, one, two, count, records}
use Rattle.tree.specs.Rows.{end, on, rows, push, Starts, rows_push}
use Rattle.tree.specs.Store.{Emitted, Copied}
use Rattle.std.proofs.lemmas.Slice.{between_is}
use Rattle.grammar.specs.Reading.Pattern.{pattern, receiver, conv, to_pattern}
use Rattle.grammar.proofs.Laws.Facts.{by_test}
use Rattle.pattern.specs.Word
use Rattle.pattern.specs.Contract.{Is, Fit, Stands, Access, Moved, Over, over_as, over_words, has_members}
use Rattle.pattern.proofs.Conv.{wordsM}
use Rattle.pattern.proofs.Steps.{Ahead, View, all_read, no_pattern, some_members, unpack_room, unpack_absent, unpack_other, tuple_room, tuple_step, tuple_none}
use Rattle.pattern.proofs.Access.{top_text, top_pat, top_passed, Receives, primary_at, Shape, shape_of, path_none, before_last, no_item_step, attribute_pat, attribute_text, index_of, index_pat, index_text}

-- what stands before a place stands before one further left
keep : (n at : ℕ) (S S' : List ℕ) → n ≤ at → take at S' ≡ take at S → take n S' ≡ take n S
keep n at S S' h e = sym (take-take n at S' h) ∙ ap (take n) e ∙ take-take n at S h

-- a record was written at a place: there was room for it, and what stands before it and from it on
module _ {at word value r : ℕ} {S S' : List ℕ} (p : Emitted at word value r S S') where
  record_room : at + 2 ≤ length S
  record_room =
      let e = ap length p.text ∙ length-append (take at S) (word ∷ value ∷ []) in
      omega (arith, e, length-take r S', length-take at S, p.whole, p.next)

  taken : length (take at S) ≡ at
  taken = length-take-le at S (omega (arith, record_room))

  before_record : (n : ℕ) → n ≤ at → take n S' ≡ take n S
  before_record n h =
      keep n at S S' h (sym (take-take at r S' (omega (arith, p.next))) ∙ ap (take at) p.text ∙ take_at (take at S) (word ∷ value ∷ []) at taken)

  record_then : (n : ℕ) → at + 2 ≡ n → drop at S' ≡ word ∷ value ∷ drop n S
  record_then n e =
      ap (λ (l : List ℕ). drop at l) (sym (take-append-drop r S') ∙ ap (λ (l : List ℕ). l ++ drop r S') p.text ∙ append_assoc (take at S) (word ∷ value ∷ []) (drop r S'))
      ∙ drop_at (take at S) (word ∷ value ∷ drop r S') at taken
      ∙ ap (λ (l : List ℕ). word ∷ value ∷ l) (p.rest ∙ ap (λ (k : ℕ). drop k S) (p.next ∙ e))

module _ {from to dest : ℕ} {S S' : List ℕ} (p : Copied from to dest S S') where
  copied_then : (m n : ℕ) → dest ≡ m → dest + (to - from) ≡ n → drop m S' ≡ drop from (take to S) ++ drop n S
  copied_then m n d e = ap (λ (k : ℕ). drop k S') (sym d) ∙ p.onward ∙ ap (λ (k : ℕ). drop from (take to S) ++ drop k S) e

-- an access that is a pattern has a path, and an attribute or an index last
shape_from : {C S : List ℕ} {i : ℕ} {t : Tree} {p : Tree} → i ≤ length S → Receives C S i t → conv t pattern ≡ Some p → Shape C S i t
shape_from {S = S} {i = i} {t = t} h q e =
    by_test (has_members (get_or S (i - 4) 0))
    (λ z. let l = some_members _ z in shape_of h q l.0 l.1)
    (λ z. absurd (none-some _ (sym (path_none q z) ∙ e)))

module _ {B : List ℕ} {p : Tree} {S : List ℕ} {i w : ℕ} (a : Access B p S i w) where
  pub reach : i ≤ length S
  reach = le_trans a.before a.within

  pub sure_shape : Shape B S i a.tree
  unfolding rows
  sure_shape = shape_from reach (primary_at B S i a.tree reach a.small a.text a.kind) a.same

  pub sure_index : (get_or S (i - 6) 0 ≡ Word.Attribute → ⊥) → get_or S (i - 6) 0 ≡ Word.Index
  sure_index n =
      by_test (eqb (get_or S (i - 6) 0) Word.Index) (λ z. eqb-true _ _ z)
      (λ z. absurd (none-some _ (sym (no_item_step sure_shape n (eqb-false _ _ z)) ∙ a.same)))

-- the words of the two patterns
attribute_records : (v : ℕ) (t : Tree) (w : ℕ) (f : Forest) (x : ℕ) (Z : List ℕ) → rows (push (on end t) f) ++ (NodeKind.List + 256 * count f) ∷ w ∷ Word.Primary ∷ v ∷ Word.AttributePattern ∷ x ∷ Z ≡ records (node NodeKind.AttributePattern x (one (receiver v t w f))) ++ Z
unfolding rows records count
attribute_records v t w f x Z = rw rows_push (simp (append_assoc, append-nil))

index_records : (v : ℕ) (t : Tree) (w : ℕ) (f : Forest) (u : Tree) (Z : List ℕ) → rows (push (on end t) f) ++ (NodeKind.List + 256 * count f) ∷ w ∷ Word.Primary ∷ v ∷ (records u ++ Word.IndexPattern ∷ 0 ∷ Z) ≡ records (node NodeKind.IndexPattern 0 (two (receiver v t w f) u)) ++ Z
unfolding rows records count
index_records v t w f u Z = rw rows_push (simp (append_assoc, append-nil))

same_pat : {p q : Tree} (m : Option Tree) → m ≡ Some p → m ≡ Some q → q ≡ p
same_pat m a b = cc

module _ {B : List ℕ} {p : Tree} {S : List ℕ} {i w : ℕ} (a : Access B p S i w) where
  shorter_list : get_or S (i - 4) 0 - 256 ≡ NodeKind.List + 256 * count (sure_shape a).front
  shorter_list =
      let l = (sure_shape a).list_word in
      omega arith

  pub attribute_moved : {S₁ S₂ S₃ S₄ : List ℕ} {r r₁ r₂ r₃ : ℕ} → get_or S (i - 6) 0 ≡ Word.Attribute → Starts B S r
      → Emitted (w - 2) Word.AttributePattern (get_or S (i - 5) 0) r₁ S S₁ → Emitted (w - 4) Word.Primary (get_or S (i - 1) 0) r₂ S₁ S₂ → Emitted (w - 6) (get_or S (i - 4) 0 - 256) (get_or S (i - 3) 0) r₃ S₂ S₃ → Copied r (i - 6) (r + (w - i)) S₃ S₄
      → Moved B p S i w r S₄
  attribute_moved {S₁ = S₁} {S₂ = S₂} {S₃ = S₃} {S₄ = S₄} {r = r} e s p₁ p₂ p₃ m =
      let sh = sure_shape a in
      let at = s.at in
      let same : take (i - 6) S₃ ≡ take (i - 6) S = before_record p₃ (i - 6) (omega arith) ∙ before_record p₂ (i - 6) (omega arith) ∙ before_record p₁ (i - 6) (omega arith) in
      let text : drop r (take (i - 6) S₃) ≡ rows (before_last sh) = ap (drop r) (same ∙ attribute_text sh e) ∙ drop_at B (rows (before_last sh)) r (sym at) in
      let words : drop (r + (w - i)) S₄ ≡ rows (before_last sh) ++ (NodeKind.List + 256 * count sh.front) ∷ sh.w ∷ Word.Primary ∷ sh.v ∷ Word.AttributePattern ∷ get_or S (i - 5) 0 ∷ drop w S
      = copied_then m (r + (w - i)) (w - 6) refl (omega arith)
      ∙ ap (λ (l : List ℕ). l ++ drop (w - 6) S₃) text
      ∙ ap (λ (l : List ℕ). rows (before_last sh) ++ l)
      (record_then p₃ (w - 4) (omega arith)
      ∙ ap (λ (l : List ℕ). (get_or S (i - 4) 0 - 256) ∷ get_or S (i - 3) 0 ∷ l)
      (record_then p₂ (w - 2) (omega arith) ∙ ap (λ (l : List ℕ). Word.Primary ∷ get_or S (i - 1) 0 ∷ l) (record_then p₁ w (omega arith)))
      ∙ rw (shorter_list, sh.list_value, sh.prim_value)) in
      record {
        at = at;
        on = omega arith;
        head = m.before r (omega arith) ∙ before_record p₃ r (omega arith) ∙ before_record p₂ r (omega arith) ∙ before_record p₁ r (omega arith) ∙ s.text;
        tail = words ∙ attribute_records sh.v sh.atom sh.w sh.front (get_or S (i - 5) 0) (drop w S)
            ∙ ap (λ (t : Tree). records t ++ drop w S) (same_pat (conv a.tree pattern) a.same (attribute_pat sh e));
      }

  pub index_moved : {S₁ S₂ S₃ S₄ S₅ : List ℕ} {r q r₁ r₂ r₃ : ℕ} → (e : get_or S (i - 6) 0 ≡ Word.Index) → Starts B S r → Starts (B ++ rows (before_last (sure_shape a))) S q
      → Emitted (w - 2) Word.IndexPattern 0 r₁ S S₁ → Copied q (i - 6) (q + (w - i) + 4) S₁ S₂ → Emitted (q + (w - i) + 2) Word.Primary (get_or S (i - 1) 0) r₂ S₂ S₃ → Emitted (q + (w - i)) (get_or S (i - 4) 0 - 256) (get_or S (i - 3) 0) r₃ S₃ S₄ → Copied r q (r + (w - i)) S₄ S₅
      → q ≤ i - 6
      → Moved B p S i w r S₅
  unfolding rows
  index_moved {S₁ = S₁} {S₂ = S₂} {S₃ = S₃} {S₄ = S₄} {S₅ = S₅} {r = r} {q = q} e s t p₁ m₁ p₂ p₃ m₂ le₆ =
      let sh = sure_shape a in
      let X = rows (before_last sh) in
      let u = (index_of sh e).expr in
      let at = s.at in
      let at' = t.at in
      let more_than : r ≤ q = omega (arith, length-append B X) in
      let first : take (i - 6) S₁ ≡ take (i - 6) S = before_record p₁ (i - 6) (omega arith) in
      let low : take q S₄ ≡ B ++ X = before_record p₃ q (omega arith) ∙ before_record p₂ q (omega arith) ∙ m₁.before q (omega arith) ∙ before_record p₁ q (omega arith) ∙ t.text in
      let expr : drop q (take (i - 6) S₁) ≡ records u = ap (drop q) (first ∙ index_text sh e ∙ sym (append_assoc B X (records u))) ∙ drop_at (B ++ X) (records u) q (sym at') in
      let text : drop r (take q S₄) ≡ X = ap (drop r) low ∙ drop_at B X r (sym at) in
      let words : drop (r + (w - i)) S₅ ≡ X ++ (NodeKind.List + 256 * count sh.front) ∷ sh.w ∷ Word.Primary ∷ sh.v ∷ (records u ++ Word.IndexPattern ∷ 0 ∷ drop w S)
      = copied_then m₂ (r + (w - i)) (q + (w - i)) refl (omega arith)
      ∙ ap (λ (l : List ℕ). l ++ drop (q + (w - i)) S₄) text
      ∙ ap (λ (l : List ℕ). X ++ l)
      (record_then p₃ (q + (w - i) + 2) refl
      ∙ ap (λ (l : List ℕ). (get_or S (i - 4) 0 - 256) ∷ get_or S (i - 3) 0 ∷ l)
      (record_then p₂ (q + (w - i) + 4) (omega arith)
      ∙ ap (λ (l : List ℕ). Word.Primary ∷ get_or S (i - 1) 0 ∷ l)
      (copied_then m₁ (q + (w - i) + 4) (w - 2) refl (omega arith)
      ∙ ap (λ (l : List ℕ). l ++ drop (w - 2) S₁) expr
      ∙ ap (λ (l : List ℕ). records u ++ l) (record_then p₁ w (omega arith))))
      ∙ rw (shorter_list, sh.list_value, sh.prim_value)) in
      record {
        at = at;
        on = omega arith;
        head = m₂.before r (omega arith) ∙ before_record p₃ r (omega arith) ∙ before_record p₂ r (omega arith) ∙ m₁.before r (omega arith) ∙ before_record p₁ r (omega arith) ∙ s.text;
        tail = words ∙ index_records sh.v sh.atom sh.w sh.front u (drop w S)
            ∙ ap (λ (t : Tree). records t ++ drop w S) (same_pat (conv a.tree pattern) a.same (index_pat sh e));
      }

-- the work so far: trees that are to be patterns up to i, and from w on the records of those that are
pub record Going (m : Option Tree) (B Z S : List ℕ) (i w : ℕ) : Type 0 where
  pub ahead : List ℕ
  pub left : Ahead m B (take i S) ahead
  pub done : drop w S ≡ ahead ++ Z

pub go_same : {m : Option Tree} {B S Y : List ℕ} (Z : List ℕ) {i w : ℕ} → Ahead m B (take i S) Y → drop w S ≡ Y ++ Z → Going m B Z S i w
go_same {Y = Y} Z a d = record { ahead = Y; left = a; done = d }

pub go_emit : {m : Option Tree} {B S S' Y : List ℕ} (Z : List ℕ) {word value at r : ℕ} (n w : ℕ) → Ahead m B (take n S) (word ∷ value ∷ Y) → drop w S ≡ Y ++ Z → Emitted at word value r S S' → n ≤ at → at + 2 ≡ w → Going m B Z S' n at
go_emit {Y = Y} Z {word = word} {value = value} n w a d p h e =
    record { ahead = word ∷ value ∷ Y; left = rw (before_record p n h) a; done = record_then p w e ∙ ap (λ (l : List ℕ). word ∷ value ∷ l) d }

pub go_access : {m : Option Tree} {B S S' Y : List ℕ} (Z : List ℕ) {i w r : ℕ} {p : Tree} → (x : View m B S i Y) → conv x.tree pattern ≡ Some p → drop w S ≡ Y ++ Z → Moved (B ++ rows x.under) p S i w r S' → Going m B Z S' r (r + (w - i))
go_access {S' = S'} {Y = Y} Z {r = r} {p = p} x e d q =
    record {
      ahead = records p ++ Y;
      left = top_passed x p e q.head;
      done = q.tail ∙ ap (λ (l : List ℕ). records p ++ l) d ∙ sym (append_assoc (records p) Y Z);
    }

abbrev pub an_access : {m : Option Tree} {B S Y : List ℕ} {i w : ℕ} {p : Tree} → (x : View m B S i Y) → conv x.tree pattern ≡ Some p → get_or S (i - 2) 0 ≡ Word.Primary → i ≤ w → w ≤ length S → Access (B ++ rows x.under) p S i w
an_access x e k a b = record { tree = x.tree; small = x.small; text = top_text x; same = e; kind = k; before = a; within = b }

-- what is no identifier, group, unpack or access and yet a pattern is a tuple
record Members (S : List ℕ) (i : ℕ) : Type 0 where
  tuple : get_or S (i - 2) 0 ≡ Word.Tuple
  list : get_or S (i - 4) 0 % 256 ≡ NodeKind.List
  some : 256 ≤ get_or S (i - 4) 0

sure_tuple : {m : Option Tree} {B S Y : List ℕ} {i : ℕ} {p : Tree} → i ≤ length S → View m B S i Y → m ≡ Some p
    → (get_or S (i - 2) 0 ≡ Word.Identifier → ⊥) → (get_or S (i - 2) 0 ≡ Word.Group → ⊥) → (get_or S (i - 2) 0 ≡ Word.Unpack → ⊥) → (get_or S (i - 2) 0 ≡ Word.Primary → ⊥) → Members S i
sure_tuple {m = m} {S = S} {i = i} h x e a b c d =
    by_test (eqb (get_or S (i - 2) 0) Word.Tuple)
    (λ z. by_test (has_members (get_or S (i - 4) 0))
    (λ y. let l = some_members _ y in record { tuple = eqb-true _ _ z; list = l.0; some = l.1 })
    (λ y. absurd (none-some _ (sym (tuple_none h x (eqb-true _ _ z) y) ∙ e))))
    (λ z. absurd (none-some _ (sym (no_pattern x a b c (eqb-false _ _ z) d) ∙ e)))

-- what an unpack or a tuple becomes is a record or two
over_size : (a b : Bool) (x v : ℕ) → (2 ≤ length (over_as a b x v)) × (length (over_as a b x v) ≤ 4)
over_size true true x v = (omega arith, omega arith)
over_size true false x v = (omega arith, omega arith)
over_size false b x v = (omega arith, omega arith)

-- an unpack or a tuple: what stands before i once its record is passed, and what it has become
pub record Above (m : Option Tree) (B S : List ℕ) (i : ℕ) (Y : List ℕ) : Type 0 where
  pub room : 4 ≤ i
  pub many : (2 ≤ length (over_words S i)) × (length (over_words S i) ≤ 4)
  pub next : Ahead m B (take (i - length (over_words S i)) S) (over_words S i ++ Y)

pub sure_above : {m : Option Tree} {B S Y : List ℕ} {i : ℕ} {p : Tree} → i ≤ length S → View m B S i Y → m ≡ Some p
    → (get_or S (i - 2) 0 ≡ Word.Identifier → ⊥) → (get_or S (i - 2) 0 ≡ Word.Group → ⊥) → (get_or S (i - 2) 0 ≡ Word.Primary → ⊥) → Above m B S i Y
sure_above {S = S} {i = i} h x e a b c =
    let size = over_size (eqb (get_or S (i - 2) 0) Word.Unpack) (eqb (get_or S (i - 4) 0) Word.Absent) (get_or S (i - 4) 0) (get_or S (i - 3) 0) in
    by_test (eqb (get_or S (i - 2) 0) Word.Unpack)
    (λ z. let u = eqb-true _ _ z in
    let r : 4 ≤ i = omega (arith, unpack_room h x u) in
    by_test (eqb (get_or S (i - 4) 0) Word.Absent)
    (λ y. record { room = r; many = size; next = rw (z, y) (unpack_absent h x u (eqb-true _ _ y)) })
    (λ y. record { room = r; many = size; next = rw (z, y) (unpack_other h x u (eqb-false _ _ y)) }))
    (λ z. let t = sure_tuple h x e a b (eqb-false _ _ z) c in
    record { room = omega (arith, tuple_room h x t.tuple); many = size; next = rw z (tuple_step h x t.tuple t.list t.some) })

pub go_over : {m : Option Tree} {B S S' Y : List ℕ} (Z : List ℕ) {i w r : ℕ} → Above m B S i Y → drop w S ≡ Y ++ Z → i ≤ w → Over (over_words S i) w S r S' → Going m B Z S' (i - r) (w - r)
go_over {S = S} {S' = S'} {Y = Y} Z {i = i} {w = w} {r = r} a d h o =
    let X = over_words S i in
    let e : take (i - r) S' ≡ take (i - length X) S = keep (i - r) (w - r) S S' (omega arith) o.head ∙ ap (λ (n : ℕ). take (i - n) S) o.many in
    record {
      ahead = X ++ Y;
      left = rw e a.next;
      done = o.tail ∙ ap (λ (l : List ℕ). X ++ l) d ∙ sym (append_assoc X Y Z);
    }

-- the words that `put_over` has put
pub over_one : {S S₁ X : List ℕ} {w c r : ℕ} → 2 ≤ w → Emitted (w - 2) c 0 r S S₁ → X ≡ c ∷ 0 ∷ [] → Over X w S 2 S₁
over_one {S = S} {w = w} h p e = record { many = ap length (sym e); head = before_record p (w - 2) (omega arith); tail = record_then p w (omega arith) ∙ ap (λ (l : List ℕ). l ++ drop w S) (sym e) }

pub over_two : {S S₁ S₂ X : List ℕ} {w a b c r r₂ : ℕ} → 4 ≤ w → Emitted (w - 2) c 0 r S S₁ → Emitted (w - 4) a b r₂ S₁ S₂ → X ≡ a ∷ b ∷ c ∷ 0 ∷ [] → Over X w S 4 S₂
over_two {S = S} {w = w} {a = a} {b = b} h p q e =
    record {
      many = ap length (sym e);
      head = before_record q (w - 4) (omega arith) ∙ before_record p (w - 4) (omega arith);
      tail = record_then q (w - 2) (omega arith) ∙ ap (λ (l : List ℕ). a ∷ b ∷ l) (record_then p w (omega arith)) ∙ ap (λ (l : List ℕ). l ++ drop w S) (sym e);
    }

pub sure_pat : {m : Option Tree} {B S Y : List ℕ} {i : ℕ} {p : Tree} → (x : View m B S i Y) → m ≡ Some p → Is (conv x.tree pattern)
sure_pat x e = top_pat x (λ z. none-some _ (sym z ∙ e))

-- what stands up to i is no shorter than what stands before the trees
pub not_below : {m : Option Tree} {B Y : List ℕ} (S : List ℕ) (i : ℕ) → i ≤ length S → Ahead m B (take i S) Y → length B ≤ i
not_below {B = B} S i h a = omega (arith, sym (length-take-le i S h) ∙ ap length a.text ∙ length-append B (rows a.row))

-- where all is done
same_words : (m : Option Tree) (p : Tree) (Y : List ℕ) → m ≡ Some p → wordsM m ≡ Some Y → Y ≡ records p
same_words m p Y e w =
    cc

base_text : {m : Option Tree} {B Y : List ℕ} (S : List ℕ) (i : ℕ) → i ≤ length S → Ahead m B (take i S) Y → take (length B) S ≡ B
base_text {B = B} S i h a =
    let l = not_below S i h a in
    sym (take-take (length B) i S l) ∙ ap (take (length B)) a.text ∙ take_at B (rows a.row) (length B) refl

pub all_moved : {t p : Tree} {S₀ S S' : List ℕ} {from to i w : ℕ} → Fit t p S₀ from to → length S ≡ length S₀ → i ≤ w → w ≤ to → Going (to_pattern t) (take from S₀) (drop to S₀) S i w → i ≤ from
    → Copied w to from S S' → Stands p S₀ from to (from + (to - w)) S'
all_moved {t = t} {p = p} {S₀ = S₀} {S = S} {S' = S'} {from = from} {to = to} {i = i} {w = w} g kept a b q c l =
    let h : i ≤ length S = omega arith in
    let n : length (take from S₀) ≡ from = length-take-le from S₀ (omega arith) in
    let low = not_below S i h q.left in
    let words : q.ahead ≡ records p = same_words (to_pattern t) p q.ahead g.same (all_read S i h q.left (omega arith)) in
    let size : length S - w ≡ length q.ahead + (length S₀ - to) = sym (length-drop w S) ∙ ap length q.done ∙ length-append q.ahead (drop to S₀) ∙ ap (λ (n : ℕ). length q.ahead + n) (length-drop to S₀) in
    let long : length q.ahead ≡ to - w = omega arith in
    let part : drop w (take to S) ≡ q.ahead = sym (between_is S w to) ∙ ap (take (to - w)) q.done ∙ take_at q.ahead (drop to S₀) (to - w) long in
    let head : take from S' ≡ take from S₀ = l.before from (omega arith) ∙ ap (λ (n : ℕ). take n S) (sym n) ∙ base_text S i h q.left in
    let tail : drop from S' ≡ q.ahead ++ drop (from + (to - w)) S = l.onward ∙ rw part in
    let whole : to ≡ from + (length q.ahead + (w - from)) = omega arith in
    let over : from + (to - w) + (w - from) ≡ to = omega arith in
    let past : drop to S' ≡ drop to S = ap (λ (n : ℕ). drop n S') whole ∙ sym (drop-drop (length q.ahead + (w - from)) from S') ∙ ap (drop (length q.ahead + (w - from))) tail
    ∙ drop-append-add q.ahead (drop (from + (to - w)) S) (w - from) ∙ drop-drop (w - from) (from + (to - w)) S ∙ ap (λ (n : ℕ). drop n S) over in
    let after : drop to S ≡ drop to S₀ = ap (λ (n : ℕ). drop n S) (let z : to ≡ w + (to - w) = omega arith in z) ∙ sym (drop-drop (to - w) w S) ∙ ap (drop (to - w)) q.done ∙ drop_at q.ahead (drop to S₀) (to - w) long in
    record {
      text = take-add from (to - w) S' ∙ rw (head, tail, take_at q.ahead (drop (from + (to - w)) S) (to - w) long, words);
      short = omega arith;
      rest = past ∙ after;
    }
