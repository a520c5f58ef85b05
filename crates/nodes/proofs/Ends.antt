-- What the proofs of the functions that end trees use: the record at the end of a text, the words of nodes, a block's text. Assumes nothing.
use mathlib.Core.Path.{◌≡◌, refl, sym, ap, ◌∙◌}
use mathlib.Core.Bool.{false}
use mathlib.Core.List.{List, [], ◌∷◌, ◌++◌, append_assoc, append-nil}
use Prim.Native.Nat.{ℕ, zero, suc, ◌+◌, ◌*◌, ◌-◌, ◌/◌, ◌%◌, ◌≤◌, ◌<◌}
use native.Mathlib.Nat.{le_refl}
use native.Mathlib.Numerals.{add-one}
use native.Mathlib.Omega.{arith}
use lib.Dec.{eqb}
use lib.ListN.{length, take, drop, get_or, set, length-append}
use lib.Seq.{length-take-le, take-take, take_at, drop_at, get_or_at, get_or-take, get_or-append-add, set_at, take-set-lt}
use borrow.Author.Tests.{eq-eqb, ne_eqb}
use Rattle.token.specs.Kind
use Rattle.tree.specs.NodeKind
use Rattle.tree.specs.Tree.{Tree, Forest, node, none, more, one, snoc, count, records, all_records, kind_of}
use Rattle.tree.specs.Node
use Rattle.tree.specs.Records.{Small}
use Rattle.tree.specs.Store.{Emitted, Result, leading}
use Rattle.grammar.specs.Reading.Result.{Res, ok, fail, ifb, Error}
use Rattle.grammar.specs.Reading.Expr.{Stmts}
use Rattle.grammar.specs.Reading.Primary.{with_action, atom_error, literal, arguments}
use Rattle.grammar.specs.Reading.Block.{whole, result, split, split_last, split_kids, split_before, block_split, block_of}
use Rattle.grammar.specs.Reading.Function.{target_name}
use Rattle.grammar.specs.Reading.Stmt.{stmt_list_of, lone_ellipsis}
use Rattle.std.proofs.Common.{Ok, Err, Option, None, Some}
use Rattle.scan.specs.declared.Cursor.{Cursor}
use Rattle.scan.specs.declared.Halt.TheVariants.{Fail}
use Rattle.scan.specs.declared.Suite.{Suite}
use Rattle.scan.specs.declared.Listed.{Listed}
use Rattle.scan.specs.declared.Listed.TheVariants.{Suite as ASuite}
use Rattle.scan.specs.Lists.{end_of}
use Rattle.scan.specs.Post.{Writes}
use Rattle.nodes.specs.Ends.{Shape, other, a_tuple, lone, unpacked, Marked, statement, no_statement, Carries}
use Rattle.nodes.specs.Parts.{path_words}
use Rattle.nodes.specs.Lists.{Ends, keeps, gives, held_words, SuiteStands, HeldStands, Closing, Closable, Stands, Unders}
use Rattle.nodes.proofs.Made.{all_snoc, count_snoc}
use Rattle.nodes.proofs.Names.{failed, unwrote}

-- THE LAST RECORD of a text: its words, and the text before it
record Last (S Y : List ℕ) (a w v : ℕ) : Type 0 where
  long : a ≡ length Y + 2
  word : get_or S (a - 2) 0 ≡ w
  value : get_or S (a - 1) 0 ≡ v
  before : take (a - 2) S ≡ Y
  changed : (x : ℕ) → take a (set S (a - 1) x) ≡ Y ++ w ∷ x ∷ []

last_of : (S Y : List ℕ) (a w v : ℕ) → take a S ≡ Y ++ w ∷ v ∷ [] → a ≤ length S → Last S Y a w v
last_of S Y a w v text within =
    let l : a ≡ length Y + 2 = sym (length-take-le a S within) ∙ ap length text ∙ length-append Y (w ∷ v ∷ []) in
    let n : length Y ≡ a - 2 = omega arith in
    let m : length Y + 1 ≡ a - 1 = omega arith in
    let o : length (Y ++ w ∷ []) ≡ a - 1 = length-append Y (w ∷ []) ∙ m in
    record {
      long = l;
      word = sym (get_or-take a S (a - 2) 0 (omega arith)) ∙ ap (λ (y : List ℕ). get_or y (a - 2) 0) text ∙ get_or_at Y w (v ∷ []) 0 (a - 2) n;
      value = sym (get_or-take a S (a - 1) 0 (omega arith)) ∙ ap (λ (y : List ℕ). get_or y (a - 1) 0) text ∙ ap (λ (i : ℕ). get_or (Y ++ w ∷ v ∷ []) i 0) (sym m) ∙ get_or-append-add Y (w ∷ v ∷ []) 1 0;
      before = sym (take-take (a - 2) a S (omega arith)) ∙ ap (take (a - 2)) text ∙ take_at Y (w ∷ v ∷ []) (a - 2) n;
      changed = λ x. take-set-lt a S (a - 1) x (omega arith) ∙ ap (λ (y : List ℕ). set y (a - 1) x) (text ∙ sym (append_assoc Y (w ∷ []) (v ∷ []))) ∙ set_at (Y ++ w ∷ []) v [] x (a - 1) o ∙ append_assoc Y (w ∷ []) (x ∷ []);
    }

-- that of a tree at the text's end
root : (S X : List ℕ) (a k v : ℕ) (f : Forest) → take a S ≡ X ++ records (node k v f) → a ≤ length S → Last S (X ++ all_records f) a (k + 256 * count f) v
unfolding records
root S X a k v f text within = last_of S (X ++ all_records f) a (k + 256 * count f) v (text ∙ sym (append_assoc X (all_records f) ((k + 256 * count f) ∷ v ∷ []))) within

-- the kind that is read there
root_kind : (S X : List ℕ) (a k v : ℕ) (f : Forest) → take a S ≡ X ++ records (node k v f) → a ≤ length S → k < 256 → get_or S (a - 2) 0 % 256 ≡ k
root_kind S X a k v f text within h = omega (arith, (root S X a k v f text within).word)

pub kind_read : (S X : List ℕ) (a : ℕ) (t : Tree) → Small t → take a S ≡ X ++ records t → a ≤ length S → get_or S (a - 2) 0 % 256 ≡ kind_of t
unfolding Small
kind_read S X a (node k v f) s text within = root_kind S X a k v f text within s.0

-- a text goes on
pub joins : (X Z W : List ℕ) {Y Y₀ : List ℕ} → Y ≡ Y₀ ++ W → Y₀ ≡ X ++ Z → Y ≡ X ++ (Z ++ W)
joins X Z W e t = e ∙ ap (λ (y : List ℕ). y ++ W) t ∙ append_assoc X Z W

-- A GROUP'S ACTION
act_other : (m k v : ℕ) (f : Forest) → (k ≡ NodeKind.Assignment → ⊥) → with_action m (node k v f) ≡ node k v f
act_other zero k v f e = refl
act_other (suc m) k v f e = rw (ne_eqb k NodeKind.Assignment e)

module _ (S X : List ℕ) (a m : ℕ) where
  pub acted_other : (t : Tree) → Small t → a ≤ length S → (get_or S (a - 2) 0 % 256 ≡ NodeKind.Assignment → ⊥) → take a S ≡ X ++ records t → take a S ≡ X ++ records (with_action m t)
  unfolding Small
  acted_other (node k v f) s within h text = rw (act_other m k v f (λ e. h (root_kind S X a k v f text within s.0 ∙ e))) text

  pub acted_some : (t : Tree) → Small t → a ≤ length S → get_or S (a - 2) 0 % 256 ≡ NodeKind.Assignment → take a S ≡ X ++ records t → take a (set S (a - 1) (m + 4 * (get_or S (a - 1) 0 / 4))) ≡ X ++ records (with_action (suc m) t)
  unfolding Small records
  acted_some (node k v f) s within e text =
      let r = root S X a k v f text within in
      rw (eq-eqb k NodeKind.Assignment (sym (root_kind S X a k v f text within s.0) ∙ e), r.value) (r.changed (m + 4 * (v / 4)) ∙ append_assoc X (all_records f) ((k + 256 * count f) ∷ (m + 4 * (v / 4)) ∷ []))

-- THE NAME of a function's target
pub named : {k value : ℕ} (t : Tree) → k ≡ kind_of t → k ≡ NodeKind.IdentifierPattern → Carries value t → value + 1 ≡ target_name t
named (node k v f) i e c = rw (eq-eqb k NodeKind.IdentifierPattern (sym i ∙ e), c (sym i ∙ e)) (add-one _)

pub unnamed : {k : ℕ} (t : Tree) → k ≡ kind_of t → (k ≡ NodeKind.IdentifierPattern → ⊥) → 0 ≡ target_name t
unnamed (node k v f) i e = rw (ne_eqb k NodeKind.IdentifierPattern (λ x. e (i ∙ x)))

-- `...` ALONE
module _ (S X : List ℕ) (a : ℕ) (within : a ≤ length S) where
  pub two_deep : (t : Tree) → take a S ≡ X ++ records t → 2 ≤ a
  two_deep (node k v f) text = let r = root S X a k v f text within in omega arith

  below : (t : Tree) → take a S ≡ X ++ records (Node.unpack t) → take (a - 2) S ≡ X ++ records t
  unfolding records
  below t text = (root S X a NodeKind.Unpack 0 (one t) text within).before ∙ ap (λ (y : List ℕ). X ++ y) (append-nil (records t))

  no_unpack : (k v : ℕ) (f : Forest) → k < 256 → (k ≡ NodeKind.Unpack → ⊥) → take a S ≡ X ++ records (node k v f) → get_or S (a - 2) 0 % 256 ≡ NodeKind.Unpack → ⊥
  no_unpack k v f h n text e = n (sym (root_kind S X a k v f text within h) ∙ e)

  is_unpack : (t : Tree) → take a S ≡ X ++ records (Node.unpack t) → get_or S (a - 2) 0 % 256 ≡ NodeKind.Unpack
  is_unpack t text = root_kind S X a NodeKind.Unpack 0 (one t) text within (omega arith)

  deeper : (t : Tree) → take a S ≡ X ++ records (Node.unpack t) → 4 ≤ a
  unfolding records
  deeper (node k v f) text =
      let r = root S X a NodeKind.Unpack 0 (one (node k v f)) text within in
      let l : length ((all_records f ++ (k + 256 * count f) ∷ v ∷ []) ++ []) ≡ length (all_records f) + 2 = ap length (append-nil (all_records f ++ (k + 256 * count f) ∷ v ∷ [])) ∙ length-append (all_records f) ((k + 256 * count f) ∷ v ∷ []) in
      omega (arith, r.long, l, length-append X ((all_records f ++ (k + 256 * count f) ∷ v ∷ []) ++ []))

  -- the word under it
  under : (k v : ℕ) (f : Forest) → take a S ≡ X ++ records (Node.unpack (node k v f)) → get_or S (a - 4) 0 ≡ k + 256 * count f
  under k v f text =
      let r = root S X (a - 2) k v f (below (node k v f) text) (omega arith) in
      let e : a - 2 - 2 ≡ a - 4 = omega arith in
      rw e at r.word

  pub four_deep : {t : Tree} → Shape t → get_or S (a - 2) 0 % 256 ≡ NodeKind.Unpack → take a S ≡ X ++ records t → 4 ≤ a
  four_deep (other {k} {v} {f} p q n m s) e text = absurd (no_unpack k v f q n text e)
  four_deep (a_tuple {f} s) e text = absurd (no_unpack NodeKind.Tuple 0 (one (Node.list f)) (omega arith) (λ x. omega arith) text e)
  four_deep lone e text = deeper Node.absent text
  four_deep (unpacked {t} n s) e text = deeper t text

  pub not_lone : {t : Tree} → Shape t → (get_or S (a - 2) 0 % 256 ≡ NodeKind.Unpack → ⊥) → take a S ≡ X ++ records t → false ≡ lone_ellipsis t
  not_lone (other {k} {v} {f} p q n m s) h text = rw (ne_eqb k NodeKind.Unpack n)
  not_lone (a_tuple s) h text = refl
  not_lone lone h text = absurd (h (is_unpack Node.absent text))
  not_lone (unpacked {t} n s) h text = absurd (h (is_unpack t text))

  pub by_word : {t : Tree} → Shape t → get_or S (a - 2) 0 % 256 ≡ NodeKind.Unpack → take a S ≡ X ++ records t → eqb (get_or S (a - 4) 0) 0 ≡ lone_ellipsis t
  unfolding count Small
  by_word (other {k} {v} {f} p q n m s) e text = absurd (no_unpack k v f q n text e)
  by_word (a_tuple {f} s) e text = absurd (no_unpack NodeKind.Tuple 0 (one (Node.list f)) (omega arith) (λ x. omega arith) text e)
  by_word lone e text = eq-eqb (get_or S (a - 4) 0) 0 (under 0 0 none text)
  by_word (unpacked {t = node k v f} n s) e text =
      let w = under k v f text in
      ne_eqb (get_or S (a - 4) 0) 0 (λ z. n (omega arith)) ∙ sym (ne_eqb k 0 n)

-- THE LAST STATEMENT
module _ (S X : List ℕ) (a b : ℕ) (within : b ≤ length S) where
  pub marks : (t : Tree) → Small t → get_or S (b - 2) 0 ≡ 258 → take b S ≡ X ++ records t → Marked t a (Some a)
  unfolding Small count
  marks (node k v none) s e text = let w = (root S X b k v none text within).word in absurd (omega arith)
  marks (node k v (more t none)) s e text =
      let w = (root S X b k v (one t) text within).word in
      let h : k < 256 = s.0 in
      let i : k ≡ NodeKind.Expression = omega arith in
      statement (ap (λ (j : ℕ). node j v (one t)) i) refl
  marks (node k v (more t (more u f))) s e text = let w = (root S X b k v (more t (more u f)) text within).word in absurd (omega arith)

  pub marks_none : (t : Tree) → (get_or S (b - 2) 0 ≡ 258 → ⊥) → take b S ≡ X ++ records t → Marked t a None
  unfolding count split_last split_kids ifb
  marks_none (node k v none) e text = no_statement refl refl
  marks_none (node k v (more t none)) e text =
      let w = (root S X b k v (one t) text within).word in
      no_statement (rw (ne_eqb k NodeKind.Expression (λ i. e (w ∙ omega arith)))) refl
  marks_none (node k v (more t (more u f))) e text = no_statement refl refl

-- A BLOCK
split_result : (g : Forest) (v : ℕ) (e : Tree) → split (snoc g (node NodeKind.Expression v (one e))) ≡ result g e
unfolding split snoc split_last split_kids split_before ifb
split_result none v e = refl
split_result (more t none) v e = refl
split_result (more t (more u g)) v e = ap (split_before t) (split_result (more u g) v e)

block_whole : (s : Stmts) → s.control ≡ Node.absent → split s.suite ≡ whole s.suite → records (block_of s) ≡ all_records s.suite ++ (1 + 256 * count s.suite) ∷ 0 ∷ 0 ∷ 0 ∷ 519 ∷ 0 ∷ 0 ∷ 0 ∷ 534 ∷ 0 ∷ []
unfolding block_of ifb block_split records count
block_whole s c e = rw (c, e) (simp (append-nil, append_assoc))

block_given : (s : Stmts) (g : Forest) (e : Tree) → s.control ≡ Node.absent → split s.suite ≡ result g e → records (block_of s) ≡ all_records g ++ (leading (count g) ++ (records e ++ 534 ∷ 0 ∷ []))
unfolding block_of ifb block_split records count
block_given s g e c h = rw (c, h) (simp (append-nil, append_assoc))

block_held : (s : Stmts) → (kind_of s.control ≡ NodeKind.Absent → ⊥) → records (block_of s) ≡ (records (Node.list s.suite) ++ records s.control) ++ 519 ∷ 0 ∷ 0 ∷ 0 ∷ 534 ∷ 0 ∷ []
unfolding block_of ifb records count
block_held s c = rw (ne_eqb _ _ c) (simp (append-nil, append_assoc))

module _ {s : Stmts} {X S : List ℕ} {a n : ℕ} {last : Option ℕ} (st : SuiteStands s X S a n last) (within : a ≤ length S) where
  plain_by : Ends s.suite (length X) last → last ≡ None → split s.suite ≡ whole s.suite
  plain_by (keeps w i) e = w
  plain_by (gives g v t f i) e = absurd (let z : ◌≡◌ {A = ℕ} 0 1 = cc in omega arith)

  pub plain_text : {Y : List ℕ} → last ≡ None → Y ≡ take a S ++ (leading n ++ 0 ∷ 0 ∷ 534 ∷ 0 ∷ []) → Y ≡ X ++ records (block_of s)
  plain_text e text = rw (block_whole s st.plain (plain_by st.ends e), st.many) (joins X (all_records s.suite) (leading n ++ 0 ∷ 0 ∷ 534 ∷ 0 ∷ []) text st.text)

  given_by : {S' Y : List ℕ} {from : ℕ} → Ends s.suite (length X) last → last ≡ Some from → Result from (a - 2) (n - 1) S S' → Y ≡ take (a + 4) S' ++ 534 ∷ 0 ∷ [] → Y ≡ X ++ records (block_of s)
  unfolding records
  given_by (keeps w i) e led text = absurd (let z : ◌≡◌ {A = ℕ} 0 1 = cc in omega arith)
  given_by {S'} {from = from} (gives g v t f i) e led text =
      let u : Tree = node NodeKind.Expression v (one t) in
      let G : List ℕ = all_records g in
      let whole_text : take a S ≡ (X ++ G) ++ records u = st.text ∙ ap (λ (y : Forest). X ++ all_records y) f ∙ ap (λ (y : List ℕ). X ++ y) (all_snoc g u) ∙ sym (append_assoc X G (records u)) in
      let r = root S (X ++ G) a NodeKind.Expression v (one t) whole_text within in
      let z : take (a - 2) S ≡ (X ++ G) ++ records t = r.before ∙ ap (λ (y : List ℕ). (X ++ G) ++ y) (append-nil (records t)) in
      let j : length X + length G ≡ from = cc in
      let l : length (X ++ G) ≡ from = length-append X G ∙ j in
      let m : from ≤ a - 2 = omega (arith, r.long, length-append (X ++ G) (records t ++ [])) in
      let b : take from S ≡ X ++ G = sym (take-take from (a - 2) S m) ∙ ap (take from) z ∙ take_at (X ++ G) (records t) from l in
      let d : drop from (take (a - 2) S) ≡ records t = ap (drop from) z ∙ drop_at (X ++ G) (records t) from l in
      let k : n - 1 ≡ count g = omega (arith, sym st.many ∙ ap count f ∙ count_snoc g u) in
      let o : a + 4 ≡ a - 2 + 6 = omega (arith, r.long) in
      let x : take (a + 4) S' ≡ (X ++ G) ++ (leading (count g) ++ records t) = ap (λ (j : ℕ). take j S') o ∙ led.text ∙ rw (b, d, k) in
      rw (block_given s g t st.plain (ap split f ∙ split_result g v t)) (text ∙ ap (λ (y : List ℕ). y ++ 534 ∷ 0 ∷ []) x ∙ simp append_assoc)

  pub given_text : {S' Y : List ℕ} {from : ℕ} → last ≡ Some from → Result from (a - 2) (n - 1) S S' → Y ≡ take (a + 4) S' ++ 534 ∷ 0 ∷ [] → Y ≡ X ++ records (block_of s)
  given_text e led text = given_by st.ends e led text

  pub listed_text : {Y : List ℕ} → Y ≡ take a S ++ leading n → Y ≡ X ++ records (stmt_list_of s)
  unfolding records count
  listed_text text = rw st.plain (joins X (all_records s.suite) (leading n) text st.text ∙ rw st.many (simp (append-nil, append_assoc)))

-- the same behind a control
module _ {s : Stmts} {X S : List ℕ} {a : ℕ} (st : HeldStands s X S a) where
  pub held_text : {Y : List ℕ} → Y ≡ take a S ++ 519 ∷ 0 ∷ 0 ∷ 0 ∷ 534 ∷ 0 ∷ [] → Y ≡ X ++ records (block_of s)
  held_text text = rw (block_held s st.held) (joins X (held_words s) (519 ∷ 0 ∷ 0 ∷ 0 ∷ 534 ∷ 0 ∷ []) text st.text)

  pub held_list : {Y : List ℕ} → Y ≡ take a S ++ 519 ∷ 0 ∷ [] → Y ≡ X ++ records (stmt_list_of s)
  unfolding records count
  held_list text = joins X (held_words s) (519 ∷ 0 ∷ []) text st.text ∙ simp (append-nil, append_assoc)

-- A LIST by its variant: what may be asked of statements
pub closing : {l : Listed} {m most : ℕ} {suite : Suite} → l ≡ ASuite suite → Closable m most l → Closing m most suite.end.at suite.count suite.last
closing e c = (rw e at c).how

-- a list l is k; its tree stands in S₁ up to b, and the record behind it was written
pub node_over : {tree : Stmts → Tree} {word value most b r : ℕ} {S S₁ S₂ S' : List ℕ} {l k : Listed} {body : Cursor} → l ≡ k → body ≡ record { pos = (end_of k).pos; at = b } → S₂ ≡ S₁ → (end_of k).at ≤ b → b + 2 ≤ (end_of k).at + most
    → ((s : Stmts) (X : List ℕ) → Stands S k s X → take b S₁ ≡ X ++ records (tree s)) → Emitted body.at word value r S₂ S' → Unders tree word value most S S' l (record { pos = body.pos; at = r })
node_over {tree} {word} {value} e i o up far text m =
    let j = ap (λ (c : Cursor). c.at) i in
    let next = m.next in
    rw e (record { how = record { stays = rw i; up = omega arith; far = omega arith; text = λ s X st. joins X (records (tree s)) (word ∷ value ∷ []) m.text (rw (i, o) (text s X st)) } })

-- A CALL
module _ (S X : List ℕ) (a : ℕ) (within : a ≤ length S) where
  pub call_tuple : {t : Tree} → Shape t → get_or S (a - 2) 0 % 256 ≡ NodeKind.Tuple → take a S ≡ X ++ records t → take (a - 2) S ≡ X ++ records (Node.list (arguments t))
  unfolding records count
  call_tuple (other {k} {v} {f} p q n m s) e text = absurd (m (sym (root_kind S X a k v f text within q) ∙ e))
  call_tuple (a_tuple {f} s) e text = (root S X a NodeKind.Tuple 0 (one (Node.list f)) text within).before ∙ ap (λ (y : List ℕ). X ++ y) (append-nil (records (Node.list f)))
  call_tuple lone e text = let k = root_kind S X a NodeKind.Unpack 0 (one Node.absent) text within (omega arith) in absurd (omega arith)
  call_tuple (unpacked {t} n s) e text = let k = root_kind S X a NodeKind.Unpack 0 (one t) text within (omega arith) in absurd (omega arith)

  pub call_other : {t : Tree} → Shape t → (get_or S (a - 2) 0 % 256 ≡ NodeKind.Tuple → ⊥) → take a S ≡ X ++ records t → records (Node.invoke (arguments t)) ≡ records t ++ 257 ∷ 0 ∷ 295 ∷ 0 ∷ []
  unfolding records count
  call_other (other {k} {v} {f} p q n m s) e text = rw (ne_eqb k NodeKind.Tuple m) (simp (append-nil, append_assoc))
  call_other (a_tuple {f} s) e text = absurd (e (root_kind S X a NodeKind.Tuple 0 (one (Node.list f)) text within (omega arith)))
  call_other lone e text = refl
  call_other (unpacked {t} n s) e text = simp (append-nil, append_assoc)

-- A PATH
pub path_none : (f : Forest) → count f ≡ 0 → path_words f ≡ all_records f
unfolding records count
path_none none e = refl
path_none (more t f) e = absurd (omega arith)

pub path_some : (f : Forest) (n : ℕ) → count f ≡ n → (n ≡ 0 → ⊥) → path_words f ≡ all_records f ++ (1 + 256 * n) ∷ 0 ∷ (NodeKind.Primary + 512) ∷ 0 ∷ []
unfolding count
path_some none n e h = absurd (h (sym e))
path_some (more t f) n e h = rw (← e)

-- WHAT WAS WRITTEN, and what was refused, behind the token's word at pos
pub wrote : {d : List Error → Res Tree} {T : List ℕ} {pos most at r : ℕ} {X S S' : List ℕ} (t : Tree) → ((q : List Error) → d q ≡ ok t (drop pos T)) → pos ≤ length T → r ≤ at + most → take r S' ≡ X ++ records t → Writes records d T pos pos most at X S S' (Ok (record { pos = pos; at = r }))
wrote t same within far text = record { how = record { got = record { what = t; same = same; on = le_refl _; within = within }; far = far; text = text } }

pub refused : {d : List Error → Res Tree} {T : List ℕ} {pos most at e : ℕ} {X S : List ℕ} → ((q : List Error) → d q ≡ fail e q (drop pos T)) → pos ≤ length T → Writes records d T pos pos most at X S S (Err (Fail (record { error = e; pos = pos })))
refused same within = unwrote (failed same (le_refl _) within (omega arith))

-- A LITERAL goes by its kind: it is a tree of one record, whose words are those of w
pub record OneRecord (k v : ℕ) (w : ℕ × ℕ) : Type 0 where
  pub tree : Tree
  pub same : (q : List Error) (ts : List ℕ) → literal (record { kind = k; newline = 0; value = v }) q ts ≡ ok tree ts
  pub words : records tree ≡ w.0 ∷ w.1 ∷ []

pub no_literal : (k v : ℕ) (q : List Error) (ts : List ℕ) → (k ≡ Kind.Identifier → ⊥) → (k ≡ Kind.Nil → ⊥) → (k ≡ Kind.True → ⊥) → (k ≡ Kind.False → ⊥) → (k ≡ Kind.IntegerLiteral → ⊥) → (k ≡ Kind.FloatLiteral → ⊥) → (k ≡ Kind.StringLiteral → ⊥) → literal (record { kind = k; newline = 0; value = v }) q ts ≡ fail (atom_error k) q ts
unfolding literal ifb
no_literal k v q ts a b c d e f g = rw (ne_eqb _ _ a, ne_eqb _ _ b, ne_eqb _ _ c, ne_eqb _ _ d, ne_eqb _ _ e, ne_eqb _ _ f, ne_eqb _ _ g)
