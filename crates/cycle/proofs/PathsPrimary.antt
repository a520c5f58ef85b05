-- What binds tighter than operators (grammar's Reading/Primary.antt and Level.antt), one step each, as the code goes: an equation for each way through a reading. Assumes nothing.
use mathlib.Core.Path.{◌≡◌, refl, sym, ap, ◌∙◌}
use mathlib.Core.Bool.{Bool, true, false, ◌&&◌, ◌||◌, true≢false}
use mathlib.Core.List.{List, ◌++◌}
use Prim.Native.Nat.{ℕ, suc, ◌+◌, ◌*◌, ◌-◌, ◌≤◌}
use native.Mathlib.Omega.{arith}
use lib.Dec.{eqb}
use lib.ListN.{length, take, drop}
use lib.Seq.{length-take-le}
use borrow.Author.Tests.{eq-eqb, ne_eqb}
use Rattle.token.specs.Kind
use Rattle.token.specs.declared.Token.{Token}
use Rattle.tree.specs.NodeKind
use Rattle.tree.specs.Tree.{Tree, Forest, none, more, snoc, count, records, all_records, kind_of}
use Rattle.tree.specs.Node
use Rattle.grammar.specs.Reading.Number
use Rattle.grammar.specs.Reading.Result.{Res, ok, fail, then, ifb, Error}
use Rattle.grammar.specs.Reading.Look.{look, expect, try_assign_keyword}
use Rattle.grammar.specs.Reading.Expr.{Depth, inner_expr, expr}
use Rattle.grammar.specs.Reading.Primary.{with_action, group_expr, literal, atom, indexing_expr, table_field, table_item, table_items, table_literal, member_access, arguments, invocation, path, with_path, primary, unpack_expr}
use Rattle.grammar.specs.Reading.Block.{block_expr, expr_label, if_expr}
use Rattle.grammar.specs.Reading.Function.{function_decl_expr}
use Rattle.grammar.specs.Reading.Depth.{primary_expr}
use Rattle.grammar.proofs.Laws.Facts.{if_same}
use Rattle.scan.specs.Post.{Taken}
use Rattle.scan.specs.Parts.{goes_on}
use Rattle.cycle.specs.Parts.{part}
use Rattle.nodes.specs.Parts.{path_words, unpack_end, named_field, item_end}
use Rattle.nodes.proofs.Algebra.{then_fail, then_ok, then_then, then_if, then_same, look_then}
use Rattle.scan.proofs.Laws.{Looks}
use Rattle.scan.proofs.Text.{left}
use Rattle.scan.proofs.Looking.{counted}

-- PRIMARIES
abbrev pub primary_go : Depth → Tree → List Error → List ℕ → Res Tree
primary_go low a q r = then q (path low true (length r) none q r) λ f q₂ s. ok (with_path a f) s

pub primary_step : (low : Depth) (q : List Error) (ts : List ℕ) → primary low q ts ≡ then q (atom low q ts) (primary_go low)
unfolding primary
primary_step low q ts = refl

-- `...`
pub unpack_looks : (low : Depth) (q : List Error) (ts : List ℕ) → Looks q ts (unpack_expr low q ts)
unfolding unpack_expr
unpack_looks low q ts = record { go = _; is = refl }

abbrev pub unpack_go : Tree → List Error → List ℕ → Res Tree
unpack_go t q r = then q (look q r) λ tok q₃ rest. ifb (eqb tok.kind Kind.Ellipsis) (λ _. ifb (eqb (kind_of t) NodeKind.Unpack) (λ _. fail Number.nested_ellipsis q rest) (λ _. ok (Node.unpack t) rest)) (λ _. ok t r)

pub dots_looks : (t : Tree) (q : List Error) (ts : List ℕ) → Looks q ts (unpack_go t q ts)
dots_looks t q ts = record { go = _; is = refl }

module _ (low : Depth) (q : List Error) {T : List ℕ} {pos k n v : ℕ} (at : Taken T pos k n v) where
  pub unpack_lone : k ≡ Kind.Ellipsis → unpack_expr low q (drop pos T) ≡ ok (Node.unpack Node.absent) (drop (pos + 2) T)
  unfolding unpack_expr then ifb
  unpack_lone e = rw (at.same, eq-eqb _ _ e)

  pub unpack_some : (k ≡ Kind.Ellipsis → ⊥) → unpack_expr low q (drop pos T) ≡ then q (primary low q (drop pos T)) unpack_go
  unfolding unpack_expr ifb
  unpack_some e = ap (λ (d : Res Token). then q d (λ tok q₁ rest. ifb (eqb tok.kind Kind.Ellipsis) (λ _. ok (Node.unpack Node.absent) rest) λ _. then q (primary low q (drop pos T)) unpack_go)) (at.same q) ∙ then_ok q _ ∙ rw (ne_eqb _ _ e)

module _ (t : Tree) (q : List Error) {T : List ℕ} {pos k n v : ℕ} (at : Taken T pos k n v) where
  pub dots_more : k ≡ Kind.Ellipsis → unpack_go t q (drop pos T) ≡ unpack_end t q (drop (pos + 2) T)
  unfolding unpack_end then ifb
  dots_more e = rw (at.same, eq-eqb _ _ e)

  pub dots_none : (k ≡ Kind.Ellipsis → ⊥) → unpack_go t q (drop pos T) ≡ ok t (drop pos T)
  unfolding then ifb
  dots_none e = rw (at.same, ne_eqb _ _ e)

-- operands
pub operand_looks : (low : Depth) (q : List Error) (ts : List ℕ) → Looks q ts (primary_expr low q ts)
unfolding primary_expr
operand_looks low q ts = record { go = _; is = refl }

abbrev operand_go : Depth → Token → List ℕ → List Error → List ℕ → Res Tree
operand_go low tok q ts rest =
    ifb (eqb tok.kind Kind.Class) (λ _. fail Number.class_definition q rest) λ _.
    ifb (eqb tok.kind Kind.Fun) (λ _. function_decl_expr low q rest) λ _.
    ifb (eqb tok.kind Kind.If) (λ _. if_expr low q rest) λ _.
    ifb (eqb tok.kind Kind.Begin) (λ _. block_expr low 0 q rest) λ _.
    ifb (eqb tok.kind Kind.OpenBrace) (λ _. then q (table_literal low q rest) λ items q₂ r. ok (Node.table items) r) λ _.
    ifb (eqb tok.kind Kind.Label) (λ _. expr_label low (suc tok.value) q rest) λ _.
    unpack_expr low q ts

module _ (low : Depth) (q : List Error) {T : List ℕ} {pos k n v : ℕ} (at : Taken T pos k n v) where
  operand_seen : primary_expr low q (drop pos T) ≡ operand_go low (record { kind = k; newline = n; value = v }) q (drop pos T) (drop (pos + 2) T)
  unfolding primary_expr
  operand_seen = ap (λ (d : Res Token). then q d (λ tok q₁ rest. operand_go low tok q (drop pos T) rest)) (at.same q) ∙ then_ok q _

  pub operand_class : k ≡ Kind.Class → primary_expr low q (drop pos T) ≡ fail Number.class_definition q (drop (pos + 2) T)
  unfolding ifb
  operand_class e = operand_seen ∙ rw e

  pub operand_fun : k ≡ Kind.Fun → primary_expr low q (drop pos T) ≡ function_decl_expr low q (drop (pos + 2) T)
  unfolding ifb
  operand_fun e = operand_seen ∙ rw e

  pub operand_if : k ≡ Kind.If → primary_expr low q (drop pos T) ≡ if_expr low q (drop (pos + 2) T)
  unfolding ifb
  operand_if e = operand_seen ∙ rw e

  pub operand_begin : k ≡ Kind.Begin → primary_expr low q (drop pos T) ≡ block_expr low 0 q (drop (pos + 2) T)
  unfolding ifb
  operand_begin e = operand_seen ∙ rw e

  pub operand_table : k ≡ Kind.OpenBrace → primary_expr low q (drop pos T) ≡ then q (table_literal low q (drop (pos + 2) T)) (λ items q₂ r. ok (Node.table items) r)
  unfolding ifb
  operand_table e = operand_seen ∙ rw e

  pub operand_label : {l : ℕ} → k ≡ Kind.Label → l ≡ v + 1 → primary_expr low q (drop pos T) ≡ expr_label low l q (drop (pos + 2) T)
  unfolding ifb
  operand_label {l} e i =
      let j : l ≡ suc v = omega arith in
      operand_seen ∙ rw (e, j)

  pub operand_other : (k ≡ Kind.Class → ⊥) → (k ≡ Kind.Fun → ⊥) → (k ≡ Kind.If → ⊥) → (k ≡ Kind.Begin → ⊥) → (k ≡ Kind.OpenBrace → ⊥) → (k ≡ Kind.Label → ⊥) → primary_expr low q (drop pos T) ≡ unpack_expr low q (drop pos T)
  unfolding ifb
  operand_other a b c d e f = operand_seen ∙ rw (ne_eqb _ _ a, ne_eqb _ _ b, ne_eqb _ _ c, ne_eqb _ _ d, ne_eqb _ _ e, ne_eqb _ _ f)

-- TABLES
pub field_looks : (low : Depth) (q : List Error) (ts : List ℕ) → Looks q ts (table_field low q ts)
unfolding table_field
field_looks low q ts = record { go = _; is = refl }

module _ (low : Depth) (q : List Error) {T : List ℕ} {pos k n v : ℕ} (at : Taken T pos k n v) where
  pub field_square : k ≡ Kind.OpenSquare → table_field low q (drop pos T) ≡ then q (indexing_expr low q (drop (pos + 2) T)) (λ e q₂ r. ok (Node.field_index e) r)
  unfolding table_field then ifb
  field_square e = rw (at.same, eq-eqb _ _ e)

  pub field_named : (k ≡ Kind.OpenSquare → ⊥) → table_field low q (drop pos T) ≡ named_field k v q (drop (pos + 2) T)
  unfolding table_field named_field then ifb
  field_named e = rw (at.same, ne_eqb _ _ e)

abbrev pub item_go : Depth → Tree → List Error → List ℕ → Res Tree
item_go low field q r =
    then q (expect Kind.OpAssign Number.missing_assign q r) λ tok q₂ s.
    then q₂ (inner_expr low q₂ s) λ e q₃ u.
    ok (Node.table_item field e) u

pub item_step : (low : Depth) (q : List Error) (ts : List ℕ) → table_item low q ts ≡ then q (table_field low q ts) (item_go low)
unfolding table_item
item_step low q ts = refl

-- behind an item
abbrev pub items_go : Depth → ℕ → Forest → Tree → List Error → List ℕ → Res Forest
items_go low n f item q r = then q (item_end q r) λ c q₃ s. ifb (eqb c 1) (λ _. ok (snoc f item) s) (λ _. table_items low n (snoc f item) q₃ s)

module _ (low : Depth) (n : ℕ) (g : Forest) (q : List Error) where
  zero_next : (rest : List ℕ) → then q (ok 0 rest) (λ c q₃ s. ifb (eqb c 1) (λ _. ok g s) (λ _. table_items low n g q₃ s)) ≡ table_items low n g q rest
  unfolding then ifb
  zero_next rest = refl

  one_next : (rest : List ℕ) → then q (ok 1 rest) (λ c q₃ s. ifb (eqb c 1) (λ _. ok g s) (λ _. table_items low n g q₃ s)) ≡ ok g rest
  unfolding then ifb
  one_next rest = refl

  items_after : (r : List ℕ)
      → then q (look q r) (λ tok₂ q₃ rest₂. ifb (eqb tok₂.kind Kind.Comma) (λ _. table_items low n g q rest₂) λ _. ifb (eqb tok₂.kind Kind.CloseBrace) (λ _. ok g rest₂) (λ _. fail Number.table_closing q rest₂))
      ≡ then q (item_end q r) (λ c q₃ s. ifb (eqb c 1) (λ _. ok g s) (λ _. table_items low n g q₃ s))
  unfolding item_end
  items_after r = sym (look_then q r _ _ _ λ tok rest. then_if q _ _ _ _ ∙ if_same _ (λ u. zero_next rest) (λ u. then_if q _ _ _ _ ∙ if_same _ (λ u. one_next rest) (λ u. then_fail q _)))

module _ (low : Depth) (f : Forest) (q : List Error) where
  abbrev items_on : List ℕ → ℕ → Token → List Error → List ℕ → Res Forest
  items_on ts n tok q₁ rest =
      ifb (eqb tok.kind Kind.CloseBrace) (λ _. ok f rest) λ _. then q (table_item low q ts) λ item q₂ r. then q₂ (look q₂ r) λ tok₂ q₃ rest₂.
      ifb (eqb tok₂.kind Kind.Comma) (λ _. table_items low n (snoc f item) q₂ rest₂) λ _. ifb (eqb tok₂.kind Kind.CloseBrace) (λ _. ok (snoc f item) rest₂) (λ _. fail Number.table_closing q₂ rest₂)

  items_step : (fuel : ℕ) (ts : List ℕ) → length ts ≤ fuel → table_items low fuel f q ts ≡ then q (look q ts) (items_on ts (fuel - 1))
  unfolding table_items
  items_step fuel ts h = counted q ts (λ n. table_items low n f q ts) (items_on ts) refl (λ n. refl) fuel h

  pub items_looks : (T : List ℕ) (fuel p : ℕ) → length T ≤ p + fuel → Looks q (drop p T) (table_items low fuel f q (drop p T))
  items_looks T fuel p enough = record { go = _; is = items_step fuel (drop p T) (left T p fuel enough) }

  module _ {T : List ℕ} (fuel p : ℕ) (enough : length T ≤ p + fuel) {k n v : ℕ} (at : Taken T p k n v) where
    pub items_end : k ≡ Kind.CloseBrace → table_items low fuel f q (drop p T) ≡ ok f (drop (p + 2) T)
    unfolding then ifb
    items_end e = items_step fuel (drop p T) (left T p fuel enough) ∙ rw (at.same, eq-eqb _ _ e)

    items_one : (k ≡ Kind.CloseBrace → ⊥) → table_items low fuel f q (drop p T) ≡ then q (table_item low q (drop p T)) (λ item q₂ r. then q₂ (look q₂ r) λ tok₂ q₃ rest₂.
        ifb (eqb tok₂.kind Kind.Comma) (λ _. table_items low (fuel - 1) (snoc f item) q₂ rest₂) λ _. ifb (eqb tok₂.kind Kind.CloseBrace) (λ _. ok (snoc f item) rest₂) (λ _. fail Number.table_closing q₂ rest₂))
    unfolding then ifb
    items_one e = items_step fuel (drop p T) (left T p fuel enough) ∙ rw (at.same, ne_eqb _ _ e)

    pub items_more : (k ≡ Kind.CloseBrace → ⊥) → table_items low fuel f q (drop p T) ≡ then q (table_item low q (drop p T)) (items_go low (fuel - 1) f)
    items_more e = items_one e ∙ then_same q _ λ item q₂ r. items_after low (fuel - 1) (snoc f item) q₂ r

-- what an item's end says
module _ (low : Depth) (n : ℕ) (g : Forest) (q : List Error) (ts : List ℕ) {c : ℕ} where
  pub items_closed : c ≡ 1 → ifb (eqb c 1) (λ _. ok g ts) (λ _. table_items low n g q ts) ≡ ok g ts
  unfolding ifb
  items_closed e = rw (eq-eqb _ _ e)

  pub items_again : (c ≡ 1 → ⊥) → ifb (eqb c 1) (λ _. ok g ts) (λ _. table_items low n g q ts) ≡ table_items low n g q ts
  unfolding ifb
  items_again e = rw (ne_eqb _ _ e)

-- PATHS
module _ (low : Depth) (q : List Error) (ts : List ℕ) {k : ℕ} where
  pub part_member : k ≡ Kind.OpAccess → part low k q ts ≡ member_access q ts
  unfolding part ifb
  part_member e = rw e

  pub part_index : k ≡ Kind.OpenSquare → part low k q ts ≡ then q (indexing_expr low q ts) (λ e q₁ r. ok (Node.index e) r)
  unfolding part ifb
  part_index e = rw e

  pub part_call : k ≡ Kind.OpenParen → part low k q ts ≡ invocation low q ts
  unfolding part ifb
  part_call e = rw e

  pub part_table : (k ≡ Kind.OpAccess → ⊥) → (k ≡ Kind.OpenSquare → ⊥) → (k ≡ Kind.OpenParen → ⊥) → part low k q ts ≡ then q (table_literal low q ts) (λ items q₁ r. ok (Node.invoke_table items) r)
  unfolding part ifb
  part_table a b c = rw (ne_eqb _ _ a, ne_eqb _ _ b, ne_eqb _ _ c)

-- behind a token with the tests' answers a to r: member, index, calls, same line, call, table
abbrev path_choice : Depth → (Tree → List Error → List ℕ → Res Forest) → Res Forest → List ℕ → List ℕ → Bool → Bool → Bool → Bool → Bool → Bool → Res Forest
path_choice low K z q rest a b c n p r =
    ifb a (λ _. then q (member_access q rest) K) λ _.
    ifb b (λ _. then q (indexing_expr low q rest) λ e q₂ s. K (Node.index e) q₂ s) λ _.
    ifb (c && n && p) (λ _. then q (invocation low q rest) K) λ _.
    ifb (c && n && r) (λ _. then q (table_literal low q rest) λ items q₂ s. K (Node.invoke_table items) q₂ s) λ _.
    z

abbrev part_choice : Depth → List ℕ → List ℕ → Bool → Bool → Bool → Res Tree
part_choice low q ts a b p =
    ifb a (λ _. member_access q ts) λ _.
    ifb b (λ _. then q (indexing_expr low q ts) λ e q₁ r. ok (Node.index e) r) λ _.
    ifb p (λ _. invocation low q ts) λ _.
    then q (table_literal low q ts) λ items q₁ r. ok (Node.invoke_table items) r

module _ (low : Depth) (K : Tree → List Error → List ℕ → Res Forest) (z : Res Forest) (q : List Error) (rest : List ℕ) where
  over : {A : Type 0} (d : Res A) (make : A → Tree) → then q d (λ e q₂ s. K (make e) q₂ s) ≡ then q (then q d (λ e q₁ r. ok (make e) r)) K
  over d make = sym (then_then q d _ K ∙ then_same q d λ e q₂ s. then_ok q₂ K)

  choice_on : (a b c n p r : Bool) → (a || b || (c && n && (p || r))) ≡ true → path_choice low K z q rest a b c n p r ≡ then q (part_choice low q rest a b p) K
  unfolding ifb
  choice_on true b c n p r e = refl
  choice_on false true c n p r e = over (indexing_expr low q rest) Node.index
  choice_on false false true true true r e = refl
  choice_on false false true true false true e = over (table_literal low q rest) Node.invoke_table
  choice_on false false true true false false e = absurd (true≢false (sym e))
  choice_on false false true false p r e = absurd (true≢false (sym e))
  choice_on false false false n p r e = absurd (true≢false (sym e))

  choice_end : (a b c n p r : Bool) → (a || b || (c && n && (p || r))) ≡ false → path_choice low K z q rest a b c n p r ≡ z
  unfolding ifb
  choice_end true b c n p r e = absurd (true≢false e)
  choice_end false true c n p r e = absurd (true≢false e)
  choice_end false false true true true r e = absurd (true≢false e)
  choice_end false false true true false true e = absurd (true≢false e)
  choice_end false false true true false false e = refl
  choice_end false false true false p r e = refl
  choice_end false false false n p r e = refl

module _ (low : Depth) (calls : Bool) (f : Forest) (q : List Error) where
  abbrev path_look : ℕ → List ℕ → Token → List Error → List ℕ → Res Forest
  path_look fuel ts tok q₁ rest = path_choice low (λ i q₂ r. path low calls fuel (snoc f i) q₂ r) (ok f ts) q rest (eqb tok.kind Kind.OpAccess) (eqb tok.kind Kind.OpenSquare) calls (eqb tok.newline 0) (eqb tok.kind Kind.OpenParen) (eqb tok.kind Kind.OpenBrace)

  path_step : (fuel : ℕ) (ts : List ℕ) → length ts ≤ fuel → path low calls fuel f q ts ≡ then q (look q ts) (path_look (fuel - 1) ts)
  unfolding path
  path_step fuel ts h = counted q ts (λ n. path low calls n f q ts) (λ n. path_look n ts) refl (λ n. refl) fuel h

  pub path_looks : (T : List ℕ) (fuel p : ℕ) → length T ≤ p + fuel → Looks q (drop p T) (path low calls fuel f q (drop p T))
  path_looks T fuel p enough = record { go = _; is = path_step fuel (drop p T) (left T p fuel enough) }

  module _ {T : List ℕ} (fuel p : ℕ) (enough : length T ≤ p + fuel) {k n v : ℕ} (at : Taken T p k n v) where
    path_seen : path low calls fuel f q (drop p T) ≡ path_look (fuel - 1) (drop p T) (record { kind = k; newline = n; value = v }) q (drop (p + 2) T)
    path_seen = path_step fuel (drop p T) (left T p fuel enough) ∙ ap (λ (d : Res Token). then q d (path_look (fuel - 1) (drop p T))) (at.same q) ∙ then_ok q _

    pub path_ends : goes_on calls k n ≡ false → path low calls fuel f q (drop p T) ≡ ok f (drop p T)
    path_ends e = path_seen ∙ choice_end low _ _ q _ (eqb k Kind.OpAccess) (eqb k Kind.OpenSquare) calls (eqb n 0) (eqb k Kind.OpenParen) (eqb k Kind.OpenBrace) e

    pub path_more : goes_on calls k n ≡ true → path low calls fuel f q (drop p T) ≡ then q (part low k q (drop (p + 2) T)) (λ i q₂ r. path low calls (fuel - 1) (snoc f i) q₂ r)
    unfolding part
    path_more e = path_seen ∙ choice_on low _ _ q _ (eqb k Kind.OpAccess) (eqb k Kind.OpenSquare) calls (eqb n 0) (eqb k Kind.OpenParen) (eqb k Kind.OpenBrace) e

-- the end of a path writes no more than its items have left
pub path_far : (f : Forest) (S S' Z : List ℕ) (a r : ℕ) → take a S ≡ Z ++ all_records f → take r S' ≡ Z ++ path_words f → a ≤ length S → r ≤ length S' → r ≤ a + 4 → r ≤ a + 14 * count f
unfolding count records
path_far none S S' Z a r e g h i j =
    let n : length (take a S) ≡ a = length-take-le a S h in
    let m : length (take r S') ≡ r = length-take-le r S' i in
    let l : length (take a S) ≡ length (take r S') = ap length (e ∙ sym g) in
    omega arith
path_far (more t f) S S' Z a r e g h i j = omega arith

-- ATOMS
-- what looks first
module _ (low : Depth) (q : List Error) (ts : List ℕ) where
  pub atom_looks : Looks q ts (atom low q ts)
  unfolding atom
  atom_looks = record { go = _; is = refl }

  pub group_looks : Looks q ts (group_expr low q ts)
  unfolding group_expr
  group_looks = record { go = _; is = refl }

  pub call_looks : Looks q ts (invocation low q ts)
  unfolding invocation
  call_looks = record { go = _; is = refl }

  -- an index
  pub index_step : indexing_expr low q ts ≡ then q (expr low q ts) (λ e q₁ r. then q₁ (expect Kind.CloseSquare Number.index_closing q₁ r) λ tok q₂ s. ok e s)
  unfolding indexing_expr
  index_step = refl

module _ (low : Depth) (q : List Error) {T : List ℕ} {pos k n v : ℕ} (at : Taken T pos k n v) where
  pub atom_group : k ≡ Kind.OpenParen → atom low q (drop pos T) ≡ group_expr low q (drop (pos + 2) T)
  unfolding atom then ifb
  atom_group e = rw (at.same, eq-eqb _ _ e)

  pub atom_literal : (k ≡ Kind.OpenParen → ⊥) → atom low q (drop pos T) ≡ literal (record { kind = k; newline = 0; value = v }) q (drop (pos + 2) T)
  unfolding atom literal then ifb
  atom_literal e = rw (at.same, ne_eqb _ _ e)

  pub group_empty : k ≡ Kind.CloseParen → group_expr low q (drop pos T) ≡ ok Node.empty_tuple (drop (pos + 2) T)
  unfolding group_expr then ifb
  group_empty e = rw (at.same, eq-eqb _ _ e)

  pub group_more : (k ≡ Kind.CloseParen → ⊥) → group_expr low q (drop pos T) ≡ then q (try_assign_keyword q (drop pos T)) (λ m q₂ r. then q₂ (expr low q₂ r) λ e q₃ s. then q₃ (expect Kind.CloseParen Number.group_closing q₃ s) λ tok₂ q₄ u. ok (Node.group m (with_action m e)) u)
  unfolding group_expr then ifb
  group_more e = rw (at.same, ne_eqb _ _ e)

  pub call_empty : k ≡ Kind.CloseParen → invocation low q (drop pos T) ≡ ok (Node.invoke none) (drop (pos + 2) T)
  unfolding invocation then ifb
  call_empty e = rw (at.same, eq-eqb _ _ e)

  pub call_more : (k ≡ Kind.CloseParen → ⊥) → invocation low q (drop pos T) ≡ then q (expr low q (drop pos T)) (λ e q₂ r. then q₂ (expect Kind.CloseParen Number.arguments_closing q₂ r) λ tok₂ q₃ s. ok (Node.invoke (arguments e)) s)
  unfolding invocation then ifb
  call_more e = rw (at.same, ne_eqb _ _ e)
