-- The words of atoms, paths and tables read back, over operands that read back at the depth d. They stand inside an operand, with one depth more. Assumes nothing.
use Rattle.std.specs.Prelude.{◌≡◌, Bool, true, false, ◌&&◌, List, ◌∷◌, eqb, length}
use Rattle.std.proofs.Math.Path.{refl}
use Rattle.std.proofs.Common.{ap, sym, le_refl, arith}
use Prim.Native.Nat.{ℕ, zero, suc, ◌+◌, ◌*◌, ◌/◌, ◌%◌, ◌≤◌, ◌<◌, max}
use Rattle.token.specs.Kind
use Rattle.token.specs.declared.Token.{Token}
use Rattle.tree.specs.NodeKind
use Rattle.tree.specs.Tree.{Tree, Forest, node, none, more, one, snoc, kind_of}
use Rattle.tree.specs.Node
use Rattle.grammar.specs.Reading.Result.{Error, Res, ok, then, ifb}
use Rattle.grammar.specs.Reading.Look.{look}
use Rattle.grammar.specs.Reading.Primary.{group_expr, literal, atom, indexing_expr, field_name, table_field, table_item, table_items, member_access, arguments, invocation, path, primary}
use Rattle.grammar.specs.Reading.Depth.{at_depth}
use Rattle.grammar.specs.Canonical.Write.{own, modified, keyword_of, commas, after_commas, with_commas, as_row, named, write, writes}
use Rattle.grammar.specs.Canonical.Need.{most, need, needs}
use Rattle.grammar.specs.Canonical.Valid as Valid
use Rattle.grammar.specs.Canonical.Valid.{Valid, Valids, Arguments, read_only, read_write, prim, plain, ex, given, item, field, v_nil, v_empty_tuple, v_identifier, v_true, v_false, v_integer, v_float, v_string, v_group, v_modified, v_atom, v_primary, v_tuple, v_attribute, v_index, v_invoke, v_invoke_table, v_field, v_field_index, v_table_item, v_none, v_more, no_argument, one_argument}
use Rattle.grammar.proofs.Laws.Back.Steps.{Needs, Fits, fits, done, exactly, enough, inside, both, weigh, then_ok, then_on, then_is, if_yes, if_no, sees, expects, symbol, word}
use Rattle.grammar.proofs.Laws.Length.{tokens_length}
use Rattle.grammar.proofs.Laws.Back.Follow.{comma_rank, Follows, follows, weaker, comma, ends, no_path}
use Rattle.grammar.proofs.Laws.Back.Starts.{first_is, isnt, no_keyword, keyword_seen, keyword_starts, binop_starts, plain_starts, ex_starts}
use Rattle.grammar.proofs.Laws.Back.Snoc.{join, join_snoc, join_none, join_one, most_more}
use Rattle.grammar.proofs.Laws.Back.Expr.{Reads, after, close, inner_back, plain_back}
use Rattle.grammar.proofs.Laws.Back.Given.{ex_back, given_back}

-- the words begin with a token that is not of the kind c
pub data Not (c : ℕ) : List ℕ → Type 0 where
  other : {k v : ℕ} {s : List ℕ} → Fits k v → eqb k c ≡ false → Not c (k ∷ v ∷ s)

pub not_first : {A : Type 0} {c : ℕ} {r : List ℕ} (q : List Error) (go : Token → List Error → List ℕ → Res A) {n d : ℕ} {y : Res A}
    → Not c r → ((k v : ℕ) (s : List ℕ) → eqb k c ≡ false → Needs n d (go (word k v) q s) y) → Needs n d (then q (look q r) go) y
not_first q go (other t h) f = sees q _ go t (f _ _ _ h)

-- a name with its access
pub named_words : (n : ℕ) (r : List ℕ) → (named (Node.named n 0) r ≡ Kind.Identifier ∷ n ∷ r) × (named (Node.named n 1) r ≡ Kind.Var ∷ 0 ∷ Kind.Identifier ∷ n ∷ r)
named_words n r =
    let a : (n * 2 + 0) % 2 ≡ 0 = omega arith in
    let b : (n * 2 + 0) / 2 ≡ n = omega arith in
    let c : (n * 2 + 1) % 2 ≡ 1 = omega arith in
    let e : (n * 2 + 1) / 2 ≡ n = omega arith in
    (rw (a, b), rw (c, e))

-- where a path ends: no item goes on, and where calls are allowed none begins
pub data Stops (calls : Bool) : List ℕ → Type 0 where
  stops : {k : ℕ} {s : List ℕ} → k < 76 → eqb k Kind.OpAccess ≡ false → eqb k Kind.OpenSquare ≡ false → calls && true && eqb k Kind.OpenParen ≡ false → calls && true && eqb k Kind.OpenBrace ≡ false → Stops calls (k ∷ 0 ∷ s)

follows_stops : {r : List ℕ} → Follows 1 r → Stops true r
follows_stops (follows {k = k} h g) = let p = no_path k g in stops h p.0 p.1 p.2 p.3

pub paren_stops : {s : List ℕ} → Stops false (Kind.OpenParen ∷ 0 ∷ s)
paren_stops = stops {k = Kind.OpenParen} (omega arith) refl refl refl refl

-- what is no tuple is one argument
one_is : (t : Tree) → eqb (kind_of t) NodeKind.Tuple ≡ false → arguments t ≡ one t
one_is (node k v f) e = rw e

-- an item has a token
item_longer : {c : Bool} {t : Tree} → Valid (item c) t → (r : List ℕ) → suc (length r) ≤ length (write t own r)
unfolding write
item_longer (v_attribute h) r = omega arith
item_longer (v_index {e = e} h) r = let l = tokens_length e own (Kind.CloseSquare ∷ 0 ∷ r) in omega arith
item_longer (v_invoke {f = f} h) r = let l = tokens_length (Node.list f) commas (Kind.CloseParen ∷ 0 ∷ r) in omega arith
item_longer (v_invoke_table {f = f} h) r = let l = tokens_length (Node.list f) commas (Kind.CloseBrace ∷ 0 ∷ r) in omega arith

module _ (d : ℕ) (R : Reads d) where
  -- groups
  group_back : {e : Tree} → Valid (plain true true) e → (q r : List ℕ) → Needs (need e own) d (group_expr (at_depth d) q (write e own (Kind.CloseParen ∷ 0 ∷ r))) (ok (Node.group 0 e) r)
  unfolding group_expr
  group_back h q r =
      first_is _ _ (plain_starts h _) λ k v s b. if_no _ _ (isnt b Kind.CloseParen refl)
      (then_ok _ _ (no_keyword q (plain_starts h _))
      (weigh (then_is _ _ (plain_back d R h q _ close) (expects _ _ _ _ (fits refl) done)) (omega arith)))

  modified_back : {a : ℕ} {e : Tree} → a < 4 → Valid (given a) e → (q r : List ℕ)
      → Needs (need e modified) d (group_expr (at_depth d) q (keyword_of a ∷ 0 ∷ write e modified (Kind.CloseParen ∷ 0 ∷ r))) (ok (Node.group (suc a) e) r)
  unfolding group_expr
  modified_back {a = a} l h q r =
      let g = given_back d R l h q r in
      first_is _ _ (keyword_starts a l {b = false}) λ k v s b. if_no _ _ (isnt b Kind.CloseParen refl)
      (then_ok _ _ (keyword_seen a l q _)
      (weigh (then_is _ _ g.1 (expects _ _ _ _ (fits refl) (exactly (ap (λ e. ok (Node.group (suc a) e) r) g.2)))) (omega arith)))

  pub atom_back : {t : Tree} → Valid Valid.atom t → (q r : List ℕ) → Needs (need t own) (suc d) (atom (at_depth d) q (write t own r)) (ok t r)
  unfolding atom literal write need
  atom_back v_nil q r = inside (sees _ _ _ (fits refl) (if_no _ _ refl (exactly (unfold ifb in refl))))
  atom_back v_empty_tuple q r = inside (sees _ _ _ (fits refl) (if_yes _ _ refl (unfold group_expr in sees _ _ _ (fits refl) (if_yes _ _ refl done))))
  atom_back (v_identifier h) q r = inside (sees _ _ _ (fits h) (if_no _ _ refl (exactly (unfold ifb in refl))))
  atom_back v_true q r = inside (sees _ _ _ (fits refl) (if_no _ _ refl (exactly (unfold ifb in refl))))
  atom_back v_false q r = inside (sees _ _ _ (fits refl) (if_no _ _ refl (exactly (unfold ifb in refl))))
  atom_back (v_integer v) q r = inside (sees _ _ _ (fits refl) (if_no _ _ refl (exactly (unfold ifb in refl))))
  atom_back (v_float v) q r = inside (sees _ _ _ (fits refl) (if_no _ _ refl (exactly (unfold ifb in refl))))
  atom_back (v_string h) q r = inside (sees _ _ _ (fits h) (if_no _ _ refl (exactly (unfold ifb in refl))))
  atom_back (v_group h) q r = inside (sees _ _ _ (fits refl) (if_yes _ _ refl (group_back h q r)))
  atom_back (v_modified l h) q r = inside (sees _ _ _ (fits refl) (if_yes _ _ refl (modified_back l h q r)))

  -- tables
  index_back : {e : Tree} → Valid (ex true false) e → (q r : List ℕ) → Needs (need e own) d (indexing_expr (at_depth d) q (write e own (Kind.CloseSquare ∷ 0 ∷ r))) (ok e r)
  unfolding indexing_expr
  index_back h q r = weigh (then_is _ _ (ex_back d R h q _ (after (ends refl))) (expects _ _ _ _ (fits refl) done)) (omega arith)

  field_back : {t : Tree} → Valid field t → (q r : List ℕ) → Needs (need t own) d (table_field (at_depth d) q (write t own r)) (ok t r)
  unfolding table_field field_name write need
  field_back (v_field (read_only n h)) q r = rw (named_words n r).0 (sees _ _ _ (fits h) (if_no _ _ refl (if_no _ _ refl (if_no _ _ refl (if_yes _ _ refl done)))))
  field_back (v_field (read_write n h)) q r = rw (named_words n r).1 (sees _ _ _ (fits refl) (if_no _ _ refl (if_yes _ _ refl (expects _ _ _ _ (fits h) done))))
  field_back (v_field_index h) q r = sees _ _ _ (fits refl) (if_yes _ _ refl (weigh (then_is _ _ (index_back h q r) done) (omega arith)))

  item_starts : {t : Tree} → Valid Valid.table_item t → (r : List ℕ) → Not Kind.CloseBrace (write t own r)
  unfolding write
  item_starts (v_table_item {e = e} (v_field (read_only n h)) g) r = rw (named_words n (Kind.OpAssign ∷ 0 ∷ write e own r)).0 (other (fits h) refl)
  item_starts (v_table_item {e = e} (v_field (read_write n h)) g) r = rw (named_words n (Kind.OpAssign ∷ 0 ∷ write e own r)).1 (other (fits refl) refl)
  item_starts (v_table_item (v_field_index h) g) r = other (fits refl) refl

  table_item_back : {t : Tree} → Valid Valid.table_item t → (q r : List ℕ) → Follows comma_rank r → Needs (need t own) d (table_item (at_depth d) q (write t own r)) (ok t r)
  unfolding table_item write need
  table_item_back (v_table_item h g) q r f =
      weigh (then_is _ _ (field_back h q _) (expects _ _ _ _ (fits refl) (then_is _ _ (inner_back d R g q r f) done))) (omega arith)

  -- one item or more
  items_back : (m : ℕ) (f : Forest) {t : Tree} {g : Forest} → Valid Valid.table_item t → Valids Valid.table_item g → (q r : List ℕ)
      → length (write t own (after_commas (writes g) (Kind.CloseBrace ∷ 0 ∷ r))) ≤ m
      → Needs (max (need t own) (most (needs g))) d (table_items (at_depth d) m f q (write t own (after_commas (writes g) (Kind.CloseBrace ∷ 0 ∷ r)))) (ok (join f (more t g)) r)
  unfolding table_items write need
  items_back zero f {t = t} h v_none q r l = absurd (omega (arith, tokens_length t own (Kind.CloseBrace ∷ 0 ∷ r)))
  items_back (suc m) f {t = t} h v_none q r l =
      not_first _ _ (item_starts h _) λ k v s e. if_no _ _ e
      (then_is _ _ (table_item_back h q _ (weaker (omega arith) (ends refl)))
      (sees _ _ _ (fits refl) (if_no _ _ refl (if_yes _ _ refl (exactly (ap (λ g. ok g r) (sym (join_one f t))))))))
  items_back zero f {t = t} h (v_more {t = u} {f = g} i is) q r l =
      absurd (omega (arith, tokens_length t own (Kind.Comma ∷ 0 ∷ write u own (after_commas (writes g) (Kind.CloseBrace ∷ 0 ∷ r)))))
  items_back (suc m) f {t = t} h (v_more {t = u} {f = g} i is) q r l =
      not_first _ _ (item_starts h _) λ k v s e. if_no _ _ e
      (weigh (then_is _ _ (table_item_back h q _ comma)
      (sees _ _ _ (fits refl) (if_yes _ _ refl
      (rw (sym (join_snoc f t (more u g)))
      (items_back m (snoc f t) i is q r (omega (arith, tokens_length t own (Kind.Comma ∷ 0 ∷ write u own (after_commas (writes g) (Kind.CloseBrace ∷ 0 ∷ r))))))))))
      (ap (max (need t own)) (sym (most_more u g))))

  pub table_back : {f : Forest} → Valids Valid.table_item f → (q r : List ℕ)
      → Needs (most (needs f)) d (table_items (at_depth d) (length (with_commas (writes f) (Kind.CloseBrace ∷ 0 ∷ r))) none q (with_commas (writes f) (Kind.CloseBrace ∷ 0 ∷ r))) (ok f r)
  unfolding table_items write need join
  table_back v_none q r = sees _ _ _ (fits refl) (if_yes _ _ refl done)
  table_back (v_more {t = t} {f = g} h hs) q r = weigh (items_back _ none h hs q r (le_refl _)) (sym (most_more t g))

  -- paths
  invocation_back : {f : Forest} → Arguments f → (q r : List ℕ) → Needs (most (needs f)) d (invocation (at_depth d) q (with_commas (writes f) (Kind.CloseParen ∷ 0 ∷ r))) (ok (Node.invoke f) r)
  unfolding invocation write need
  invocation_back no_argument q r = sees _ _ _ (fits refl) (if_yes _ _ refl done)
  invocation_back (one_argument {t = t} h e) q r =
      first_is _ _ (ex_starts h _) λ k v s b. if_no _ _ (isnt b Kind.CloseParen refl)
      (weigh (then_is _ _ (ex_back d R h q _ close) (expects _ _ _ _ (fits refl) (exactly (ap (λ g. ok (Node.invoke g) r) (one_is t e))))) (omega arith))
  invocation_back (Valid.arguments h g i) q r =
      first_is _ _ (binop_starts h _) λ k v s b. if_no _ _ (isnt b Kind.CloseParen refl)
      (weigh (then_is _ _ (plain_back d R (v_tuple {close = true} h g i) q _ close) (expects _ _ _ _ (fits refl) done)) (omega arith))

  item_step : {c : Bool} {t : Tree} (m : ℕ) (f : Forest) → Valid (item c) t → (q r : List ℕ) → Needs (need t own) (suc d) (path (at_depth d) c (suc m) f q (write t own r)) (path (at_depth d) c m (snoc f t) q r)
  unfolding path member_access write need
  item_step m f (v_attribute h) q r = sees _ _ _ (fits refl) (if_yes _ _ refl (then_ok _ _ (enough (expects _ _ _ _ (fits h) done) (le_refl 0)) done))
  item_step m f (v_index h) q r = sees _ _ _ (fits refl) (if_no _ _ refl (if_yes _ _ refl (then_on _ _ (inside (index_back h q r)))))
  item_step m f (v_invoke h) q r = sees _ _ _ (fits refl) (if_no _ _ refl (if_no _ _ refl (if_yes _ _ refl (then_on _ _ (inside (invocation_back h q r))))))
  item_step m f (v_invoke_table h) q r = sees _ _ _ (fits refl) (if_no _ _ refl (if_no _ _ refl (if_no _ _ refl (if_yes _ _ refl (then_on _ _ (inside (table_back h q r)))))))

  pub path_back : {c : Bool} (m : ℕ) (f : Forest) {g : Forest} → Valids (item c) g → (q r : List ℕ) → Stops c r → length (as_row (writes g) r) ≤ m
      → Needs (most (needs g)) (suc d) (path (at_depth d) c m f q (as_row (writes g) r)) (ok (join f g) r)
  unfolding write need
  path_back zero f v_none q r (stops a b c e g) l = absurd (omega arith)
  path_back (suc m) f v_none q r (stops {k = k} a b c e g) l =
      unfold path in sees _ _ _ (symbol k a) (if_no _ _ b (if_no _ _ c (if_no _ _ e (if_no _ _ g (rw (join_none f) done)))))
  path_back zero f (v_more {f = g} h hs) q r s l = absurd (omega (arith, item_longer h (as_row (writes g) r)))
  path_back (suc m) f (v_more {t = t} {f = g} h hs) q r s l =
      weigh (both (item_step m f h q _)
      (rw (sym (join_snoc f t g)) (path_back m (snoc f t) hs q r s (omega (arith, item_longer h (as_row (writes g) r))))))
      (sym (most_more t g))

  pub primary_back : {t : Tree} → Valid prim t → (q r : List ℕ) → Follows 1 r → Needs (need t own) (suc d) (primary (at_depth d) q (write t own r)) (ok t r)
  unfolding primary write need join
  primary_back (v_atom h) q r f =
      weigh (then_is _ _ (atom_back h q r) (then_is _ _ (path_back _ none v_none q r (follows_stops f) (le_refl _)) done)) (omega arith)
  primary_back (v_primary h i g) q r f =
      weigh (then_is _ _ (atom_back h q _) (then_is _ _ (path_back _ none (v_more i g) q r (follows_stops f) (le_refl _)) done)) (omega arith)
