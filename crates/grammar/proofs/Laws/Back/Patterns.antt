-- A pattern's words are those of an operand, which converts back to the pattern and needs the same depth. Assumes nothing.
use Rattle.std.specs.Prelude.{◌≡◌, refl, Bool, true, false, List, ◌∷◌, ℕ, suc, ◌<◌, max, eqb, Some}
use Rattle.std.proofs.Common.{ap, ◌∙◌, sym, true≢false, arith}
use Rattle.std.proofs.Math.Path.{fun_ext}
use Rattle.token.specs.Kind
use Rattle.operator.specs.Operator.{level_count}
use Rattle.tree.specs.NodeKind
use Rattle.tree.specs.Tree.{Tree, Forest, none, more, snoc, kind_of}
use Rattle.tree.specs.Node
use Rattle.grammar.specs.Reading.Pattern.{pattern, maybe, conv, all_conv, last_of, front_of, receiver, by_item, by_last}
use Rattle.grammar.specs.Canonical.Write.{own, modified, keyword_of, as_row, write, writes}
use Rattle.grammar.specs.Canonical.Need.{Depths, most, need, needs}
use Rattle.grammar.specs.Canonical.Valid.{Valid, Valids, Pattern, Patterns, IsName, atom, prim, tight, binop, plain, ex, item, v_identifier, v_group, v_modified, v_atom, v_primary, v_prim, v_unpack, v_ellipsis, v_inner, v_single, v_tuple, v_given, v_attribute, v_index, v_none, v_more, p_identifier, p_attribute, p_index, p_tuple, p_pack, p_ellipsis, p_modifier, p_none, p_more}
use Rattle.grammar.proofs.Laws.Roles.{as_inner}
use Rattle.grammar.proofs.Laws.Roles.{valids_snoc}
use Rattle.grammar.proofs.Laws.Back.Snoc.{row_snoc, most_snoc}

-- what is shown of a pattern p: an expression with its words, which converts back to it. A pattern's place is of no matter
pub record AsExpr (p : Tree) : Type 0 where
  pub expr : Tree
  pub words : write expr ≡ write p
  pub depth : need expr ≡ need p
  pub back : conv expr pattern ≡ Some p
  back_packed : conv expr maybe ≡ Some p
  pub valid : (b : Bool) → Valid (tight b) expr
  alone : eqb (kind_of p) NodeKind.Pack ≡ false → Valid prim expr
  other : eqb (kind_of expr) NodeKind.Assignment ≡ false
  words_place : write p modified ≡ write p own
  depth_place : need p modified ≡ need p own

record AsExprs (f : Forest) : Type 0 where
  exprs : Forest
  words : writes exprs ≡ writes f
  depth : needs exprs ≡ needs f
  back : all_conv exprs pattern ≡ Some f
  valid : Valids (binop true level_count) exprs

-- a path's last item taken off
last_snoc : (t : Tree) (f : Forest) (i : Tree) → last_of t (snoc f i) ≡ i
unfolding snoc last_of
last_snoc t none i = refl
last_snoc t (more u f) i = last_snoc u f i

front_snoc : (t : Tree) (f : Forest) (i : Tree) → front_of t (snoc f i) ≡ more t f
unfolding snoc front_of
front_snoc t none i = refl
front_snoc t (more u f) i = ap (more t) (front_snoc u f i)

pub by_snoc : (v : ℕ) (a : Tree) (w : ℕ) (f : Forest) (i : Tree) → by_last v a w (snoc f i) ≡ by_item (receiver v a w f) i
unfolding snoc last_of front_of
by_snoc v a w none i = refl
by_snoc v a w (more t f) i = rw (front_snoc t f i, last_snoc t f i)

primary_valid : {a i : Tree} {f : Forest} → Valid atom a → Valids (item true) f → Valid (item true) i → Valid prim (Node.primary a (snoc f i))
unfolding snoc
primary_valid h v_none i = v_primary h i v_none
primary_valid h (v_more g gs) i = v_primary h g (valids_snoc gs i)

-- the pattern that a path is by its last item
path_as : {a i p : Tree} {f : Forest} → Valid atom a → Valids (item true) f → Valid (item true) i → by_item (Node.primary a f) i ≡ Some p
    → write p ≡ (λ l r. write a own (as_row (writes f) (write i own r))) → need p ≡ (λ l. max (need a own) (max (most (needs f)) (need i own))) → AsExpr p
unfolding write need conv
path_as {a} {i} {f = f} h g j e w n = record {
  expr = Node.primary a (snoc f i);
  words = fun_ext (λ l. fun_ext λ r. ap (write a own) (row_snoc f i r)) ∙ sym w;
  depth = fun_ext (λ l. ap (max (need a own)) (most_snoc f i)) ∙ sym n;
  back = by_snoc 0 a 0 f i ∙ e;
  back_packed = by_snoc 0 a 0 f i ∙ e;
  valid = λ b. v_prim (primary_valid h g j);
  alone = λ _. primary_valid h g j;
  other = refl;
  words_place = ap (λ w. w modified) w ∙ sym (ap (λ w. w own) w);
  depth_place = ap (λ n. n modified) n ∙ sym (ap (λ n. n own) n);
}

attribute_as : {a : Tree} {f : Forest} {n : ℕ} → Valid atom a → Valids (item true) f → IsName n → AsExpr (Node.attribute_pattern (Node.primary a f) n)
unfolding write need
attribute_as h g i = path_as h g (v_attribute i) refl refl (fun_ext λ l. omega arith)

index_as : {a e : Tree} {f : Forest} → Valid atom a → Valids (item true) f → Valid (ex true false) e → AsExpr (Node.index_pattern (Node.primary a f) e)
unfolding write need
index_as h g i = path_as h g (v_index i) refl refl (fun_ext λ l. omega arith)

identifier_as : {n : ℕ} → IsName n → AsExpr (Node.identifier_pattern n)
unfolding write need conv
identifier_as {n} h = record {
  expr = Node.identifier n;
  words = refl;
  depth = refl;
  back = refl;
  back_packed = refl;
  valid = λ b. v_prim (v_atom (v_identifier h));
  alone = λ _. v_atom (v_identifier h);
  other = refl;
  words_place = refl;
  depth_place = refl;
}

-- a group, or a group with a modifier, around members or one pattern
tuple_valid : {e : Tree} {f : Forest} → Valid (binop true level_count) e → Valids (binop true level_count) f → Valid (plain true true) (Node.tuple (more e f))
tuple_valid h v_none = v_single h
tuple_valid h (v_more g gs) = v_tuple h g gs

tuple_as : {p : Tree} {f : Forest} → AsExpr p → AsExprs f → AsExpr (Node.tuple_pattern (more p f))
unfolding write need conv
tuple_as {p} {f} x y =
    let v = v_atom (v_group (tuple_valid (as_inner (x.valid true)) y.valid)) in
    record {
      expr = Node.group 0 (Node.tuple (more x.expr y.exprs));
      words = rw (x.words, y.words);
      depth = fun_ext λ l. ap (λ (d : Depths). suc (most (d ∷ needs y.exprs))) x.depth ∙ ap (λ (ds : List Depths). suc (most (need p ∷ ds))) y.depth;
      back = rw (x.back, y.back);
      back_packed = rw (x.back, y.back);
      valid = λ b. v_prim v;
      alone = λ _. v;
      other = refl;
      words_place = refl;
      depth_place = refl;
    }

modifier_as : {a : ℕ} {p : Tree} → a < 4 → AsExpr p → AsExpr (Node.modifier a p)
unfolding write need conv
modifier_as {a} l x =
    let v = v_atom (v_modified l (v_given x.other (v_inner (as_inner (x.valid true))))) in
    record {
      expr = Node.group (suc a) x.expr;
      words = fun_ext λ p. ap (λ w r. Kind.OpenParen ∷ 0 ∷ keyword_of a ∷ 0 ∷ w (Kind.CloseParen ∷ 0 ∷ r)) (ap (λ w. w modified) x.words ∙ x.words_place);
      depth = fun_ext λ p. ap suc (ap (λ n. n modified) x.depth ∙ x.depth_place);
      back = rw x.back;
      back_packed = rw x.back;
      valid = λ b. v_prim v;
      alone = λ _. v;
      other = refl;
      words_place = refl;
      depth_place = refl;
    }

ellipsis_as : AsExpr (Node.pack Node.absent)
unfolding write need conv
ellipsis_as = record {
  expr = Node.unpack Node.absent;
  words = refl;
  depth = refl;
  back = refl;
  back_packed = refl;
  valid = λ b. v_ellipsis;
  alone = λ h. absurd (true≢false h);
  other = refl;
  words_place = refl;
  depth_place = refl;
}

-- a pack in a pack stands in parentheses
pack_as : {p : Tree} (b : Bool) → eqb (kind_of p) NodeKind.Pack ≡ b → AsExpr p → AsExpr (Node.pack p)
unfolding write need conv
pack_as true e x = record {
  expr = Node.unpack (Node.group 0 x.expr);
  words = fun_ext λ p. fun_ext λ r. rw (e, x.words);
  depth = fun_ext λ p. rw (e, x.depth) (omega arith);
  back = rw x.back;
  back_packed = rw x.back;
  valid = λ b. v_unpack (v_atom (v_group (v_inner (as_inner (x.valid true)))));
  alone = λ h. absurd (true≢false h);
  other = refl;
  words_place = refl;
  depth_place = refl;
}
pack_as false e x = record {
  expr = Node.unpack x.expr;
  words = fun_ext λ p. fun_ext λ r. rw (e, x.words);
  depth = fun_ext λ p. rw (e, x.depth);
  back = rw x.back_packed;
  back_packed = rw x.back_packed;
  valid = λ b. v_unpack (x.alone e);
  alone = λ h. absurd (true≢false h);
  other = refl;
  words_place = refl;
  depth_place = refl;
}

none_as : AsExprs none
unfolding write need conv
none_as = record { exprs = none; words = refl; depth = refl; back = refl; valid = v_none }

more_as : {p : Tree} {f : Forest} → AsExpr p → AsExprs f → AsExprs (more p f)
unfolding write need conv
more_as x y = record {
  exprs = more x.expr y.exprs;
  words = rw (x.words, y.words);
  depth = rw (x.depth, y.depth);
  back = rw (x.back, y.back);
  valid = v_more (as_inner (x.valid true)) y.valid;
}

mutual
  pub as_expr : {p : Tree} → Pattern p → AsExpr p
  as_expr (p_identifier h) = identifier_as h
  as_expr (p_attribute h g i) = attribute_as h g i
  as_expr (p_index h g i) = index_as h g i
  as_expr (p_tuple h g) = tuple_as (as_expr h) (as_exprs g)
  as_expr (p_pack {p = p} h) = pack_as (eqb (kind_of p) NodeKind.Pack) refl (as_expr h)
  as_expr p_ellipsis = ellipsis_as
  as_expr (p_modifier l h) = modifier_as l (as_expr h)

  as_exprs : {f : Forest} → Patterns f → AsExprs f
  as_exprs p_none = none_as
  as_exprs (p_more h g) = more_as (as_expr h) (as_exprs g)
