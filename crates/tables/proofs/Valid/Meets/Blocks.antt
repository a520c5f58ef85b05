-- Statement lists and blocks: which class a statement list has by its end, and that a block takes it. Assumes nothing.
use Rattle.std.specs.Prelude.{◌≡◌, Bool, true, not, ◌&&◌, ℕ, ◌≤◌, eqb}
use Rattle.std.proofs.Math.Path.{refl}
use Rattle.std.proofs.Math.Bool.{false}
use Rattle.std.proofs.Common.{arith, ltb-true}
use Rattle.std.proofs.lemmas.Bool.{not-true}
use Rattle.tree.specs.NodeKind
use Rattle.tree.specs.Tree.{Tree, Forest, more, two, count, kind_of}
use Rattle.tree.specs.Node
use Rattle.grammar.proofs.Laws.Facts.{and_l, and_r}
use Rattle.grammar.specs.Reading.Result.{ifb}
use Rattle.grammar.specs.Reading.Block.{Split, whole, result, split_before, split_kids, split_last, split}
use Rattle.grammar.specs.Canonical.Valid.{Valids, stmt, v_none, v_more, v_expression, v_loop, v_while, v_for, v_assert}
use Rattle.tables.specs.Choice.{where_zero}
use Rattle.tables.specs.Class as Class
use Rattle.tables.specs.Class.{body_class, class}
use Rattle.tables.specs.Demand as Demand
use Rattle.tables.specs.Demand.{first_demand, second_demand, demand, fits}
use Rattle.tables.specs.Kinds.{passes, unlabelled, closed}
use Rattle.tables.specs.Sound.{top, exceeds, arity, sound}
use Rattle.tables.specs.Children.{kind_in, last_tree}
use Rattle.tables.specs.Check.{body_mode, inner_mode, mode_of, class_of, begins_labelled, ends_single, banned, kids_fit, all_fit}
use Rattle.tables.proofs.Valid.Meets.Asked.{Statement, Control}
use Rattle.tables.proofs.Valid.Meets.Demands.{either, within, fits_up}
use Rattle.tables.proofs.Valid.Meets.Kids.{Fit, Kid, two_fits, shaped}
use Rattle.tables.proofs.Valid.Meets.Met.{Met, by_class, by_its_class, told, wider, suits, kid, ready, met}
use Rattle.tables.proofs.Valid.Meets.Lists.{Listed, list_kid}
use Rattle.tables.proofs.Valid.Meets.Narrow.{absent_met, absent_kid, some_kind}

-- a statement list that has no result to take off ends in no expression
before_whole : (t : Tree) (s : Split) (f : Forest) → split_before t s ≡ whole (more t f) → s ≡ whole f
unfolding split_before
before_whole t (whole g) f e = cc
before_whole t (result g r) f e = let z : ◌≡◌ {A = ℕ} 0 1 = cc in absurd (omega arith)

pub plain_last : {f : Forest} → Valids stmt f → split f ≡ whole f → eqb (kind_in (last_tree f)) NodeKind.Expression ≡ false
unfolding split split_last split_kids last_tree ifb
plain_last v_none e = refl
plain_last (v_more (v_expression h l) v_none) e = let z : ◌≡◌ {A = ℕ} 0 1 = cc in absurd (omega arith)
plain_last (v_more (v_loop l b) v_none) e = refl
plain_last (v_more (v_while l c b) v_none) e = refl
plain_last (v_more (v_for l p i b) v_none) e = refl
plain_last (v_more (v_assert a) v_none) e = refl
plain_last (v_more {t = t} h (v_more {t = u} {f = f} g r)) e = plain_last (v_more g r) (before_whole t (split (more u f)) (more u f) e)

by_body : (P : ℕ → Type 0) (m : ℕ) → P Class.OpenBody → P Class.PlainBody → P Class.EndedBody → P (body_class m)
unfolding body_class
by_body P m a b c = either P (eqb m 0) a (either P (eqb m 1) b c)

-- a statement list
module _ {f : Forest} {c : Tree} (stmts : Listed Demand.Statements f) (control : Met Demand.ControlOrAbsent false false c) where
  list_fits : Fit (Node.stmt_list f c)
  unfolding shaped arity exceeds top suits within demand first_demand second_demand unlabelled closed
  list_fits = two_fits refl refl (list_kid stmts refl) (kid control refl)

  list_met : (d : ℕ) → fits d (class_of (Node.stmt_list f c)) ≡ true → Met d false false (Node.stmt_list f c)
  unfolding told class mode_of inner_mode begins_labelled ends_single passes
  list_met d e = record {
    fit = list_fits;
    class = e;
    begins = λ x. refl;
    ends = λ x. refl;
    tells = by_body (λ x. by_class x (Node.stmt_list f c) ≡ true) (body_mode (two (Node.list f) c)) refl refl refl;
  }

  pub body_met : Met Demand.Body false false (Node.stmt_list f c)
  unfolding class mode_of inner_mode fits
  body_met = list_met Demand.Body (by_body (λ x. fits Demand.Body x ≡ true) (body_mode (two (Node.list f) c)) refl refl refl)

-- what an expression statement is of
stated_kid : {d : ℕ} {begin close : Bool} {e : Tree} → Met d begin close (Node.expression e) → Kid NodeKind.Expression 0 0 1 e
unfolding all_fit kids_fit count sound top exceeds arity mode_of inner_mode demand first_demand
stated_kid {e = e} h =
    let place = fits Demand.Stated (class_of e) && not (banned NodeKind.Expression 0 e) in
    let here = and_l place true (and_l (place && true) (all_fit e && true) h.fit.fit) in
    record {
      fit = and_l (all_fit e) true (and_r (place && true) (all_fit e && true) h.fit.fit);
      class = and_l (fits Demand.Stated (class_of e)) (not (banned NodeKind.Expression 0 e)) here;
      free = not-true (banned NodeKind.Expression 0 e) (and_r (fits Demand.Stated (class_of e)) (not (banned NodeKind.Expression 0 e)) here);
    }

stated_some : {d : ℕ} {begin close : Bool} {e : Tree} → Met d begin close (Node.expression e) → 1 ≤ class_of e
unfolding class
stated_some {e = e} h = ltb-true 0 (class_of e) (by_its_class h)

-- blocks: without a result, behind a control, and with a result
module _ {f : Forest} (stmts : Listed Demand.Statements f) where
  pub plain_block : eqb (kind_in (last_tree f)) NodeKind.Expression ≡ false → Met Demand.Block false false (Node.expr_block (Node.stmt_list f Node.absent) Node.absent)
  unfolding shaped arity exceeds top suits within demand first_demand second_demand unlabelled closed where_zero ready told class body_class body_mode mode_of inner_mode last_tree begins_labelled ends_single passes fits
  plain_block e = met (two_fits refl refl (kid (list_met stmts (absent_met refl) Demand.BodyAlone (rw e)) refl) (absent_kid refl)) refl

  pub control_block : {c : Tree} → Met Control false false c → Met Demand.Block false false (Node.expr_block (Node.stmt_list f c) Node.absent)
  unfolding shaped arity exceeds top suits within demand first_demand second_demand unlabelled closed where_zero ready told class body_class body_mode mode_of inner_mode last_tree begins_labelled ends_single passes fits
  control_block {c} h =
      let body : Met Demand.BodyAlone false false (Node.stmt_list f c) = list_met stmts (wider refl (λ e. e) (λ e. e) h) Demand.BodyAlone (rw (some_kind Control c h.class refl)) in
      met (two_fits refl refl (kid body refl) (absent_kid refl)) refl

  pub result_block : {e : Tree} → Met Statement false false (Node.expression e) → Met Demand.Block false false (Node.expr_block (Node.stmt_list f Node.absent) e)
  unfolding shaped arity exceeds top suits within demand first_demand second_demand unlabelled closed where_zero ready told class body_class body_mode mode_of inner_mode last_tree begins_labelled ends_single passes fits
  result_block {e} h =
      let body : Met Demand.BodyBefore false false (Node.stmt_list f Node.absent) = list_met stmts (absent_met refl) Demand.BodyBefore (either (λ m. fits Demand.BodyBefore (body_class m) ≡ true) (eqb (kind_in (last_tree f)) NodeKind.Expression) refl refl) in
      let result = stated_kid h in
      let last : Kid NodeKind.ExprBlock 0 (kind_of e) 2 e = record { fit = result.fit; class = fits_up Demand.Stated Demand.StatedOrAbsent (class_of e) refl (stated_some h) result.class; free = result.free } in
      met (two_fits refl refl (kid body (rw (some_kind Demand.Stated e result.class refl))) last) refl
