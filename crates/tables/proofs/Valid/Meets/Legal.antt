-- What is valid passes the tables: a tree meets the demand of each role that it is valid in, and every node of it fits. Assumes nothing.
use Rattle.std.specs.Prelude.{◌≡◌, Bool, true, false, ℕ, suc, pred, eqb}
use Rattle.std.proofs.Math.Path.{refl}
use Rattle.std.proofs.Common.{arith, eq-eqb, lt-ltb, le-ltb}
use Rattle.std.proofs.Math.Dec.{eqb-suc-zero, eqb-suc-suc}
use Rattle.tree.specs.NodeKind
use Rattle.tree.specs.Tree.{Tree, Forest, node, more, one, count}
use Rattle.tree.specs.Node
use Rattle.operator.specs.Operator.{assign_code}
use Rattle.grammar.specs.Reading.Function.{target_name}
use Rattle.grammar.specs.Canonical.Valid.{IsNamed, Role, stmt, Valid, a_label, v_nil, v_empty_tuple, v_identifier, v_true, v_false, v_integer, v_float, v_string, v_group, v_modified, v_atom, v_primary, v_prim, v_unpack, v_ellipsis, v_table, v_function, v_target, v_if, v_block, v_labelled, v_tight, v_unary_op, v_unary, v_up, v_binary_op, v_assign, v_inner, v_single, v_tuple, v_local, v_plain, v_keyword, v_given, v_given_assign, v_given_target, v_function_def, v_function_default, v_function_variadic, v_attribute, v_index, v_invoke, v_invoke_table, v_field, v_field_index, v_table_item, v_param, v_branch, v_no_else, v_else, v_continue, v_break, v_break_value, v_break_label, v_return, v_return_value, v_no_control, v_control, v_body, v_block_plain, v_block_control, v_block_result, v_expression, v_loop, v_while, v_for, v_assert, v_none, v_more, no_argument, one_argument, arguments, p_identifier, p_attribute, p_index, p_tuple, p_pack, p_ellipsis, p_modifier, p_none, p_more, t_name, t_attribute, t_index}
use Rattle.grammar.proofs.Laws.Roles.{has_target}
use Rattle.grammar.proofs.Laws.Facts.{clash, by_test}
use Rattle.tables.specs.Choice.{where_zero}
use Rattle.tables.specs.Class as Class
use Rattle.tables.specs.Class.{later_class, class}
use Rattle.tables.specs.Demand as Demand
use Rattle.tables.specs.Demand.{inside, defaults, first_demand, second_demand, third_demand, demand, fits}
use Rattle.tables.specs.Kinds.{passes, unlabelled, closed}
use Rattle.tables.specs.Sound.{top, exceeds, arity}
use Rattle.tables.specs.Children.{last_tree}
use Rattle.tables.specs.Check.{group_mode, signature_mode, inner_mode, mode_of, class_of, begins_labelled, ends_single, legal_tree}
use Rattle.tables.proofs.Valid.Meets.Asked.{Primary, Param, Default, Known, asked, begin_of, close_of}
use Rattle.tables.proofs.Valid.Meets.Demands.{either, within, within_same}
use Rattle.tables.proofs.Valid.Meets.Kids.{Fit, Kid, shaped, none_fits, one_fits, two_fits, three_fits, name_range, label_range, named_range}
use Rattle.tables.proofs.Valid.Meets.Met.{Met, positive, told, wider, suits, kid, ready, met}
use Rattle.tables.proofs.Valid.Meets.Lists.{Mets, m_none, m_more, Listed, none_listed, some_listed, listed, list_kid, patterns, stmts, items, table_items, params, branches, operands, default, argument, exactly}
use Rattle.tables.proofs.Valid.Meets.Narrow.{absent_met, absent_kid, some_kind, stated, unassigned, untupled}
use Rattle.tables.proofs.Valid.Meets.Operators.{unary_range, assign_most, within_level, binary_met}
use Rattle.tables.proofs.Valid.Meets.Assignments.{assign_met, given_assign, given_other, function_met, given_target, let_target}
use Rattle.tables.proofs.Valid.Meets.Blocks.{plain_last, body_met, plain_block, control_block, result_block}

-- the receiver of a pattern: a primary, perhaps without a path
receiver : {a : Tree} {f : Forest} → Met Demand.Atom false false a → Listed Demand.Items f → Met Demand.Receiver false false (Node.primary a f)
unfolding shaped arity exceeds top suits within demand first_demand second_demand unlabelled closed ready told class mode_of inner_mode last_tree where_zero fits begins_labelled ends_single passes
receiver {f = f} a l = met (two_fits refl refl (kid a refl) (list_kid l refl)) (by_test (eqb (count f) 0) (λ e. rw e) (λ e. rw e))

signature_kid : {n m : ℕ} {f : Forest} → Fit (node NodeKind.SignatureDef n f) → Kid NodeKind.FunctionDef 0 m 1 (node NodeKind.SignatureDef n f)
unfolding suits within demand first_demand unlabelled closed ready told class fits begins_labelled ends_single passes
signature_kid h = kid (met {d = Demand.Signature} {begin = false} {close = false} h refl) refl

-- tuples: the first member begins them
module _ {begin : Bool} {t : Tree} (h : Met Demand.Operand begin false t) where
  single_met : Met Demand.Grouped begin true (Node.tuple (one t))
  unfolding shaped arity exceeds top demand first_demand unlabelled told class count fits begins_labelled passes
  single_met = record {
    fit = one_fits refl refl (list_kid (some_listed (operands 0) refl (m_more h m_none)) refl);
    class = refl;
    begins = h.begins;
    ends = λ e. clash refl e;
    tells = refl;
  }

  tuple_met : {close : Bool} {u : Tree} {f : Forest} → Met Demand.Operand true false u → Mets (λ t. Demand.Operand) f → Met Demand.Grouped begin close (Node.tuple (more t (more u f)))
  unfolding shaped arity exceeds top demand first_demand unlabelled told class last_tree count fits begins_labelled ends_single passes
  tuple_met {f = f} g r = record {
    fit = one_fits refl refl (list_kid (some_listed (operands (suc (count f))) refl (m_more h (m_more g r))) refl);
    class = refl;
    begins = h.begins;
    ends = λ e. rw (eqb-suc-suc (suc (count f)) 0, eqb-suc-zero (count f));
    tells = refl;
  }

param_met : {v : ℕ} → IsNamed v → Met Param false false (Node.param_def v)
unfolding shaped arity exceeds top ready told class fits begins_labelled ends_single passes
param_met i = met (none_fits refl (named_range i)) refl

default_met : {v : ℕ} {e : Tree} → IsNamed v → Met Demand.Expr true true e → Met Default false false (Node.default_def v e)
unfolding shaped arity exceeds top suits within demand first_demand unlabelled closed ready told class fits begins_labelled ends_single passes
default_met i h = met (one_fits refl (named_range i) (kid h refl)) refl

meets : {o : Role} {t : Tree} → Valid o t → Known o → Met (asked o t) (begin_of o) (close_of o) t
unfolding shaped arity exceeds top suits within demand first_demand second_demand third_demand inside defaults unlabelled closed ready told class later_class mode_of inner_mode group_mode signature_mode last_tree count where_zero fits begins_labelled ends_single passes
meets h =
    elim h as
    (λ o t x. Known o → Met (asked o t) (begin_of o) (close_of o) t)
    (λ o f x. Known o → Mets (asked o) f)
    (λ f x. Listed Demand.Arguments f)
    (λ t x. Met Demand.Pattern false false t)
    (λ f x. Mets (λ t. Demand.Pattern) f)
    (λ t x. Met Demand.Pattern false false t) [
      | v_nil ↦ λ x. met (none_fits refl refl) refl
      | v_empty_tuple ↦ λ x. met (none_fits refl refl) refl
      | v_identifier {n} h ↦ λ x. met (none_fits refl (name_range n h)) refl
      | v_true ↦ λ x. met (none_fits refl refl) refl
      | v_false ↦ λ x. met (none_fits refl refl) refl
      | v_integer v ↦ λ x. met (none_fits refl refl) refl
      | v_float v ↦ λ x. met (none_fits refl refl) refl
      | v_string {n} h ↦ λ x. met (none_fits refl (name_range n h)) refl
      | v_group (_ → h) ↦ λ x. met (one_fits refl refl (kid (h tt) refl)) refl
      | v_modified {a} {e} l (_ → h) ↦ λ x. met (one_fits refl (le-ltb 4 (suc a) (omega arith)) (kid (h l) (rw (within_same (inside (suc a) (group_mode (one e))))))) refl
      | v_atom (_ → h) ↦ λ x. wider refl (λ e. e) (λ e. e) (h tt)
      | v_primary {a} {i} {f} (_ → h) (_ → g) (_ → r) ↦ λ x. met (two_fits refl refl (kid (h tt) refl) (list_kid (some_listed (items true (count f)) refl (m_more (g tt) (r tt))) refl)) (rw (eqb-suc-zero (count f)))
      | v_prim (_ → h) ↦ λ x. wider refl (λ e. refl) (λ e. e) (h tt)
      | v_unpack {begin} {t} (_ → h) ↦ λ x. met (one_fits refl refl (kid (h tt) refl)) (rw (some_kind Primary t (h tt).class refl))
      | v_ellipsis ↦ λ x. met (one_fits refl refl (absent_kid refl)) refl
      | v_table (_ → f) ↦ λ x. met (one_fits refl refl (list_kid (listed table_items refl refl (f tt)) refl)) refl
      | v_function (_ → h) ↦ λ x. wider refl (λ e. refl) (λ e. e) (h tt)
      | v_target {begin} {p} (t → g) (d → h) ↦ λ x. let_target (target_name p) (has_target t d) g (h tt)
      | v_if {begin} {b} {e} {f} (_ → h) (_ → g) (_ → r) ↦ λ x. met (two_fits refl refl (list_kid (some_listed (branches (count f)) refl (m_more (h tt) (g tt))) refl) (kid (r tt) refl)) refl
      | v_block (_ → h) ↦ λ x. met (one_fits refl refl (kid (h tt) refl)) refl
      | v_labelled {n} i (_ → h) ↦ λ x. record { fit = one_fits refl (label_range (a_label {n = n} i)) (kid (h tt) refl); class = refl; begins = λ e. clash refl e; ends = λ e. refl; tells = refl }
      | v_tight (_ → h) ↦ λ x. wider refl (λ e. e) (λ e. e) (h tt)
      | v_unary_op k e (_ → h) ↦ λ x. met (one_fits refl (unary_range k e) (kid (h tt) refl)) refl
      | v_unary (_ → h) ↦ λ x. wider refl (λ e. e) (λ e. e) (h tt)
      | v_up {begin} {l} (_ → h) ↦ λ x. wider (within_level l x) (λ e. e) (λ e. e) (h (omega arith))
      | v_binary_op {begin} {l} k e (_ → h) (_ → g) ↦ λ x. binary_met k l x e (h x) (g (omega arith))
      | v_assign {p} {close} {a} k e (_ → g) (_ → h) n ↦ λ x. assign_met a (pred (assign_code k)) x (assign_most k e) g (h tt)
      | v_inner (_ → h) ↦ λ x. wider refl (λ e. e) (λ e. refl) (h (omega arith))
      | v_single (_ → h) ↦ λ x. single_met (h (omega arith))
      | v_tuple (_ → h) (_ → g) (_ → r) ↦ λ x. tuple_met (h (omega arith)) (g (omega arith)) (r (omega arith))
      | v_local (_ → h) ↦ λ x. wider refl (λ e. refl) (λ e. e) (h (omega arith))
      | v_plain (_ → h) ↦ λ x. wider refl (λ e. e) (λ e. e) (h tt)
      | v_keyword {begin} {close} {a} l (_ → h) ↦ λ x. wider (rw (eqb-suc-zero a)) (λ e. refl) (λ e. e) (h (omega arith))
      | v_given {a} {t} n (_ → h) ↦ λ x. rw (given_other a t n) (unassigned n (h tt))
      | v_given_assign {a} (v → h) ↦ λ x. rw (given_assign x v) (wider (either (λ d. within d Demand.Given ≡ true) (eqb a 0) refl refl) (λ e. refl) (λ e. e) (h x))
      | v_given_target {a} {p} (t → g) (d → h) ↦ λ x. given_target a (target_name p) x (has_target t d) g (h tt)
      | v_function_def (_ → f) (_ → b) ↦ λ x. function_met (two_fits refl refl (signature_kid (three_fits refl refl (list_kid (listed params refl refl (f tt)) refl) (list_kid (none_listed refl) refl) (absent_kid refl))) (kid (b tt) refl))
      | v_function_default (_ → f) i (_ → h) (_ → b) ↦ λ x. function_met (two_fits refl refl (signature_kid (three_fits refl refl (list_kid (listed params refl refl (f tt)) refl) (list_kid (some_listed default refl (m_more (default_met i (h tt)) m_none)) refl) (absent_kid refl))) (kid (b tt) refl))
      | v_function_variadic (_ → f) i (_ → b) ↦ λ x. function_met (two_fits refl refl (signature_kid (three_fits refl refl (list_kid (listed params refl refl (f tt)) refl) (list_kid (none_listed refl) refl) (kid (param_met i) refl))) (kid (b tt) refl))
      | v_attribute {calls} {n} h ↦ λ x. met (none_fits refl (name_range n h)) refl
      | v_index (_ → h) ↦ λ x. met (one_fits refl refl (kid (h tt) refl)) refl
      | v_invoke (_ → h) ↦ λ x. met (one_fits refl refl (list_kid h refl)) refl
      | v_invoke_table (_ → f) ↦ λ x. met (one_fits refl refl (list_kid (listed table_items refl refl (f tt)) refl)) refl
      | v_field h ↦ λ x. met (none_fits refl (named_range h)) refl
      | v_field_index (_ → h) ↦ λ x. met (one_fits refl refl (kid (h tt) refl)) refl
      | v_table_item (_ → g) (_ → h) ↦ λ x. met (two_fits refl refl (kid (g tt) refl) (kid (h (omega arith)) refl)) refl
      | v_param h ↦ λ x. param_met h
      | v_branch (_ → h) (_ → b) ↦ λ x. met (two_fits refl refl (kid (h tt) refl) (kid (b tt) refl)) refl
      | v_no_else ↦ λ x. absent_met refl
      | v_else (_ → h) ↦ λ x. wider refl (λ e. e) (λ e. e) (h tt)
      | v_continue l ↦ λ x. met (none_fits refl (label_range l)) refl
      | v_break l ↦ λ x. met (one_fits refl (label_range l) (absent_kid refl)) refl
      | v_break_value (_ → h) ↦ λ x. met (one_fits refl refl (kid (h tt) refl)) refl
      | v_break_label {n} i (_ → h) ↦ λ x. met (one_fits refl (label_range (a_label {n = n} i)) (kid (h tt) (rw (eqb-suc-zero n)))) refl
      | v_return ↦ λ x. met (one_fits refl refl (absent_kid refl)) refl
      | v_return_value (_ → h) ↦ λ x. met (one_fits refl refl (kid (h tt) refl)) refl
      | v_no_control ↦ λ x. absent_met refl
      | v_control (_ → h) ↦ λ x. wider refl (λ e. e) (λ e. e) (h tt)
      | v_body (_ → f) (_ → h) ↦ λ x. body_met (listed stmts refl refl (f tt)) (h tt)
      | v_block_plain (v → f) e ↦ λ x. plain_block (listed stmts refl refl (f tt)) (plain_last v e)
      | v_block_control (_ → f) (_ → h) ↦ λ x. control_block (listed stmts refl refl (f tt)) (h tt)
      | v_block_result (_ → f) (_ → h) ↦ λ x. result_block (listed stmts refl refl (f tt)) (h tt)
      | v_expression {e} (_ → h) l ↦ λ x. met (one_fits refl refl (kid (stated l (h tt)) refl)) (rw (lt-ltb 0 (class_of e) (positive (h tt))))
      | v_loop l (_ → b) ↦ λ x. met (one_fits refl (label_range l) (kid (b tt) refl)) refl
      | v_while l (_ → h) (_ → b) ↦ λ x. met (two_fits refl (label_range l) (kid (h tt) refl) (kid (b tt) refl)) refl
      | v_for l (_ → g) (_ → h) (_ → b) ↦ λ x. met (three_fits refl (label_range l) (kid g refl) (kid (h tt) refl) (kid (b tt) refl)) refl
      | v_assert (_ → h) ↦ λ x. met (one_fits refl refl (kid (h tt) refl)) refl
      | v_none ↦ λ x. m_none
      | v_more (_ → h) (_ → f) ↦ λ x. m_more (h x) (f x)
      | no_argument ↦ none_listed refl
      | one_argument (_ → h) n ↦ untupled n (h tt) (λ g. some_listed (operands 0) refl (m_more g m_none)) (λ g. some_listed argument refl (m_more g m_none))
      | arguments {t} {u} {f} (_ → h) (_ → g) (_ → r) ↦ some_listed (operands (suc (count f))) refl (m_more (h (omega arith)) (m_more (g (omega arith)) (r (omega arith))))
      | p_identifier {n} h ↦ met (none_fits refl (name_range n h)) refl
      | p_attribute {a} {f} {n} (_ → h) (_ → g) i ↦ met (one_fits refl (name_range n i) (kid (receiver (h tt) (listed (items true) refl refl (g tt))) refl)) refl
      | p_index (_ → h) (_ → f) (_ → g) ↦ met (two_fits refl refl (kid (receiver (h tt) (listed (items true) refl refl (f tt))) refl) (kid (g tt) refl)) refl
      | p_tuple {p} {f} (_ → h) (_ → g) ↦ met (one_fits refl refl (list_kid (some_listed (patterns (count f)) refl (m_more h g)) refl)) refl
      | p_pack (_ → h) ↦ met (one_fits refl refl (kid h refl)) refl
      | p_ellipsis ↦ met (one_fits refl refl (absent_kid refl)) refl
      | p_modifier {a} l (_ → h) ↦ met (one_fits refl (le-ltb 3 a (omega arith)) (kid h refl)) refl
      | p_none ↦ m_none
      | p_more (_ → h) (_ → g) ↦ m_more h g
      | t_name {n} h ↦ met (none_fits refl (name_range n h)) refl
      | t_attribute {a} {f} {n} e (_ → h) (_ → g) i ↦ met (one_fits refl (name_range n i) (kid (receiver (h tt) (listed (items false) refl refl (g tt))) refl)) refl
      | t_index e (_ → h) (_ → f) (_ → g) ↦ met (two_fits refl refl (kid (receiver (h tt) (listed (items false) refl refl (f tt))) refl) (kid (g tt) refl)) refl
    ]

pub valid_legal : {t : Tree} → Valid stmt t → legal_tree t ≡ true
unfolding legal_tree
valid_legal {t} h =
    let m = meets h tt in
    rw (m.fit.fit, eq-eqb (class_of t) Class.Statement (exactly Class.Statement (class_of t) (omega arith) (positive m) m.class))
