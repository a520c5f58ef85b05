-- Nodes of atoms, groups aside, of access items and patterns whose children meet their demands: what their class says. Assumes nothing.
use Rattle.std.specs.Prelude.{refl, true, zero, suc, ◌+◌, eqb}
use Rattle.std.proofs.Common.{arith, eqb-true, ltb-false}
use Rattle.std.proofs.lemmas.Bool.{eqb-false}
use Rattle.tree.specs.NodeKind
use Rattle.tree.specs.Tree.{Tree, Forest, node, none, more, one}
use Rattle.tree.specs.Node
use Rattle.grammar.specs.Canonical.Valid.{item, table_item, Valid, Pattern, Patterns, v_nil, v_empty_tuple, v_identifier, v_true, v_false, v_integer, v_float, v_string, v_single, v_plain, v_attribute, v_index, v_invoke, v_invoke_table, no_argument, one_argument, arguments, p_identifier, p_attribute, p_index, p_tuple, p_pack, p_ellipsis, p_modifier, p_none, p_more}
use Rattle.grammar.proofs.Laws.Facts.{clash, by_test}
use Rattle.grammar.proofs.Laws.Views.{arguments_sound}
use Rattle.tables.specs.Class as Class
use Rattle.tables.specs.Demand as Demand
use Rattle.tables.specs.Check.{class_of}
use Rattle.tables.proofs.Valid.Meets.Demands.{by_fits}
use Rattle.tables.specs.Children.{Each}
use Rattle.tables.proofs.Valid.Builds.Classes.{bound, as_atom, Receiver, receiver, Empty, empty_list, Only, only, Listed, listed, Operand, Argument, Rule, tables}
use Rattle.tables.proofs.Valid.Builds.Places.{name_in, at_class, simple, expr, either_class, exactly, missing_is, receiver_in, Row, row, table_items_in, operands}

-- atoms
pub of_nil : Rule NodeKind.Nil
unfolding tables
of_nil = simple refl refl (bound (as_atom v_nil))

pub of_empty_tuple : Rule NodeKind.EmptyTuple
unfolding tables
of_empty_tuple = simple refl refl (bound (as_atom v_empty_tuple))

pub of_identifier : Rule NodeKind.Identifier
unfolding tables
of_identifier v h = simple refl refl (bound (as_atom (v_identifier (name_in v h))))

pub of_boolean : Rule NodeKind.BooleanLiteral
unfolding tables
of_boolean zero h = simple refl refl (bound (as_atom v_false))
of_boolean (suc zero) h = simple refl refl (bound (as_atom v_true))
of_boolean (suc (suc v)) h = absurd (omega (arith, ltb-false 1 (suc (suc v)) h))

pub of_integer : Rule NodeKind.IntegerLiteral
unfolding tables
of_integer v h = simple refl refl (bound (as_atom (v_integer v)))

pub of_float : Rule NodeKind.FloatLiteral
unfolding tables
of_float v h = simple refl refl (bound (as_atom (v_float v)))

pub of_string : Rule NodeKind.StringLiteral
unfolding tables
of_string v h = simple refl refl (bound (as_atom (v_string (name_in v h))))

-- access items
pub of_attribute : Rule NodeKind.Attribute
unfolding tables
of_attribute v h = v_attribute (name_in v h)

pub of_index : Rule NodeKind.Index
unfolding tables
of_index t k = v_index (expr k)

-- the arguments of a call: several operands, or any one expression that is no tuple
abbrev Call : Tree → Type 0
Call t = Valid (item true) (node NodeKind.Invoke 0 (one t))

no_arguments : {t : Tree} → Empty t → Call t
no_arguments empty_list = v_invoke no_argument

only_argument : {t : Tree} → Only Argument t → Call t
only_argument (only a) = v_invoke (one_argument a.valid a.no_tuple)

some_arguments : {t : Tree} → Listed Operand t → Call t
some_arguments (listed {f = none} h g) = v_invoke (arguments_sound (v_plain (v_single {begin = true} (h true λ e. clash refl e))))
some_arguments (listed {f = more u f} h g) = v_invoke (arguments (h true λ e. clash refl e) (g.0 true λ e. clash refl e) (operands g.1))

pub of_invoke : Rule NodeKind.Invoke
unfolding tables
of_invoke t k =
    by_fits Demand.Arguments (class_of t) k.class
    (λ low high.
    by_test (eqb (class_of t) Class.Operands)
    (λ y. some_arguments (at_class t (class_of t) Class.Operands (eqb-true (class_of t) Class.Operands y) k.means))
    (λ n. only_argument (at_class t (class_of t) Class.Argument (omega (arith, eqb-false (class_of t) Class.Operands n)) k.means)))
    (λ z. no_arguments (at_class t (class_of t) Class.Empty z k.means))

pub of_invoke_table : Rule NodeKind.InvokeTable
unfolding tables
of_invoke_table t k = go (table_items_in k)
  where
    go : {t : Tree} → Row table_item t → Valid (item true) (node NodeKind.InvokeTable 0 (one t))
    go (row f) = v_invoke_table f

-- patterns
pub of_identifier_pattern : Rule NodeKind.IdentifierPattern
unfolding tables
of_identifier_pattern v h = p_identifier (name_in v h)

pub of_attribute_pattern : Rule NodeKind.AttributePattern
unfolding tables
of_attribute_pattern v h t k = go (receiver_in k)
  where
    go : {t : Tree} → Receiver t → Pattern (Node.attribute_pattern t v)
    go (receiver a f) = p_attribute a f (name_in v h)

pub of_index_pattern : Rule NodeKind.IndexPattern
unfolding tables
of_index_pattern t u k l = go (receiver_in k)
  where
    go : {t : Tree} → Receiver t → Pattern (Node.index_pattern t u)
    go (receiver a f) = p_index a f (expr l)

patterns : {f : Forest} → Each Pattern f → Patterns f
patterns {f = none} h = p_none
patterns {f = more t f} h = p_more h.0 (patterns h.1)

tuple_pattern : {t : Tree} → Listed Pattern t → Pattern (node NodeKind.TuplePattern 0 (one t))
tuple_pattern (listed h f) = p_tuple h (patterns f)

pub of_tuple_pattern : Rule NodeKind.TuplePattern
unfolding tables
of_tuple_pattern t k = tuple_pattern (exactly (Class.Lists + Class.Pattern) (omega arith) k)

pub of_pack : Rule NodeKind.Pack
unfolding tables
of_pack t k = either_class Class.Pattern Class.Absent (omega arith) k (missing_is (λ p. Pattern (Node.pack p)) p_ellipsis) (λ m. p_pack m)

pub of_modifier : Rule NodeKind.Modifier
unfolding tables
of_modifier v h t k = p_modifier {a = v} (omega (arith, ltb-false 3 v h)) (exactly Class.Pattern (omega arith) k)
