-- The tables on some trees: what they say is what grammar's definitions say. Assumes nothing.
use Rattle.std.specs.Prelude.{◌≡◌, refl, true, false, [], ℕ, leb}
use Rattle.tree.specs.Tree.{Tree, none, one, two, count}
use Rattle.tree.specs.Node
use Rattle.grammar.specs.Canonical.Write.{own, write}
use Rattle.grammar.specs.Canonical.Need.{need}
use Rattle.grammar.specs.Reading.Limit.{too_deep, short_output}
use Rattle.grammar.specs.Reading.Result.{ifb}
use Rattle.grammar.proofs.Sheets.{times}
use Rattle.grammar.specs.declared.Written.TheVariants.{Stopped, Refused}
use Rattle.operator.specs.Operator.{op_token, unary_token, assign_token}
use Rattle.tables.specs.Choice as Choice
use Rattle.tables.specs.Operators as Operators
use Rattle.tables.specs.Class as Class
use Rattle.tables.specs.Demand as Demand
use Rattle.tables.specs.Form as Form
use Rattle.tables.specs.Kinds as Kinds
use Rattle.tables.specs.Sound as Sound
use Rattle.tables.specs.Tokens as Tokens
use Rattle.tables.specs.Children as Children
use Rattle.tables.specs.Check as Check
use Rattle.tables.specs.Layout as Layout
use Rattle.tables.specs.Answer as Answer

-- `a + 1`
abbrev sum : Tree
sum = Node.expression (Node.binary_op 3 (Node.identifier 7) (Node.integer_literal 1))

-- a block with nothing in it; one whose result is `a`
abbrev bare : Tree
bare = Node.expr_block (Node.stmt_list none Node.absent) Node.absent

abbrev result : Tree
result = Node.expr_block (Node.stmt_list none Node.absent) (Node.identifier 7)

-- `fun f(a, var b = 1) end`
abbrev function : Tree
function = Node.expression (Node.assignment 2 0 (Node.identifier_pattern 4) (Node.function_def (Node.signature_def 5 (one (Node.param_def 14)) (one (Node.default_def 17 (Node.integer_literal 1))) Node.absent) bare))

-- `if a then end elif a then a; else a; end`
abbrev branches : Tree
branches = Node.expression (Node.if_expr (two (Node.conditional_branch (Node.identifier 7) bare) (Node.conditional_branch (Node.identifier 7) result)) result)

-- a labelled block begins no statement
abbrev labelled : Tree
labelled = Node.expression (Node.block 3 bare)

-- `((a,))`, and a tuple of one member without parentheses
abbrev single : Tree
single = Node.expression (Node.group 0 (Node.tuple (one (Node.identifier 7))))

abbrev open_single : Tree
open_single = Node.expression (Node.tuple (one (Node.identifier 7)))

-- `(a...)... = a`: a `Pack` in a `Pack`
abbrev packs : Tree
packs = Node.expression (Node.assignment 0 0 (Node.pack (Node.pack (Node.identifier_pattern 4))) (Node.identifier 7))

-- `- - .. a`
abbrev minus : ℕ → Tree
minus n = times n (Node.unary_op 0) (Node.identifier 7)

-- the words
pub same_words : (Layout.text sum 0 [] ≡ write sum own []) × (Layout.text function 0 [] ≡ write function own []) × (Layout.text branches 0 [] ≡ write branches own []) × (Layout.text single 0 [] ≡ write single own []) × (Layout.text packs 0 [] ≡ write packs own [])
unfolding write count op_token assign_token Choice.where_zero Choice.where_is Form.fun_gives Form.first_place Form.second_place Form.place_of Form.base Form.first_deeper Form.second_deeper Form.deeper Tokens.label_token Tokens.access_token Tokens.modifier_token Tokens.assignment_token Tokens.later_first_token Tokens.first_token Tokens.second_token Tokens.third_token Tokens.between Tokens.assigns Tokens.first_after Tokens.after_token Tokens.behind_token Tokens.last_token Tokens.name_in Tokens.label_in Tokens.carried Layout.emit Layout.opened Layout.closed Children.last_tree Check.function_form Check.body_mode Check.signature_mode Check.group_mode Check.inner_mode Check.mode_of Check.kids_fit Check.legal_tree Check.begins_labelled Check.ends_single Check.all_fit Layout.assignment_form Layout.form_of Layout.text Layout.within
same_words = (refl, refl, refl, refl, refl)

-- the depth
pub same_depths : (Layout.within function 0 2 ≡ leb (need function own) 2) × (Layout.within function 0 1 ≡ leb (need function own) 1) × (Layout.within branches 0 2 ≡ leb (need branches own) 2)
unfolding need count Choice.where_zero Choice.where_is Form.fun_gives Form.first_place Form.second_place Form.place_of Form.base Form.first_deeper Form.second_deeper Form.deeper Children.last_tree Check.function_form Check.body_mode Check.signature_mode Check.group_mode Check.inner_mode Check.mode_of Check.kids_fit Check.legal_tree Check.begins_labelled Check.ends_single Check.all_fit Layout.assignment_form Layout.form_of Layout.text Layout.within
same_depths = (refl, refl, refl)

-- a statement that is too deep is told so, in an output without room too
pub too_deep_first : ((Answer.run_out (Node.expression (minus 37)) 0).answer ≡ Stopped too_deep) × ((Answer.run_out (Node.expression (minus 36)) 0).answer ≡ Refused short_output)
unfolding ifb count op_token unary_token assign_token Choice.where_zero Choice.where_is Form.fun_gives Form.first_place Form.second_place Form.place_of Form.base Form.first_deeper Form.second_deeper Form.deeper Tokens.label_token Tokens.access_token Tokens.modifier_token Tokens.assignment_token Tokens.later_first_token Tokens.first_token Tokens.second_token Tokens.third_token Tokens.between Tokens.assigns Tokens.first_after Tokens.after_token Tokens.behind_token Tokens.last_token Tokens.name_in Tokens.label_in Tokens.carried Layout.emit Layout.opened Layout.closed Children.last_tree Check.function_form Check.signature_mode Layout.assignment_form Layout.form_of Layout.text Layout.within Answer.in_room Answer.run_out
too_deep_first = (refl, refl)

-- which of them are legal
pub legal_ones : (Check.legal_tree sum ≡ true) × (Check.legal_tree function ≡ true) × (Check.legal_tree branches ≡ true) × (Check.legal_tree single ≡ true)
unfolding count Choice.where_zero Choice.where_is Operators.binary_of Operators.level Class.binary_class Class.keyword_class Class.named_class Class.assignment_class Class.body_class Class.later_class Class.class Class.default_list Class.plain_list Class.argument_list Class.list_class Demand.of_members Demand.left_side Demand.right_side Demand.assigned Demand.inside Demand.defaults Demand.first_demand Demand.second_demand Demand.third_demand Demand.demand Demand.fits Kinds.target_item Kinds.name_is Kinds.gives_name Kinds.passes Kinds.unlabelled Kinds.closed Sound.top Sound.exceeds Sound.arity Sound.sound Children.last_tree Check.function_form Check.body_mode Check.signature_mode Check.group_mode Check.inner_mode Check.mode_of Check.kids_fit Check.legal_tree Check.begins_labelled Check.ends_single Check.all_fit
legal_ones = (refl, refl, refl, refl)

pub illegal_ones : (Check.legal_tree labelled ≡ false) × (Check.legal_tree open_single ≡ false)
unfolding count Choice.where_zero Choice.where_is Operators.binary_of Operators.level Class.binary_class Class.keyword_class Class.named_class Class.assignment_class Class.body_class Class.later_class Class.class Class.default_list Class.plain_list Class.argument_list Class.list_class Demand.of_members Demand.left_side Demand.right_side Demand.assigned Demand.inside Demand.defaults Demand.first_demand Demand.second_demand Demand.third_demand Demand.demand Demand.fits Kinds.target_item Kinds.name_is Kinds.gives_name Kinds.passes Kinds.unlabelled Kinds.closed Sound.top Sound.exceeds Sound.arity Sound.sound Children.last_tree Check.function_form Check.body_mode Check.signature_mode Check.group_mode Check.inner_mode Check.mode_of Check.kids_fit Check.legal_tree Check.begins_labelled Check.ends_single Check.all_fit
illegal_ones = (refl, refl)
