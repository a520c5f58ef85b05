-- The numbers of the errors, in the order of document 01's table: 1 and 2, and the syntax errors 10 to 52; and 0, the end. Definitions; they assume nothing.
use Rattle.std.specs.Prelude.{ℕ}

-- no statement is left at the top level: on its way like an error, and answered as the end
abbrev pub end : ℕ
end = 0

-- lexer error
abbrev pub lexer_error : ℕ
lexer_error = 1

-- tokens ran out inside a statement
abbrev pub end_of_tokens : ℕ
end_of_tokens = 2

-- `parse_stmt_variant`: not allowed here
abbrev pub continue_not_allowed : ℕ
continue_not_allowed = 10

abbrev pub break_not_allowed : ℕ
break_not_allowed = 11

abbrev pub return_not_allowed : ℕ
return_not_allowed = 12

abbrev pub ellipsis_not_allowed : ℕ
ellipsis_not_allowed = 13

-- a label without block or loop
abbrev pub label_alone : ℕ
label_alone = 14

-- a while or for without do or in
abbrev pub missing_do : ℕ
missing_do = 15

-- what stands left of an assignment is no pattern
abbrev pub cannot_assign : ℕ
cannot_assign = 16

-- control that is not last in its list
abbrev pub continue_not_last : ℕ
continue_not_last = 17

abbrev pub break_not_last : ℕ
break_not_last = 18

abbrev pub return_not_last : ℕ
return_not_last = 19

-- a keyword without an assignment
abbrev pub let_alone : ℕ
let_alone = 20

abbrev pub var_alone : ℕ
var_alone = 21

abbrev pub local_alone : ℕ
local_alone = 22

abbrev pub nonlocal_alone : ℕ
nonlocal_alone = 23

-- `parse_unpack_expr`
abbrev pub nested_ellipsis : ℕ
nested_ellipsis = 24

-- `parse_if_expr`
abbrev pub missing_then : ℕ
missing_then = 25

-- functions
abbrev pub function_target : ℕ
function_target = 26

abbrev pub params_opening : ℕ
params_opening = 27

abbrev pub params_closing : ℕ
params_closing = 28

abbrev pub invalid_param : ℕ
invalid_param = 29

abbrev pub variadic_default : ℕ
variadic_default = 30

abbrev pub variadic_not_last : ℕ
variadic_not_last = 31

abbrev pub param_order : ℕ
param_order = 32

-- tables
abbrev pub missing_assign : ℕ
missing_assign = 33

abbrev pub table_closing : ℕ
table_closing = 34

abbrev pub name_after_var : ℕ
name_after_var = 35

abbrev pub name_after_let : ℕ
name_after_let = 36

abbrev pub invalid_field : ℕ
invalid_field = 37

-- access items
abbrev pub member_name : ℕ
member_name = 38

abbrev pub index_closing : ℕ
index_closing = 39

abbrev pub arguments_closing : ℕ
arguments_closing = 40

-- `parse_atom`: what needs parentheses
abbrev pub class_needs_parens : ℕ
class_needs_parens = 41

abbrev pub fun_needs_parens : ℕ
fun_needs_parens = 42

abbrev pub let_needs_parens : ℕ
let_needs_parens = 43

abbrev pub var_needs_parens : ℕ
var_needs_parens = 44

abbrev pub begin_needs_parens : ℕ
begin_needs_parens = 45

abbrev pub other_needs_parens : ℕ
other_needs_parens = 46

-- `parse_atom`: what is no expression
abbrev pub unmatched_paren : ℕ
unmatched_paren = 47

abbrev pub unmatched_square : ℕ
unmatched_square = 48

abbrev pub unmatched_brace : ℕ
unmatched_brace = 49

abbrev pub no_expression : ℕ
no_expression = 50

-- `parse_group_expr`
abbrev pub group_closing : ℕ
group_closing = 51

-- `parse_primary_expr`: the Rust panics at a class definition
abbrev pub class_definition : ℕ
class_definition = 52
