-- The sheets of document 01 that are to be proved, as one table and one theorem, `sheets_tried`: every call from a fresh reader to the first end or stop,
-- with the answer, the whole reader and every word of the store, and the sheet's canonical tokens where it reads cleanly.
-- Rows behind them rule out a wrong grouping, a wrong resynchronization, writers that leave a token out, and the errors 24, 28 and 32 where they seem near.
-- Then trees on either side of what document 02 says of operators, `levels_tried`. Assumes nothing.
use Rattle.std.specs.Prelude.{◌≡◌, refl, Bool, true, false, List, [], ◌∷◌, ℕ, zero, suc, ◌*◌, ◌+◌, length, Option, Some, None, option_and_then}
use Rattle.token.specs.Kind
use Rattle.operator.specs.Operator.{which_unary_op, which_binary_op, which_assignment_op, op_level, op_number, op_token, number_level, unary_code, unary_token, assign_code, assign_token}
use Rattle.tree.specs.Tree.{Tree, none, more, one, count, snoc, records, all_records}
use Rattle.tree.specs.Node
use Rattle.grammar.specs.Reading.Pattern.{conv, all_conv, last_of, front_of}
use Rattle.grammar.specs.Reading.Limit.{depth_limit}
use Rattle.grammar.specs.Reading.Number
use Rattle.grammar.specs.Reading.Result.{Error, unclean, either, then, ifb, push, pop}
use Rattle.grammar.specs.Reading.Look.{looked, look, expect, expect_pattern, try_label, try_assign_keyword}
use Rattle.grammar.specs.Reading.Expr.{operators, binop_expr, members, tuple_expr, expr}
use Rattle.grammar.specs.Reading.Primary.{group_expr, literal, atom, indexing_expr, field_name, table_field, table_item, table_items, member_access, invocation, path, primary, unpack_expr}
use Rattle.grammar.specs.Reading.Block.{split_before, split_kids, split_last, split, block_split, block_of, body, block_expr, expr_label, branches}
use Rattle.grammar.specs.Reading.Function.{param_mode, variadic_param, plain_param, param, joined, params, function_def, function_assignment_target, function_decl_expr}
use Rattle.grammar.specs.Reading.Stmt.{loop, while_loop, lvalue_list, for_loop, stmt_label, stmt, control_value, control_flow, control_last, synchronize, synchronized, caught, stmts}
use Rattle.grammar.specs.Reading.Depth.{primary_expr, unary_expr, at_depth}
use Rattle.grammar.specs.Reading.Next.{queue_fits, error_answer, fresh, Called, next_stmt, bare, halted, tree_called, reader_at, error_kind, start, front, failed, next}
use Rattle.grammar.specs.Canonical.Write.{target_items, write, writes, run}
use Rattle.grammar.specs.Canonical.Writing.{clean_from, clean_reading}
use Rattle.grammar.specs.Levels.{in_order}
use Rattle.grammar.specs.declared.Answer.{Answer}
use Rattle.grammar.specs.declared.Answer.TheVariants.{Tree as ATree, Error as AError, End, Stopped, Refused}
use Rattle.grammar.specs.declared.Reader.{Reader}

-- a call, and those behind it unless it is the end or a stop
abbrev pub and_on : Answer → Called → (Unit {0} → List Called) → List Called
and_on (ATree nodes) c others = c ∷ others tt
and_on (AError kind) c others = c ∷ others tt
and_on End c others = c ∷ []
and_on (Stopped k) c others = c ∷ []
and_on (Refused k) c others = c ∷ []

-- the calls on a sheet from a reader on, at most n, with stores of m words
unfoldable pub calls : ℕ → ℕ → List ℕ → Reader → List Called
unfolding which_unary_op which_binary_op which_assignment_op op_level op_number unary_code assign_code count snoc records all_records conv all_conv last_of front_of unclean either then ifb push pop looked look expect expect_pattern try_label try_assign_keyword operators binop_expr members tuple_expr expr group_expr literal atom indexing_expr field_name table_field table_item table_items member_access invocation path primary unpack_expr split_before split_kids split_last split block_split block_of body block_expr expr_label branches param_mode variadic_param plain_param param joined params function_def function_assignment_target function_decl_expr loop while_loop lvalue_list for_loop stmt_label stmt control_value control_flow control_last synchronize synchronized caught stmts primary_expr unary_expr at_depth start front failed next queue_fits error_answer next_stmt
calls zero m ts R = []
calls (suc n) m ts R =
    let x = next_stmt R ts m in
    and_on x.step.answer x λ _. calls n m ts x.step.reader

-- what a call says: a tree or an error with the position behind it and the errors that wait; the end, or a stop, with the position
pub data Said : Type 0 where
  tree : Tree → ℕ → List Error → Said
  error : Error → ℕ → List Error → Said
  end : ℕ → Said
  stopped : ℕ → ℕ → Said

abbrev pub called : ℕ → Said → Called
called m (tree t p q) = tree_called m p (records t) q
called m (error e p q) = bare m (AError (error_kind e)) (reader_at p q)
called m (end p) = bare m End (reader_at p [])
called m (stopped n p) = halted m p n

abbrev pub all_called : ℕ → List Said → List Called
all_called m [] = []
all_called m (s ∷ ss) = called m s ∷ all_called m ss

-- the canonical tokens of a sheet that reads cleanly
unfoldable pub canonical : List ℕ → Option (List ℕ)
unfolding calls op_token unary_token assign_token target_items write writes run clean_from clean_reading
canonical ts = option_and_then (λ f. Some (run f)) (clean_reading depth_limit ts)

-- a sheet, what its calls say, and its canonical tokens
pub record Row : Type 0 where
  pub sheet : List ℕ
  pub says : List Said
  pub tokens : Option (List ℕ)

-- what a sheet comes to
pub record Outcome : Type 0 where
  pub steps : List Called
  pub tokens : Option (List ℕ)

abbrev pub read : List Row → List Outcome
read [] = []
read (w ∷ rows) =
    record { steps = calls (suc (length w.sheet)) (8 * length w.sheet) w.sheet fresh; tokens = canonical w.sheet } ∷ read rows

abbrev pub expected : List Row → List Outcome
expected [] = []
expected (w ∷ rows) = record { steps = all_called (8 * length w.sheet) w.says; tokens = w.tokens } ∷ expected rows

-- tokens of a sheet, and of a tree: a symbol, a name, an integer
abbrev pub s : ℕ → List ℕ → List ℕ
s k r = k ∷ 0 ∷ r

abbrev pub name : ℕ → List ℕ → List ℕ
name n r = Kind.Identifier ∷ n ∷ r

abbrev pub int : ℕ → List ℕ → List ℕ
int v r = Kind.IntegerLiteral ∷ v ∷ r

abbrev pub eof : List ℕ
eof = s Kind.EOF []

-- f, so many times over
abbrev pub times : {A : Type 0} → ℕ → (A → A) → A → A
times zero f r = r
times (suc n) f r = f (times n f r)

-- a token that is the first of its line
abbrev newline : List ℕ → List ℕ
newline [] = []
newline (w ∷ r) = (w + 256) ∷ r

abbrev pub a : ℕ
a = 0

abbrev pub b : ℕ
b = 1

abbrev pub c : ℕ
c = 2

abbrev just_name : ℕ → Tree
just_name n = Node.expression (Node.identifier n)

abbrev assigned : Tree
assigned = Node.expression (Node.assignment 0 0 (Node.identifier_pattern a) (Node.integer_literal 1))

pub table : List Row
table =
    -- nothing at all
    record { sheet = []; says = end 0 ∷ []; tokens = Some eof } ∷
    record { sheet = eof; says = end 0 ∷ []; tokens = Some eof } ∷
    -- a + 1, with the name 7
    record {
      sheet = newline (name 7 (s Kind.OpAdd (int 1 (newline eof))));
      says = tree (Node.expression (Node.binary_op 3 (Node.identifier 7) (Node.integer_literal 1))) 3 [] ∷ end 3 ∷ [];
      tokens = Some (name 7 (s Kind.OpAdd (int 1 (s Kind.Semicolon eof))));
    } ∷
    -- a, no EOF
    record { sheet = name a []; says = error Number.end_of_tokens 1 [] ∷ end 1 ∷ []; tokens = None } ∷
    -- ) a b
    record {
      sheet = s Kind.CloseParen (name a (name b eof));
      says = error Number.unmatched_paren 2 [] ∷ tree (just_name b) 3 [] ∷ end 3 ∷ [];
      tokens = None;
    } ∷
    -- ) assert a
    record {
      sheet = s Kind.CloseParen (s Kind.Assert (name a eof));
      says = error Number.unmatched_paren 1 [] ∷ tree (Node.assert (Node.identifier a)) 3 [] ∷ end 3 ∷ [];
      tokens = None;
    } ∷
    -- begin 1; continue; end
    record {
      sheet = s Kind.Begin (int 1 (s Kind.Semicolon (s Kind.Continue (s Kind.Semicolon (s Kind.End eof)))));
      says =
          tree (Node.expression (Node.block 0 (Node.expr_block (Node.stmt_list (one (Node.expression (Node.integer_literal 1))) (Node.continue 0)) Node.absent))) 6 (Number.continue_not_last ∷ [])
          ∷ error Number.continue_not_last 6 [] ∷ end 6 ∷ [];
      tokens = None;
    } ∷
    -- a label, begin end
    record { sheet = Kind.Label ∷ a ∷ s Kind.Begin (s Kind.End eof); says = error Number.label_alone 3 [] ∷ end 3 ∷ []; tokens = None } ∷
    -- class a
    record { sheet = s Kind.Class (name a eof); says = error Number.class_definition 2 [] ∷ end 2 ∷ []; tokens = None } ∷
    -- a ,
    record { sheet = name a (s Kind.Comma eof); says = error Number.no_expression 3 [] ∷ end 3 ∷ []; tokens = None } ∷
    -- begin, a lexer error, a end
    record {
      sheet = s Kind.Begin (s Kind.LexerError (name a (s Kind.End eof)));
      says = error Number.lexer_error 3 [] ∷ error Number.no_expression 4 [] ∷ end 4 ∷ [];
      tokens = None;
    } ∷
    -- a (b) in one line, and in two
    record {
      sheet = name a (s Kind.OpenParen (name b (s Kind.CloseParen eof)));
      says = tree (Node.expression (Node.primary (Node.identifier a) (one (Node.invoke (one (Node.identifier b)))))) 4 [] ∷ end 4 ∷ [];
      tokens = Some (name a (s Kind.OpenParen (name b (s Kind.CloseParen (s Kind.Semicolon eof)))));
    } ∷
    record {
      sheet = name a (newline (s Kind.OpenParen (name b (s Kind.CloseParen eof))));
      says = tree (just_name a) 1 [] ∷ tree (Node.expression (Node.group 0 (Node.identifier b))) 4 [] ∷ end 4 ∷ [];
      tokens = Some (name a (s Kind.Semicolon (s Kind.OpenParen (name b (s Kind.CloseParen (s Kind.Semicolon eof))))));
    } ∷
    -- the same canonical tokens: a; b and a b
    record {
      sheet = name a (s Kind.Semicolon (name b eof));
      says = tree (just_name a) 1 [] ∷ tree (just_name b) 3 [] ∷ end 3 ∷ [];
      tokens = Some (name a (s Kind.Semicolon (name b (s Kind.Semicolon eof))));
    } ∷
    record {
      sheet = name a (name b eof);
      says = tree (just_name a) 1 [] ∷ tree (just_name b) 2 [] ∷ end 2 ∷ [];
      tokens = Some (name a (s Kind.Semicolon (name b (s Kind.Semicolon eof))));
    } ∷
    -- local a = 1 and (a) = 1, where the group vanishes
    record {
      sheet = s Kind.Local (name a (s Kind.OpAssign (int 1 eof)));
      says = tree assigned 4 [] ∷ end 4 ∷ [];
      tokens = Some (name a (s Kind.OpAssign (int 1 (s Kind.Semicolon eof))));
    } ∷
    record {
      sheet = s Kind.OpenParen (name a (s Kind.CloseParen (s Kind.OpAssign (int 1 eof))));
      says = tree assigned 5 [] ∷ end 5 ∷ [];
      tokens = Some (name a (s Kind.OpAssign (int 1 (s Kind.Semicolon eof))));
    } ∷
    -- not the same: (a) and a
    record {
      sheet = s Kind.OpenParen (name a (s Kind.CloseParen eof));
      says = tree (Node.expression (Node.group 0 (Node.identifier a))) 3 [] ∷ end 3 ∷ [];
      tokens = Some (s Kind.OpenParen (name a (s Kind.CloseParen (s Kind.Semicolon eof))));
    } ∷
    record { sheet = name a eof; says = tree (just_name a) 1 [] ∷ end 1 ∷ []; tokens = Some (name a (s Kind.Semicolon eof)) } ∷
    -- a - b - c groups leftward
    record {
      sheet = name a (s Kind.OpSub (name b (s Kind.OpSub (name c eof))));
      says = tree (Node.expression (Node.binary_op 4 (Node.binary_op 4 (Node.identifier a) (Node.identifier b)) (Node.identifier c))) 5 [] ∷ end 5 ∷ [];
      tokens = Some (name a (s Kind.OpSub (name b (s Kind.OpSub (name c (s Kind.Semicolon eof))))));
    } ∷
    -- begin a end: a semicolon follows the block's result
    record {
      sheet = s Kind.Begin (name a (s Kind.End eof));
      says = tree (Node.expression (Node.block 0 (Node.expr_block (Node.stmt_list none Node.absent) (Node.identifier a)))) 3 [] ∷ end 3 ∷ [];
      tokens = Some (s Kind.Begin (name a (s Kind.Semicolon (s Kind.End (s Kind.Semicolon eof)))));
    } ∷
    -- (a...)... = b: parentheses stand round a pack inside a pack
    record {
      sheet = s Kind.OpenParen (name a (s Kind.Ellipsis (s Kind.CloseParen (s Kind.Ellipsis (s Kind.OpAssign (name b eof))))));
      says = tree (Node.expression (Node.assignment 0 0 (Node.pack (Node.pack (Node.identifier_pattern a))) (Node.identifier b))) 7 [] ∷ end 7 ∷ [];
      tokens = Some (s Kind.OpenParen (name a (s Kind.Ellipsis (s Kind.CloseParen (s Kind.Ellipsis (s Kind.OpAssign (name b (s Kind.Semicolon eof))))))));
    } ∷
    -- ) else a b: a resynchronization passes over else
    record {
      sheet = s Kind.CloseParen (s Kind.Else (name a (name b eof)));
      says = error Number.unmatched_paren 3 [] ∷ tree (just_name b) 4 [] ∷ end 4 ∷ [];
      tokens = None;
    } ∷
    -- a... ...: the second `...` is a statement of its own, not nested
    record {
      sheet = name a (s Kind.Ellipsis (s Kind.Ellipsis eof));
      says = tree (Node.expression (Node.unpack (Node.identifier a))) 2 [] ∷ error Number.ellipsis_not_allowed 3 [] ∷ end 3 ∷ [];
      tokens = None;
    } ∷
    -- fun (a end: what follows a parameter is judged before the parameters' closing is looked for
    record { sheet = s Kind.Fun (s Kind.OpenParen (name a (s Kind.End eof))); says = error Number.invalid_param 4 [] ∷ end 4 ∷ []; tokens = None } ∷
    -- fun (a = 1, b) end: the default takes the comma, so b is no parameter out of order
    record {
      sheet = s Kind.Fun (s Kind.OpenParen (name a (s Kind.OpAssign (int 1 (s Kind.Comma (name b (s Kind.CloseParen (s Kind.End eof))))))));
      says =
          tree (Node.expression (Node.function_def
          (Node.signature_def 0 none (one (Node.default_def (Node.named a Node.read_only) (Node.tuple (more (Node.integer_literal 1) (one (Node.identifier b)))))) Node.absent)
          (Node.expr_block (Node.stmt_list none Node.absent) Node.absent))) 9 []
          ∷ end 9 ∷ [];
      tokens = Some (s Kind.Fun (s Kind.OpenParen (name a (s Kind.OpAssign (int 1 (s Kind.Comma (name b (s Kind.CloseParen (s Kind.End (s Kind.Semicolon eof))))))))));
    } ∷
    -- begin - a + b * c; continue; end: a tree before an error that waits, with a sign, a sum and a product
    record {
      sheet = s Kind.Begin (s Kind.OpSub (name a (s Kind.OpAdd (name b (s Kind.OpMul (name c (s Kind.Semicolon (s Kind.Continue (s Kind.Semicolon (s Kind.End eof))))))))));
      says =
          tree (Node.expression (Node.block 0 (Node.expr_block (Node.stmt_list
          (one (Node.expression (Node.binary_op 3 (Node.unary_op 0 (Node.identifier a)) (Node.binary_op 0 (Node.identifier b) (Node.identifier c)))))
          (Node.continue 0)) Node.absent))) 11 (Number.continue_not_last ∷ [])
          ∷ error Number.continue_not_last 11 [] ∷ end 11 ∷ [];
      tokens = None;
    } ∷
    []

pub sheets_tried : read table ≡ expected table
unfolding canonical table
sheets_tried = refl

-- a tree, and whether its operators stand by their levels, as its records tell
pub record Standing : Type 0 where
  pub tree : Tree
  pub stands : Bool

abbrev x : Tree
x = Node.identifier a

-- the trees that come nearest, on either side of what document 02 says
pub standings : List Standing
standings =
    -- a + a * a, a - a - a and a sign before a product's group
    record { tree = Node.binary_op 3 x (Node.binary_op 0 x x); stands = true } ∷
    record { tree = Node.binary_op 4 (Node.binary_op 4 x x) x; stands = true } ∷
    record { tree = Node.unary_op 0 (Node.group 0 (Node.binary_op 0 x x)); stands = true } ∷
    -- a left child above, a right one at the level, a right one above, an operator under a sign
    record { tree = Node.binary_op 0 (Node.binary_op 3 x x) x; stands = false } ∷
    record { tree = Node.binary_op 4 x (Node.binary_op 4 x x); stands = false } ∷
    record { tree = Node.binary_op 0 x (Node.binary_op 3 x x); stands = false } ∷
    record { tree = Node.unary_op 0 (Node.binary_op 0 x x); stands = false } ∷
    -- the second of these in the index of a receiver inside a pattern
    record { tree = Node.attribute_pattern (Node.primary x (one (Node.index (Node.binary_op 4 x (Node.binary_op 4 x x))))) a; stands = false } ∷
    []

abbrev scans : List Standing → List Bool
scans [] = []
scans (w ∷ rows) = in_order [] (records w.tree) ∷ scans rows

abbrev answers : List Standing → List Bool
answers [] = []
answers (w ∷ rows) = w.stands ∷ answers rows

pub levels_tried : scans standings ≡ answers standings
unfolding count records in_order number_level op_level op_token which_binary_op standings
levels_tried = refl
