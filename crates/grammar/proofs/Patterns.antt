-- What can be a pattern and what cannot (document 02, P4), as two tables. `patterns_tried`: expressions, in groups, those that can and such as come near and cannot, each with the
-- pattern that is made of it or none; the last groups are trees that no reading gives. `places_tried`: sheets with such expressions in the three places where a pattern is asked for, left of an assignment, in a
-- for's pattern and as a function's target; the first is the one whose records docs/PATTERNS.md follows. Assumes nothing.
use Rattle.std.specs.Prelude.{◌≡◌, refl, List, [], ◌∷◌, ℕ, suc, Option, Some, None}
use Rattle.token.specs.Kind
use Rattle.tree.specs.NodeKind
use Rattle.tree.specs.Tree.{Tree, node, none, more, one, two, three}
use Rattle.tree.specs.Node
use Rattle.grammar.specs.Reading.Pattern.{conv, all_conv, last_of, front_of, to_pattern}
use Rattle.grammar.specs.Reading.Number
use Rattle.grammar.proofs.Sheets.{Row, tree, error, end, read, expected, canonical, s, name, int, eof, a, b, c}

-- an expression, and what is made of it
pub record Made : Type 0 where
  pub expr : Tree
  pub pattern : Option Tree

abbrev x : Tree
x = Node.identifier a

abbrev x_pattern : Tree
x_pattern = Node.identifier_pattern a

-- an atom without a path, which only the receiver of a pattern is
abbrev alone : Tree → Tree
alone t = Node.primary t none

-- under a modifier, `let`
abbrev let_group : Tree → Tree
let_group t = Node.group (suc Node.decl_immutable) t

abbrev let_pattern : Tree → Tree
let_pattern p = Node.modifier Node.decl_immutable p

abbrev sum : Tree
sum = Node.binary_op 3 x x

pub table : List Made
table =
    -- a name; a literal, a sign, a sum, an assignment, a pattern already
    record { expr = x; pattern = Some x_pattern } ∷
    record { expr = Node.integer_literal 1; pattern = None } ∷
    record { expr = Node.unary_op 0 x; pattern = None } ∷
    record { expr = sum; pattern = None } ∷
    record { expr = Node.assignment 0 0 x_pattern x; pattern = None } ∷
    record { expr = x_pattern; pattern = None } ∷
    -- a group vanishes, one with a modifier stays; what is inside decides
    record { expr = Node.group 0 (Node.group 0 x); pattern = Some x_pattern } ∷
    record { expr = let_group (Node.group 0 x); pattern = Some (let_pattern x_pattern) } ∷
    record { expr = Node.group 0 sum; pattern = None } ∷
    record { expr = let_group sum; pattern = None } ∷
    -- `...` with something and alone; `Absent` is no pattern by itself
    record { expr = Node.unpack (let_group x); pattern = Some (Node.pack (let_pattern x_pattern)) } ∷
    record { expr = Node.unpack Node.absent; pattern = Some (Node.pack Node.absent) } ∷
    record { expr = Node.unpack sum; pattern = None } ∷
    record { expr = Node.absent; pattern = None } ∷
    -- a tuple of one; one without members is none; a member that can be none, the last, the first or further in
    record { expr = Node.tuple (one x); pattern = Some (Node.tuple_pattern (one x_pattern)) } ∷
    record { expr = Node.tuple none; pattern = None } ∷
    record { expr = Node.empty_tuple; pattern = None } ∷
    record { expr = Node.tuple (two x sum); pattern = None } ∷
    record { expr = Node.tuple (two sum x); pattern = None } ∷
    record { expr = Node.tuple (one (Node.group 0 (Node.tuple (two x sum)))); pattern = None } ∷
    -- an access by its last item; what stands before it may be anything
    record { expr = Node.primary x (one (Node.attribute b)); pattern = Some (Node.attribute_pattern (alone x) b) } ∷
    record { expr = Node.primary sum (one (Node.index sum)); pattern = Some (Node.index_pattern (alone sum) sum) } ∷
    record { expr = Node.primary x (two (Node.invoke none) (Node.attribute b)); pattern = Some (Node.attribute_pattern (Node.primary x (one (Node.invoke none))) b) } ∷
    record { expr = Node.primary x (two (Node.attribute b) (Node.invoke none)); pattern = None } ∷
    record { expr = Node.primary x (one (Node.invoke_table none)); pattern = None } ∷
    record { expr = alone x; pattern = None } ∷
    -- values that no reading gives: a list's stays, a tuple's does not
    record { expr = node NodeKind.Tuple 7 (one (node NodeKind.List 9 (one x))); pattern = Some (node NodeKind.TuplePattern 0 (one (node NodeKind.List 9 (one x_pattern)))) } ∷
    -- children that no reading gives: other kinds, too few, too many
    record { expr = node NodeKind.Identifier a (one x); pattern = None } ∷
    record { expr = node NodeKind.Group 0 (two x x); pattern = None } ∷
    record { expr = node NodeKind.Unpack 0 none; pattern = None } ∷
    record { expr = Node.unpack (node NodeKind.Absent 0 (one x)); pattern = None } ∷
    record { expr = node NodeKind.Tuple 0 (one x); pattern = None } ∷
    record { expr = node NodeKind.Tuple 0 (two (Node.list (one x)) x); pattern = None } ∷
    record { expr = node NodeKind.Primary 0 (two x x); pattern = None } ∷
    record { expr = node NodeKind.Primary 0 (one x); pattern = None } ∷
    record { expr = node NodeKind.Primary 0 (three x (Node.list (one (Node.attribute b))) x); pattern = None } ∷
    record { expr = Node.primary x (one (node NodeKind.Attribute b (one x))); pattern = None } ∷
    record { expr = Node.primary x (one (node NodeKind.Index 0 none)); pattern = None } ∷
    record { expr = Node.primary x (one (node NodeKind.Index 0 (two x x))); pattern = None } ∷
    []

abbrev all_made : List Made → List (Option Tree)
all_made [] = []
all_made (w ∷ rows) = to_pattern w.expr ∷ all_made rows

abbrev answers : List Made → List (Option Tree)
answers [] = []
answers (w ∷ rows) = w.pattern ∷ answers rows

pub patterns_tried : all_made table ≡ answers table
unfolding conv all_conv last_of front_of table
patterns_tried = refl

-- a function without name and parameters, and its empty body
abbrev bare_function : Tree
bare_function = Node.function_def (Node.signature_def 0 none none Node.absent) (Node.expr_block (Node.stmt_list none Node.absent) Node.absent)

abbrev ends : List ℕ
ends = s Kind.Semicolon eof

pub places : List Row
places =
    -- plan.fees[1], (let years), (rate), rest... = terms: one of each, the names by their numbers in sheets/patterns.sphinx
    record {
      sheet =
          name 0 (s Kind.OpAccess (name 1 (s Kind.OpenSquare (int 1 (s Kind.CloseSquare (s Kind.Comma (s Kind.OpenParen (s Kind.Let (name 2 (s Kind.CloseParen (s Kind.Comma
          (s Kind.OpenParen (name 3 (s Kind.CloseParen (s Kind.Comma (name 4 (s Kind.Ellipsis (s Kind.OpAssign (name 5 eof)))))))))))))))))));
      says =
          tree (Node.expression (Node.assignment 0 0 (Node.tuple_pattern
          (more (Node.index_pattern (Node.primary (Node.identifier 0) (one (Node.attribute 1))) (Node.integer_literal 1))
          (more (let_pattern (Node.identifier_pattern 2)) (two (Node.identifier_pattern 3) (Node.pack (Node.identifier_pattern 4))))))
          (Node.identifier 5))) 20 []
          ∷ end 20 ∷ [];
      tokens = Some
          (s Kind.OpenParen (name 0 (s Kind.OpAccess (name 1 (s Kind.OpenSquare (int 1 (s Kind.CloseSquare (s Kind.Comma (s Kind.OpenParen (s Kind.Let (name 2 (s Kind.CloseParen (s Kind.Comma
          (name 3 (s Kind.Comma (name 4 (s Kind.Ellipsis (s Kind.CloseParen (s Kind.OpAssign (name 5 ends))))))))))))))))))));
    } ∷
    -- 1, a = b: the part that is met first can be a pattern, the whole cannot
    record { sheet = int 1 (s Kind.Comma (name a (s Kind.OpAssign (name b eof)))); says = error Number.cannot_assign 5 [] ∷ end 5 ∷ []; tokens = None } ∷
    -- a().b = 1 and a.b() = 1
    record {
      sheet = name a (s Kind.OpenParen (s Kind.CloseParen (s Kind.OpAccess (name b (s Kind.OpAssign (int 1 eof))))));
      says =
          tree (Node.expression (Node.assignment 0 0 (Node.attribute_pattern (Node.primary x (one (Node.invoke none))) b) (Node.integer_literal 1))) 7 [] ∷ end 7 ∷ [];
      tokens = Some (name a (s Kind.OpenParen (s Kind.CloseParen (s Kind.OpAccess (name b (s Kind.OpAssign (int 1 ends)))))));
    } ∷
    record {
      sheet = name a (s Kind.OpAccess (name b (s Kind.OpenParen (s Kind.CloseParen (s Kind.OpAssign (int 1 eof))))));
      says = error Number.cannot_assign 7 [] ∷ end 7 ∷ [];
      tokens = None;
    } ∷
    -- for (a), b in c do end and for a, 1 in b do end
    record {
      sheet = s Kind.For (s Kind.OpenParen (name a (s Kind.CloseParen (s Kind.Comma (name b (s Kind.In (name c (s Kind.Do (s Kind.End eof)))))))));
      says =
          tree (Node.for_loop 0 (Node.tuple_pattern (two x_pattern (Node.identifier_pattern b))) (Node.identifier c) (Node.stmt_list none Node.absent)) 10 [] ∷ end 10 ∷ [];
      tokens = Some (s Kind.For (s Kind.OpenParen (name a (s Kind.Comma (name b (s Kind.CloseParen (s Kind.In (name c (s Kind.Do (s Kind.End ends))))))))));
    } ∷
    record {
      sheet = s Kind.For (name a (s Kind.Comma (int 1 (s Kind.In (name b (s Kind.Do (s Kind.End eof)))))));
      says = error Number.cannot_assign 6 [] ∷ error Number.no_expression 8 [] ∷ end 8 ∷ [];
      tokens = None;
    } ∷
    -- fun a.b() end and fun 1() end
    record {
      sheet = s Kind.Fun (name a (s Kind.OpAccess (name b (s Kind.OpenParen (s Kind.CloseParen (s Kind.End eof))))));
      says = tree (Node.expression (Node.assignment Node.decl_immutable 0 (Node.attribute_pattern (alone x) b) bare_function)) 7 [] ∷ end 7 ∷ [];
      tokens = Some (s Kind.Fun (name a (s Kind.OpAccess (name b (s Kind.OpenParen (s Kind.CloseParen (s Kind.End ends)))))));
    } ∷
    record {
      sheet = s Kind.Fun (int 1 (s Kind.OpenParen (s Kind.CloseParen (s Kind.End eof))));
      says = error Number.function_target 4 [] ∷ error Number.no_expression 5 [] ∷ end 5 ∷ [];
      tokens = None;
    } ∷
    []

pub places_tried : read places ≡ expected places
unfolding canonical places
places_tried = refl
