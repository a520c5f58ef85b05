-- The sheets about the limit of depth, each of one statement, as one table and one theorem, `depths_tried`: for operands, right sides of assignments, statement lists
-- and all three in turn the last that is read and the first that is stopped; readings that are finished, which do not count; and trees whose canonical tokens are
-- deeper than what was read, or less deep. Of each sheet every call from a fresh reader to the end or the stop, with the answer, the whole reader and every word of the
-- store; of its tree the writer's answer and every word of the output. Assumes nothing.
use Rattle.std.specs.Prelude.{◌≡◌, refl, List, [], ◌∷◌, ◌++◌, ℕ, suc, ◌*◌, ◌-◌, ◌/◌, length, replicate, Option, Some, None}
use Rattle.token.specs.Kind
use Rattle.tree.specs.Tree.{Tree, Forest, none, more, one, records}
use Rattle.tree.specs.Node
use Rattle.tree.specs.Decode.{gather, stacked, decode}
use Rattle.grammar.specs.Reading.Limit.{too_deep}
use Rattle.grammar.specs.Reading.Next.{fresh, Called}
use Rattle.grammar.specs.Canonical.Need.{need}
use Rattle.grammar.specs.Canonical.Writing.{readable, exceeds_depth, Wrote, bare, write_stmt}
use Rattle.grammar.proofs.Sheets.{Said, tree, end, stopped, calls, all_called, canonical, s, name, eof, times}
use Rattle.grammar.specs.declared.Written.TheVariants.{Tokens, Stopped}

-- a sheet of one statement and the tree that its tokens are; where it is read, the position behind it; where the tree is written, its tokens
pub record Row : Type 0 where
  pub sheet : List ℕ
  pub stmt : Tree
  pub position : Option ℕ
  pub tokens : Option (List ℕ)

-- what a row comes to
pub record Outcome : Type 0 where
  pub steps : List Called
  pub wrote : Wrote

-- the words of an output: more than any of these trees takes
abbrev pub room : ℕ
room = 600

abbrev pub found : List Row → List Outcome
found [] = []
found (w ∷ rows) =
    record { steps = calls (suc (length w.sheet)) (8 * length w.sheet) w.sheet fresh; wrote = write_stmt (records w.stmt) room } ∷ found rows

-- a tree and the end, or a stop that leaves the reader where it was
abbrev pub says : Tree → Option ℕ → List Said
says t None = stopped too_deep 0 ∷ []
says t (Some p) = tree t p [] ∷ end p ∷ []

-- tokens and zeros, or zeros alone
abbrev pub writes : Option (List ℕ) → Wrote
writes None = bare room (Stopped too_deep)
writes (Some ws) = record { answer = Tokens (length ws / 2); output = ws ++ replicate (room - length ws) 0 }

abbrev pub expected : List Row → List Outcome
expected [] = []
expected (w ∷ rows) = record { steps = all_called (8 * length w.sheet) (says w.stmt w.position); wrote = writes w.tokens } ∷ expected rows

-- the name a, and what stands behind a statement that is written
abbrev a : List ℕ → List ℕ
a r = name 0 r

abbrev a_tree : Tree
a_tree = Node.identifier 0

abbrev stmt_end : List ℕ
stmt_end = s Kind.Semicolon []

-- what opens one level, and what closes it
abbrev sign : List ℕ → List ℕ
sign r = s Kind.OpSub r

abbrev a_is : List ℕ → List ℕ
a_is r = a (s Kind.OpAssign r)

abbrev begin_a_is_minus : List ℕ → List ℕ
begin_a_is_minus r = s Kind.Begin (a_is (sign r))

abbrev closed : List ℕ → List ℕ
closed r = s Kind.End (s Kind.Semicolon r)

abbrev result_closed : List ℕ → List ℕ
result_closed r = s Kind.Semicolon (s Kind.End r)

-- the trees of one level
abbrev negated : Tree → Tree
negated t = Node.unary_op 0 t

abbrev assigned : Tree → Tree
assigned t = Node.assignment 0 0 (Node.identifier_pattern 0) t

abbrev assigned_in_block : Tree → Tree
assigned_in_block t = Node.block 0 (Node.expr_block (Node.stmt_list none Node.absent) (assigned (negated t)))

abbrev loop : Forest → Tree
loop f = Node.loop 0 (Node.stmt_list f Node.absent)

abbrev looped : Tree → Tree
looped t = loop (one t)

-- `a = a; loop end;`
abbrev two_stmts : List ℕ → List ℕ
two_stmts r = a_is (a (s Kind.Semicolon (s Kind.Loop (closed r))))

abbrev two_trees : Forest → Forest
two_trees f = more (Node.expression (assigned a_tree)) (more (loop none) f)

-- `for a, b in c do end`, as it is handed in and as it is written
abbrev for_bare : List ℕ → List ℕ
for_bare r = s Kind.For (a (s Kind.Comma (name 1 (s Kind.In (name 2 (s Kind.Do (s Kind.End r)))))))

abbrev for_written : List ℕ → List ℕ
for_written r = s Kind.For (s Kind.OpenParen (a (s Kind.Comma (name 1 (s Kind.CloseParen (s Kind.In (name 2 (s Kind.Do (closed r)))))))))

abbrev for_two : Tree
for_two = Node.for_loop 0 (Node.tuple_pattern (more (Node.identifier_pattern 0) (one (Node.identifier_pattern 1)))) (Node.identifier 2) (Node.stmt_list none Node.absent)

pub table : List Row
table =
    -- operands: 36 and 37 minus signs before a
    record { sheet = times 36 sign (a eof); stmt = Node.expression (times 36 negated a_tree); position = Some 37; tokens = Some (times 36 sign (a stmt_end)) } ∷
    record { sheet = times 37 sign (a eof); stmt = Node.expression (times 37 negated a_tree); position = None; tokens = None } ∷
    -- right sides: 36 and 37 times a = before a
    record { sheet = times 36 a_is (a eof); stmt = Node.expression (times 36 assigned a_tree); position = Some 73; tokens = Some (times 36 a_is (a stmt_end)) } ∷
    record { sheet = times 37 a_is (a eof); stmt = Node.expression (times 37 assigned a_tree); position = None; tokens = None } ∷
    -- statement lists: 37 and 38 loops, one in the other
    record { sheet = times 37 (s Kind.Loop) (times 37 (s Kind.End) eof); stmt = times 36 looped (loop none); position = Some 74; tokens = Some (times 37 (s Kind.Loop) (times 37 closed [])) } ∷
    record { sheet = times 38 (s Kind.Loop) (times 38 (s Kind.End) eof); stmt = times 37 looped (loop none); position = None; tokens = None } ∷
    -- all three in turn, nine times begin a = -, before a and before - a
    record {
      sheet = times 9 begin_a_is_minus (a (times 9 (s Kind.End) eof));
      stmt = Node.expression (times 9 assigned_in_block a_tree);
      position = Some 46;
      tokens = Some (times 9 begin_a_is_minus (a (times 9 result_closed stmt_end)));
    } ∷
    record { sheet = times 9 begin_a_is_minus (sign (a (times 9 (s Kind.End) eof))); stmt = Node.expression (times 9 assigned_in_block (negated a_tree)); position = None; tokens = None } ∷
    -- what is finished does not count: a loop over 38 times a = a; loop end;
    record {
      sheet = s Kind.Loop (times 38 two_stmts (s Kind.End eof));
      stmt = loop (times 38 two_trees none);
      position = Some 268;
      tokens = Some (s Kind.Loop (times 38 two_stmts (closed [])));
    } ∷
    -- canonical tokens that are less deep than what was read: a group vanishes in a pattern. 36 and 37 times ( before a, as many ), and = a
    record { sheet = times 36 (s Kind.OpenParen) (a (times 36 (s Kind.CloseParen) (s Kind.OpAssign (a eof)))); stmt = Node.expression (assigned a_tree); position = Some 75; tokens = Some (a_is (a stmt_end)) } ∷
    record { sheet = times 37 (s Kind.OpenParen) (a (times 37 (s Kind.CloseParen) (s Kind.OpAssign (a eof)))); stmt = Node.expression (assigned a_tree); position = None; tokens = Some (a_is (a stmt_end)) } ∷
    -- canonical tokens that are one deeper than what was read: for a, b in c in 35, 36 and 37 loops
    record {
      sheet = times 35 (s Kind.Loop) (for_bare (times 35 (s Kind.End) eof));
      stmt = times 35 looped for_two;
      position = Some 78;
      tokens = Some (times 35 (s Kind.Loop) (for_written (times 35 closed [])));
    } ∷
    record { sheet = times 36 (s Kind.Loop) (for_bare (times 36 (s Kind.End) eof)); stmt = times 36 looped for_two; position = Some 80; tokens = None } ∷
    record { sheet = times 37 (s Kind.Loop) (for_bare (times 37 (s Kind.End) eof)); stmt = times 37 looped for_two; position = None; tokens = None } ∷
    []

pub depths_tried : found table ≡ expected table
unfolding canonical gather stacked decode need readable exceeds_depth write_stmt table
depths_tried = refl
