-- Sheets about labels, each of one statement, with what the check answers of its tree, and trees that no sheet within the limits gives: one table and one theorem,
-- `labels_tried`. Each row tells the right reading of document 02 from a wrong one that is near. Assumes nothing.
use Rattle.std.specs.Prelude.{◌≡◌, refl, List, [], ◌∷◌, ℕ, Option, Some, None}
use Rattle.token.specs.Kind
use Rattle.tree.specs.Tree.{Tree, Forest, none, more, one, records}
use Rattle.tree.specs.Node
use Rattle.tree.specs.Decode.{gather, stacked, decode}
use Rattle.grammar.specs.Reading.Limit.{depth_limit}
use Rattle.grammar.specs.Canonical.Need.{need}
use Rattle.grammar.specs.Canonical.Writing.{readable, clean_reading}
use Rattle.grammar.proofs.Sheets.{canonical, s, name, eof, times}
use Rattle.std.specs.declared.result.Result.TheVariants.{Ok, Err}
use Rattle.labels.specs.declared.Offence.TheVariants.{Labelled, Unlabelled}
use Rattle.labels.specs.declared.Refusal.TheVariants.{NoStatement, Offends}
use Rattle.labels.specs.Offences.{Labels, offence, inside, offences, first, check_labels}

-- the records of a sheet's one statement
abbrev pub only : Option Forest → List ℕ
only None = []
only (Some none) = []
only (Some (more t f)) = records t

abbrev pub read : List ℕ → List ℕ
read sheet = only (clean_reading depth_limit sheet)

-- the records of a statement, and what is answered
pub record Row : Type 0 where
  pub words : List ℕ
  pub says : Labels

abbrev pub answered : List Row → List Labels
answered [] = []
answered (w ∷ rows) = check_labels w.words ∷ answered rows

abbrev pub expected : List Row → List Labels
expected [] = []
expected (w ∷ rows) = w.says ∷ expected rows

-- the answers
abbrev fine : Labels
fine = Ok tt

abbrev labelled : ℕ → Labels
labelled i = Err (Offends Labelled i)

abbrev unlabelled : ℕ → Labels
unlabelled i = Err (Offends Unlabelled i)

-- tokens
abbrev a : ℕ
a = 0

abbrev label : ℕ → List ℕ → List ℕ
label n r = Kind.Label ∷ n ∷ r

abbrev x : List ℕ → List ℕ
x r = name 1 r

-- `begin continue end` and `begin break LABEL end`
abbrev continue_in_block : List ℕ → List ℕ
continue_in_block r = s Kind.Begin (s Kind.Continue (s Kind.End r))

abbrev break_in_block : ℕ → List ℕ → List ℕ
break_in_block n r = s Kind.Begin (s Kind.Break (label n (s Kind.End r)))

-- a loop with the label a round a statement list
abbrev looped : Tree → Tree
looped t = Node.loop 0 (Node.stmt_list (one t) Node.absent)

-- that many loops, the outermost with the label a, round a `break` with the label of the name n
abbrev deep : ℕ → ℕ → Tree
deep many n = Node.loop 1 (Node.stmt_list (one (times many looped (Node.loop 0 (Node.stmt_list none (Node.break n Node.absent))))) Node.absent)

pub table : List Row
table =
    -- break: in a loop, in a block, in neither; a branch of an if is no block
    record { words = read (s Kind.Loop (s Kind.Break (s Kind.End eof))); says = fine } ∷
    record { words = read (s Kind.Begin (s Kind.Break (s Kind.End eof))); says = fine } ∷
    record { words = read (s Kind.If (x (s Kind.Then (s Kind.Break (s Kind.End eof))))); says = unlabelled 3 } ∷
    -- continue: in a loop, with a label or without; not in a block
    record { words = read (s Kind.Loop (s Kind.Continue (s Kind.End eof))); says = fine } ∷
    record { words = read (label a (s Kind.Loop (s Kind.Continue (s Kind.End eof)))); says = fine } ∷
    record { words = read (continue_in_block eof); says = unlabelled 1 } ∷
    -- a label: any loop round it that has it, not the nearest alone; one that no loop has
    record { words = read (label a (s Kind.Loop (s Kind.Loop (s Kind.Break (label a (s Kind.End (s Kind.End eof))))))); says = fine } ∷
    record { words = read (label a (s Kind.Loop (s Kind.Continue (label 1 (s Kind.End eof))))); says = labelled 1 } ∷
    -- a block's label serves a break and no continue
    record { words = read (x (s Kind.OpAssign (label a (break_in_block a eof)))); says = fine } ∷
    record { words = read (x (s Kind.OpAssign (label a (s Kind.Begin (s Kind.Continue (label a (s Kind.End eof))))))); says = labelled 2 } ∷
    -- a while's condition, what a for runs over and its pattern stand outside of the loop
    record { words = read (s Kind.While (continue_in_block (s Kind.Do (s Kind.End eof)))); says = unlabelled 1 } ∷
    record { words = read (s Kind.For (x (s Kind.In (continue_in_block (s Kind.Do (s Kind.End eof)))))); says = unlabelled 2 } ∷
    record { words = read (s Kind.For (x (s Kind.OpenSquare (continue_in_block (s Kind.CloseSquare (s Kind.In (x (s Kind.Do (s Kind.End eof))))))))); says = unlabelled 4 } ∷
    -- a function's body starts with nothing round it, and its default stands where the function stands
    record { words = read (s Kind.Loop (s Kind.Fun (s Kind.OpenParen (s Kind.CloseParen (s Kind.Break (s Kind.End (s Kind.End eof))))))); says = unlabelled 6 } ∷
    record { words = read (s Kind.Loop (s Kind.Fun (s Kind.OpenParen (x (s Kind.OpAssign (continue_in_block (s Kind.CloseParen (s Kind.End (s Kind.End eof))))))))); says = fine } ∷
    -- a break's value stands where the break stands
    record { words = read (s Kind.Loop (s Kind.Break (continue_in_block (s Kind.End eof)))); says = fine } ∷
    record { words = read (s Kind.Begin (s Kind.Break (continue_in_block (s Kind.End eof)))); says = unlabelled 2 } ∷
    -- the first of two offenders, whichever it is; return is none
    record { words = read (s Kind.If (x (s Kind.Then (s Kind.Break (s Kind.Elif (x (s Kind.Then (s Kind.Continue (label a (s Kind.End eof)))))))))); says = unlabelled 3 } ∷
    record { words = read (s Kind.If (x (s Kind.Then (s Kind.Continue (label a (s Kind.Elif (x (s Kind.Then (s Kind.Break (s Kind.End eof)))))))))); says = labelled 2 } ∷
    record { words = read (s Kind.Begin (s Kind.Return (s Kind.End eof))); says = fine } ∷
    -- no statement, though there is an offender in it; no tree at all
    record { words = records (Node.stmt_list none (Node.continue 0)); says = Err NoStatement } ∷
    record { words = 0 ∷ []; says = Err NoStatement } ∷
    -- deeper than any reading: the label of the outermost of 42 loops, and another
    record { words = records (deep 40 1); says = fine } ∷
    record { words = records (deep 40 2); says = labelled 2 } ∷
    []

pub labels_tried : answered table ≡ expected table
unfolding canonical gather stacked decode need readable offence inside offences first check_labels table
labels_tried = refl
