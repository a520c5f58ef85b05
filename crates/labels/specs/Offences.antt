-- Which `break` or `continue` of a statement leads nowhere (document 02, P2), and the check of a statement's records as a whole. Definitions; they assume nothing.
use Rattle.std.specs.Prelude.{Bool, true, false, ◌&&◌, ◌||◌, List, [], ◌∷◌, ◌++◌, ℕ, suc, eqb, Option, Some, None}
use Rattle.std.specs.declared.result.Result.{Result}
use Rattle.std.specs.declared.result.Result.TheVariants.{Ok, Err}
use Rattle.tree.specs.NodeKind
use Rattle.tree.specs.Tree.{Tree, Forest, node, none, more}
use Rattle.tree.specs.Decode.{decode}
use Rattle.grammar.specs.Reading.Limit.{no_statement, offender_labelled, offender_unlabelled}
use Rattle.grammar.specs.Reading.Result.{ifb}
use Rattle.grammar.specs.Canonical.Writing.{readable}
use Rattle.tables.specs.Choice.{when◌then◌else◌}
use Rattle.labels.specs.declared.Offence.{Offence}
use Rattle.labels.specs.declared.Offence.TheVariants.{Labelled, Unlabelled}
use Rattle.labels.specs.declared.Refusal.{Refusal}
use Rattle.labels.specs.declared.Refusal.TheVariants.{NoStatement, Offends}

-- what encloses a place: loops and what `begin` opens, each with its label, 0 or 1 + its name
pub data Enclosing : Type 0 where
  loop : ℕ → Enclosing
  block : ℕ → Enclosing

-- whether a break or continue with the label l may mean what has the label m: without a label anything, else the same label
abbrev pub means : ℕ → ℕ → Bool
means l m = when eqb l 0 then true else eqb l m

-- whether it serves a node of the kind k, a break or a continue, with the label l: a loop serves both, a block a break
abbrev pub serves : ℕ → ℕ → Enclosing → Bool
serves k l (loop m) = means l m
serves k l (block m) = eqb k NodeKind.Break && means l m

abbrev pub any_serves : ℕ → ℕ → List Enclosing → Bool
any_serves k l [] = false
any_serves k l (e ∷ r) = serves k l e || any_serves k l r

-- the offence of an offender with the label l
abbrev pub offender : ℕ → Offence
offender l = when eqb l 0 then Unlabelled else Labelled

abbrev pub is_jump : ℕ → Bool
is_jump k = eqb k NodeKind.Break || eqb k NodeKind.Continue

-- a node's offence where r encloses it, if it offends
unfoldable pub offence : List Enclosing → ℕ → ℕ → Option Offence
offence r k l =
    when is_jump k then (when any_serves k l r then None else Some (offender l)) else
    None

-- what encloses the last child of a node, where r encloses the node: that child is the body of a loop, of a block and of a function
unfoldable pub inside : ℕ → ℕ → List Enclosing → List Enclosing
inside k l r =
    when eqb k NodeKind.Loop then loop l ∷ r else
    when eqb k NodeKind.WhileLoop then loop l ∷ r else
    when eqb k NodeKind.ForLoop then loop l ∷ r else
    when eqb k NodeKind.Block then block l ∷ r else
    when eqb k NodeKind.FunctionDef then [] else
    r

-- each record's offence, if it offends, in store order; b encloses the last of some trees, r the others
unfoldable mutual
  pub offences : List Enclosing → Tree → List (Option Offence)
  offences r (node k v f) = all_offences r (inside k v r) f ++ offence r k v ∷ []

  pub all_offences : List Enclosing → List Enclosing → Forest → List (Option Offence)
  all_offences r b none = []
  all_offences r b (more t none) = offences b t
  all_offences r b (more t (more u f)) = offences r t ++ all_offences r b (more u f)

-- what is answered: nothing is wrong, or why the records are refused
abbrev pub Labels : Type 0
Labels = Result (Unit {0}) Refusal

-- the record number i has the offence, or what is said of the records behind it is said
abbrev pub noted : ℕ → Option Offence → Labels → Labels
noted i None others = others
noted i (Some o) others = Err (Offends o i)

-- the first offender among records that are numbered from i on
unfoldable pub first : ℕ → List (Option Offence) → Labels
first i [] = Ok tt
first i (o ∷ os) = noted i o (first (suc i) os)

abbrev pub checked : Option Tree → Labels
checked None = Err NoStatement
checked (Some t) = ifb (readable t) (λ _. first 0 (offences [] t)) (λ _. Err NoStatement)

-- the check, of the records of one statement with nothing after them
unfoldable pub check_labels : List ℕ → Labels
check_labels words = checked (decode words)

-- document 02's number of an offence
abbrev pub offence_number : Offence → ℕ
offence_number Labelled = offender_labelled
offence_number Unlabelled = offender_unlabelled

-- document 02's number for each case of an answer, 0 for none, and the number of the record
abbrev pub number : Labels → ℕ
number (Ok nothing_wrong) = 0
number (Err NoStatement) = no_statement
number (Err (Offends o i)) = offence_number o

abbrev pub record_number : Labels → ℕ
record_number (Ok nothing_wrong) = 0
record_number (Err NoStatement) = 0
record_number (Err (Offends o i)) = i
