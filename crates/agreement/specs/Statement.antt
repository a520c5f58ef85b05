-- Demand 3, as one statement about two lists of calls on two sheets. Definitions; they assume nothing.
-- Suppose of each sheet (`Left`): it is within the length limit; its reader is one that 61 does not refuse; any list of calls was made, by value or on the kept
-- reader, with any stores; behind it, by the definition, no error waits and the reader is not stopped; the unread part, read afresh by the definition, gives no
-- error, no stop and no refusal up to the end; and its canonical tokens keep to the limits.
-- Then (`Agree`, `TwoSheets`): (a) the readers that the calls left are the definition's, whole; (b) the remaining answers are the definition's for the unread part,
-- read afresh and on the old sheet, and they are the trees whose canonical tokens are meant; (c) the remaining answers of the two are equal exactly when the
-- canonical tokens of the two unread parts are; (d) those tokens, read afresh, give those same answers; (e) the writer, handed the words of each tree that was
-- answered, gives its tokens exactly when its output is long enough, and 66 exactly when it is not.
use Rattle.std.specs.Prelude.{◌≡◌, ◌↔◌, ℕ, ◌*◌, ◌-◌, ◌/◌, ◌≤◌, ◌<◌, length, replicate}
use mathlib.Core.List.{List, ◌++◌, Memᴰ}
use Rattle.tree.specs.Tree.{Tree, Forest, records}
use Rattle.grammar.specs.Reading.Limit.{length_limit, short_output}
use Rattle.grammar.specs.Reading.Next.{Accepted, Called}
use Rattle.grammar.specs.Canonical.Writing.{statement_words}
use Rattle.grammar.specs.Contract.{Writes}
use Rattle.grammar.specs.Given.{Among}
use Rattle.grammar.specs.declared.Reader.{Reader}
use Rattle.grammar.specs.declared.Written.{Written}
use Rattle.grammar.specs.declared.Written.TheVariants.{Tokens, Refused}
use Rattle.agreement.specs.Calls.{Call, Run, defined, NonePending, unread}
use Rattle.agreement.specs.Answers.{Seen, tree, Reads, Afresh, Remaining, NoFault, answers_of, trees_of, canonical, Keeps}

-- one sheet, the calls made on it, and what they left
pub record Left : Type 0 where
  pub sheet : List ℕ
  pub within : length sheet ≤ 2 * length_limit
  pub reader : Reader
  pub accepted : Accepted sheet reader
  pub calls : List Call
  pub given : List Called
  pub after : Reader
  pub ran : Run sheet reader calls given after
  pub none_pending : NonePending (defined sheet reader calls)
  pub answers : List Seen
  pub read : Afresh (unread sheet (defined sheet reader calls)) answers
  pub clean : NoFault answers
  pub keeps : Keeps (canonical (unread sheet (defined sheet reader calls)))

-- the unread part
abbrev pub part : Left → List ℕ
part s = unread s.sheet (defined s.sheet s.reader s.calls)

-- the writer gave the tokens of the statement t, and zeros behind them
pub record WrittenAs (t : Tree) (output : List ℕ) (answer : Written) (output' : List ℕ) : Type 0 where
  pub tokens : answer ≡ Tokens (length (statement_words t) / 2)
  pub words : output' ≡ statement_words t ++ replicate (length output - length (statement_words t)) 0

-- the words of a tree among f, handed to the writer with any output: it gives the tree's tokens exactly if the output is long enough, and 66 exactly if it is not
pub record Rewritten (f : Forest) (words : List ℕ) : Type 0 where
  pub statement : Tree
  pub among : Among statement f
  pub text : records statement ≡ words
  pub gives : (output : List ℕ) (answer : Written) (output' : List ℕ) → Writes words output answer output'
      → WrittenAs statement output answer output' ↔ (length (statement_words statement) ≤ length output)
  pub short : (output : List ℕ) (answer : Written) (output' : List ℕ) → Writes words output answer output'
      → (answer ≡ Refused short_output) ↔ (length output < length (statement_words statement))

-- what holds of each sheet: (a), (b), (d), (e)
pub record Agree (s : Left) : Type 0 where
  pub a : s.after ≡ defined s.sheet s.reader s.calls
  pub b : Remaining s.sheet s.after s.answers
  pub b_only : (xs : List Seen) → Remaining s.sheet s.after xs → xs ≡ s.answers
  pub b_defined : Reads s.sheet (defined s.sheet s.reader s.calls) s.answers
  pub b_trees : s.answers ≡ answers_of (trees_of (part s))
  pub d : Afresh (canonical (part s)) s.answers
  pub d_only : (xs : List Seen) → Afresh (canonical (part s)) xs → xs ≡ s.answers
  pub e : (words : List ℕ) → Memᴰ (tree words) s.answers → Rewritten (trees_of (part s)) words

-- what holds of the two: (a), (b), (d), (e) of each, and (c)
pub record TwoSheets (s u : Left) : Type 0 where
  pub first : Agree s
  pub second : Agree u
  pub c : (xs ys : List Seen) → Remaining s.sheet s.after xs → Remaining u.sheet u.after ys → (xs ≡ ys) ↔ (canonical (part s) ≡ canonical (part u))
