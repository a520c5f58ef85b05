-- Calls of the two reading entries on one sheet, one after the other, as the entries' contracts describe them; the same calls by the definition; and what each
-- call does. Definitions; they assume nothing.
use Rattle.std.specs.Prelude.{◌≡◌, List, [], ◌∷◌, ℕ, ◌*◌, ◌-◌, ◌/◌, ◌<◌, length, take, drop}
use Rattle.grammar.specs.Reading.Limit.{store_share, bad_reader, short_store}
use Rattle.grammar.specs.Reading.Result.{Error}
use Rattle.grammar.specs.Reading.Next.{error_kind, Accepted, reader_at, Called, bare, next_stmt}
use Rattle.grammar.specs.Contract.{Returns, Leaves}
use Rattle.grammar.specs.declared.Answer.TheVariants.{Tree as ATree, Error as AError, End, Stopped, Refused}
use Rattle.grammar.specs.declared.ErrorKind.{ErrorKind}
use Rattle.grammar.specs.declared.Reader.{Reader}

-- the call by value, and the one on the reader that the host keeps
pub data Entry : Type 0 where
  by_value kept : Entry

-- one call: its entry, and the store that it is lent, of any length and content
pub record Call : Type 0 where
  pub entry : Entry
  pub store : List ℕ

-- a call gave this, as the contract of its entry says: its answer, the reader that it returned or left, the words that it left in the store
abbrev pub Gives : Entry → Reader → List ℕ → List ℕ → Called → Type 0
Gives by_value R T S g = Returns R T S g.step g.store
Gives kept R T S g = Leaves R T S g.step.answer g.step.reader g.store

-- a list of calls on the sheet T from a reader on gave these, and left this reader: each call gets the reader that the last one returned or left
pub data Run (T : List ℕ) : Reader → List Call → List Called → Reader → Type 0 where
  no_call : {R : Reader} → Run T R [] [] R
  a_call : {R S : Reader} {c : Call} {cs : List Call} {g : Called} {gs : List Called} → Gives c.entry R T c.store g → Run T g.step.reader cs gs S → Run T R (c ∷ cs) (g ∷ gs) S

-- the reader that the definition leaves after the same list, with stores as long, where it hands on its own reader
unfoldable pub defined : List ℕ → Reader → List Call → Reader
defined T R [] = R
defined T R (c ∷ cs) = defined T (next_stmt R T (length c.store)).step.reader cs

-- no error waits, and the reader is not stopped
pub record NonePending (R : Reader) : Type 0 where
  pub waiting : R.waiting ≡ 0
  pub stopped : R.stopped ≡ 0

-- the unread part: the sheet from the reader's position on
abbrev pub unread : List ℕ → Reader → List ℕ
unread T R = drop (2 * R.position) T

-- what a call does with a store of m words: it takes a token and answers a tree or an error; it hands over the error that waited longest; it says the end or a
-- stop; or it refuses, with 61 a reader that is not accepted or with 63 a store that is too short, and leaves the reader as it was. Where no tree is answered
-- the store is left zero
pub data Does (T : List ℕ) (R : Reader) (m : ℕ) : Called → Type 0 where
  takes_tree : {nodes : ℕ} {S : Reader} {words : List ℕ} → R.position < S.position → Does T R m (record { step = record { answer = ATree nodes; reader = S }; store = words })
  takes_error : {kind : ErrorKind} {S : Reader} → R.position < S.position → Does T R m (bare m (AError kind) S)
  hands_over : {e : Error} {q : List Error} → take R.waiting R.errors ≡ e ∷ q → Does T R m (bare m (AError (error_kind e)) (reader_at R.position q))
  ends : {S : Reader} → Does T R m (bare m End S)
  stops : {n : ℕ} {S : Reader} → Does T R m (bare m (Stopped n) S)
  refuses_reader : (Accepted T R → ⊥) → Does T R m (bare m (Refused bad_reader) R)
  refuses_store : Accepted T R → m < store_share * (length T / 2 - R.position) → Does T R m (bare m (Refused short_store) R)
