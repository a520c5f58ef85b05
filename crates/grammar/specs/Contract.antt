-- What each entry promises, for all inputs: its contract says this by name, and so does the theorem on two sheets. Definitions; they assume nothing.
use Rattle.std.specs.Prelude.{◌≡◌, List, ℕ, length}
use Rattle.grammar.specs.Reading.Next.{next_stmt}
use Rattle.grammar.specs.Canonical.Writing.{write_stmt}
use Rattle.grammar.specs.Flat.{flat_called, flat_wrote}
use Rattle.grammar.specs.declared.Answer.{Answer}
use Rattle.grammar.specs.declared.Flat.{Flat}
use Rattle.grammar.specs.declared.Reader.{Reader}
use Rattle.grammar.specs.declared.Stepped.{Stepped}
use Rattle.grammar.specs.declared.Written.{Written}

-- the call by value, of a reader, a sheet's words and a store's: what it returns, and the store's words behind it
abbrev pub Returns : Reader → List ℕ → List ℕ → Stepped → List ℕ → Type 0
Returns reader sheet store step store' = record { step = step; store = store' } ≡ next_stmt reader sheet (length store)

-- the call on a reader that the host keeps: what it answers, the reader that it leaves, and the store's words behind it
abbrev pub Leaves : Reader → List ℕ → List ℕ → Answer → Reader → List ℕ → Type 0
Leaves reader sheet store answer reader' store' = Returns reader sheet store (record { answer = answer; reader = reader' }) store'

-- the writer, of a statement's records and an output's words: what it answers, and the output's words behind it
abbrev pub Writes : List ℕ → List ℕ → Written → List ℕ → Type 0
Writes words output answer output' = record { answer = answer; output = output' } ≡ write_stmt words (length output)

-- the two that C links: the same with the answer as two numbers, the reader's fields lent one by one
abbrev pub Exports : Reader → List ℕ → List ℕ → Flat → Reader → List ℕ → Type 0
Exports reader sheet store answer reader' store' = record { answer = answer; reader = reader'; store = store' } ≡ flat_called (next_stmt reader sheet (length store))

abbrev pub ExportsWriting : List ℕ → List ℕ → Flat → List ℕ → Type 0
ExportsWriting words output answer output' = record { answer = answer; output = output' } ≡ flat_wrote (write_stmt words (length output))
