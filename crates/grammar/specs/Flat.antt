-- What calls leave to C: an answer as two numbers, its variant and its number, and the reader, store or output. Definitions; they assume nothing.
use Rattle.std.specs.Prelude.{List, ℕ}
use Rattle.grammar.specs.Reading.Next.{Called, number}
use Rattle.grammar.specs.Canonical.Writing.{Wrote, number as written_number}
use Rattle.grammar.specs.declared.Answer.{Answer}
use Rattle.grammar.specs.declared.Answer.TheVariants.{Tree as ATree, Error as AError, End, Stopped as AStopped, Refused as ARefused}
use Rattle.grammar.specs.declared.Flat.{Flat}
use Rattle.grammar.specs.declared.Reader.{Reader}
use Rattle.grammar.specs.declared.Written.{Written}
use Rattle.grammar.specs.declared.Written.TheVariants.{Tokens, Stopped, Refused}

-- the variants of what the reader and the writer answer (src/variant.rt)
abbrev pub tree : ℕ
tree = 0

abbrev pub error : ℕ
error = 1

abbrev pub end : ℕ
end = 2

abbrev pub stopped : ℕ
stopped = 3

abbrev pub refused : ℕ
refused = 4

abbrev pub tokens : ℕ
tokens = 5

-- a reading call's answer: a tree with how many nodes it has, else document 01's number
abbrev pub flat_answer : Answer → Flat
flat_answer (ATree nodes) = record { variant = tree; number = nodes }
flat_answer (AError kind) = record { variant = error; number = number (AError kind) }
flat_answer End = record { variant = end; number = number End }
flat_answer (AStopped n) = record { variant = stopped; number = number (AStopped n) }
flat_answer (ARefused n) = record { variant = refused; number = number (ARefused n) }

-- the writer's: how many tokens, else document 01's number
abbrev pub flat_written : Written → Flat
flat_written (Tokens n) = record { variant = tokens; number = n }
flat_written (Stopped n) = record { variant = stopped; number = written_number (Stopped n) }
flat_written (Refused n) = record { variant = refused; number = written_number (Refused n) }

-- a reader of its fields
abbrev pub reader_of : ℕ → ℕ → List ℕ → ℕ → Reader
reader_of p w e s = record { position = p; waiting = w; errors = e; stopped = s }

-- what a reading call leaves
pub record FlatCalled : Type 0 where
  pub answer : Flat
  pub reader : Reader
  pub store : List ℕ

abbrev pub flat_called : Called → FlatCalled
flat_called c = record { answer = flat_answer c.step.answer; reader = c.step.reader; store = c.store }

-- what the writer leaves
pub record FlatWrote : Type 0 where
  pub answer : Flat
  pub output : List ℕ

abbrev pub flat_wrote : Wrote → FlatWrote
flat_wrote w = record { answer = flat_written w.answer; output = w.output }
