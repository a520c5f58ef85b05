-- What calls answered, by case and number, and as text. Definitions; they assume nothing.
use Rattle.std.specs.Prelude.{List, ℕ, [], ◌∷◌, ◌/◌, length}
use Rattle.std.specs.Fmt.{decimal}
use Rattle.grammar.specs.Reading.Next.{kind_number}
use Rattle.grammar.specs.declared.Answer.{Answer}
use Rattle.grammar.specs.declared.Answer.TheVariants.{Tree as ATree, Error as AError, End as AnEnd, Stopped as AStopped, Refused as ARefused}
use Rattle.grammar.specs.declared.Reader.{Reader}
use Rattle.grammar.specs.declared.Written.{Written}
use Rattle.grammar.specs.declared.Written.TheVariants.{Tokens, Stopped as WStopped, Refused as WRefused}
use Rattle.compared.specs.declared.answer.Case.{Case}
use Rattle.compared.specs.declared.answer.Case.TheVariants.{Tree, Error, End, Stopped, Refused, Text, Fine}
use Rattle.compared.specs.declared.answer.Said.{Said}
use Rattle.compared.specs.declared.answer.Want.{Want}

-- a case's letter: t, e, ., x, r, w, l
abbrev pub letter : Case → ℕ
letter Tree = 116
letter Error = 101
letter End = 46
letter Stopped = 120
letter Refused = 114
letter Text = 119
letter Fine = 108

-- what was said, as text: the letter, a space, the number
abbrev pub said_text : Said → List ℕ
said_text s = letter s.case ∷ 32 ∷ decimal s.number

abbrev pub said : Case → ℕ → Said
said c n = record { case = c; number = n }

-- an answer of the reader: a tree with how many nodes it has, else document 01's number
abbrev pub said_of_answer : Answer → Said
said_of_answer (ATree nodes) = said Tree nodes
said_of_answer (AError kind) = said Error (kind_number kind)
said_of_answer AnEnd = said End 0
said_of_answer (AStopped n) = said Stopped n
said_of_answer (ARefused n) = said Refused n

-- an answer of the writer: how many tokens, else document 01's number
abbrev pub said_of_written : Written → Said
said_of_written (Tokens n) = said Text n
said_of_written (WStopped n) = said Stopped n
said_of_written (WRefused n) = said Refused n

-- what is expected of a call of the reader: its answer, the reader that comes back, the tree's records
pub record Expects : Type 0 where
  pub said : Said
  pub reader : Reader
  pub tree : List ℕ

abbrev pub expects : Want → Expects
expects w = record { said = w.said; reader = w.reader; tree = w.tree.now }

-- an answer that is no tree; a tree, of two words for each node
abbrev pub no_tree : Case → ℕ → Reader → Expects
no_tree c n r = record { said = said c n; reader = r; tree = [] }

abbrev pub a_tree : List ℕ → Reader → Expects
a_tree words r = record { said = said Tree (length words / 2); reader = r; tree = words }
