-- What a compared call counts: by the definitions of reading, of writing and of the check, and by what is expected. Definitions; they assume nothing.
use Rattle.std.specs.Prelude.{Bool, List, [], ℕ, ◌*◌, ◌-◌, ◌/◌, ◌++◌, ◌&&◌, nat_eq, nat_lt, nat_le, if◌then◌else◌, length, replicate}
use Rattle.std.specs.Str.{bytes_eq}
use Rattle.grammar.specs.Canonical.Writing.{write_stmt}
use Rattle.grammar.specs.Reading.Limit.{length_limit, store_share, short_store, short_output, too_deep}
use Rattle.grammar.specs.Reading.Next.{Called, next_stmt, reader_at}
use Rattle.grammar.specs.declared.Reader.{Reader}
use Rattle.labels.specs.declared.FlatLabels.{FlatLabels}
use Rattle.compared.specs.Said.{Expects, letter, said, said_of_answer, said_of_written, no_tree, a_tree}
use Rattle.compared.specs.Tally.{with_answer, with_write, with_check, with_difference, with_part}
use Rattle.compared.specs.declared.answer.Case.TheVariants.{Stopped, Refused, Text, Fine}
use Rattle.compared.specs.declared.answer.Said.{Said}
use Rattle.compared.specs.declared.checking.Verdict.{Verdict}
use Rattle.compared.specs.declared.tally.Tally.{Tally}

-- the same case and the same number
abbrev pub same_said : Said → Said → Bool
same_said a b = nat_eq (letter a.case) (letter b.case) && nat_eq a.number b.number

-- the same position, the same errors and as many of them waiting, the same stop
abbrev pub same_reader : Reader → Reader → Bool
same_reader a b = nat_eq a.position b.position && (nat_eq a.waiting b.waiting && (bytes_eq a.errors b.errors && nat_eq a.stopped b.stopped))

-- these words, and 0 behind them
abbrev pub holds : List ℕ → List ℕ → Bool
holds store words = bytes_eq store (words ++ replicate (length store - length words) 0)

-- the words of the longest store that is lent
abbrev pub longest : ℕ
longest = 8000

-- the words of store that a call asks for: so many for each unread token; none for more tokens than a sheet may have
abbrev pub needed : Reader → List ℕ → ℕ
needed reader tokens = let left = length tokens / 2 - reader.position in if nat_le left length_limit then store_share * left else 0

-- one call of the reader more, by its parts: its answer, its reader, its store
abbrev pub with_parts : Bool → Bool → Bool → Tally → Tally
with_parts answer reader store t = with_part store (with_part reader (with_part answer (with_answer t)))

-- what a call of the reader gives, held to what is expected of it
abbrev pub with_called : Called → Expects → Tally → Tally
with_called r want t = with_parts (same_said (said_of_answer r.step.answer) want.said) (same_reader r.step.reader want.reader) (holds r.store want.tree) t

-- a call on a store of so many words; a longer one than is lent is a difference
abbrev pub with_call : Reader → List ℕ → ℕ → Expects → Tally → Tally
with_call reader tokens room want t = if nat_lt longest room then with_difference t else with_called (next_stmt reader tokens room) want t

-- a call on a store that is exactly long enough
abbrev pub with_full : Reader → List ℕ → Expects → Tally → Tally
with_full reader tokens want t = with_call reader tokens (needed reader tokens) want t

-- one on a store that is a word short, where a word is asked for: it is refused, the reader as given, the store zero
abbrev pub with_short : Reader → List ℕ → Tally → Tally
with_short reader tokens t = if nat_eq (needed reader tokens) 0 then t else with_call reader tokens (needed reader tokens - 1) (no_tree Refused short_store reader) t

-- one that reads a sheet of one statement and a token behind it, from its start
abbrev pub with_whole : List ℕ → List ℕ → Tally → Tally
with_whole tokens tree t = with_full (reader_at 0 []) tokens (a_tree tree (reader_at (length tokens / 2 - 1) [])) t

-- one call of the writer more, by its parts: its answer, its output
abbrev pub with_outputs : Bool → Bool → Tally → Tally
with_outputs answer output t = with_part output (with_part answer (with_write t))

-- a call of the writer on an output of so many words, of so many at most; a longer one is a difference
abbrev pub with_output : List ℕ → ℕ → ℕ → Said → List ℕ → Tally → Tally
with_output records most room want text t =
    if nat_lt most room then with_difference t else
    (let w = write_stmt records room in with_outputs (same_said (said_of_written w.answer) want) (holds w.output text) t)

-- a text is written: to an output that is exactly long enough, to the longest one, not to one that is a word short
abbrev pub with_written : List ℕ → ℕ → List ℕ → Tally → Tally
with_written records most text t =
    let want = said Text (length text / 2) in
    let u = with_output records most most want text (with_output records most (length text) want text t) in
    if nat_eq (length text) 0 then u else with_output records most (length text - 1) (said Refused short_output) [] u

-- nothing is written, for this reason: to the longest output, nor to an empty one
abbrev pub with_not_written : List ℕ → ℕ → ℕ → Tally → Tally
with_not_written records most number t =
    let want = said (if nat_eq number too_deep then Stopped else Refused) number in
    with_output records most 0 want [] (with_output records most most want [] t)

-- one of the two numbers of a verdict, as an answer
abbrev pub said_by : Verdict → ℕ → Said
said_by v n = said (if nat_eq v.number 0 then Fine else Refused) n

-- the check of labels: its number and its record number
abbrev pub with_verdict : Verdict → Verdict → Tally → Tally
with_verdict got want t =
    with_part (same_said (said_by got got.record_number) (said_by want want.record_number)) (with_part (same_said (said_by got got.number) (said_by want want.number)) (with_check t))

abbrev pub verdict : ℕ → ℕ → Verdict
verdict n r = record { number = n; record_number = r }

abbrev pub verdict_of : FlatLabels → Verdict
verdict_of answer = verdict answer.number answer.record_number
