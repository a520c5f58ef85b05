-- What the calls on some sheets look at, and what edits leave of them, as one table and one theorem: from a fresh reader, every call to the first end or stop.
-- Assumes nothing.
use Rattle.std.specs.Prelude.{◌≡◌, refl, List, [], ◌∷◌, ◌++◌, ℕ, suc, ◌*◌, length, Option, Some, None}
use Rattle.token.specs.Kind
use Rattle.grammar.specs.Reading.Next.{fresh, Called}
use Rattle.grammar.specs.Reading.Looked.{words_of, bad_record, meets, is_bad, looks, call_looks}
use Rattle.grammar.specs.Reading.Kept.{KeptCall, Calls, last_call, then_call, stay, restart}
use Rattle.grammar.proofs.Sheets.{calls, s, name, eof, times}
use Rattle.grammar.specs.declared.Reader.{Reader}

-- calls on a sheet from a reader on, with stores of m words, as they are kept
abbrev kept_from : List ℕ → ℕ → Reader → List Called → List KeptCall
kept_from ts m R [] = []
kept_from ts m R (c ∷ cs) = record { start = R.position; looked = call_looks R ts m; left = c } ∷ kept_from ts m c.step.reader cs

unfoldable pub kept_calls : List ℕ → List KeptCall
unfolding calls meets is_bad looks call_looks stay restart
kept_calls ts = let m : ℕ = 8 * length ts in kept_from ts m fresh (calls (suc (length ts)) m ts fresh)

-- an edit that starts behind so many tokens, how many calls stay, and the position that the sheet is read again from
pub record Edit : Type 0 where
  pub behind : ℕ
  pub stays : ℕ
  pub again : Option ℕ

-- a sheet, the furthest token that each of its calls looks at, from 1, and what edits leave of these calls
pub record Row : Type 0 where
  pub sheet : List ℕ
  pub looked : List ℕ
  pub edits : List Edit

abbrev all_looked : List KeptCall → List ℕ
all_looked [] = []
all_looked (k ∷ ks) = k.looked ∷ all_looked ks

abbrev all_edits : List KeptCall → List Edit → List Edit
all_edits ks [] = []
all_edits ks (e ∷ es) = record { behind = e.behind; stays = length (stay e.behind ks); again = restart e.behind ks } ∷ all_edits ks es

abbrev pub found : List Row → List Row
found [] = []
found (w ∷ rows) = let ks : List KeptCall = kept_calls w.sheet in record { sheet = w.sheet; looked = all_looked ks; edits = all_edits ks w.edits } ∷ found rows

-- a bad record, a name
abbrev bad : List ℕ → List ℕ
bad r = words_of bad_record ++ r

abbrev a : List ℕ → List ℕ
a = name 7

abbrev edit : ℕ → ℕ → Option ℕ → Edit
edit n k p = record { behind = n; stays = k; again = p }

pub table : List Row
table =
    -- nothing at all: the place behind the last token
    record { sheet = []; looked = 1 ∷ []; edits = edit 0 0 (Some 0) ∷ [] } ∷
    -- a + a: a tree, the end
    record { sheet = a (s Kind.OpAdd (a eof)); looked = 4 ∷ 4 ∷ []; edits = edit 0 0 (Some 0) ∷ edit 3 0 (Some 0) ∷ edit 4 2 None ∷ [] } ∷
    -- a, no EOF: 2, the end; each looks for a token behind the last
    record { sheet = a []; looked = 2 ∷ 2 ∷ []; edits = edit 0 0 (Some 0) ∷ edit 1 0 (Some 0) ∷ [] } ∷
    -- loop end a: the first call looks at no token behind end
    record { sheet = s Kind.Loop (s Kind.End (a eof)); looked = 2 ∷ 4 ∷ 4 ∷ []; edits = edit 1 0 (Some 0) ∷ edit 2 1 (Some 2) ∷ edit 3 1 (Some 2) ∷ edit 4 3 None ∷ [] } ∷
    -- ) a a: 47, with the resynchronization that follows it, a tree, the end
    record { sheet = s Kind.CloseParen (a (a eof)); looked = 3 ∷ 4 ∷ 4 ∷ []; edits = edit 2 0 (Some 0) ∷ edit 3 1 (Some 2) ∷ [] } ∷
    -- begin a; continue; end: a tree, 17 from the queue, which looks at no token, the end
    record {
      sheet = s Kind.Begin (a (s Kind.Semicolon (s Kind.Continue (s Kind.Semicolon (s Kind.End eof)))));
      looked = 7 ∷ 0 ∷ 7 ∷ [];
      edits = edit 6 0 (Some 0) ∷ edit 7 3 None ∷ [];
    } ∷
    -- a + and a bad record, and others behind it: stopped 60
    record { sheet = a (s Kind.OpAdd (bad (a (bad eof)))); looked = 3 ∷ []; edits = edit 2 0 (Some 0) ∷ edit 3 1 None ∷ [] } ∷
    -- a; and a bad record: a tree, then stopped 60
    record { sheet = a (s Kind.Semicolon (bad eof)); looked = 2 ∷ 3 ∷ []; edits = edit 1 0 (Some 0) ∷ edit 2 1 (Some 1) ∷ edit 3 2 None ∷ [] } ∷
    -- 37 minus signs: stopped 62 before the 38th token is looked at
    record { sheet = times 37 (s Kind.OpSub) (a eof); looked = 37 ∷ []; edits = edit 36 0 (Some 0) ∷ edit 37 1 None ∷ [] } ∷
    -- an odd number of words: stopped 60 for the length
    record { sheet = a (7 ∷ []); looked = 2 ∷ []; edits = edit 1 0 (Some 0) ∷ [] } ∷
    []

pub looks_tried : found table ≡ table
unfolding kept_calls table
looks_tried = refl

-- a store that is a word too short for two tokens, refused 63: the place behind them
pub short_tried : call_looks fresh (a eof) 31 ≡ 3
unfolding kept_calls
short_tried = refl

-- the calls of the table are `Calls`, here those of loop end a
abbrev a_loop : List ℕ
a_loop = s Kind.Loop (s Kind.End (a eof))

pub calls_tried : Calls a_loop (8 * length a_loop) fresh (kept_calls a_loop)
unfolding kept_calls
calls_tried = then_call refl (then_call refl (last_call refl))
