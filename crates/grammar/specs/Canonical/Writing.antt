-- What a clean reading is, and the writer's call as a whole: of a statement's records and an output of m words, the answer and every word of the output.
-- Definitions; they assume nothing.
use Rattle.std.specs.Prelude.{Bool, true, false, cond, ◌&&◌, List, [], ◌∷◌, ◌++◌, ℕ, zero, suc, ◌-◌, ◌/◌, ◌%◌, eqb, ltb, length, replicate, Option, Some, None, option_and_then}
use Rattle.tree.specs.Tree.{Tree, Forest, none, more, one, records}
use Rattle.tree.specs.Decode.{decode}
use Rattle.grammar.specs.Reading.Limit.{depth_limit, too_deep, no_statement, short_output}
use Rattle.grammar.specs.Reading.Number
use Rattle.grammar.specs.Reading.Result.{Res, ok, bad, fail, stop, ifb}
use Rattle.grammar.specs.Reading.Next.{next}
use Rattle.grammar.specs.Canonical.Write.{own, statement, run}
use Rattle.grammar.specs.Canonical.Need.{need}
use Rattle.grammar.specs.declared.Written.{Written}
use Rattle.grammar.specs.declared.Written.TheVariants.{Tokens, Stopped, Refused}

-- one statement of a clean reading, and those behind it
abbrev pub clean_then : Res Tree → (List ℕ → Option Forest) → Option Forest
clean_then (ok t r) others = option_and_then (λ f. Some (more t f)) (others r)
clean_then (bad t q r) others = None
clean_then (fail e q r) others = cond (eqb e Number.end) (Some none) None
clean_then (stop k) others = None

-- the statements of a reading to its end at the depth d, where it meets no error, no stop and no bad record; n bounds their number
unfoldable pub clean_from : ℕ → ℕ → List ℕ → Option Forest
clean_from d zero ts = None
clean_from d (suc n) ts = clean_then (next d [] ts) λ r. clean_from d n r

-- the same of a sheet: an even number of words
unfoldable pub clean_reading : ℕ → List ℕ → Option Forest
clean_reading d ts = ifb (eqb (length ts % 2) 0) (λ _. clean_from d (suc (length ts)) ts) (λ _. None)

-- a statement's tokens
abbrev pub statement_words : Tree → List ℕ
statement_words t = statement t []

abbrev pub same_words : List ℕ → List ℕ → Bool
same_words [] [] = true
same_words [] (w ∷ ws) = false
same_words (v ∷ vs) [] = false
same_words (v ∷ vs) (w ∷ ws) = eqb v w && same_words vs ws

-- a clean reading gave this statement and nothing else
abbrev pub gives : Tree → Option Forest → Bool
gives t None = false
gives t (Some none) = false
gives t (Some (more u none)) = same_words (records t) (records u)
gives t (Some (more u (more v f))) = false

-- a clean reading, limits aside, gives this tree: that of its own canonical run does, at the depth that it needs
unfoldable pub readable : Tree → Bool
readable t = gives t (clean_reading (need t own) (run (one t)))

abbrev pub is_too_deep : Res Tree → Bool
is_too_deep (ok u r) = false
is_too_deep (bad u q r) = false
is_too_deep (fail e q r) = false
is_too_deep (stop k) = eqb k too_deep

-- the statement's run is deeper than the limit
unfoldable pub exceeds_depth : Tree → Bool
exceeds_depth t = is_too_deep (next depth_limit [] (statement_words t))

-- document 01's number for each case of an answer; tokens have none, 0
abbrev pub number : Written → ℕ
number (Tokens n) = 0
number (Stopped n) = n
number (Refused n) = n

-- what the writer leaves
pub record Wrote : Type 0 where
  pub answer : Written
  pub output : List ℕ

-- an answer that leaves m zeros
abbrev pub bare : ℕ → Written → Wrote
bare m a = record { answer = a; output = replicate m 0 }

abbrev pub written : Option Tree → ℕ → Wrote
written None m = bare m (Refused no_statement)
written (Some t) m =
    ifb (readable t)
    (λ _. ifb (exceeds_depth t) (λ _. bare m (Stopped too_deep)) λ _.
    ifb (ltb m (length (statement_words t))) (λ _. bare m (Refused short_output)) λ _.
    record { answer = Tokens (length (statement_words t) / 2); output = statement_words t ++ replicate (m - length (statement_words t)) 0 })
    (λ _. bare m (Refused no_statement))

-- the writer, of the records of one statement with nothing after them
unfoldable pub write_stmt : List ℕ → ℕ → Wrote
write_stmt words m = written (decode words) m
