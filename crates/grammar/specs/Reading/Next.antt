-- `next_stmt`: a statement at the top level, and a reading call as a whole: of a reader, a sheet's words and a store of m words, the answer, the reader that
-- comes back and every word of the store. Definitions; they assume nothing.
use Rattle.std.specs.Prelude.{◌≡◌, Bool, true, false, cond, ◌&&◌, ◌||◌, List, [], ◌∷◌, ◌++◌, ℕ, zero, suc, ◌-◌, ◌*◌, ◌/◌, ◌%◌, ◌≤◌, eqb, leb, ltb, length, take, drop, replicate}
use Rattle.token.specs.Kind
use Rattle.tree.specs.Tree.{Tree, records}
use Rattle.grammar.specs.Reading.Limit.{depth_limit, length_limit, queue_limit, store_share, malformed, too_deep, queue_full, bad_reader, short_store}
use Rattle.grammar.specs.Reading.Number
use Rattle.grammar.specs.Reading.Result.{Error, Res, ok, bad, fail, stop, either, then, ifb, push}
use Rattle.grammar.specs.Reading.Look.{look}
use Rattle.grammar.specs.Reading.Stmt.{stmt, synchronize}
use Rattle.grammar.specs.Reading.Depth.{at_depth}
use Rattle.grammar.specs.declared.ErrorKind.{ErrorKind}
use Rattle.grammar.specs.declared.ErrorKind.TheVariants.{LexerError, EndofTokenStream, SyntaxError}
use Rattle.grammar.specs.declared.Answer.{Answer}
use Rattle.grammar.specs.declared.Answer.TheVariants.{Tree as ATree, Error as AError, End, Stopped, Refused}
use Rattle.grammar.specs.declared.Reader.{Reader}
use Rattle.grammar.specs.declared.Stepped.{Stepped}

-- at the top level separators are passed over; `EOF`, which stays unread, or no token is the end
unfoldable pub start : ℕ → List Error → List ℕ → Res (Unit {0})
start zero q ts = fail Number.end q ts
start (suc n) q ts =
    either q (look q ts)
    (λ tok q₁ rest. ifb (eqb tok.kind Kind.EOF) (λ _. fail Number.end q ts) λ _.
    ifb (eqb tok.kind Kind.Semicolon) (λ _. start n q rest) λ _.
    ok tt ts)
    (λ e q₁ r. ifb (eqb e Number.end_of_tokens) (λ _. fail Number.end q ts) (λ _. fail e q r))

-- the front of the queue, and the others. The queue is not empty, since its caller has pushed an error: the first clause is never reached
unfoldable pub front : {A : Type 0} → List Error → (Error → List Error → Res A) → Res A
front [] k = stop queue_full
front (e ∷ q) k = k e q

-- a statement failed: its error joins the queue's back, the front is the answer, and then comes the resynchronization
unfoldable pub failed : ℕ → Error → List Error → List ℕ → Res Tree
failed d e q ts =
    push e q λ q₁. front q₁ λ f q₂.
    then q₂ (synchronize (at_depth d) false (length ts) q₂ ts) λ u q₃ r. fail f q₃ r

-- `next_stmt` where no error waits, with d depths. A tree is answered before the errors that wait behind it
unfoldable pub next : ℕ → List Error → List ℕ → Res Tree
next d q ts =
    then q (start (length ts) q ts) λ u q₁ r.
    either q₁ (stmt (at_depth d) q₁ r) (λ t q₂ s. ok t s) (failed d)

-- document 01's number for each case of an answer; a tree and the end have none, 0
abbrev pub kind_number : ErrorKind → ℕ
kind_number LexerError = Number.lexer_error
kind_number EndofTokenStream = Number.end_of_tokens
kind_number (SyntaxError n) = n

abbrev pub number : Answer → ℕ
number (ATree nodes) = 0
number (AError kind) = kind_number kind
number End = 0
number (Stopped n) = n
number (Refused n) = n

-- the error kind of a number
abbrev pub error_kind : Error → ErrorKind
error_kind e =
    cond (eqb e Number.lexer_error) LexerError
    (cond (eqb e Number.end_of_tokens) EndofTokenStream
    (SyntaxError e))

-- the numbers of errors, and of stops with 0 for none
abbrev pub is_error : ℕ → Bool
is_error e = eqb e Number.lexer_error || eqb e Number.end_of_tokens || (leb Number.continue_not_allowed e && leb e Number.class_definition)

abbrev pub is_stop : ℕ → Bool
is_stop n = eqb n 0 || eqb n malformed || eqb n too_deep || eqb n queue_full

-- the first w places hold errors, the others 0
unfoldable pub queue_fits : ℕ → List ℕ → Bool
queue_fits w [] = true
queue_fits zero (e ∷ es) = ifb (eqb e 0) (λ _. queue_fits zero es) (λ _. false)
queue_fits (suc w) (e ∷ es) = ifb (is_error e) (λ _. queue_fits w es) (λ _. false)

-- nothing that 61 names: the position is not past the tokens, at most 96 errors wait, the stop is 0 or a stop's number, each waiting number is an error's and
-- each unused place of the queue is 0
pub record Accepted (T : List ℕ) (R : Reader) : Type 0 where
  pub within : R.position ≤ length T / 2
  pub few : R.waiting ≤ queue_limit
  pub stops : is_stop R.stopped ≡ true
  pub queue : queue_fits R.waiting R.errors ≡ true

-- a queue in its array
abbrev pub pad : List Error → List ℕ
pad q = q ++ replicate (queue_limit - length q) 0

abbrev pub reader_at : ℕ → List Error → Reader
reader_at p q = record { position = p; waiting = length q; errors = pad q; stopped = 0 }

abbrev pub fresh : Reader
fresh = reader_at 0 []

-- the errors that wait in a reader, the oldest first
abbrev pub waiting_in : Reader → List Error
waiting_in R = take R.waiting R.errors

-- what a call leaves
pub record Called : Type 0 where
  pub step : Stepped
  pub store : List ℕ

-- an answer that leaves m zeros
abbrev pub bare : ℕ → Answer → Reader → Called
bare m a R = record { step = record { answer = a; reader = R }; store = replicate m 0 }

-- a stop: the old position, an empty queue
abbrev pub halted : ℕ → ℕ → ℕ → Called
halted m p n = bare m (Stopped n) (record { position = p; waiting = 0; errors = pad []; stopped = n })

unfoldable pub error_answer : Error → Answer
error_answer e = ifb (eqb e Number.end) (λ _. End) (λ _. AError (error_kind e))

abbrev pub tree_called : ℕ → ℕ → List ℕ → List Error → Called
tree_called m p words q = record { step = record { answer = ATree (length words / 2); reader = reader_at p q }; store = words ++ replicate (m - length words) 0 }

-- what a reading from position p comes to, in a sheet of n tokens and with a store of m words
abbrev pub called : ℕ → ℕ → ℕ → Res Tree → Called
called n m p (ok t r) = tree_called m (n - length r / 2) (records t) []
called n m p (bad t q r) = tree_called m (n - length r / 2) (records t) q
called n m p (fail e q r) = bare m (error_answer e) (reader_at (n - length r / 2) q)
called n m p (stop k) = halted m p k

-- the error that waited longest is answered. One waits: the first clause is reached only for a reader whose array has no place, and there is none
abbrev pub answered : ℕ → Reader → List Error → Called
answered m R [] = bare m End R
answered m R (e ∷ q) = bare m (AError (error_kind e)) (reader_at R.position q)

-- the tests of a call in their order: token length, reader, stopped, waiting error, store
unfoldable pub next_stmt : Reader → List ℕ → ℕ → Called
next_stmt R T m =
    ifb (eqb (length T % 2) 1 || ltb (2 * length_limit) (length T)) (λ _. halted m R.position malformed) λ _.
    ifb (ltb (length T / 2) R.position || ltb queue_limit R.waiting) (λ _. bare m (Refused bad_reader) R) λ _.
    ifb (is_stop R.stopped && queue_fits R.waiting R.errors)
    (λ _. ifb (ltb 0 R.stopped) (λ _. bare m (Stopped R.stopped) R) λ _.
    ifb (ltb 0 R.waiting) (λ _. answered m R (take R.waiting R.errors)) λ _.
    ifb (ltb m (store_share * (length T / 2 - R.position))) (λ _. bare m (Refused short_store) R) λ _.
    called (length T / 2) m R.position (next depth_limit [] (drop (2 * R.position) T)))
    (λ _. bare m (Refused bad_reader) R)
