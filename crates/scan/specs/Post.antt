-- What the contracts say: how what the code answers goes with what the definition answers. Assumes nothing.
-- T are the tokens' words, S the store's and Q the errors that wait, as they were; S' and Q' as they are.
-- pos and «at» are where a reading begins in the words, p and a where it ends.
use Rattle.std.specs.Prelude.{◌≡◌, true, Result, Ok, Err, List, [], ◌∷◌, ◌++◌, ℕ, ◌+◌, ◌*◌, ◌-◌, ◌≤◌, ◌<◌, length, take, drop}
use Rattle.token.specs.Look.{value_fits}
use Rattle.token.specs.declared.Token.{Token}
use Rattle.grammar.specs.Reading.Limit.{queue_full, queue_limit}
use Rattle.grammar.specs.Reading.Number
use Rattle.grammar.specs.Reading.Result.{Res, ok, bad, fail, stop, Error}
use Rattle.grammar.specs.Reading.Look.{look}
use Rattle.scan.specs.declared.Failure.{Failure}
use Rattle.scan.specs.declared.Cursor.{Cursor}
use Rattle.scan.specs.declared.Halt.{Halt}
use Rattle.scan.specs.declared.Halt.TheVariants.{Fail, Stop}
use Rattle.scan.specs.declared.Found.{Found}

-- what the code can see of an answer: a success, clean or not, with what waits then
pub data Out (A : Type 0) : Type 0 where
  won : A → List Error → List ℕ → Out A
  lost : ℕ → List Error → List ℕ → Out A
  halt : ℕ → Out A

abbrev pub out : {A : Type 0} → List Error → Res A → Out A
out q (ok a r) = won a q r
out q (bad a q' r) = won a q' r
out q (fail e q' r) = lost e q' r
out q (stop n) = halt n

-- d, from q on, is seen as d', from q' on
pub record As {A : Type 0} (q : List Error) (d : Res A) (q' : List Error) (d' : Res A) : Type 0 where
  pub is : out q d ≡ out q' d'

abbrev pub clean : {A : Type 0} → A → List Error → List ℕ → Res A
clean a q r = ok a r

-- for what writes nothing
abbrev pub no_words : {A : Type 0} → A → List ℕ
no_words x = []

-- where a reading may start: at word pos of n, and at word «at» of a store of m, with 8 words for each word that is left
pub record Ready (n m pos at : ℕ) : Type 0 where
  pub few : n ≤ 131072
  pub within : pos ≤ n
  pub room : at + 8 * (n - pos) ≤ m

-- 8 words more are lent, of a token that the caller has taken
pub record Lent (n m pos at : ℕ) : Type 0 where
  pub lent : at + 8 * (n - pos) + 8 ≤ m

-- where a reading stands: at p of n, with no fewer errors waiting
pub record Moved (n least p : ℕ) (Q Q' : List ℕ) : Type 0 where
  pub on : least ≤ p
  pub within : p ≤ n
  pub more : length Q ≤ length Q'

-- the store's words from «at» to a, for the tokens' words from pos to p: with slack 8 no more than those give, with less some that were lent
pub record Room (pos at slack p a : ℕ) : Type 0 where
  pub up : at ≤ a
  pub room : a + 8 * pos + slack ≤ at + 8 * p + 8

-- an error: a token was taken (least = pos + 2), or none was left
pub record Lost {A : Type 0} (d : Res A) (T : List ℕ) (pos least at : ℕ) (S Q : List ℕ) (f : Failure) (S' Q' : List ℕ) : Type 0 where
  pub same : As Q d Q' (fail f.error Q' (drop f.pos T))
  pub moved : Moved (length T) pos f.pos Q Q'
  pub far : least ≤ f.pos + (least + 1 - length T)
  pub text : take at S' ≡ take at S

-- a reading that answers d failed or stopped, as h says
abbrev pub FailedAs : {A : Type 0} → Res A → List ℕ → ℕ → ℕ → ℕ → List ℕ → List ℕ → List ℕ → List ℕ → Halt → Type 0
FailedAs d T pos least at S Q S' Q' (Fail failure) = Lost d T pos least at S Q failure S' Q'
FailedAs d T pos least at S Q S' Q' (Stop n) = As Q d [] (stop n)

pub record Failed {A : Type 0} (d : Res A) (T : List ℕ) (pos least at : ℕ) (S Q S' Q' : List ℕ) (h : Halt) : Type 0 where
  pub how : FailedAs d T pos least at S Q S' Q' h

-- a reading that answers d has read something from pos to p, and written it to the store from «at» to a: d is what k makes of it there
pub record Wrote {A B : Type 0} (words : A → List ℕ) (d : Res B) (k : A → List Error → List ℕ → Res B) (T : List ℕ) (pos least slack at : ℕ) (S Q : List ℕ) (p a : ℕ) (S' Q' : List ℕ) : Type 0 where
  pub what : A
  pub same : As Q d Q' (k what Q' (drop p T))
  pub moved : Moved (length T) least p Q Q'
  pub room : Room pos at slack p a
  pub text : take a S' ≡ take at S ++ words what

-- the code's answer r goes with the definition's answer d
abbrev pub AgreesAs : {A : Type 0} → (A → List ℕ) → Res A → List ℕ → ℕ → ℕ → ℕ → ℕ → List ℕ → List ℕ → List ℕ → List ℕ → Result Cursor Halt → Type 0
AgreesAs words d T pos least slack at S Q S' Q' (Ok end) = Wrote words d clean T pos least slack at S Q end.pos end.at S' Q'
AgreesAs words d T pos least slack at S Q S' Q' (Err h) = Failed d T pos least at S Q S' Q' h

pub record Agrees {A : Type 0} (words : A → List ℕ) (d : Res A) (T : List ℕ) (pos least slack at : ℕ) (S Q S' Q' : List ℕ) (r : Result Cursor Halt) : Type 0 where
  pub how : AgreesAs words d T pos least slack at S Q S' Q' r

-- the same of a reading f, from the errors that wait and the words from pos on
abbrev pub Reading : {A : Type 0} → (A → List ℕ) → (List Error → List ℕ → Res A) → List ℕ → ℕ → ℕ → ℕ → ℕ → List ℕ → List ℕ → List ℕ → List ℕ → Result Cursor Halt → Type 0
Reading words f T pos least slack at S Q S' Q' r = Agrees words (f Q (drop pos T)) T pos least slack at S Q S' Q' r

-- a reading that leaves no words in the store, up to «at»: the code's answer is past which word of the tokens it stands
abbrev pub CrossesAs : {A : Type 0} → Res A → List ℕ → ℕ → ℕ → List ℕ → List ℕ → List ℕ → List ℕ → Result ℕ Halt → Type 0
CrossesAs d T pos at S Q S' Q' (Ok p) = Wrote no_words d clean T pos pos 8 at S Q p at S' Q'
CrossesAs d T pos at S Q S' Q' (Err h) = Failed d T pos pos at S Q S' Q' h

pub record Crosses {A : Type 0} (d : Res A) (T : List ℕ) (pos at : ℕ) (S Q S' Q' : List ℕ) (r : Result ℕ Halt) : Type 0 where
  pub how : CrossesAs d T pos at S Q S' Q' r

-- WITHOUT QUEUE: d is a reading from pos, of what waits
pub record Lacked {A : Type 0} (d : List Error → Res A) (T : List ℕ) (pos least : ℕ) (f : Failure) : Type 0 where
  pub same : (q : List Error) → d q ≡ fail f.error q (drop f.pos T)
  pub on : pos ≤ f.pos
  pub within : f.pos ≤ length T
  pub far : least ≤ f.pos + (least + 1 - length T)

abbrev pub UnreadAs : {A : Type 0} → (List Error → Res A) → List ℕ → ℕ → ℕ → Halt → Type 0
UnreadAs d T pos least (Fail failure) = Lacked d T pos least failure
UnreadAs d T pos least (Stop n) = (q : List Error) → d q ≡ stop n

pub record Unread {A : Type 0} (d : List Error → Res A) (T : List ℕ) (pos least : ℕ) (h : Halt) : Type 0 where
  pub how : UnreadAs d T pos least h

-- a token was taken at pos
pub record Taken (T : List ℕ) (pos k n v : ℕ) : Type 0 where
  pub same : (q : List Error) → look q (drop pos T) ≡ ok (record { kind = k; newline = n; value = v }) (drop (pos + 2) T)
  pub within : pos + 2 ≤ length T
  pub fits : value_fits k v ≡ true

-- none was taken
pub record Missed (T : List ℕ) (pos : ℕ) (f : Failure) : Type 0 where
  pub lacks : Lacked (λ q. look q (drop pos T)) T pos (pos + 2) f
  pub past : (f.error ≡ Number.end_of_tokens → ⊥) → pos + 2 ≤ f.pos

abbrev pub UnseenAs : List ℕ → ℕ → Halt → Type 0
UnseenAs T pos (Fail failure) = Missed T pos failure
UnseenAs T pos (Stop n) = (q : List Error) → look q (drop pos T) ≡ stop n

abbrev pub SawAs : List ℕ → ℕ → Result Token Halt → Type 0
SawAs T pos (Ok tok) = Taken T pos tok.kind tok.newline tok.value
SawAs T pos (Err h) = UnseenAs T pos h

pub record Saw (T : List ℕ) (pos : ℕ) (s : Result Token Halt) : Type 0 where
  pub how : SawAs T pos s

-- what reads tokens only
pub record Got {A : Type 0} (d : List Error → Res A) (T : List ℕ) (least p : ℕ) : Type 0 where
  pub what : A
  pub same : (q : List Error) → d q ≡ ok what (drop p T)
  pub on : least ≤ p
  pub within : p ≤ length T

abbrev pub ReadsAs : {A : Type 0} → (List Error → Res A) → List ℕ → ℕ → ℕ → Result ℕ Halt → Type 0
ReadsAs d T pos least (Ok p) = Got d T least p
ReadsAs d T pos least (Err h) = Unread d T pos least h

pub record Reads {A : Type 0} (d : List Error → Res A) (T : List ℕ) (pos least : ℕ) (r : Result ℕ Halt) : Type 0 where
  pub how : ReadsAs d T pos least r

-- a number of what was read is answered, which is below a bound
pub record NumberAt {A : Type 0} (number : A → ℕ) (d : List Error → Res A) (T : List ℕ) (least bound p v : ℕ) : Type 0 where
  pub got : Got d T least p
  pub is : number got.what ≡ v
  pub below : v < bound

-- a success ends at or behind «least»; a failure has come to «far», or no token was left
abbrev pub FindsAs : {A : Type 0} → (A → ℕ) → (List Error → Res A) → List ℕ → ℕ → ℕ → ℕ → ℕ → Result Found Halt → Type 0
FindsAs number d T pos least far bound (Ok found) = NumberAt number d T least bound found.pos found.number
FindsAs number d T pos least far bound (Err h) = Unread d T pos far h

pub record Finds {A : Type 0} (number : A → ℕ) (d : List Error → Res A) (T : List ℕ) (pos least far bound : ℕ) (r : Result Found Halt) : Type 0 where
  pub how : FindsAs number d T pos least far bound r

abbrev pub itself : ℕ → ℕ
itself n = n

abbrev pub value_of : Token → ℕ
value_of tok = tok.value

-- what writes, at most so many words behind «at»: X are the words before what was read
pub record Stored {A : Type 0} (words : A → List ℕ) (d : List Error → Res A) (T : List ℕ) (least most at : ℕ) (X : List ℕ) (p a : ℕ) (S' : List ℕ) : Type 0 where
  pub got : Got d T least p
  pub far : a ≤ at + most
  pub text : take a S' ≡ X ++ words got.what

pub record Unstored {A : Type 0} (d : List Error → Res A) (T : List ℕ) (pos least : ℕ) (S S' : List ℕ) (h : Halt) : Type 0 where
  pub unread : Unread d T pos least h
  pub text : S' ≡ S

abbrev pub WritesAs : {A : Type 0} → (A → List ℕ) → (List Error → Res A) → List ℕ → ℕ → ℕ → ℕ → ℕ → List ℕ → List ℕ → List ℕ → Result Cursor Halt → Type 0
WritesAs words d T pos least most at X S S' (Ok end) = Stored words d T least most at X end.pos end.at S'
WritesAs words d T pos least most at X S S' (Err h) = Unstored d T pos least S S' h

pub record Writes {A : Type 0} (words : A → List ℕ) (d : List Error → Res A) (T : List ℕ) (pos least most at : ℕ) (X S S' : List ℕ) (r : Result Cursor Halt) : Type 0 where
  pub how : WritesAs words d T pos least most at X S S' r

-- an error joins the back of what waits; where the queue is full it stays, and the reading stops
abbrev pub PushesAs : ℕ → List ℕ → List ℕ → Result (Unit {0}) Halt → Type 0
PushesAs error Q Q' (Ok u) = (length Q < queue_limit) × (Q' ≡ Q ++ error ∷ [])
PushesAs error Q Q' (Err h) = (length Q ≡ queue_limit) × (Q' ≡ Q) × (h ≡ Stop queue_full)

pub record Pushes (error : ℕ) (Q Q' : List ℕ) (r : Result (Unit {0}) Halt) : Type 0 where
  pub how : PushesAs error Q Q' r

-- what reads tokens and adds to the queue, without store
pub record Queued {A : Type 0} (d : Res A) (T : List ℕ) (pos : ℕ) (Q : List ℕ) (p : ℕ) (Q' : List ℕ) : Type 0 where
  pub what : A
  pub same : As Q d Q' (ok what (drop p T))
  pub moved : Moved (length T) pos p Q Q'

abbrev pub QueuesAs : {A : Type 0} → Res A → List ℕ → ℕ → List ℕ → List ℕ → Result ℕ Halt → Type 0
QueuesAs d T pos Q Q' (Ok p) = Queued d T pos Q p Q'
QueuesAs d T pos Q Q' (Err h) = Failed d T pos pos 0 [] Q [] Q' h

pub record Queues {A : Type 0} (d : Res A) (T : List ℕ) (pos : ℕ) (Q Q' : List ℕ) (r : Result ℕ Halt) : Type 0 where
  pub how : QueuesAs d T pos Q Q' r

-- after a resynchronization in a list: it goes on, or the front of what waits is the list's error
pub record Fronted {A : Type 0} (d : Res A) (T : List ℕ) (pos : ℕ) (Q : List ℕ) (f : Failure) (Q' : List ℕ) : Type 0 where
  pub same : As Q d Q' (fail f.error Q' (drop f.pos T))
  pub fewer : length Q' + 1 ≡ length Q
  pub on : pos ≤ f.pos
  pub within : f.pos ≤ length T

abbrev pub ResumesAs : Res (Unit {0}) → List ℕ → ℕ → List ℕ → List ℕ → Result (Unit {0}) Halt → Type 0
ResumesAs d T pos Q Q' (Ok u) = (d ≡ ok tt (drop pos T)) × (Q' ≡ Q)
ResumesAs d T pos Q Q' (Err (Fail failure)) = Fronted d T pos Q failure Q'
ResumesAs d T pos Q Q' (Err (Stop n)) = As Q d [] (stop n)

pub record Resumes (d : Res (Unit {0})) (T : List ℕ) (pos : ℕ) (Q Q' : List ℕ) (r : Result (Unit {0}) Halt) : Type 0 where
  pub how : ResumesAs d T pos Q Q' r
