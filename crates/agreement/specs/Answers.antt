-- Answers as they are compared, readings to the first end, and canonical tokens. Definitions; they assume nothing.
use Rattle.std.specs.Prelude.{◌≡◌, ◌≢◌, Bool, true, false, List, [], ◌∷◌, ℕ, ◌*◌, ◌-◌, ◌/◌, ◌≤◌, length, take, unwrap_or}
use Rattle.tree.specs.Tree.{Forest, none, more, records}
use Rattle.grammar.specs.Reading.Limit.{depth_limit, length_limit, store_share, too_deep, short_store}
use Rattle.grammar.specs.Reading.Next.{Called, number, fresh, next_stmt}
use Rattle.grammar.specs.Canonical.Write.{run}
use Rattle.grammar.specs.Canonical.Writing.{clean_reading}
use Rattle.grammar.specs.declared.Answer.{Answer}
use Rattle.grammar.specs.declared.Answer.TheVariants.{Tree as ATree, Error as AError, End, Stopped, Refused}
use Rattle.grammar.specs.declared.Reader.{Reader}
use Rattle.agreement.specs.Calls.{Entry, Gives}

-- an answer as it is compared: a tree by its records, word for word; positions and the store's zero rest are not compared
pub data Seen : Type 0 where
  tree : List ℕ → Seen
  error stopped refused : ℕ → Seen
  end : Seen

abbrev pub seen : Answer → List ℕ → Seen
seen (ATree nodes) store = tree (take (2 * nodes) store)
seen (AError kind) store = error (number (AError kind))
seen End store = end
seen (Stopped n) store = stopped (number (Stopped n))
seen (Refused n) store = refused (number (Refused n))

-- what is seen of a call
abbrev pub seen_of : Called → Seen
seen_of c = seen c.step.answer c.store

-- the store holds at least 16 words for each token then unread
abbrev pub Roomy : List ℕ → Reader → ℕ → Type 0
Roomy T R m = store_share * (length T / 2 - R.position) ≤ m

abbrev pub is_last : Seen → Bool
is_last (tree ws) = false
is_last (error n) = false
is_last (stopped n) = true
is_last (refused n) = false
is_last end = true

abbrev pub is_refused : Answer → Bool
is_refused (ATree n) = false
is_refused (AError k) = false
is_refused End = false
is_refused (Stopped n) = false
is_refused (Refused n) = true

-- the answers of the definition's calls on the sheet T from a reader on, to the first end or stop and with it, each with a store that is large enough
pub data Reads (T : List ℕ) : Reader → List Seen → Type 0 where
  last : {R : Reader} {a : Seen} (m : ℕ) → Roomy T R m → seen_of (next_stmt R T m) ≡ a → is_last a ≡ true → Reads T R (a ∷ [])
  then : {R : Reader} {a : Seen} {xs : List Seen} (m : ℕ) → Roomy T R m → seen_of (next_stmt R T m) ≡ a → is_last a ≡ false → Reads T (next_stmt R T m).step.reader xs → Reads T R (a ∷ xs)

-- the same of a sheet of its own
abbrev pub Afresh : List ℕ → List Seen → Type 0
Afresh T xs = Reads T fresh xs

-- the remaining answers: those of the next calls on the sheet, of either entry, to the first end and with it, each with a store that is large enough;
-- a call in between that gets 63 for a smaller one does not count
pub data Remaining (T : List ℕ) : Reader → List Seen → Type 0 where
  ended : {R : Reader} (entry : Entry) (store : List ℕ) (g : Called) → Roomy T R (length store) → Gives entry R T store g → g.step.answer ≡ End → Remaining T R (end ∷ [])
  answered : {R : Reader} (entry : Entry) (store : List ℕ) (g : Called) {xs : List Seen} → Roomy T R (length store) → Gives entry R T store g → g.step.answer ≢ End → Remaining T g.step.reader xs → Remaining T R (seen_of g ∷ xs)
  passed : {R : Reader} (entry : Entry) (store : List ℕ) (g : Called) {xs : List Seen} → Gives entry R T store g → g.step.answer ≡ Refused short_store → Remaining T g.step.reader xs → Remaining T R xs

-- no answer is an error, a stop or a refusal
pub data NoFault : List Seen → Type 0 where
  no_answer : NoFault []
  a_tree : {ws : List ℕ} {xs : List Seen} → NoFault xs → NoFault (tree ws ∷ xs)
  an_end : {xs : List Seen} → NoFault xs → NoFault (end ∷ xs)

-- these trees, by their records, and then the end
unfoldable pub answers_of : Forest → List Seen
answers_of none = end ∷ []
answers_of (more t f) = tree (records t) ∷ answers_of f

-- the trees that the definition gives for a sheet: those of its clean reading at the depth limit, none if it has none
abbrev pub trees_of : List ℕ → Forest
trees_of sheet = unwrap_or (clean_reading depth_limit sheet) none

-- a sheet's canonical tokens: the run for these trees, `EOF` alone if there are none
abbrev pub canonical : List ℕ → List ℕ
canonical sheet = run (trees_of sheet)

-- none of the answers is a stop with 62
pub data Lacks62 : List Seen → Type 0 where
  lacks_none : Lacks62 []
  lacks_more : {a : Seen} {xs : List Seen} → a ≢ stopped too_deep → Lacks62 xs → Lacks62 (a ∷ xs)

-- canonical tokens keep to the limits: `EOF` counted they are at most 65,536, and no 62 comes as they are read
pub record Keeps (words : List ℕ) : Type 0 where
  pub short : length words ≤ 2 * length_limit
  pub shallow : (xs : List Seen) → Afresh words xs → Lacks62 xs
