-- What a reading comes to, and how readings are put together. Definitions; they assume nothing.
-- A reading takes the errors that wait and the words that are left. Every nonterminal is written with the functions of this file.
-- A loop recurses on a count that is no less than the words left. So where the count is 0 no word is left, and the loop's clause for 0 says what a missing token
-- leads to there (Laws/Count.antt: the count decides nothing).
use Rattle.std.specs.Prelude.{Bool, true, false, List, [], ◌∷◌, ◌++◌, ℕ, eqb, length}
use Rattle.grammar.specs.Reading.Limit.{queue_limit, queue_full}
use Rattle.grammar.specs.Reading.Number

-- an error, in the queue and on its way there: its number
abbrev pub Error : Type 0
Error = ℕ

-- ok: a clean success: no error was met, and the errors that wait are those that waited. bad: a success with errors, and what waits now.
-- fail: an error on its way to whoever catches it, and what waits. stop: the reading ends for good
pub data Res (A : Type 0) : Type 0 where
  ok : A → List ℕ → Res A
  bad : A → List Error → List ℕ → Res A
  fail : Error → List Error → List ℕ → Res A
  stop : ℕ → Res A

-- what goes on from waiting errors q is no clean success any more
unfoldable pub unclean : {A : Type 0} → List Error → Res A → Res A
unclean q (ok a r) = bad a q r
unclean q (bad a q' r) = bad a q' r
unclean q (fail e q' r) = fail e q' r
unclean q (stop n) = stop n

-- one reading after another, where q waits before the first: `go` goes on from a success, `or` from an error
unfoldable pub either : {A B : Type 0} → List Error → Res A → (A → List Error → List ℕ → Res B) → (Error → List Error → List ℕ → Res B) → Res B
either q (ok a r) go or = go a q r
either q (bad a q' r) go or = unclean q' (go a q' r)
either q (fail e q' r) go or = unclean q' (or e q' r)
either q (stop n) go or = stop n

-- the same where an error is handed on, as the Rust's `?`
unfoldable pub then : {A B : Type 0} → List Error → Res A → (A → List Error → List ℕ → Res B) → Res B
then q (ok a r) go = go a q r
then q (bad a q' r) go = unclean q' (go a q' r)
then q (fail e q' r) go = fail e q' r
then q (stop n) go = stop n

-- a choice; what is not chosen is not computed
unfoldable pub ifb : {A : Type 0} → Bool → (Unit {0} → A) → (Unit {0} → A) → A
ifb true f g = f tt
ifb false f g = g tt

-- `push_back`: an error joins the queue; one more than its limit stops the reading
unfoldable pub push : {A : Type 0} → Error → List Error → (List Error → Res A) → Res A
push e q k = ifb (eqb (length q) queue_limit) (λ _. stop queue_full) (λ _. unclean (q ++ e ∷ []) (k (q ++ e ∷ [])))

-- `pop_front`: the error at the queue's front is on its way. Its callers have pushed one: the first clause is never reached
unfoldable pub pop : {A : Type 0} → List Error → List ℕ → Res A
pop [] r = fail Number.end_of_tokens [] r
pop (e ∷ q) r = fail e q r
