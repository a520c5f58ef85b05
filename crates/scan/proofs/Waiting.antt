-- The queue of errors that wait: an error joins it, its front is taken, and what fails leaves it. Assumes nothing.
use mathlib.Core.Path.{◌≡◌}
use mathlib.Core.Bool.{Bool, true, false}
use mathlib.Core.List.{List, ◌∷◌}
use Prim.Native.Nat.{ℕ, ◌+◌}
use native.Mathlib.Omega.{arith}
use borrow.Author.Tests.{eq-eqb, ne_eqb}
use lib.ListN.{length, length-append}
use Rattle.grammar.specs.Reading.Result.{Res, fail, ifb, push, pop, Error}
use Rattle.scan.specs.Post.{As, Failed, Pushes}
use Rattle.std.proofs.Common.{Ok, Err}
use Rattle.scan.specs.declared.Halt.{Halt}
use Rattle.scan.proofs.Laws.{way, link, ends, as_unclean}

-- a choice
pub chosen : {A : Type 0} {b : Bool} (f g : Unit {0} → A) → b ≡ true → ifb b f g ≡ f tt
unfolding ifb
chosen f g e = rw e

pub other : {A : Type 0} {b : Bool} (f g : Unit {0} → A) → b ≡ false → ifb b f g ≡ g tt
unfolding ifb
other f g e = rw e

-- from what `try_push` answered: D goes on, or stops
pub pushed : {A : Type 0} {e : ℕ} {Q Q' : List Error} {u : Unit {0}} (k : List Error → Res A) → Pushes e Q Q' (Ok u) → As Q (push e Q k) Q' (k Q')
unfolding push
pushed {e = e} {Q} k p = rw p.how.1 (link (way _ (other _ _ (ne_eqb _ _ (omega (arith, p.how.0))))) (as_unclean _ _))

pub unpushed : {A : Type 0} {D : Res A} {e : ℕ} {Q Q' : List Error} {h : Halt} {T : List ℕ} {pos least at : ℕ} {S S' : List ℕ} (k : List Error → Res A) → As Q D Q (push e Q k) → Pushes e Q Q' (Err h) → Failed D T pos least at S Q S' Q' h
unfolding push
unpushed k on p = rw p.how.2 (record { how = link on (ends (chosen _ _ (eq-eqb _ _ p.how.0))) })

pub pops : {A : Type 0} (q : List Error) (r : List ℕ) {e : ℕ} {q' : List Error} → q ≡ e ∷ q' → pop {A = A} q r ≡ fail e q' r
unfolding pop
pops q r x = rw x

-- one more waits after a push, one fewer after the front was taken
pub longer : {e : ℕ} {Q Q' : List ℕ} {u : Unit {0}} → Pushes e Q Q' (Ok u) → length Q' ≡ length Q + 1
longer p = rw (p.how.1, length-append)

pub fewer : {e : ℕ} {q q' : List ℕ} → q ≡ e ∷ q' → length q' + 1 ≡ length q
fewer x = rw x (omega arith)
