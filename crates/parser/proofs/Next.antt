-- A statement at the top level (grammar's Reading/Next.antt), one step each, as the code goes. Assumes nothing.
use mathlib.Core.Path.{◌≡◌, refl}
use mathlib.Core.Bool.{false}
use mathlib.Core.List.{List, ◌∷◌}
use Prim.Native.Nat.{ℕ, ◌+◌, ◌≤◌}
use native.Mathlib.Omega.{arith}
use lib.ListN.{length}
use Rattle.tree.specs.Tree.{Tree, records}
use Rattle.grammar.specs.Reading.Result.{Res, ok, fail, either, then, push, Error}
use Rattle.grammar.specs.Reading.Stmt.{synchronize, stmt}
use Rattle.grammar.specs.Reading.Depth.{at_depth}
use Rattle.grammar.specs.Reading.Next.{start, front, failed, next}
use Rattle.std.specs.Result.{IsErrAnd}
use Rattle.scan.specs.Post.{As, Failed, Agrees, Pushes}
use Rattle.std.proofs.Common.{Result, Ok, Err}
use Rattle.scan.specs.declared.Cursor.{Cursor}
use Rattle.scan.specs.declared.Halt.{Halt}
use Rattle.scan.specs.declared.Halt.TheVariants.{Stop}
use Rattle.scan.proofs.Laws.{way, link, wins, undone, did_not, stops, onto, lose_as}
use Rattle.scan.proofs.Waiting.{pushed}

-- what follows the separators
abbrev pub next_go : ℕ → Unit {0} → List Error → List ℕ → Res Tree
next_go d u q r = either q (stmt (at_depth d) q r) (λ t q₂ s. ok t s) (failed d)

pub next_step : (d : ℕ) (q : List Error) (ts : List ℕ) → next d q ts ≡ then q (start (length ts) q ts) (next_go d)
unfolding next
next_step d q ts = refl

-- a statement that was read, or a stop
module _ {D d : Res Tree} (or : ℕ → List Error → List ℕ → Res Tree) {T : List ℕ} {p : ℕ} {S Q S' Q' : List ℕ} (x : As Q D Q (either Q d (λ t q s. ok t s) or)) where
  pub ended : {c : Cursor} → Agrees records d T p (p + 2) 14 0 S Q S' Q' (Ok c) → Agrees records D T 0 0 8 0 S Q S' Q' (Ok c)
  ended h =
      let u = h.how in
      let m = u.moved in
      let k = u.room in
      record { how = record { what = u.what; same = wins _ or x u.same; moved = omega arith; room = omega arith; text = u.text } }

  pub halted : {n : ℕ} {h : Halt} → h ≡ Stop n → Agrees records d T p (p + 2) 14 0 S Q S' Q' (Err h) → Agrees records D T 0 0 8 0 S Q S' Q' (Err (Stop n))
  halted e f = did_not (stops _ or e x (undone f))

-- D is at last d, a statement that failed
pub at_last : {D d : Res Tree} {T : List ℕ} (p : ℕ) {S Q : List ℕ} (S₁ : List ℕ) {Q₁ S' Q' : List ℕ} {r : Result Cursor Halt} → As Q D Q₁ d → IsErrAnd r (λ h. Failed d T p p 0 S₁ Q₁ S' Q' h) → length Q ≤ length Q₁ → Agrees records D T 0 0 8 0 S Q S' Q' r
at_last p S₁ {r = Ok c} x f more = absurd f
at_last p S₁ {r = Err h} x f more = did_not (onto x f refl (omega arith))

-- the resynchronization, before the answer f
abbrev pub sync_fail : ℕ → List ℕ → ℕ → List Error → Res Tree
sync_fail d ts f q = then q (synchronize (at_depth d) false (length ts) q ts) λ u q₃ r. fail f q₃ r

front_of : {A : Type 0} (q : List Error) {e : ℕ} {q' : List Error} (k : ℕ → List Error → Res A) → q ≡ e ∷ q' → front q k ≡ k e q'
unfolding front
front_of q k x = rw x

pub failed_push : (d e : ℕ) (Q ts : List ℕ) → failed d e Q ts ≡ push e Q (λ q. front q (sync_fail d ts))
unfolding failed
failed_push d e Q ts = refl

pub failed_step : (d : ℕ) (ts : List ℕ) {e : ℕ} {Q q q' : List ℕ} {u : Unit {0}} {f : ℕ} → Pushes e Q q (Ok u) → q ≡ f ∷ q' → As Q (failed d e Q ts) q' (sync_fail d ts f q')
failed_step d ts {e} {Q} {q} {q'} {f = f} p y =
    link (way Q (failed_push d e Q ts)) (link (pushed (λ q₁. front q₁ (sync_fail d ts)) p) (link (way q (front_of q (sync_fail d ts) y)) (lose_as q q' q' f (synchronize (at_depth d) false (length ts) q' ts))))
