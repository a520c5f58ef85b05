-- `scan::queue::synchronized` meets its contract. Assumes nothing.
use mathlib.Core.Path.{◌≡◌, refl, ◌∙◌}
use mathlib.Core.List.{List, ◌∷◌}
use Prim.Native.Nat.{ℕ}
use native.Mathlib.Omega.{arith}
use borrow.Author.Tests.{eq-eqb, ne_eqb}
use lib.ListN.{drop}
use Rattle.token.specs.Kind
use Rattle.grammar.specs.Reading.Result.{ok, fail, stop, unclean, either, ifb, pop, Error}
use Rattle.grammar.specs.Reading.Look.{look}
use Rattle.grammar.specs.Reading.Stmt.{synchronized}
use Rattle.scan.specs.Post.{Taken}
use Rattle.scan.proofs.Laws.{way, ends, refail, taken, unseen, unread_stop}
use Rattle.scan.proofs.Waiting.{pops, fewer}
use Rattle.scan.proofs.queue.synchronized.Goals as goal

module _ {T : List ℕ} {pos k n v : ℕ} (q : List Error) (tk : Taken T pos k n v) where
  at_eof : k ≡ Kind.EOF → synchronized q (drop pos T) ≡ pop q (drop pos T)
  unfolding synchronized either ifb
  at_eof e = rw (tk.same q, eq-eqb _ _ e)

  at_another : (k ≡ Kind.EOF → ⊥) → synchronized q (drop pos T) ≡ ok tt (drop pos T)
  unfolding synchronized either ifb
  at_another e = rw (tk.same q, ne_eqb _ _ e)

at_error : {e f : ℕ} {q' : List Error} {r : List ℕ} (q : List Error) (ts : List ℕ) → look q ts ≡ fail e q r → q ≡ f ∷ q' → synchronized q ts ≡ fail f q' r
unfolding synchronized either unclean pop
at_error q ts l x = rw (l, x)

at_stop : {n : ℕ} (q : List Error) (ts : List ℕ) → look q ts ≡ stop n → synchronized q ts ≡ stop n
unfolding synchronized either
at_stop q ts l = rw l

pub returns-then-token-eq-EOF : goal.returns-then-token-eq-EOF
returns-then-token-eq-EOF c = let tk = taken c.in-Ok.ensures in
    let o = c.pop-error.ensures in
    record { how = record { same = refail (way _ (at_eof c.args.queue.now tk c.if-token-eq-EOF.true ∙ pops _ _ o)); fewer = fewer o; on = omega arith; within = c.requires.0 } }

pub returns-else-token-eq-EOF : goal.returns-else-token-eq-EOF
returns-else-token-eq-EOF c = let tk = taken c.in-Ok.ensures in
    record { how = (at_another _ tk c.if-token-eq-EOF.false, refl) }

pub returns-in-Err-Fail : goal.returns-in-Err-Fail
returns-in-Err-Fail c = let ms = (unseen c.in-Err-Fail.field-0-is c.in-Err-Fail.ensures).lacks in
    let o = c.pop-error-in-Err-Fail.ensures in
    record { how = record { same = refail (way _ (at_error _ _ (ms.same _) o)); fewer = fewer o; on = ms.on; within = ms.within } }

pub returns-in-Err-Stop : goal.returns-in-Err-Stop
returns-in-Err-Stop c = record { how = ends (at_stop _ _ (unread_stop c.in-Err-Stop.field-0-is c.in-Err-Stop.ensures _)) }
