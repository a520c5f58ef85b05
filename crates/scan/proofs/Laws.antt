-- Combinators over the contracts: they hold for any grammar. Assumes nothing.
use mathlib.Core.Path.{◌≡◌, refl, sym, ap, ◌∙◌, subst}
use mathlib.Core.List.{List, [], ◌++◌, append_assoc}
use Prim.Native.Nat.{ℕ, ◌+◌, ◌*◌, ◌≤◌}
use native.Mathlib.Omega.{arith}
use lib.ListN.{length, take, drop}
use lib.Seq.{take-take}
use Rattle.token.specs.declared.Token.{Token}
use Rattle.grammar.specs.Reading.Result.{Res, ok, bad, fail, stop, unclean, either, then, Error}
use Rattle.grammar.specs.Reading.Look.{look}
use Rattle.grammar.proofs.Laws.Keep.{Keep, k_ok, k_bad, k_fail, k_stop}
use Rattle.scan.specs.Post.{Out, won, lost, halt, out, As, clean, Moved, Room, Lost, FailedAs, Failed, Wrote, Agrees, Unread, Taken, Missed, Saw, Got, Reads, NumberAt, Finds}
use Rattle.std.proofs.Common.{Result, Ok, Err}
use Rattle.std.specs.Result.{IsErrAnd}
use Rattle.scan.specs.declared.Cursor.{Cursor}
use Rattle.scan.specs.declared.Failure.{Failure}
use Rattle.scan.specs.declared.Found.{Found}
use Rattle.scan.specs.declared.Halt.{Halt}
use Rattle.scan.specs.declared.Halt.TheVariants.{Fail, Stop}
use Rattle.scan.proofs.Text.{prefix_of}

-- seen as
pub way : {A : Type 0} {d d' : Res A} (q : List Error) → d ≡ d' → As q d q d'
way q e = record { is = rw e }

pub here : {A : Type 0} {d : Res A} {q : List Error} → As q d q d
here = record { is = refl }

pub link : {A : Type 0} {d d₁ d₂ : Res A} {q q₁ q₂ : List Error} → As q d q₁ d₁ → As q₁ d₁ q₂ d₂ → As q d q₂ d₂
link a b = record { is = a.is ∙ b.is }

pub ends : {A : Type 0} {d : Res A} {q : List Error} {n : ℕ} → d ≡ stop n → As q d [] (stop n)
ends e = record { is = rw e }

pub refail : {A : Type 0} {d : Res A} {q q₁ q₂ : List Error} {r : List ℕ} {e : ℕ} → As q d q₁ (fail e q₂ r) → As q d q₂ (fail e q₂ r)
refail a = record { is = a.is }

out_unclean : {A : Type 0} (q : List Error) (p : List ℕ) (d : Res A) → out p (unclean q d) ≡ out q d
unfolding unclean
out_unclean q p (ok a r) = refl
out_unclean q p (bad a q' r) = refl
out_unclean q p (fail e q' r) = refl
out_unclean q p (stop n) = refl

-- what a push makes of what goes on
pub as_unclean : {A : Type 0} {d : Res A} (q : List Error) (p : List ℕ) → As p (unclean q d) q d
as_unclean {d = d} q p = record { is = out_unclean q p d }

module _ {A B : Type 0} (go : A → List Error → List ℕ → Res B) where
  carry : {x y : A} {q q' : List Error} {r r' : List ℕ} → won x q r ≡ won y q' r' → out q (go x q r) ≡ out q' (go y q' r')
  carry {x} {y} {q} {q'} {r} {r'} e =
      let a : x ≡ y = cc in
      let b : q ≡ q' = cc in
      let c : r ≡ r' = cc in
      ap (λ (z : A). out q (go z q r)) a ∙ ap (λ (z : List ℕ). out z (go y z r)) b ∙ ap (λ (z : List ℕ). out q' (go y q' z)) c

  then_won : (q : List Error) (d : Res A) {x : A} {q' : List Error} {r : List ℕ} → out q d ≡ won x q' r → out q (then q d go) ≡ out q' (go x q' r)
  unfolding then
  then_won q (ok a r) e = carry e
  then_won q (bad a q₁ r) e = out_unclean q₁ q (go a q₁ r) ∙ carry e
  then_won q (fail n q₁ r) e = absurd (let z : ◌≡◌ {A = ℕ} 0 1 = cc in omega arith)
  then_won q (stop n) e = absurd (let z : ◌≡◌ {A = ℕ} 0 1 = cc in omega arith)

  then_lost : (q : List Error) (d : Res A) {e : ℕ} {q' : List Error} {r : List ℕ} → out q d ≡ lost e q' r → out q (then q d go) ≡ lost e q' r
  unfolding then
  then_lost q (ok a r) e = absurd (let z : ◌≡◌ {A = ℕ} 0 1 = cc in omega arith)
  then_lost q (bad a q₁ r) e = absurd (let z : ◌≡◌ {A = ℕ} 0 1 = cc in omega arith)
  then_lost q (fail n q₁ r) e = cc
  then_lost q (stop n) e = absurd (let z : ◌≡◌ {A = ℕ} 0 1 = cc in omega arith)

  then_halt : (q : List Error) (d : Res A) {n : ℕ} → out q d ≡ halt n → out q (then q d go) ≡ halt n
  unfolding then
  then_halt q (ok a r) e = absurd (let z : ◌≡◌ {A = ℕ} 0 1 = cc in omega arith)
  then_halt q (bad a q₁ r) e = absurd (let z : ◌≡◌ {A = ℕ} 0 1 = cc in omega arith)
  then_halt q (fail n q₁ r) e = absurd (let z : ◌≡◌ {A = ℕ} 0 1 = cc in omega arith)
  then_halt q (stop n) e = cc

  module _ (or : ℕ → List Error → List ℕ → Res B) where
    carry_or : {x y : ℕ} {q q' : List Error} {r r' : List ℕ} → ◌≡◌ {A = Out A} (lost x q r) (lost y q' r') → out q (or x q r) ≡ out q' (or y q' r')
    carry_or {x} {y} {q} {q'} {r} {r'} e =
        let a : x ≡ y = cc in
        let b : q ≡ q' = cc in
        let c : r ≡ r' = cc in
        ap (λ (z : ℕ). out q (or z q r)) a ∙ ap (λ (z : List ℕ). out z (or y z r)) b ∙ ap (λ (z : List ℕ). out q' (or y q' z)) c

    either_won : (q : List Error) (d : Res A) {x : A} {q' : List Error} {r : List ℕ} → out q d ≡ won x q' r → out q (either q d go or) ≡ out q' (go x q' r)
    unfolding either
    either_won q (ok a r) e = carry e
    either_won q (bad a q₁ r) e = out_unclean q₁ q (go a q₁ r) ∙ carry e
    either_won q (fail n q₁ r) e = absurd (let z : ◌≡◌ {A = ℕ} 0 1 = cc in omega arith)
    either_won q (stop n) e = absurd (let z : ◌≡◌ {A = ℕ} 0 1 = cc in omega arith)

    either_lost : (q : List Error) (d : Res A) {e : ℕ} {q' : List Error} {r : List ℕ} → out q d ≡ lost e q' r → out q (either q d go or) ≡ out q' (or e q' r)
    unfolding either
    either_lost q (ok a r) e = absurd (let z : ◌≡◌ {A = ℕ} 0 1 = cc in omega arith)
    either_lost q (bad a q₁ r) e = absurd (let z : ◌≡◌ {A = ℕ} 0 1 = cc in omega arith)
    either_lost q (fail n q₁ r) e = out_unclean q₁ q (or n q₁ r) ∙ carry_or e
    either_lost q (stop n) e = absurd (let z : ◌≡◌ {A = ℕ} 0 1 = cc in omega arith)

    either_halt : (q : List Error) (d : Res A) {n : ℕ} → out q d ≡ halt n → out q (either q d go or) ≡ halt n
    unfolding either
    either_halt q (ok a r) e = absurd (let z : ◌≡◌ {A = ℕ} 0 1 = cc in omega arith)
    either_halt q (bad a q₁ r) e = absurd (let z : ◌≡◌ {A = ℕ} 0 1 = cc in omega arith)
    either_halt q (fail n q₁ r) e = absurd (let z : ◌≡◌ {A = ℕ} 0 1 = cc in omega arith)
    either_halt q (stop n) e = cc

-- what is kept by a reading (grammar's Laws/Progress.antt) holds of what the code sees of it
module _ {A : Type 0} {I : List ℕ → Type 0} {J : Error → List ℕ → Type 0} {q' : List Error} {r : List ℕ} where
  pub kept_won : {d : Res A} (q : List Error) {x : A} → Keep I J d → out q d ≡ won x q' r → I r
  kept_won q (k_ok i) e = subst I (cc) i
  kept_won q (k_bad i) e = subst I (cc) i
  kept_won q (k_fail j) e = absurd (let z : ◌≡◌ {A = ℕ} 0 1 = cc in omega arith)
  kept_won q k_stop e = absurd (let z : ◌≡◌ {A = ℕ} 0 1 = cc in omega arith)

  pub kept_lost : {d : Res A} (q : List Error) {n : Error} → Keep I J d → out q d ≡ lost n q' r → J n r
  kept_lost q (k_ok i) e = absurd (let z : ◌≡◌ {A = ℕ} 0 1 = cc in omega arith)
  kept_lost q (k_bad i) e = absurd (let z : ◌≡◌ {A = ℕ} 0 1 = cc in omega arith)
  kept_lost q {n} (k_fail {e = m} {r = s} j) e =
      let a : m ≡ n = cc in
      let b : s ≡ r = cc in
      subst (λ (y : Error). J y r) a (subst (λ (y : List ℕ). J m y) b j)
  kept_lost q k_stop e = absurd (let z : ◌≡◌ {A = ℕ} 0 1 = cc in omega arith)

-- D goes on from d by `go`, and d read x
module _ {A B : Type 0} {D : Res B} {d : Res A} {q q₁ : List Error} (go : A → List Error → List ℕ → Res B) where
  pub goes : {x : A} {q₂ : List Error} {r : List ℕ} → As q D q₁ (then q₁ d go) → As q₁ d q₂ (ok x r) → As q D q₂ (go x q₂ r)
  goes a b = record { is = a.is ∙ then_won go q₁ d b.is }

  -- by `go`, or where d failed by `or`
  pub wins : (or : ℕ → List Error → List ℕ → Res B) {x : A} {q₂ : List Error} {r : List ℕ} → As q D q₁ (either q₁ d go or) → As q₁ d q₂ (ok x r) → As q D q₂ (go x q₂ r)
  wins or a b = record { is = a.is ∙ either_won go or q₁ d b.is }

  pub loses : (or : ℕ → List Error → List ℕ → Res B) {e : ℕ} {q₂ : List Error} {r : List ℕ} → As q D q₁ (either q₁ d go or) → As q₁ d q₂ (fail e q₂ r) → As q D q₂ (or e q₂ r)
  loses or a b = record { is = a.is ∙ either_lost go or q₁ d b.is }

  pub halts : (or : ℕ → List Error → List ℕ → Res B) {n : ℕ} → As q D q₁ (either q₁ d go or) → As q₁ d [] (stop n) → As q D [] (stop n)
  halts or a b = record { is = a.is ∙ either_halt go or q₁ d b.is }

-- what a `?` hands on is what the call answered
pub handed : {A : Type 0} {h : Halt} {r : Result A Halt} → IsErrAnd r (λ e. e ≡ h) → r ≡ Err h
handed {r = Ok x} e = absurd e
handed {r = Err g} e = ap Err e

-- from what a call answered
module _ {A : Type 0} {words : A → List ℕ} {d : Res A} {T : List ℕ} {pos least slack at : ℕ} {S Q S' Q' : List ℕ} where
  pub done : {c : Cursor} → Agrees words d T pos least slack at S Q S' Q' (Ok c) → Wrote words d clean T pos least slack at S Q c.pos c.at S' Q'
  done a = a.how

  pub undone : {h : Halt} → Agrees words d T pos least slack at S Q S' Q' (Err h) → Failed d T pos least at S Q S' Q' h
  undone a = a.how

  -- to what a function answers
  pub did_not : {h : Halt} → Failed d T pos least at S Q S' Q' h → Agrees words d T pos least slack at S Q S' Q' (Err h)
  did_not f = record { how = f }

  -- where a `?` handed it on
  pub hands : {h : Halt} {r : Result Cursor Halt} → IsErrAnd r (λ e. e ≡ h) → Failed d T pos least at S Q S' Q' h → Agrees words d T pos least slack at S Q S' Q' r
  hands e f = rw (handed e) (did_not f)

-- an error, or a stop
module _ {A : Type 0} {d : Res A} {T : List ℕ} {pos least at : ℕ} {S Q S' Q' : List ℕ} where
  pub missed : {f : Failure} {h : Halt} → h ≡ Fail f → Failed d T pos least at S Q S' Q' h → Lost d T pos least at S Q f S' Q'
  missed e g = rw e at g.how

  pub halted_at : {n : ℕ} {h : Halt} → h ≡ Stop n → Failed d T pos least at S Q S' Q' h → As Q d [] (stop n)
  halted_at e g = rw e at g.how

module _ {A B : Type 0} {D : Res B} {d : Res A} {T : List ℕ} {pos least at : ℕ} {S Q : List ℕ} {pos₁ least₁ at₁ : ℕ} {S₁ Q₁ S' Q' : List ℕ} (go : A → List Error → List ℕ → Res B) (or : ℕ → List Error → List ℕ → Res B) where
  -- D goes on from d, by `go` or `or`, and d stopped
  pub stops : {n : ℕ} {h : Halt} → h ≡ Stop n → As Q D Q₁ (either Q₁ d go or) → Failed d T pos₁ least₁ at₁ S₁ Q₁ S' Q' h → Failed D T pos least at S Q S' Q' (Stop n)
  stops e a f = record { how = halts go or a (halted_at e f) }

-- what has no store fails with any
pub elsewhere : {A : Type 0} {d : Res A} {T : List ℕ} {pos least at : ℕ} {Q Q' : List ℕ} {h : Halt} (S : List ℕ) → Failed d T pos least 0 [] Q [] Q' h → Failed d T pos least at S Q S Q' h
elsewhere {h = Fail failure} S f = record { how = record { same = f.how.same; moved = f.how.moved; far = f.how.far; text = refl } }
elsewhere {h = Stop n} S f = record { how = f.how }

-- TOKENS
pub taken : {T : List ℕ} {pos : ℕ} {tok : Token} → Saw T pos (Ok tok) → Taken T pos tok.kind tok.newline tok.value
taken s = s.how

-- a call further on, as what went before sees it
pub record Later (pos least at pos₁ least₁ at₁ : ℕ) (Q Q₁ : List ℕ) : Type 0 where
  pub pos_le : pos ≤ pos₁
  pub least_le : least ≤ least₁
  pub at_le : at ≤ at₁
  pub w_le : length Q ≤ length Q₁

pub shorter : (S S₁ : List ℕ) (at at₁ : ℕ) → at ≤ at₁ → take at₁ S ≡ take at₁ S₁ → take at S ≡ take at S₁
shorter S S₁ at at₁ h e = sym (take-take at at₁ S h) ∙ ap (take at) e ∙ take-take at at₁ S₁ h

module _ {B : Type 0} {D : Res B} {T : List ℕ} {pos least at : ℕ} {S Q : List ℕ} {pos₁ least₁ at₁ : ℕ} {S₁ Q₁ S' Q' : List ℕ} where
  -- D is at last d, which failed
  pub onto : {d : Res B} {h : Halt} → As Q D Q₁ d → Failed d T pos₁ least₁ at₁ S₁ Q₁ S' Q' h → take at S₁ ≡ take at S → Later pos least at pos₁ least₁ at₁ Q Q₁ → Failed D T pos least at S Q S' Q' h
  onto {h = Fail failure} a f x l =
      let g = f.how in
      let m = g.moved in
      let h = g.far in
      record { how = record { same = link a g.same; moved = omega arith; far = omega arith; text = shorter S' S₁ at at₁ l.at_le g.text ∙ x } }
  onto {h = Stop n} a f x l = record { how = link a f.how }

then_failed : {A B : Type 0} {d : Res A} (k : A → List Error → List ℕ → Res B) {T : List ℕ} {pos least at : ℕ} {S Q S' Q' : List ℕ} (h : Halt) → Failed d T pos least at S Q S' Q' h → FailedAs (then Q d k) T pos least at S Q S' Q' h
then_failed {d = d} k {Q = Q} (Fail failure) f =
    let g = f.how in
    record { same = record { is = then_lost k Q d g.same.is }; moved = g.moved; far = g.far; text = g.text }
then_failed {d = d} k {Q = Q} (Stop n) f = record { is = then_halt k Q d f.how.is }

module _ {A B : Type 0} {D : Res B} {d : Res A} {T : List ℕ} {pos least at : ℕ} {S Q : List ℕ} {pos₁ least₁ at₁ : ℕ} {S₁ Q₁ S' Q' : List ℕ} {h : Halt} where
  -- D goes on from d, which failed
  pub fails : (k : A → List Error → List ℕ → Res B) → As Q D Q₁ (then Q₁ d k) → Failed d T pos₁ least₁ at₁ S₁ Q₁ S' Q' h → take at S₁ ≡ take at S → Later pos least at pos₁ least₁ at₁ Q Q₁ → Failed D T pos least at S Q S' Q' h
  fails k a f x l = onto a (record { how = then_failed k h f }) x l

-- a reader that looks first
pub record Looks {B : Type 0} (q : List Error) (ts : List ℕ) (d : Res B) : Type 0 where
  pub go : Token → List Error → List ℕ → Res B
  pub is : d ≡ then q (look q ts) go

-- WITHOUT QUEUE
-- a reading further on, which takes no error from the queue and adds none
pub record Beyond (pos least p least₁ : ℕ) (Q Q' : List ℕ) : Type 0 where
  pub pos_le : pos ≤ p
  pub least_le : least ≤ least₁
  pub w_le : length Q ≤ length Q'

unread_failed : {A : Type 0} {d : List Error → Res A} {T : List ℕ} {p least at : ℕ} {S' Q' : List ℕ} (h : Halt) → Unread d T p least h → Failed (d Q') T p least at S' Q' S' Q' h
unread_failed {Q' = Q'} (Fail failure) s =
    let m = s.how in
    let on = m.on in
    let within = m.within in
    let far = m.far in
    record { how = record { same = record { is = ap (out Q') (m.same Q') }; moved = omega arith; far = omega arith; text = refl } }
unread_failed {Q' = Q'} (Stop n) s = record { how = record { is = ap (out Q') (s.how Q') } }

module _ {A B : Type 0} {D : Res B} {d : List Error → Res A} {T : List ℕ} {pos least at : ℕ} {S Q : List ℕ} {p least₁ : ℕ} {S' Q' : List ℕ} {h : Halt} where
  -- D goes on from d by k, and d failed
  pub lacks : (k : A → List Error → List ℕ → Res B) → Unread d T p least₁ h → As Q D Q' (then Q' (d Q') k) → take at S' ≡ take at S
      → Beyond pos least p least₁ Q Q' → Failed D T pos least at S Q S' Q' h
  lacks k u a x b = fails k a (unread_failed {at = at} h u) x (omega arith)

-- D is at last d, and d failed
pub lacking : {B : Type 0} {D : Res B} {d : List Error → Res B} {T : List ℕ} {pos least at : ℕ} {S Q : List ℕ} {p least₁ : ℕ} {S' Q' : List ℕ} {h : Halt} → Unread d T p least₁ h → As Q D Q' (d Q') → take at S' ≡ take at S
    → Beyond pos least p least₁ Q Q' → Failed D T pos least at S Q S' Q' h
lacking {at = at} {h = h} u a x b = onto a (unread_failed {at = at} h u) x (omega arith)

-- no token was taken
pub not_seen : {T : List ℕ} {p : ℕ} {h : Halt} → Saw T p (Err h) → Unread (λ q. look q (drop p T)) T p (p + 2) h
not_seen {h = Fail failure} s = record { how = s.how.lacks }
not_seen {h = Stop n} s = record { how = s.how }

-- D is at last d, which looks first, and no token was seen
pub fails_unseen : {B : Type 0} {D d : Res B} {T : List ℕ} {pos least at : ℕ} {S Q : List ℕ} {p : ℕ} {S' Q' : List ℕ} {h : Halt} → As Q D Q' d → Looks Q' (drop p T) d → Saw T p (Err h) → take at S' ≡ take at S
    → Beyond pos least p (p + 2) Q Q' → Failed D T pos least at S Q S' Q' h
fails_unseen a l s x b = lacks l.go (not_seen s) (link a (way _ l.is)) x b

-- what a function that reads tokens only answers
module _ {A : Type 0} {d : List Error → Res A} {T : List ℕ} {pos least : ℕ} where
  pub passed : {p : ℕ} → Reads d T pos least (Ok p) → Got d T least p
  passed r = r.how

  pub unpassed : {h : Halt} → Reads d T pos least (Err h) → Unread d T pos least h
  unpassed r = r.how

module _ {A : Type 0} {number : A → ℕ} {d : List Error → Res A} {T : List ℕ} {pos least far bound : ℕ} where
  pub found : {f : Found} → Finds number d T pos least far bound (Ok f) → NumberAt number d T least bound f.pos f.number
  found r = r.how

  pub unfound : {h : Halt} → Finds number d T pos least far bound (Err h) → Unread d T pos far h
  unfound r = r.how

-- what was got, as D goes on from it by k
pub gets : {A B : Type 0} {D : Res B} {d : List Error → Res A} {T : List ℕ} {least p : ℕ} {q q₁ : List Error} (k : A → List Error → List ℕ → Res B) (g : Got d T least p) → As q D q₁ (then q₁ (d q₁) k) → As q D q₁ (k g.what q₁ (drop p T))
gets k g a = goes k a (way _ (g.same _))

-- D is at last d, and stops as the look does
pub stops_unseen : {B : Type 0} {D d : Res B} {T : List ℕ} {pos least at n : ℕ} {S Q : List ℕ} {S' Q' : List ℕ} (p : ℕ) → ((q : List Error) → look q (drop p T) ≡ stop n) → As Q D Q' d → ((k : ℕ) → ((q : List Error) → look q (drop p T) ≡ stop k) → d ≡ stop k)
    → Failed D T pos least at S Q S' Q' (Stop n)
stops_unseen {n = n} p s a h = record { how = link a (record { is = ap (out _) (h n s) }) }

module _ {T : List ℕ} {p : ℕ} {h : Halt} where
  pub unseen : {f : Failure} → h ≡ Fail f → Saw T p (Err h) → Missed T p f
  unseen e s = rw e at s.how

  pub unread_stop : {n : ℕ} → h ≡ Stop n → Saw T p (Err h) → (q : List Error) → look q (drop p T) ≡ stop n
  unread_stop e s = rw e at s.how

-- what a function answers that does as another one
pub as_agrees : {A : Type 0} {words : A → List ℕ} {D d : Res A} {T : List ℕ} {pos least slack at : ℕ} {S Q S' Q' : List ℕ} {r : Result Cursor Halt} → D ≡ d → Agrees words d T pos least slack at S Q S' Q' r → Agrees words D T pos least slack at S Q S' Q' r
as_agrees e h = rw e h

-- a reader leaves what stands before «at» as it was
module _ {A C : Type 0} {words : A → List ℕ} {d : Res C} {k : A → List Error → List ℕ → Res C} {T : List ℕ} {pos least slack at : ℕ} {S Q : List ℕ} {p a : ℕ} {S' Q' : List ℕ} (g : Wrote words d k T pos least slack at S Q p a S' Q') where
  pub prefix : at ≤ length S → take at S' ≡ take at S
  prefix h = prefix_of S S' (words g.what) at a g.text h

  pub rebased : at ≤ length S → take a S' ≡ take at S' ++ words g.what
  rebased h = rw (prefix h) g.text

  -- the same text under another name
  abbrev pub relabel : {B E : Type 0} {words' : B → List ℕ} {D : Res E} {K : B → List Error → List ℕ → Res E} {pos' least' slack' : ℕ} {Q₁ : List ℕ} {p' : ℕ} {Q'' : List ℕ} → (x : B) → words' x ≡ words g.what → As Q₁ D Q'' (K x Q'' (drop p' T))
      → Moved (length T) least' p' Q₁ Q'' → Room pos' at slack' p' a → Wrote words' D K T pos' least' slack' at S Q₁ p' a S' Q''
  relabel x e same moved room = record { what = x; same = same; moved = moved; room = room; text = g.text ∙ rw e }

-- what a loop did, told from where the function began: D is, where the loop began, D₁
module _ {B : Type 0} {D D₁ : Res B} {T : List ℕ} {pos at : ℕ} {S Q : List ℕ} {S₁ Q₁ : List ℕ} (l : As Q D Q₁ D₁) (x : take at S₁ ≡ take at S) (more : length Q ≤ length Q₁) where
  abbrev pub home : {A : Type 0} {words : A → List ℕ} {K : A → List Error → List ℕ → Res B} {least slack p a : ℕ} {S' Q' : List ℕ} → Wrote words D₁ K T pos least slack at S₁ Q₁ p a S' Q' → Wrote words D K T pos least slack at S Q p a S' Q'
  home g =
      let m = g.moved in
      record { what = g.what; same = link l g.same; moved = omega arith; room = g.room; text = rw (← x) g.text }

-- a last call that starts further on
pub later : {A : Type 0} {words : A → List ℕ} {D d : Res A} {T : List ℕ} {pos least slack pos' least' slack' at : ℕ} {S Q S' Q' : List ℕ} {r : Result Cursor Halt} → D ≡ d → Agrees words d T pos' least' slack' at S Q S' Q' r → pos ≤ pos' → least ≤ least' → 8 * pos + slack ≤ 8 * pos' + slack' → Agrees words D T pos least slack at S Q S' Q' r
later {r = Ok c} e f h i j =
    let u = f.how in
    let m = u.moved in
    let o = u.room in
    record { how = record { what = u.what; same = link (way _ e) u.same; moved = omega arith; room = omega arith; text = u.text } }
later {r = Err (Fail failure)} e f h i j = record { how = onto (way _ e) f.how refl (omega arith) }
later {r = Err (Stop n)} e f h i j = record { how = record { how = link (way _ e) f.how.how } }

-- where every success becomes the error f, the base does not matter
lose_out : {A B : Type 0} (q q' q₂ : List Error) (f : ℕ) (d : Res A) → out {A = B} q (then q₂ d (λ u q₃ r. fail f q₃ r)) ≡ out q' (then q₂ d (λ u q₃ r. fail f q₃ r))
unfolding then unclean
lose_out q q' q₂ f (ok a r) = refl
lose_out q q' q₂ f (bad a q₁ r) = refl
lose_out q q' q₂ f (fail e q₁ r) = refl
lose_out q q' q₂ f (stop n) = refl

pub lose_as : {A B : Type 0} (q q' q₂ : List Error) (f : ℕ) (d : Res A) → As {A = B} q (then q₂ d (λ u q₃ r. fail f q₃ r)) q' (then q₂ d (λ u q₃ r. fail f q₃ r))
lose_as q q' q₂ f d = record { is = lose_out q q' q₂ f d }

-- where a last call starts that goes on with what was written
pub record Onward (pos least slack at pos₁ least₁ slack₁ at₁ : ℕ) (Q Q₁ : List ℕ) : Type 0 where
  pub pos_le : pos ≤ pos₁
  pub least_le : least ≤ least₁
  pub at_le : at ≤ at₁
  pub w_le : length Q ≤ length Q₁
  pub slack_le : at₁ + 8 * pos + slack ≤ at + 8 * pos₁ + slack₁

-- of what a last call reads, d, D makes something else, whose words are those behind Y
pub continued : {A B : Type 0} {words : A → List ℕ} {words₁ : B → List ℕ} {D : Res A} {d : Res B} {T : List ℕ} {pos least slack at : ℕ} {S Q : List ℕ} {pos₁ least₁ slack₁ at₁ : ℕ} {S₁ Q₁ S' Q' : List ℕ} {r : Result Cursor Halt} (make : B → A) (Y : List ℕ)
    → Agrees words₁ d T pos₁ least₁ slack₁ at₁ S₁ Q₁ S' Q' r → As Q D Q₁ (then Q₁ d (λ x q r. ok (make x) r)) → take at₁ S₁ ≡ take at S ++ Y → ((x : B) → words (make x) ≡ Y ++ words₁ x) → take at S₁ ≡ take at S
    → Onward pos least slack at pos₁ least₁ slack₁ at₁ Q Q₁ → Agrees words D T pos least slack at S Q S' Q' r
continued {at = at} {S = S} {r = Ok c} make Y h a y is x n =
    let g = h.how in
    let m = g.moved in
    let o = g.room in
    record { how = record { what = make g.what; same = goes _ a g.same; moved = omega arith; room = omega arith; text = g.text ∙ rw (y, is, append_assoc) } }
continued {r = Err h} make Y f a y is x n = record { how = fails _ a f.how x (omega arith) }
