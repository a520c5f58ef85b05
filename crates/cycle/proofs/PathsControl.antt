-- Controls, resynchronization and catching (grammar's Reading/Stmt.antt), one step each, as the code goes: an equation for each way through a reading. Assumes nothing.
use mathlib.Core.Path.{◌≡◌, refl, sym, ap, ◌∙◌}
use mathlib.Core.Bool.{Bool, true, false, ◌&&◌, ◌||◌}
use mathlib.Core.List.{List, append-nil}
use Prim.Native.Nat.{ℕ, zero, suc, ◌+◌, ◌-◌, ◌≤◌}
use native.Mathlib.Omega.{arith}
use borrow.Author.Tests.{eq-eqb, ne_eqb}
use lib.Dec.{eqb}
use lib.ListN.{length, take, drop}
use Rattle.token.specs.Kind
use Rattle.token.specs.declared.Token.{Token}
use Rattle.tree.specs.NodeKind
use Rattle.tree.specs.Tree.{Tree, kind_of}
use Rattle.tree.specs.Node
use Rattle.grammar.specs.Reading.Number
use Rattle.grammar.specs.Reading.Result.{Res, ok, fail, stop, unclean, either, then, ifb, push, Error}
use Rattle.grammar.specs.Reading.Look.{look, try_label}
use Rattle.grammar.specs.Reading.Expr.{Depth, expr}
use Rattle.grammar.specs.Reading.Stmt.{ends, control_value, control_flow, starts_stmt, synchronize, synchronized, caught}
use Rattle.grammar.proofs.Laws.Keep.{Holds, k_ok, k_any, k_if}
use Rattle.scan.specs.Post.{As, Crosses, Taken, Missed, Resumes, NumberAt, itself}
use Rattle.cycle.specs.Parts.{control_kind}
use Rattle.cycle.specs.declared.Control.{Control}
use Rattle.cycle.specs.declared.Control.TheVariants.{Continue, Break, Return}
use Rattle.scan.specs.declared.Failure.{Failure}
use Rattle.std.proofs.Common.{Ok, Err}
use Rattle.scan.specs.declared.Halt.{Halt}
use Rattle.scan.specs.declared.Halt.TheVariants.{Fail, Stop}
use Rattle.scan.proofs.Laws.{Looks, way, link, gets, as_unclean}
use Rattle.scan.proofs.Looking.{counted_stops}
use Rattle.scan.proofs.Text.{left, fuel_some}

-- the value of a control
pub value_looks : (low : Depth) (q : List Error) (ts : List ℕ) → Looks q ts (control_value low q ts)
unfolding control_value
value_looks low q ts = record { go = _; is = refl }

module _ (low : Depth) (q : List Error) {T : List ℕ} {pos k n v : ℕ} (at : Taken T pos k n v) where
  pub value_none : (ends 1 k || eqb k Kind.Semicolon) ≡ true → control_value low q (drop pos T) ≡ ok Node.absent (drop pos T)
  unfolding control_value then ifb
  value_none e = rw (at.same, e)

  pub value_some : (ends 1 k || eqb k Kind.Semicolon) ≡ false → control_value low q (drop pos T) ≡ expr low q (drop pos T)
  unfolding control_value then ifb
  value_some e = rw (at.same, e)

-- a control, behind its label
abbrev pub continue_go : ℕ → List Error → List ℕ → Res Tree
continue_go l q r = ok (Node.continue l) r

abbrev pub break_go : Depth → ℕ → List Error → List ℕ → Res Tree
break_go low l q r = then q (control_value low q r) λ e q₂ s. ok (Node.break l e) s

module _ (low : Depth) {control : Control} (q : List Error) (ts : List ℕ) where
  pub control_continue : control ≡ Continue → control_flow low (control_kind control) q ts ≡ then q (try_label q ts) continue_go
  unfolding control_flow ifb
  control_continue e = rw e

  pub control_break : control ≡ Break → control_flow low (control_kind control) q ts ≡ then q (try_label q ts) (break_go low)
  unfolding control_flow ifb
  control_break e = rw e

  pub control_return : control ≡ Return → control_flow low (control_kind control) q ts ≡ then q (control_value low q ts) (λ e q₁ r. ok (Node.return e) r)
  unfolding control_flow ifb
  control_return e = rw e

-- D goes on from a label by k, and it was found
pub labelled : {D : Res Tree} {q q₁ : List Error} {d : List Error → Res ℕ} {T : List ℕ} {least bound p l : ℕ} (k : ℕ → List Error → List ℕ → Res Tree) → NumberAt itself d T least bound p l → As q D q₁ (then q₁ (d q₁) k) → As q D q₁ (k l q₁ (drop p T))
labelled {q₁ = q₁} {T = T} {p = p} k n a = link (gets k n.got a) (way _ (ap (λ (v : ℕ). k v q₁ (drop p T)) n.is))

-- resynchronization
abbrev pub sync_no : Depth → Bool → ℕ → ℕ → List Error → List ℕ → Res (Unit {0})
sync_no low inside fuel e q r = synchronize low inside fuel q r

abbrev halts_at : Bool → ℕ → Bool
halts_at inside k = starts_stmt k || (inside && eqb k Kind.End)

module _ (low : Depth) (inside : Bool) (q : List Error) where
  sync_suc : (fuel : ℕ) (ts : List ℕ) → synchronize low inside (suc fuel) q ts
      ≡ either q (look q ts) (λ tok q₁ rest. ifb (halts_at inside tok.kind) (λ _. ok tt ts) (λ _. either q (expr low q ts) (λ t q₂ r. ok tt r) (sync_no low inside fuel))) (λ e q₁ r. ifb (eqb e Number.end_of_tokens) (λ _. ok tt ts) (λ _. synchronize low inside fuel q₁ r))
  unfolding synchronize
  sync_suc fuel ts = refl

  sync_taken : (fuel : ℕ) (ts : List ℕ) {tok : Token} {rest : List ℕ} → look q ts ≡ ok tok rest → synchronize low inside (suc fuel) q ts ≡ ifb (halts_at inside tok.kind) (λ _. ok tt ts) (λ _. either q (expr low q ts) (λ t q₂ r. ok tt r) (sync_no low inside fuel))
  unfolding either
  sync_taken fuel ts e = sync_suc fuel ts ∙ rw e

  sync_missed : (fuel : ℕ) (ts : List ℕ) {e : ℕ} {r : List ℕ} → look q ts ≡ fail e q r → synchronize low inside (suc fuel) q ts ≡ unclean q (ifb (eqb e Number.end_of_tokens) (λ _. ok tt ts) (λ _. synchronize low inside fuel q r))
  unfolding either
  sync_missed fuel ts e = sync_suc fuel ts ∙ rw e

  sync_halted : (fuel : ℕ) (ts : List ℕ) {n : ℕ} → look q ts ≡ stop n → synchronize low inside (suc fuel) q ts ≡ stop n
  unfolding either
  sync_halted fuel ts e = sync_suc fuel ts ∙ rw e

  sync_empty : (fuel : ℕ) (ts : List ℕ) {e : ℕ} {r : List ℕ} → length ts ≤ fuel → look q ts ≡ fail e q r → e ≡ Number.end_of_tokens → As q (synchronize low inside fuel q ts) q (ok tt ts)
  unfolding synchronize ifb unclean
  sync_empty zero ts h l f = record { is = refl }
  sync_empty (suc fuel) ts {e} {r} h l f = link (way q (sync_missed fuel ts l)) (link (as_unclean q q) (way q (empty e (synchronize low inside fuel q r) f)))
    where
      empty : (e : ℕ) (x : Res (Unit {0})) → e ≡ Number.end_of_tokens → ifb (eqb e Number.end_of_tokens) (λ _. ok tt ts) (λ _. x) ≡ ok tt ts
      empty e x h = rw (eq-eqb _ _ h)

  module _ {T : List ℕ} (fuel p : ℕ) (enough : length T ≤ p + fuel) where
    pub sync_none : {f : Failure} → Missed T p f → f.error ≡ Number.end_of_tokens → As q (synchronize low inside fuel q (drop p T)) q (ok tt (drop p T))
    sync_none m e = sync_empty fuel (drop p T) (left T p fuel enough) (m.lacks.same q) e

    pub sync_skip : {f : Failure} → Missed T p f → (f.error ≡ Number.end_of_tokens → ⊥) → As q (synchronize low inside fuel q (drop p T)) q (synchronize low inside (fuel - 1) q (drop f.pos T))
    unfolding ifb
    sync_skip m e =
        let x = m.past e in
        let y = m.lacks.within in
        let f : suc (fuel - 1) ≡ fuel = omega arith in
        link (way _ (ap (λ (n : ℕ). synchronize low inside n q (drop p T)) (sym f) ∙ sync_missed (fuel - 1) (drop p T) (m.lacks.same q) ∙ rw (ne_eqb _ _ e))) (as_unclean q q)

    module _ {k n v : ℕ} (at : Taken T p k n v) where
      pub sync_halt : halts_at inside k ≡ true → synchronize low inside fuel q (drop p T) ≡ ok tt (drop p T)
      unfolding ifb
      sync_halt e = ap (λ (n : ℕ). synchronize low inside n q (drop p T)) (sym (fuel_some T fuel p enough at.within)) ∙ sync_taken (fuel - 1) (drop p T) (at.same q) ∙ rw e

      pub sync_try : halts_at inside k ≡ false → synchronize low inside fuel q (drop p T) ≡ either q (expr low q (drop p T)) (λ t q₂ r. ok tt r) (sync_no low inside (fuel - 1))
      unfolding ifb
      sync_try e = ap (λ (n : ℕ). synchronize low inside n q (drop p T)) (sym (fuel_some T fuel p enough at.within)) ∙ sync_taken (fuel - 1) (drop p T) (at.same q) ∙ rw e

pub sync_stop : (low : Depth) (inside : Bool) (q : List Error) (T : List ℕ) (fuel p : ℕ) → length T ≤ p + fuel → (n : ℕ) → ((q : List Error) → look q (drop p T) ≡ stop n) → synchronize low inside fuel q (drop p T) ≡ stop n
sync_stop low inside q T fuel p enough n l = counted_stops q (drop p T) (λ m. synchronize low inside m q (drop p T)) (λ m e. sync_halted low inside q m (drop p T) e) fuel (left T p fuel enough) (l q)

-- catching
abbrev pub caught_go : Depth → List Error → List ℕ → Res (Unit {0})
caught_go low ts q = then q (synchronize low true (length ts) q ts) λ u q₂ r. synchronized q₂ r

module _ (low : Depth) (e : ℕ) (q : List Error) (ts : List ℕ) where
  pub caught_out : e ≡ Number.end_of_tokens → caught low e q ts ≡ fail e q ts
  unfolding caught ifb
  caught_out h = rw (eq-eqb _ _ h)

  pub caught_push : (e ≡ Number.end_of_tokens → ⊥) → caught low e q ts ≡ push e q (caught_go low ts)
  unfolding caught ifb
  caught_push h = rw (ne_eqb _ _ h)

-- where a resynchronization ends, as it is told from where the catching began: one error more waits
pub record Resuming (n pos p : ℕ) (Q₀ Q : List ℕ) : Type 0 where
  pub on : pos ≤ p
  pub within : p ≤ n
  pub more : length Q₀ + 1 ≤ length Q

module _ {D d : Res (Unit {0})} {T : List ℕ} {pos at p : ℕ} {S₀ Q₀ S Q Q' : List ℕ} (on : As Q₀ D Q d) (text : take at S ≡ take at S₀) (n : Resuming (length T) pos p Q₀ Q) where
  pub resumes : {u : Unit {0}} → Resumes d T p Q Q' (Ok u) → Crosses D T pos at S₀ Q₀ S Q' (Ok p)
  resumes r =
      let x = r.how in
      let i : length Q' ≡ length Q = ap length x.1 in
      record { how = record { what = tt; same = link on (record { is = rw (x.0, x.1) }); moved = omega arith; room = omega arith; text = rw append-nil text } }

  pub resumes_not : {h : Halt} → Resumes d T p Q Q' (Err h) → Crosses D T pos at S₀ Q₀ S Q' (Err h)
  resumes_not {h = Fail failure} r =
      let x = r.how in
      let fewer = x.fewer in
      let a = x.on in
      let b = x.within in
      record { how = record { how = record { same = link on x.same; moved = omega arith; far = omega arith; text = text } } }
  resumes_not {h = Stop k} r = record { how = record { how = link on r.how } }

-- a control is no `Absent`
abbrev pub Present : Tree → Type 0
Present t = kind_of t ≡ NodeKind.Absent → ⊥

pub control_held : (low : Depth) (k : ℕ) (q : List Error) (ts : List ℕ) → Holds Present (control_flow low k q ts)
unfolding control_flow
control_held low k q ts =
    k_if _ (λ _. k_any q (try_label q ts) λ l q₁ r. k_ok (λ e. omega arith)) λ _. k_if _
    (λ _. k_any q (try_label q ts) λ l q₁ r. k_any q₁ (control_value low q₁ r) λ e q₂ s. k_ok (λ e. omega arith))
    (λ _. k_any q (control_value low q ts) λ e q₁ r. k_ok (λ e. omega arith))
