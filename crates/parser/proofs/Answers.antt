-- What `next_stmt` answers, way by way. Assumes nothing.
use mathlib.Core.Path.{◌≡◌, refl, sym, ap, ◌∙◌}
use mathlib.Core.List.{List, [], ◌∷◌, ◌++◌}
use mathlib.Core.Bool.{Bool, true, false, not, ◌&&◌, ◌||◌}
use Prim.Native.Nat.{ℕ, ◌+◌, ◌-◌, ◌*◌, ◌/◌, ◌%◌, ◌≤◌, ◌<◌}
use native.Mathlib.Nat.{sub-zero}
use native.Mathlib.Omega.{arith}
use borrow.Author.Tests.{lt-ltb, le-ltb, ltb-false}
use lib.Dec.{eqb, ltb}
use lib.ListN.{length, take, drop, replicate, length-drop}
use lib.Seq.{length-take-le, take_all}
use Rattle.tree.specs.Tree.{Tree, records}
use Rattle.grammar.specs.Reading.Limit.{depth_limit, length_limit, queue_limit, store_share, malformed, bad_reader, short_store}
use Rattle.grammar.specs.Reading.Result.{Res, ok, bad, fail, stop, ifb, Error}
use Rattle.grammar.specs.Reading.Next.{is_stop, queue_fits, reader_at, Called, bare, halted, error_kind, error_answer, tree_called, called, answered, next_stmt, next}
use Rattle.grammar.proofs.Laws.Progress.{next_keeps}
use Rattle.grammar.proofs.Laws.Keep.{Keep}
use Rattle.grammar.specs.declared.ErrorKind.{ErrorKind}
use Rattle.grammar.specs.declared.Answer.{Answer}
use Rattle.grammar.specs.declared.Answer.TheVariants.{Tree as ATree, Error as AError, Refused, Stopped}
use Rattle.grammar.specs.declared.Reader.{Reader}
use Rattle.grammar.specs.declared.Stepped.{Stepped}
use Rattle.scan.specs.declared.Failure.{Failure}
use Rattle.scan.specs.Post.{Out, won, lost, out, clean, Lost, Wrote}
use Rattle.scan.proofs.Laws.{kept_won, kept_lost}
use Rattle.scan.proofs.Waiting.{chosen, other}

-- THE TESTS OF A CALL, in their order
or_no : (a b : Bool) → (a || b) ≡ false → (a ≡ false) × (b ≡ false)
or_no true b e = absurd (let z : ◌≡◌ {A = ℕ} 0 1 = cc in omega arith)
or_no false b e = (refl, e)

pub record Fit (R : Reader) (n : ℕ) : Type 0 where
  pub within : R.position ≤ n
  pub few : R.waiting ≤ queue_limit

refused : (a b : Bool) (x : Called) (y : Unit {0} → Called) → (not a && b) ≡ false → ifb a (λ _. x) (λ _. ifb b y (λ _. x)) ≡ x
unfolding ifb
refused true b x y e = refl
refused false true x y e = absurd (let z : ◌≡◌ {A = ℕ} 0 1 = cc in omega arith)
refused false false x y e = refl

accepted : (a b : Bool) (x : Called) (y : Unit {0} → Called) → (not a && b) ≡ true → ifb a (λ _. x) (λ _. ifb b y (λ _. x)) ≡ y tt
unfolding ifb
accepted true b x y e = absurd (let z : ◌≡◌ {A = ℕ} 0 1 = cc in omega arith)
accepted false true x y e = refl
accepted false false x y e = absurd (let z : ◌≡◌ {A = ℕ} 0 1 = cc in omega arith)

not_both : (a b : Bool) → (not a && b) ≡ true → a ≡ false
not_both true b e = absurd (let z : ◌≡◌ {A = ℕ} 0 1 = cc in omega arith)
not_both false b e = refl

module _ (R : Reader) (T : List ℕ) (m : ℕ) where
  abbrev pub no_sheet : Bool
  no_sheet = eqb (length T % 2) 1 || ltb (2 * length_limit) (length T)

  abbrev pub no_place : Bool
  no_place = ltb (length T / 2) R.position || ltb queue_limit R.waiting

  abbrev pub whole : Bool
  whole = is_stop R.stopped && queue_fits R.waiting R.errors

  abbrev reads : Called
  reads = called (length T / 2) m R.position (next depth_limit [] (drop (2 * R.position) T))

  abbrev room : Called
  room = ifb (ltb m (store_share * (length T / 2 - R.position))) (λ _. bare m (Refused short_store) R) (λ _. reads)

  abbrev waits : Called
  waits = ifb (ltb 0 R.waiting) (λ _. answered m R (take R.waiting R.errors)) (λ _. room)

  abbrev goes : Called
  goes = ifb (ltb 0 R.stopped) (λ _. bare m (Stopped R.stopped) R) (λ _. waits)

  pub step_malformed : no_sheet ≡ true → next_stmt R T m ≡ halted m R.position malformed
  unfolding next_stmt
  step_malformed e = chosen _ _ e

  module _ (s : no_sheet ≡ false) where
    pub step_refused : (not no_place && whole) ≡ false → next_stmt R T m ≡ bare m (Refused bad_reader) R
    unfolding next_stmt
    step_refused e = other _ _ s ∙ refused no_place whole _ _ e

    module _ (k : (not no_place && whole) ≡ true) where
      pub a_reader : Fit R (length T / 2)
      a_reader = let (a, b) = or_no _ _ (not_both no_place whole k) in record { within = ltb-false _ _ a; few = ltb-false _ _ b }

      step_goes : next_stmt R T m ≡ goes
      unfolding next_stmt
      step_goes = other _ _ s ∙ accepted no_place whole _ _ k

      pub step_stopped : 0 < R.stopped → next_stmt R T m ≡ bare m (Stopped R.stopped) R
      step_stopped h = step_goes ∙ chosen _ _ (lt-ltb _ _ h)

      module _ (z : R.stopped ≤ 0) where
        pub step_waiting : 0 < R.waiting → next_stmt R T m ≡ answered m R (take R.waiting R.errors)
        step_waiting h = step_goes ∙ other _ _ (le-ltb _ _ z) ∙ chosen _ _ (lt-ltb _ _ h)

        module _ (v : R.waiting ≤ 0) where
          pub step_short : m < 16 * (length T / 2 - R.position) → next_stmt R T m ≡ bare m (Refused short_store) R
          step_short h = step_goes ∙ other _ _ (le-ltb _ _ z) ∙ other _ _ (le-ltb _ _ v) ∙ chosen _ _ (lt-ltb _ _ h)

          pub step_reads : 16 * (length T / 2 - R.position) ≤ m → next_stmt R T m ≡ reads
          step_reads h = step_goes ∙ other _ _ (le-ltb _ _ z) ∙ other _ _ (le-ltb _ _ v) ∙ other _ _ (le-ltb _ _ h)

-- WHAT A CALL LEAVES
abbrev leaves : Stepped → List ℕ → Called
leaves s l = record { step = s; store = l }

abbrev stands : Answer → ℕ → List ℕ → Stepped
stands a p q = record { answer = a; reader = reader_at p q }

-- the store is cleared whole
pub bare_out : {s s' : Stepped} {X : Called} (S S' : List ℕ) (m : ℕ) → S' ≡ take 0 S ++ replicate (length S - 0) 0 → length S ≡ m → s ≡ s' → X ≡ leaves s' (replicate m 0) → leaves s S' ≡ X
bare_out {s} {s'} S S' m e k i x = ap (leaves s) (e ∙ rw (sub-zero, k)) ∙ ap (λ (t : Stepped). leaves t (replicate m 0)) i ∙ sym x

called_won : (n m p : ℕ) (d : Res Tree) {t : Tree} {q : List Error} {r : List ℕ} → out [] d ≡ won t q r → called n m p d ≡ tree_called m (n - length r / 2) (records t) q
called_won n m p (ok u s) {t} {q} {r} e =
    let a : u ≡ t = cc in
    let b : [] ≡ q = cc in
    let c : s ≡ r = cc in
    ap (λ (z : Tree). tree_called m (n - length s / 2) (records z) []) a ∙ ap (tree_called m (n - length s / 2) (records t)) b ∙ ap (λ (z : List ℕ). tree_called m (n - length z / 2) (records t) q) c
called_won n m p (bad u v s) {t} {q} {r} e =
    let a : u ≡ t = cc in
    let b : v ≡ q = cc in
    let c : s ≡ r = cc in
    rw (a, b, c)
called_won n m p (fail x v s) e = absurd (let z : ◌≡◌ {A = ℕ} 0 1 = cc in omega arith)
called_won n m p (stop k) e = absurd (let z : ◌≡◌ {A = ℕ} 0 1 = cc in omega arith)

called_lost : (n m p : ℕ) (d : Res Tree) {x : ℕ} {q : List Error} {r : List ℕ} → out [] d ≡ lost x q r → called n m p d ≡ bare m (error_answer x) (reader_at (n - length r / 2) q)
called_lost n m p (ok u s) e = absurd (let z : ◌≡◌ {A = ℕ} 0 1 = cc in omega arith)
called_lost n m p (bad u v s) e = absurd (let z : ◌≡◌ {A = ℕ} 0 1 = cc in omega arith)
called_lost n m p (fail y v s) {x} {q} {r} e =
    let a : y ≡ x = cc in
    let b : v ≡ q = cc in
    let c : s ≡ r = cc in
    rw (a, b, c)
called_lost n m p (stop k) e = absurd (let z : ◌≡◌ {A = ℕ} 0 1 = cc in omega arith)

-- whole tokens are left of whole tokens
abbrev Even : List ℕ → Type 0
Even r = length r % 2 ≡ 0

even_next : (T : List ℕ) → Even T → Keep Even (λ e. Even) (next depth_limit [] T)
even_next T i = next_keeps Even (λ w v r h. omega arith) depth_limit [] T i

place : (T : List ℕ) (x p : ℕ) → Even T → Even (drop p T) → p ≤ length T → x + length T / 2 - length (drop p T) / 2 ≡ x + p / 2
place T x p h g l = let k = length-drop p T in omega arith

module _ (T : List ℕ) (x m : ℕ) (even : Even T) {Q : List ℕ} (empty : Q ≡ []) where
  abbrev comes : Called
  comes = called (x + length T / 2) m x (next depth_limit [] T)

  -- as it was told from a queue that is empty
  from_empty : {o : Out Tree} → out Q (next depth_limit Q T) ≡ o → out [] (next depth_limit [] T) ≡ o
  from_empty e = ap (λ (q : List ℕ). out q (next depth_limit q T)) (sym empty) ∙ e

  pub lost_out : {f : Failure} {S S₁ Q₁ : List ℕ} {a : Answer} {s : Stepped} (S' : List ℕ) → Lost (next depth_limit Q T) T 0 0 0 S Q f S₁ Q₁ → S' ≡ take 0 S₁ ++ replicate (length S₁ - 0) 0 → length S₁ ≡ m → a ≡ error_answer f.error → s ≡ stands a (x + f.pos / 2) Q₁ → leaves s S' ≡ comes
  lost_out {f} {S₁ = S₁} {Q₁ = Q₁} {a = a} S' l c k n i =
      let d = next depth_limit [] T in
      let o = from_empty l.same.is in
      let y : comes ≡ bare m (error_answer f.error) (reader_at (x + f.pos / 2) Q₁) =
      called_lost (x + length T / 2) m x d o ∙ ap (λ (j : ℕ). bare m (error_answer f.error) (reader_at j Q₁)) (place T x f.pos even (kept_lost [] (even_next T even) o) l.moved.within) in
      bare_out S₁ S' m c k (i ∙ ap (λ (b : Answer). stands b (x + f.pos / 2) Q₁) n) y

  pub tree_out : {p a : ℕ} {S S₁ Q₁ : List ℕ} {s : Stepped} (S' : List ℕ) → (g : Wrote records (next depth_limit Q T) clean T 0 0 8 0 S Q p a S₁ Q₁) → S' ≡ take a S₁ ++ replicate (length S₁ - a) 0 → length S₁ ≡ m → a ≤ m → s ≡ stands (ATree (a / 2)) (x + p / 2) Q₁ → leaves s S' ≡ comes
  tree_out {p} {a} {S₁ = S₁} {Q₁ = Q₁} {s = s} S' g c k h i =
      let d = next depth_limit [] T in
      let o = from_empty g.same.is in
      let t : List ℕ = records g.what in
      let b : take a S₁ ≡ t = g.text in
      let long : a ≡ length t = sym (length-take-le a S₁ (omega arith)) ∙ ap length b in
      let y : comes ≡ leaves (stands (ATree (length t / 2)) (x + p / 2) Q₁) (t ++ replicate (m - length t) 0) =
      called_won (x + length T / 2) m x d o ∙ ap (λ (j : ℕ). tree_called m j t Q₁) (place T x p even (kept_won [] (even_next T even) o) g.moved.within) in
      ap (λ (l : List ℕ). leaves s l) (c ∙ ap (λ (l : List ℕ). l ++ replicate (length S₁ - a) 0) b ∙ ap (λ (j : ℕ). t ++ replicate (j - a) 0) k)
      ∙ ap (λ (r : Stepped). leaves r (t ++ replicate (m - a) 0)) i
      ∙ ap (λ (j : ℕ). leaves (stands (ATree (j / 2)) (x + p / 2) Q₁) (t ++ replicate (m - j) 0)) long
      ∙ sym y

-- the error that waited longest
pub front_out : {e : ℕ} {k : ErrorKind} {Q : List ℕ} {q : List Error} {s : Stepped} {X : Called} (R : Reader) (S S' : List ℕ) (m : ℕ) → S' ≡ take 0 S ++ replicate (length S - 0) 0 → length S ≡ m → X ≡ answered m R Q → Q ≡ e ∷ q → k ≡ error_kind e → s ≡ stands (AError k) R.position q → leaves s S' ≡ X
front_out {q = q} R S S' m c l x t n i = bare_out S S' m c l (i ∙ ap (λ (k : ErrorKind). stands (AError k) R.position q) n) (x ∙ ap (answered m R) t)

-- THE UNREAD TOKENS, from a position on
abbrev unread : List ℕ → ℕ → List ℕ
unread T x = take (length T - 2 * x) (drop (2 * x) T)

are_rest : (T : List ℕ) (x : ℕ) → unread T x ≡ drop (2 * x) T
are_rest T x = take_all (length T - 2 * x) (drop (2 * x) T) (rw length-drop (omega arith))

are_many : (T : List ℕ) (x : ℕ) → length (unread T x) ≡ length T - 2 * x
are_many T x = ap length (are_rest T x) ∙ length-drop (2 * x) T

pub unread_out : {c X : Called} (T : List ℕ) (x m : ℕ) → x ≤ length T / 2 → c ≡ called (x + length (unread T x) / 2) m x (next depth_limit [] (unread T x)) → X ≡ called (length T / 2) m x (next depth_limit [] (drop (2 * x) T)) → c ≡ X
unread_out T x m h e f =
    let l = are_many T x in
    let n : x + length (unread T x) / 2 ≡ length T / 2 = omega arith in
    e ∙ ap (λ (j : ℕ). called j m x (next depth_limit [] (unread T x))) n ∙ ap (λ (ts : List ℕ). called (length T / 2) m x (next depth_limit [] ts)) (are_rest T x) ∙ sym f
