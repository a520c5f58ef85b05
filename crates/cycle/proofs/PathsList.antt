-- The places of a statement list and the list (grammar's Reading/Stmt.antt), one step each, as the code goes: an equation for each way through a reading. Assumes nothing.
use mathlib.Core.Path.{◌≡◌, refl, sym, ap, ◌∙◌}
use mathlib.Core.Bool.{true, false}
use mathlib.Core.List.{List, [], ◌∷◌, ◌++◌, append_assoc, append-nil}
use Prim.Native.Nat.{ℕ, ◌+◌, ◌*◌, ◌-◌, ◌≤◌}
use native.Mathlib.Omega.{arith}
use borrow.Author.Tests.{ne_eqb}
use lib.Dec.{eqb}
use lib.ListN.{length, take, drop, length-drop}
use Rattle.token.specs.Kind
use Rattle.token.specs.Look.{seen_word}
use Rattle.token.specs.declared.Token.{Token}
use Rattle.tree.specs.Tree.{Tree, Forest, none, more, one, snoc, count, records, all_records}
use Rattle.tree.specs.Records.{Small}
use Rattle.tree.specs.Node
use Rattle.grammar.specs.Reading.Result.{Res, ok, bad, fail, stop, unclean, either, then, ifb, push, pop, Error}
use Rattle.grammar.specs.Reading.Look.{looked, look}
use Rattle.grammar.specs.Reading.Expr.{Depth, Stmts}
use Rattle.grammar.specs.Reading.Block.{whole, split_before, split_last, split}
use Rattle.grammar.specs.Reading.Stmt.{ends, is_control, control_flow, control_last, synchronized, stmt, caught, stmts}
use Rattle.grammar.specs.Reading.Depth.{at_depth}
use Rattle.grammar.proofs.Laws.Levels.Nonterminals.{stmt_leveled, depth_levels}
use Rattle.grammar.proofs.Laws.Keep.{Holds, Keep, k_ok, k_fail, k_stop, k_all, k_unclean, k_on, k_any, k_or, k_if}
use Rattle.scan.specs.Post.{As, no_words, Failed, Wrote, Crosses, Taken, Queues}
use Rattle.cycle.specs.Parts.{Which, control_kind, Place, a_stmt, a_control, a_caught, resume, turn, control_words}
use Rattle.cycle.specs.declared.Control.{Control}
use Rattle.nodes.specs.Ends.{Marked, statement, no_statement}
use Rattle.nodes.specs.Lists.{Ends, keeps, gives}
use Rattle.cycle.specs.Lists.{Controlled, Enters}
use Rattle.std.proofs.Common.{Ok, Err, Option, Some, None}
use Rattle.scan.specs.declared.Cursor.{Cursor}
use Rattle.scan.specs.declared.Halt.{Halt}
use Rattle.scan.specs.declared.Entry.{Entry}
use Rattle.scan.specs.declared.Entry.TheVariants.{Stmt as EStmt, Control as EControl, Caught as ECaught}
use Rattle.grammar.proofs.Laws.Facts.{if_same}
use Rattle.nodes.proofs.Algebra.{then_ok, then_then, then_either, then_if, then_same, either_same}
use Rattle.scan.proofs.Laws.{kept_won, Looks, goes, fails, elsewhere, prefix}
use Rattle.scan.proofs.Looking.{counted}
use Rattle.scan.proofs.Text.{left}
use Rattle.scan.proofs.Waiting.{other}
use Rattle.cycle.proofs.Shapes.{given}
use Rattle.cycle.proofs.PathsControl.{control_held, Present}

-- A PLACE of a list
abbrev pub control_go : Depth → ℕ → ℕ → Tree → List Error → List ℕ → Res Place
control_go low end k c q r = then q (control_last end k q r) λ u q₂ s. ok (a_control c) s

abbrev pub stmt_go : Tree → List Error → List ℕ → Res Place
stmt_go t q r = ok (a_stmt t) r

which_some : {k : ℕ} {w : Option Control} {control : Control} → w ≡ Some control → Which k w → (is_control k ≡ true) × (k ≡ control_kind control)
which_some e h = rw e at h.how

which_none : {k : ℕ} (w : Option Control) → ((control : Control) → w ≡ Some control → ⊥) → Which k w → is_control k ≡ false
which_none None e h = h.how
which_none (Some control) e h = absurd (e control refl)

module _ (low : Depth) (end k : ℕ) (rest : List ℕ) (q : List Error) (ts : List ℕ) {w : Option Control} (which : Which k w) where
  pub turn_control : {control : Control} → w ≡ Some control → turn low end k rest q ts ≡ either q (control_flow low (control_kind control) q rest) (control_go low end k) (resume low)
  unfolding turn ifb
  turn_control e =
      let (one, is) = which_some e which in
      rw one (ap (λ (j : ℕ). either q (control_flow low j q rest) (control_go low end k) (resume low)) is)

  pub turn_stmt : ((control : Control) → w ≡ Some control → ⊥) → turn low end k rest q ts ≡ either q (stmt low q ts) stmt_go (resume low)
  unfolding turn ifb
  turn_stmt e = rw (which_none w e which)

-- the words left where an error was caught hold a token
abbrev pub Two : {A : Type 0} → Res A → Type 0
Two d = Keep (λ r. 2 ≤ length r) (λ e r. Unit {0}) d

two_pop : {A : Type 0} (q : List Error) (r : List ℕ) → Two {A = A} (pop q r)
unfolding pop
two_pop [] r = k_fail tt
two_pop (e ∷ q) r = k_fail tt

synced_two : (q : List Error) (ts : List ℕ) → Two (synchronized q ts)
unfolding synchronized look either unclean
synced_two q [] = k_unclean q (two_pop q [])
synced_two q (w ∷ []) = k_unclean q (two_pop q (w ∷ []))
synced_two q (w ∷ (v ∷ r)) = by (looked q r (seen_word w v))
  where
    by : (d : Res Token) → Two {A = Unit {0}} (either q d (λ tok q₁ rest. ifb (eqb tok.kind Kind.EOF) (λ _. pop q (w ∷ (v ∷ r))) (λ _. ok tt (w ∷ (v ∷ r)))) (λ e q₁ r. pop q₁ r))
    by (ok tok s) = k_if _ (λ _. two_pop q (w ∷ (v ∷ r))) (λ _. k_ok (omega arith))
    by (bad tok q₁ s) = k_unclean q₁ (k_if _ (λ _. two_pop q (w ∷ (v ∷ r))) (λ _. k_ok (omega arith)))
    by (fail e q₁ s) = k_unclean q₁ (two_pop q₁ s)
    by (stop n) = k_stop

pub caught_two : (low : Depth) (e : ℕ) (q : List Error) (ts : List ℕ) → Two (caught low e q ts)
unfolding caught push
caught_two low e q ts = k_if _ (λ _. k_fail tt) (λ _. k_if _ (λ _. k_stop) (λ _. k_unclean _ (k_on {M = λ a r. Unit {0}} _ (k_all (λ a r. tt) (λ e r. tt) _) λ u q₂ r i. synced_two q₂ r)))

two_at : {A : Type 0} {d : Res A} {q q' : List Error} {u : A} (T : List ℕ) (p : ℕ) → Two d → As q d q' (ok u (drop p T)) → p + 2 ≤ length T
two_at {q = q} T p t a =
    let h = kept_won q t a.is in
    let l : length (drop p T) ≡ length T - p = length-drop p T in
    omega arith

-- an error of a place was caught
pub record Catching (n m pos at p : ℕ) (Q₀ Q : List ℕ) : Type 0 where
  pub on : pos ≤ p
  pub far : pos + 2 ≤ p + (pos + 2 + 1 - n)
  pub more : length Q₀ ≤ length Q
  pub room : at ≤ m

module _ {D : Res Place} {d : Res (Unit {0})} {T : List ℕ} {pos n at p : ℕ} {S₀ Q₀ S Q S' Q' : List ℕ} (on : As Q₀ D Q (then Q d (λ u q r. ok a_caught r))) (text : take at S ≡ take at S₀) (c : Catching (length T) (length S) pos at p Q₀ Q) where
  pub catches : {p' : ℕ} → Crosses d T p at S Q S' Q' (Ok p') → Two d → Enters D T pos n at S₀ Q₀ S' Q' (Ok (ECaught p'))
  catches {p'} h two =
      let x = h.how in
      let m = x.moved in
      let l = two_at T p' two x.same in
      record { how = record { what = tt; same = goes _ on x.same; moved = omega arith; room = omega arith; text = prefix x c.room ∙ text ∙ sym (append-nil (take at S₀)) } }

  pub catches_not : {h : Halt} → Crosses d T p at S Q S' Q' (Err h) → Enters D T pos n at S₀ Q₀ S' Q' (Err h)
  catches_not f = record { how = fails _ on f.how text (omega arith) }

-- a control was read, and what must stand behind it
pub control_text : (n : ℕ) (c : Tree) (X : List ℕ) {Y Z : List ℕ} → Z ≡ Y ++ records c → Y ≡ X ++ (1 + 256 * n) ∷ 0 ∷ [] → Z ≡ X ++ control_words n c
control_text n c X e h = e ∙ ap (λ (l : List ℕ). l ++ records c) h ∙ append_assoc X ((1 + 256 * n) ∷ 0 ∷ []) (records c)

pub record HeldAt (pos at p a : ℕ) (Q₀ Q : List ℕ) : Type 0 where
  pub on : pos + 2 ≤ p
  pub more : length Q₀ ≤ length Q
  pub up : at ≤ a
  pub room : a + 8 * pos ≤ at + 8 * p

module _ {D : Res Place} {d : Res (Unit {0})} {T : List ℕ} {pos n at p a : ℕ} {S₀ Q₀ S Q Q' : List ℕ} (t : Tree)
    (on : As Q₀ D Q (then Q d λ u q₂ s. ok (a_control t) s)) (some : Present t) (text : take a S ≡ take at S₀ ++ control_words n t) (before : take at S ≡ take at S₀) (c : HeldAt pos at p a Q₀ Q) where
  pub closes : {p' : ℕ} → Queues d T p Q Q' (Ok p') → Enters D T pos n at S₀ Q₀ S Q' (Ok (EControl (record { pos = p'; at = a })))
  closes h =
      let x = h.how in
      let m = x.moved in
      record { how = record { run = record { what = t; same = goes _ on x.same; moved = omega arith; room = omega arith; text = text }; held = some } }

  pub closes_not : {h : Halt} → Queues d T p Q Q' (Err h) → Enters D T pos n at S₀ Q₀ S Q' (Err h)
  closes_not f = record { how = fails {at₁ = at} _ on (elsewhere S f.how) before (omega arith) }

-- A LIST
-- how a list goes on from a place
abbrev pub place_go : Depth → ℕ → ℕ → Forest → Place → List Error → List ℕ → Res Stmts
place_go low end n f (a_stmt t) q r = stmts low end n (snoc f t) q r
place_go low end n f (a_control c) q r = ok (record { suite = f; control = c }) r
place_go low end n f a_caught q r = stmts low end n f q r

module _ (low : Depth) (end : ℕ) (f : Forest) (q : List Error) where
  stmts_turns : (n k : ℕ) (rest ts : List ℕ) → then q (turn low end k rest q ts) (place_go low end n f)
      ≡ ifb (is_control k)
      (λ _. either q (control_flow low k q rest) (λ c q₂ r. then q₂ (control_last end k q₂ r) λ u q₃ s. ok (record { suite = f; control = c }) s) (λ e q₂ r. then q₂ (caught low e q₂ r) λ u q₃ s. stmts low end n f q₃ s))
      (λ _. either q (stmt low q ts) (λ t q₂ r. stmts low end n (snoc f t) q₂ r) (λ e q₂ r. then q₂ (caught low e q₂ r) λ u q₃ s. stmts low end n f q₃ s))
  unfolding turn
  stmts_turns n k rest ts =
      then_if q (is_control k) _ _ _ ∙ if_same (is_control k)
      (λ _. then_either q (control_flow low k q rest) _ _ _ ∙ either_same q (control_flow low k q rest) (λ c q₂ r. then_then q₂ (control_last end k q₂ r) _ _ ∙ then_same q₂ (control_last end k q₂ r) (λ u q₃ s. then_ok q₃ (place_go low end n f))) (λ e q₂ r. after e q₂ r))
      (λ _. then_either q (stmt low q ts) _ _ _ ∙ either_same q (stmt low q ts) (λ t q₂ r. then_ok q₂ (place_go low end n f)) (λ e q₂ r. after e q₂ r))
    where
      after : (e : ℕ) (q₂ : List Error) (r : List ℕ) → then q₂ (resume low e q₂ r) (place_go low end n f) ≡ then q₂ (caught low e q₂ r) (λ u q₃ s. stmts low end n f q₃ s)
      after e q₂ r = then_then q₂ (caught low e q₂ r) _ _ ∙ then_same q₂ (caught low e q₂ r) (λ u q₃ s. then_ok q₃ (place_go low end n f))

  abbrev stmts_on : ℕ → List ℕ → Token → List Error → List ℕ → Res Stmts
  stmts_on n ts tok q₁ rest =
      ifb (eqb tok.kind Kind.Semicolon) (λ _. stmts low end n f q rest) λ _.
      ifb (ends end tok.kind) (λ _. ok (record { suite = f; control = Node.absent }) ts) λ _.
      ifb (is_control tok.kind)
      (λ _. either q (control_flow low tok.kind q rest) (λ c q₂ r. then q₂ (control_last end tok.kind q₂ r) λ u q₃ s. ok (record { suite = f; control = c }) s) (λ e q₂ r. then q₂ (caught low e q₂ r) λ u q₃ s. stmts low end n f q₃ s))
      (λ _. either q (stmt low q ts) (λ t q₂ r. stmts low end n (snoc f t) q₂ r) (λ e q₂ r. then q₂ (caught low e q₂ r) λ u q₃ s. stmts low end n f q₃ s))

  stmts_step : (fuel : ℕ) (ts : List ℕ) → length ts ≤ fuel → stmts low end fuel f q ts ≡ then q (look q ts) (stmts_on (fuel - 1) ts)
  unfolding stmts
  stmts_step fuel ts h = counted q ts (λ n. stmts low end n f q ts) (λ n. stmts_on n ts) refl (λ n. refl) fuel h

  pub stmts_looks : (T : List ℕ) (fuel p : ℕ) → length T ≤ p + fuel → Looks q (drop p T) (stmts low end fuel f q (drop p T))
  stmts_looks T fuel p enough = record { go = _; is = stmts_step fuel (drop p T) (left T p fuel enough) }

  module _ {T : List ℕ} (fuel p : ℕ) (enough : length T ≤ p + fuel) {k n v : ℕ} (at : Taken T p k n v) where
    stmts_taken : stmts low end fuel f q (drop p T) ≡ stmts_on (fuel - 1) (drop p T) (record { kind = k; newline = n; value = v }) q (drop (p + 2) T)
    unfolding then
    stmts_taken = stmts_step fuel (drop p T) (left T p fuel enough) ∙ rw at.same

    pub stmts_semi : k ≡ Kind.Semicolon → stmts low end fuel f q (drop p T) ≡ stmts low end (fuel - 1) f q (drop (p + 2) T)
    unfolding ifb
    stmts_semi e = stmts_taken ∙ rw e

    pub stmts_end : (k ≡ Kind.Semicolon → ⊥) → ends end k ≡ true → stmts low end fuel f q (drop p T) ≡ ok (record { suite = f; control = Node.absent }) (drop p T)
    unfolding ifb
    stmts_end e h = stmts_taken ∙ rw (ne_eqb _ _ e, h)

    stmts_past : (k ≡ Kind.Semicolon → ⊥) → ends end k ≡ false → stmts_on (fuel - 1) (drop p T) (record { kind = k; newline = n; value = v }) q (drop (p + 2) T)
        ≡ ifb (is_control k)
        (λ _. either q (control_flow low k q (drop (p + 2) T)) (λ c q₂ r. then q₂ (control_last end k q₂ r) λ u q₃ s. ok (record { suite = f; control = c }) s) (λ e q₂ r. then q₂ (caught low e q₂ r) λ u q₃ s. stmts low end (fuel - 1) f q₃ s))
        (λ _. either q (stmt low q (drop p T)) (λ t q₂ r. stmts low end (fuel - 1) (snoc f t) q₂ r) (λ e q₂ r. then q₂ (caught low e q₂ r) λ u q₃ s. stmts low end (fuel - 1) f q₃ s))
    stmts_past e h = other _ _ (ne_eqb _ _ e) ∙ other _ _ h

    pub stmts_turn : (k ≡ Kind.Semicolon → ⊥) → ends end k ≡ false → stmts low end fuel f q (drop p T) ≡ then q (turn low end k (drop (p + 2) T) q (drop p T)) (place_go low end (fuel - 1) f)
    stmts_turn e h = stmts_taken ∙ stmts_past e h ∙ sym (stmts_turns (fuel - 1) k (drop (p + 2) T) (drop p T))

-- what a place came to
module _ {D : Res Place} {T : List ℕ} {pos n at : ℕ} {S Q S' Q' : List ℕ} where
  pub was_stmt : {e : Entry} {c : Cursor} → e ≡ EStmt c → Enters D T pos n at S Q S' Q' (Ok e) → Wrote records D (λ t q r. ok (a_stmt t) r) T pos (pos + 2) 14 at S Q c.pos c.at S' Q'
  was_stmt i h = rw i at h.how

  pub was_control : {e : Entry} {c : Cursor} → e ≡ EControl c → Enters D T pos n at S Q S' Q' (Ok e) → Controlled D T pos n at S Q c.pos c.at S' Q'
  was_control i h = rw i at h.how

  pub was_caught : {e : Entry} {p : ℕ} → e ≡ ECaught p → Enters D T pos n at S Q S' Q' (Ok e) → Wrote {A = Unit {0}} no_words D (λ u q r. ok a_caught r) T pos (pos + 2) 8 at S Q p at S' Q'
  was_caught i h = rw i at h.how

  pub was_not : {h : Halt} → Enters D T pos n at S Q S' Q' (Err h) → Failed D T pos pos at S Q S' Q' h
  was_not f = f.how

-- a statement of a place is small
abbrev SmallPlace : Place → Type 0
SmallPlace (a_stmt t) = Small t
SmallPlace (a_control t) = Unit {0}
SmallPlace a_caught = Unit {0}

turn_small : (d end k : ℕ) (rest : List ℕ) (q : List Error) (ts : List ℕ) → Holds SmallPlace (turn (at_depth d) end k rest q ts)
unfolding turn
turn_small d end k rest q ts =
    k_if _
    (λ _. k_or q (control_held (at_depth d) k q rest) (λ c q₁ r x. k_any q₁ (control_last end k q₁ r) λ u q₂ s. k_ok tt) (λ e q₁ r u. k_any q₁ (caught (at_depth d) e q₁ r) λ u q₂ s. k_ok tt))
    (λ _. k_or q (stmt_leveled (at_depth d) (depth_levels d) q ts) (λ t q₁ r x. k_ok x.small) (λ e q₁ r u. k_any q₁ (caught (at_depth d) e q₁ r) λ u q₂ s. k_ok tt))

pub place_small : (d end k : ℕ) (rest : List ℕ) (q : List Error) (ts : List ℕ) {q' : List Error} {r : List ℕ} {t : Tree} → As q (turn (at_depth d) end k rest q ts) q' (ok (a_stmt t) r) → Small t
place_small d end k rest q ts a = given (turn_small d end k rest q ts) a

-- the end of a list's statements
split_snoc : (f : Forest) (t : Tree) → split_last t ≡ whole (one t) → split (snoc f t) ≡ whole (snoc f t)
unfolding split snoc split_before
split_snoc none t e = e
split_snoc (more u none) t e = ap (split_before u) e
split_snoc (more u (more v f)) t e = ap (split_before u) (split_snoc (more v f) t e)

pub split_none : split none ≡ whole none
unfolding split
split_none = refl

pub next_ends : {a at : ℕ} {last : Option ℕ} (f : Forest) {t : Tree} → Marked t a last → a ≡ at + length (all_records f) → Ends (snoc f t) at last
next_ends f (statement {v} {e} i r) h = gives f v e (ap (snoc f) i) (r ∙ ap Some h)
next_ends f {t} (no_statement i r) h = keeps (split_snoc f t i) r

-- a list with its control
pub held_text : (f : Forest) (c : Tree) {n : ℕ} (X : List ℕ) {Y Z : List ℕ} → Z ≡ Y ++ control_words n c → Y ≡ X ++ all_records f → count f ≡ n → Z ≡ X ++ (records (Node.list f) ++ records c)
unfolding records
held_text f c X e h i = e ∙ rw (h, ← i, append_assoc, append_assoc)
