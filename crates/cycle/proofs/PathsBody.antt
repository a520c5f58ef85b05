-- Statement lists that are ended (grammar's Reading/Block.antt): the token behind a list, where a list may be ended, and how a reading goes on from one that was. Assumes nothing.
use mathlib.Core.Path.{◌≡◌, refl, sym, ap, ◌∙◌}
use mathlib.Core.List.{List, [], ◌∷◌, ◌++◌, append_assoc}
use Prim.Native.Nat.{ℕ, ◌+◌, ◌*◌, ◌-◌, ◌≤◌}
use native.Mathlib.Omega.{arith}
use lib.ListN.{length, take, drop, length-append}
use lib.Seq.{length-take-le}
use Rattle.tree.specs.NodeKind
use Rattle.tree.specs.Tree.{Tree, Forest, node, one, count, records, all_records}
use Rattle.grammar.specs.Reading.Result.{Res, ok, then, Error}
use Rattle.grammar.specs.Reading.Look.{look}
use Rattle.grammar.specs.Reading.Expr.{Depth, Stmts}
use Rattle.grammar.specs.Reading.Block.{body}
use Rattle.scan.specs.Post.{As, clean, Failed, Wrote, Agrees}
use Rattle.nodes.specs.Lists.{Ends, keeps, gives, Closable, Unders}
use Rattle.cycle.specs.Lists.{Lists}
use Rattle.std.proofs.Common.{Result, Ok, Err, Option, Some}
use Rattle.scan.specs.Lists.{Passes}
use Rattle.scan.specs.declared.Cursor.{Cursor}
use Rattle.scan.specs.declared.Halt.{Halt}
use Rattle.scan.specs.declared.Listed.{Listed}
use Rattle.scan.specs.declared.Listed.TheVariants.{Suite, Control}
use Rattle.scan.proofs.Laws.{way, goes, fails, lacks, Later, prefix, relabel}
use Rattle.scan.proofs.Text.{up_of}
use Rattle.nodes.proofs.Made.{all_snoc, count_snoc}
use Rattle.cycle.proofs.Writing.{words_some}

-- the token behind a list
body_step : (low : Depth) (q : List Error) (ts : List ℕ) → body low q ts ≡ then q (low.list 0 q ts) (λ s q₁ r. then q₁ (look q₁ r) λ tok q₂ rest. ok s rest)
unfolding body
body_step low q ts = refl

went : (low : Depth) (T : List ℕ) (pos : ℕ) (Q : List ℕ) {x : Stmts} {q : List Error} {r : List ℕ} → As Q (low.list 0 Q (drop pos T)) q (ok x r) → As Q (body low Q (drop pos T)) q (then q (look q r) λ tok q₂ rest. ok x rest)
went low T pos Q s = goes _ (way _ (body_step low Q (drop pos T))) s

module _ (low : Depth) {T : List ℕ} {pos at : ℕ} {S Q S' Q' : List ℕ} (whole : at ≤ length S) where
  pub passes_lists : (l : Listed) (r : Result Listed Halt) → Lists (low.list 0 Q (drop pos T)) T pos 8 at S Q S' Q' (Ok l) → Passes T l r → Lists (body low Q (drop pos T)) T pos 24 at S Q S' Q' r
  passes_lists (Suite suite) (Ok on) h f =
      let by = f.how.1 in
      let s = h.how in
      let g = s.run in
      let m = g.moved in
      let o = g.room in
      let short = s.short in
      let x = by.taken.within in
      rw by.is (record { how = record { run = relabel g g.what refl (goes _ (went low T pos Q g.same) (way _ (by.taken.same _))) (omega arith) (omega arith); plain = s.plain; many = s.many; short = omega arith; ends = s.ends } })
  passes_lists (Control end) (Ok on) h f =
      let by = f.how.1 in
      let s = h.how in
      let g = s.run in
      let m = g.moved in
      let o = g.room in
      let x = by.taken.within in
      rw by.is (record { how = record { run = relabel g g.what refl (goes _ (went low T pos Q g.same) (way _ (by.taken.same _))) (omega arith) (omega arith); held = s.held } })
  passes_lists (Suite suite) (Err e) h u =
      let g = h.how.run in
      let m = g.moved in
      record { how = lacks _ u.how (went low T pos Q g.same) (prefix g whole) (omega arith) }
  passes_lists (Control end) (Err e) h u =
      let g = h.how.run in
      let m = g.moved in
      record { how = lacks _ u.how (went low T pos Q g.same) (prefix g whole) (omega arith) }

  -- where there was no list
  pub no_list : {h : Halt} → Lists (low.list 0 Q (drop pos T)) T pos 8 at S Q S' Q' (Err h) → Lists (body low Q (drop pos T)) T pos 24 at S Q S' Q' (Err h)
  no_list f = record { how = fails _ (way _ (body_step low Q (drop pos T))) f.how refl (omega arith) }

-- a list may be ended, where so much room is left
pub record Closes (n m m' pos at slack most : ℕ) : Type 0 where
  pub few : n ≤ 131072
  pub start : at ≤ m
  pub kept : m' ≡ m
  pub room : at + 8 * (n - pos) + most + 8 ≤ m + slack

ends_some : {f : Forest} {at a n from : ℕ} {last : Option ℕ} (S S' : List ℕ) → at ≤ length S → Ends f at last → take a S' ≡ take at S ++ all_records f → count f ≡ n → last ≡ Some from → (from + 2 ≤ a) × (1 ≤ n)
ends_some S S' h (keeps s e) x c b = absurd (let z : ◌≡◌ {A = ℕ} 0 1 = cc in omega arith)
ends_some {f} {at} {a} {n} {from} S S' h (gives g v e i j) x c b =
    let k : at + length (all_records g) ≡ from = cc in
    let t : Tree = node NodeKind.Expression v (one e) in
    let l = up_of S S' (all_records f) at a x h in
    let o : length (all_records f) ≡ length (all_records g) + length (records t) = ap (λ (z : Forest). length (all_records z)) i ∙ ap length (all_snoc g t) ∙ length-append (all_records g) (records t) in
    let u : 2 ≤ length (records t) = words_some t in
    let d : count f ≡ count g + 1 = ap count i ∙ count_snoc g t in
    (omega arith, omega arith)

pub closable : {d : Res Stmts} {T : List ℕ} {pos slack at most : ℕ} {S Q S' Q' : List ℕ} (l : Listed) → Lists d T pos slack at S Q S' Q' (Ok l) → Closes (length T) (length S) (length S') pos at slack most → Closable (length S') most l
closable {S = S} {S' = S'} (Suite suite) h c =
    let s = h.how in
    let g = s.run in
    let m = g.moved in
    let o = g.room in
    let short = s.short in
    record { how = record { room = omega arith; few = omega arith; some = ends_some S S' c.start s.ends g.text s.many } }
closable (Control end) h c =
    let g = h.how.run in
    let m = g.moved in
    let o = g.room in
    record { how = omega arith }

-- the list d, which D goes on from, was ended: from where D begins (pos₀, ..) to where the list does (pos, ..)
pub record UnderFrom (m pos₀ least₀ slack₀ at₀ pos slack at most : ℕ) (Q₀ Q : List ℕ) : Type 0 where
  pub within : at ≤ m
  pub pos_le : pos₀ ≤ pos
  pub least_le : least₀ ≤ pos
  pub at_le : at₀ ≤ at
  pub w_le : length Q₀ ≤ length Q
  pub room : at + most + 8 * pos₀ + slack₀ ≤ at₀ + 8 * pos + slack

module _ {A : Type 0} {words : A → List ℕ} {D : Res A} {d : Res Stmts} {T : List ℕ} {pos₀ least₀ slack₀ at₀ : ℕ} {S₀ Q₀ : List ℕ} {pos slack at : ℕ} {S Q S' Q' S'' : List ℕ} {most : ℕ} (make : Stmts → A) (Y : List ℕ) where
  -- the list was read and ended
  finish : {words₁ : Stmts → List ℕ} {p b p' b' : ℕ} (Z : Stmts → List ℕ) → As Q₀ D Q (then Q d (λ s q r. ok (make s) r)) → take at S ≡ take at₀ S₀ ++ Y → ((s : Stmts) → words (make s) ≡ Y ++ Z s) → UnderFrom (length S) pos₀ least₀ slack₀ at₀ pos slack at most Q₀ Q
      → (g : Wrote words₁ d clean T pos pos slack at S Q p b S' Q') → p' ≡ p → b ≤ b' → b' ≤ b + most → take b' S'' ≡ take at S ++ Z g.what → Wrote words D clean T pos₀ least₀ slack₀ at₀ S₀ Q₀ p' b' S'' Q'
  finish Z a y is n g e up far t =
      let m = g.moved in
      let o = g.room in
      record { what = make g.what; same = rw e (goes _ a g.same); moved = omega arith; room = omega arith; text = t ∙ ap (λ (l : List ℕ). l ++ Z g.what) y ∙ append_assoc (take at₀ S₀) Y (Z g.what) ∙ ap (λ (l : List ℕ). take at₀ S₀ ++ l) (sym (is g.what)) }

  pub under : {tree : Stmts → Tree} {word value : ℕ} {l : Listed} {r : Cursor} → Lists d T pos slack at S Q S' Q' (Ok l) → Unders tree word value most S' S'' l r → As Q₀ D Q (then Q d (λ s q r. ok (make s) r)) → take at S ≡ take at₀ S₀ ++ Y → ((s : Stmts) → words (make s) ≡ Y ++ (records (tree s) ++ word ∷ value ∷ []))
      → UnderFrom (length S) pos₀ least₀ slack₀ at₀ pos slack at most Q₀ Q → Agrees words D T pos₀ least₀ slack₀ at₀ S₀ Q₀ S'' Q' (Ok r)
  under {tree} {word} {value} {l = Suite suite} h u a y is n =
      let s = h.how in
      let v = u.how in
      let l : length (take at S) ≡ at = length-take-le at S n.within in
      let z : Ends s.run.what.suite (length (take at S)) suite.last = rw l s.ends in
      record { how = finish (λ s. records (tree s) ++ word ∷ value ∷ []) a y is n s.run v.stays v.up v.far (v.text s.run.what (take at S) (record { text = s.run.text; plain = s.plain; many = s.many; ends = z })) }
  under {tree} {word} {value} {l = Control end} h u a y is n =
      let s = h.how in
      let v = u.how in
      record { how = finish (λ s. records (tree s) ++ word ∷ value ∷ []) a y is n s.run v.stays v.up v.far (v.text s.run.what (take at S) (record { text = s.run.text; held = s.held })) }

-- there was no list
pub unlisted : {A : Type 0} {D : Res A} {d : Res Stmts} {T : List ℕ} {pos₀ least₀ at₀ : ℕ} {S₀ Q₀ : List ℕ} {pos slack at : ℕ} {S Q S' Q' : List ℕ} {h : Halt} (k : Stmts → List Error → List ℕ → Res A) → Lists d T pos slack at S Q S' Q' (Err h) → As Q₀ D Q (then Q d k) → take at₀ S ≡ take at₀ S₀ → Later pos₀ least₀ at₀ pos pos at Q₀ Q → Failed D T pos₀ least₀ at₀ S₀ Q₀ S' Q' h
unlisted k f a x l = fails k a f.how x l
