-- The canonical tokens of every valid tree read back to it at a depth of its `need` or more, and at less stop with `too_deep`. Assumes nothing.
use Rattle.std.specs.Prelude.{◌≡◌, Bool, true, false, List, [], ◌∷◌, ℕ, zero, suc, ◌%◌, ◌≤◌, ◌<◌, leb, ltb, length, Some}
use Rattle.std.proofs.Math.Path.{refl}
use Rattle.std.proofs.Common.{ap, ◌∙◌, sym, true≢false, le_refl, lt_of_not-le, arith, le-leb, leb-true}
use Rattle.token.specs.Kind
use Rattle.tree.specs.Tree.{Tree, Forest, none, more, count}
use Rattle.tree.specs.Node
use Rattle.grammar.specs.Reading.Result.{ok, then, either, ifb}
use Rattle.grammar.specs.Reading.Look.{looked, look}
use Rattle.grammar.specs.Reading.Stmt as Stmt
use Rattle.grammar.specs.Reading.Depth.{at_depth}
use Rattle.grammar.specs.Reading.Next.{start, next}
use Rattle.grammar.specs.Canonical.Write.{own, write, statement, run}
use Rattle.grammar.specs.Canonical.Writing.{clean_from, clean_reading, statement_words, is_too_deep}
use Rattle.grammar.specs.Canonical.Need.{most, need, needs}
use Rattle.grammar.specs.Canonical.Valid.{Valid, Valids, stmt, v_none, v_more}
use Rattle.std.proofs.lemmas.Bool.{lt-leb}
use Rattle.grammar.proofs.Laws.Back.Steps.{Needs, reach, settle, fits, see, done, exactly, enough, missed, inside, weigh, then_ok, either_is, if_yes, if_no}
use Rattle.grammar.proofs.Laws.Length.{tokens_length}
use Rattle.grammar.proofs.Laws.Back.Follow.{ends}
use Rattle.grammar.proofs.Laws.Back.Starts.{Starts, starts, starts_length, isnt, stmt_starts}
use Rattle.grammar.proofs.Laws.Back.Snoc.{join, most_more}
use Rattle.grammar.proofs.Laws.Back.Expr.{Reads}
use Rattle.grammar.proofs.Laws.Back.Given.{ex_back}
use Rattle.grammar.proofs.Laws.Back.Unary.{unary_need, unary_back}
use Rattle.grammar.proofs.Laws.Back.Stmt.{stmt_reads, stmts_reads}

pub depth_back : (d : ℕ) → Reads d
unfolding at_depth join
depth_back zero = record {
  r_unary = λ h q r f. missed (unary_need h);
  r_right = λ h q r a. missed (omega arith);
  r_list = λ h j end q r e. missed (omega arith);
}
depth_back (suc d) = record {
  r_unary = λ h q r f. unary_back d (depth_back d) h q r f;
  r_right = λ h q r a. inside (ex_back d (depth_back d) h q r a);
  r_list = λ h j end q r e. inside (stmts_reads d (depth_back d) h j end _ none q r e (le_refl _));
}

pub stmt_back : {t : Tree} → Valid stmt t → (d : ℕ) (q r : List ℕ) → Stmt.stmt (at_depth d) q (write t own (Kind.Semicolon ∷ 0 ∷ r)) ≡ settle (leb (need t own) d) t (Kind.Semicolon ∷ 0 ∷ r)
stmt_back h d q r = (stmt_reads d (depth_back d) h q _ (ends refl)).is

-- a statement begins where the separators before it end
start_is : {ts : List ℕ} (m : ℕ) (q : List ℕ) → 1 ≤ m → Starts false 5 ts → start m q ts ≡ ok tt ts
unfolding start
start_is zero q l h = absurd (omega arith)
start_is (suc m) q l (starts {s = s} t b) =
    enough (either_is _ _ _ (exactly (see q s t)) (if_no _ _ (isnt b Kind.EOF refl) (if_no _ _ (isnt b Kind.Semicolon refl) done))) (le_refl 0)

-- the words r, or those behind a semicolon
pub data Leads (r : List ℕ) : List ℕ → Type 0 where
  here : Leads r r
  behind : Leads r (Kind.Semicolon ∷ 0 ∷ r)

start_leads : {ts x : List ℕ} (q : List ℕ) → Starts false 5 ts → Leads ts x → start (length x) q x ≡ ok tt ts
unfolding start
start_leads {ts} q h here = start_is (length ts) q (omega (arith, starts_length h)) h
start_leads {ts} q h behind =
    enough (either_is _ _ _ (exactly (see q ts (fits refl))) (if_no _ _ refl (if_yes _ _ refl (exactly (start_is (suc (length ts)) q (omega arith) h))))) (le_refl 0)

pub next_reads : {t : Tree} {x : List ℕ} → Valid stmt t → (d : ℕ) (q r : List ℕ) → Leads (statement t r) x → Needs (need t own) d (next d q x) (ok t (Kind.Semicolon ∷ 0 ∷ r))
unfolding next
next_reads h d q r l = then_ok _ _ (start_leads q (stmt_starts h _) l) (weigh (either_is _ _ _ (stmt_reads d (depth_back d) h q _ (ends refl)) done) (omega arith))

pub next_back : {t : Tree} → Valid stmt t → (d : ℕ) (q r : List ℕ) → next d q (statement t r) ≡ settle (leb (need t own) d) t (Kind.Semicolon ∷ 0 ∷ r)
next_back h d q r = (next_reads h d q r here).is

-- runs
clean_leads : {f : Forest} {x : List ℕ} → Valids stmt f → (d n : ℕ) → most (needs f) ≤ d → count f < n → Leads (run f) x → clean_from d n x ≡ Some f
unfolding clean_from run count need
clean_leads h d zero l c g = absurd (omega arith)
clean_leads v_none d (suc n) l c here = unfold next start look looked either then ifb in refl
clean_leads v_none d (suc n) l c behind = unfold next start look looked either then ifb in refl
clean_leads (v_more {t = t} {f = f} h hs) d (suc n) l c g =
    let e = most_more t f in
    rw (enough (next_reads h d [] (run f) g) (omega arith), clean_leads {f = f} hs d n (omega arith) (omega arith) behind)

pub run_back : {f : Forest} → Valids stmt f → (d n : ℕ) → need (Node.list f) own ≤ d → count f < n → clean_from d n (run f) ≡ Some f
unfolding need
run_back h d n l c = clean_leads h d n l c here

-- a run is whole tokens, at least one for each statement
pub run_length : (f : Forest) → (length (run f) % 2 ≡ 0) × (count f ≤ length (run f))
unfolding run count
run_length none = (refl, omega arith)
run_length (more t f) =
    let e = run_length f in
    let w = tokens_length t own (Kind.Semicolon ∷ 0 ∷ run f) in
    (omega (arith, e.0), omega (arith, e.1))

pub reading_back : {f : Forest} → Valids stmt f → (d : ℕ) → need (Node.list f) own ≤ d → clean_reading d (run f) ≡ Some f
unfolding clean_reading ifb
reading_back {f} h d l = let e = run_length f in rw e.0 (run_back h d _ l (omega (arith, e.1)))

-- the depth of a statement's tokens is its need
too_deep_settles : (n d : ℕ) (t : Tree) (r : List ℕ) → is_too_deep (settle (leb n d) t r) ≡ ltb d n
unfolding reach
too_deep_settles n d t r = go (leb n d) refl
  where
    go : (b : Bool) → leb n d ≡ b → is_too_deep (reach b (ok t r)) ≡ ltb d n
    go true e = let l = leb-true n d e in sym (lt-leb (suc d) n (omega arith))
    go false e = sym (le-leb (suc d) n (lt_of_not-le λ l. true≢false (sym (le-leb n d l) ∙ e)))

pub depth_is : {t : Tree} → Valid stmt t → (d : ℕ) → is_too_deep (next d [] (statement_words t)) ≡ ltb d (need t own)
depth_is {t} h d = ap is_too_deep (next_back h d [] []) ∙ too_deep_settles (need t own) d t (Kind.Semicolon ∷ 0 ∷ [])
