-- Sheets that meet all that the theorem supposes, and one that does not: so it speaks of something, and not of everything. Assumes nothing.
-- `a; b` and `a b` have the same canonical tokens, and so the same remaining answers. The same again have `c; a b` behind two calls, of which one was refused, and
-- `) a b` from a reader behind `)` with an error that waits, once that was handed over. `) a b` behind a call that passed over `a` has those of `b`.
-- `(a)` and `a` have other canonical tokens, and other remaining answers. Of `)` nothing is supposed: it is not clean. And of an entry that answers rightly and
-- leaves its reader where it was the contract does not hold: `not_moved`.
use Rattle.std.specs.Prelude.{◌≡◌, refl, ◌≢◌, Bool, true, false, List, [], ◌∷◌, ℕ, suc, ◌*◌, ◌%◌, ◌≤◌, eqb, length, replicate, Some, None}
use Rattle.std.proofs.Common.{sym, ap, subst, arith, eqb-true, length-drop}
use Rattle.std.proofs.lemmas.Option.{none-some}
use Rattle.token.specs.Kind
use Rattle.tree.specs.Tree.{Tree, Forest, none, more, one, records}
use Rattle.tree.specs.Node
use Rattle.grammar.specs.Reading.Limit.{depth_limit, length_limit}
use Rattle.grammar.specs.Reading.Number
use Rattle.grammar.specs.Reading.Result.{ifb}
use Rattle.grammar.specs.Reading.Next.{queue_fits, reader_at, fresh, Accepted, Called, next_stmt}
use Rattle.grammar.specs.Canonical.Write.{own, run}
use Rattle.grammar.specs.Canonical.Need.{need}
use Rattle.grammar.specs.Canonical.Writing.{clean_from, clean_reading}
use Rattle.grammar.proofs.Laws.Back.Depths.{run_length}
use Rattle.grammar.proofs.Laws.Returned.{fresh_accepted}
use Rattle.grammar.proofs.Sheets as Sheets
use Rattle.grammar.proofs.Theorems.{sound}
use Rattle.grammar.specs.declared.Answer.{Answer}
use Rattle.grammar.specs.declared.Reader.{Reader}
use Rattle.agreement.specs.Calls.{Entry, by_value, kept, Call, Gives, Run, no_call, a_call, defined, NonePending, unread}
use Rattle.agreement.specs.Answers.{Seen, tree, end, Afresh, Remaining, NoFault, no_answer, a_tree, an_end, answers_of, Lacks62, lacks_none, lacks_more}
use Rattle.agreement.specs.Statement.{Left}
use Rattle.agreement.proofs.Theorem.{two_sheets}
use Rattle.agreement.proofs.Laws.Step.{before_fresh}
use Rattle.agreement.proofs.Laws.Clean.{clean_reads, clean_only, faultless}
use Rattle.agreement.proofs.Laws.Whole.{clean_is, clean_of, run_clean}
use Rattle.agreement.proofs.Laws.Calls.{given_is}

-- the definition's own calls are a run of the entries
gives_own : (entry : Entry) (R : Reader) (T S : List ℕ) → Gives entry R T S (next_stmt R T (length S))
gives_own by_value R T S = refl
gives_own kept R T S = refl

record Made (T : List ℕ) (R : Reader) (cs : List Call) : Type 0 where
  given : List Called
  ran : Run T R cs given (defined T R cs)

made : (T : List ℕ) (R : Reader) (cs : List Call) → Made T R cs
unfolding defined
made T R [] = record { given = []; ran = no_call }
made T R (c ∷ cs) = let m = made T (next_stmt R T (length c.store)).step.reader cs in record { given = _; ran = a_call (gives_own c.entry R T c.store) m.ran }

-- a clean reading is of whole tokens
clean_even : (ts : List ℕ) {f : Forest} → clean_reading depth_limit ts ≡ Some f → length ts % 2 ≡ 0
unfolding clean_reading ifb
clean_even ts {f} e = go (eqb (length ts % 2) 0) refl e
  where
    go : (b : Bool) → eqb (length ts % 2) 0 ≡ b → ifb b (λ _. clean_from depth_limit (suc (length ts)) ts) (λ _. None) ≡ Some f → length ts % 2 ≡ 0
    go true x e = eqb-true _ _ x
    go false x e = absurd (none-some _ e)

-- trees and the end are no faults, and no stop with 62
no_fault : (f : Forest) → NoFault (answers_of f)
unfolding answers_of
no_fault none = an_end no_answer
no_fault (more t f) = a_tree (no_fault f)

lacks_answers : (f : Forest) → Lacks62 (answers_of f)
unfolding answers_of
lacks_answers none = lacks_more {a = end} (λ e. let z : ◌≡◌ {A = ℕ} 0 1 = cc in omega arith) lacks_none
lacks_answers (more t f) = lacks_more {a = tree (records t)} (λ e. let z : ◌≡◌ {A = ℕ} 0 1 = cc in omega arith) (lacks_answers f)

-- what the theorem supposes holds of a reader and some calls, where what they leave reads cleanly and is not too long or too deep
sheet_left : (T : List ℕ) (R : Reader) (cs : List Call) (f : Forest) → length T ≤ 2 * length_limit → Accepted T R → NonePending (defined T R cs) → clean_reading depth_limit (unread T (defined T R cs)) ≡ Some f
    → length (run f) ≤ 2 * length_limit → need (Node.list f) own ≤ depth_limit → Left
sheet_left T R cs f h a c e l d =
    let m = made T R cs in
    let D = defined T R cs in
    let U = unread T D in
    let v = sound depth_limit U f e in
    record {
      sheet = T;
      within = omega (arith, h);
      reader = R;
      accepted = a;
      calls = cs;
      given = m.given;
      after = D;
      ran = m.ran;
      none_pending = c;
      answers = answers_of f;
      read = clean_reads (clean_of U e) (before_fresh (clean_even U e) (omega (arith, length-drop (2 * D.position) T)));
      clean = no_fault f;
      keeps = rw e (record { short = l; shallow = λ xs r. subst Lacks62 (sym (clean_only (run_clean v d) (before_fresh (run_length f).0 l) r)) (lacks_answers f) });
    }

-- the tokens of a name, and of one with nothing but its kind
abbrev name : ℕ → List ℕ → List ℕ
name n r = Kind.Identifier ∷ n ∷ r

abbrev symbol : ℕ → List ℕ → List ℕ
symbol k r = k ∷ 0 ∷ r

abbrev eof : List ℕ
eof = symbol Kind.EOF []

abbrev just_name : ℕ → Tree
just_name n = Node.expression (Node.identifier n)

abbrev two_names : Forest
two_names = more (just_name 0) (one (just_name 1))

abbrev none_pending : {R : Reader} → R.waiting ≡ 0 → R.stopped ≡ 0 → NonePending R
none_pending w s = record { waiting = w; stopped = s }

-- `a; b`
pub apart : Left
unfolding Sheets.canonical defined need
apart = sheet_left (name 0 (symbol Kind.Semicolon (name 1 eof))) fresh [] two_names (omega arith) (fresh_accepted _) (none_pending refl refl) refl (omega arith) (omega arith)

-- `a b`
pub together : Left
unfolding Sheets.canonical defined need
together = sheet_left (name 0 (name 1 eof)) fresh [] two_names (omega arith) (fresh_accepted _) (none_pending refl refl) refl (omega arith) (omega arith)

-- `c; a b` behind two calls: one by value with no store, which is refused, and one on the kept reader, which answers `c`
pub behind : Left
unfolding Sheets.canonical defined need
behind =
    sheet_left (name 2 (symbol Kind.Semicolon (name 0 (name 1 eof)))) fresh (record { entry = by_value; store = [] } ∷ record { entry = kept; store = replicate 80 7 } ∷ [])
    two_names (omega arith) (fresh_accepted _) (none_pending refl refl) refl (omega arith) (omega arith)

-- `) a b` from a reader behind `)` with 47 waiting: one call, which hands it over
pub resumed : Left
unfolding Sheets.canonical defined need queue_fits ifb
resumed =
    sheet_left (symbol Kind.CloseParen (name 0 (name 1 eof))) (reader_at 1 (Number.unmatched_paren ∷ [])) (record { entry = kept; store = [] } ∷ [])
    two_names (omega arith) (record { within = omega arith; few = omega arith; stops = refl; queue = refl }) (none_pending refl refl) refl (omega arith) (omega arith)

-- `) a b` behind a call, which answers 47 and passes over `a`
pub damaged : Left
unfolding Sheets.canonical defined need
damaged =
    sheet_left (symbol Kind.CloseParen (name 0 (name 1 eof))) fresh (record { entry = kept; store = replicate 64 7 } ∷ [])
    (one (just_name 1)) (omega arith) (fresh_accepted _) (none_pending refl refl) refl (omega arith) (omega arith)

-- `b`
pub only : Left
unfolding Sheets.canonical defined need
only = sheet_left (name 1 eof) fresh [] (one (just_name 1)) (omega arith) (fresh_accepted _) (none_pending refl refl) refl (omega arith) (omega arith)

-- `(a)`
pub grouped : Left
unfolding Sheets.canonical defined need
grouped = sheet_left (symbol Kind.OpenParen (name 0 (symbol Kind.CloseParen eof))) fresh [] (one (Node.expression (Node.group 0 (Node.identifier 0)))) (omega arith) (fresh_accepted _) (none_pending refl refl) refl (omega arith) (omega arith)

-- `a`
pub plain : Left
unfolding Sheets.canonical defined need
plain = sheet_left (name 0 eof) fresh [] (one (just_name 0)) (omega arith) (fresh_accepted _) (none_pending refl refl) refl (omega arith) (omega arith)

-- the same remaining answers, by the theorem
abbrev Same : Left → Left → Type 0
Same s u = (xs ys : List Seen) → Remaining s.sheet s.after xs → Remaining u.sheet u.after ys → xs ≡ ys

pub same_apart : Same apart together
unfolding Sheets.canonical defined apart together sheet_left
same_apart xs ys h i = ((two_sheets apart together).c xs ys h i).1 refl

pub same_behind : Same apart behind
unfolding Sheets.canonical defined apart behind sheet_left
same_behind xs ys h i = ((two_sheets apart behind).c xs ys h i).1 refl

pub same_resumed : Same apart resumed
unfolding Sheets.canonical defined apart resumed sheet_left
same_resumed xs ys h i = ((two_sheets apart resumed).c xs ys h i).1 refl

pub same_damaged : Same damaged only
unfolding Sheets.canonical defined damaged only sheet_left
same_damaged xs ys h i = ((two_sheets damaged only).c xs ys h i).1 refl

-- other ones
abbrev first_word : List ℕ → ℕ
first_word [] = 0
first_word (w ∷ ws) = w

pub other_grouped : (xs ys : List Seen) → Remaining grouped.sheet grouped.after xs → Remaining plain.sheet plain.after ys → xs ≢ ys
unfolding Sheets.canonical defined grouped plain sheet_left
other_grouped xs ys h i e =
    let z : ◌≡◌ {A = ℕ} Kind.OpenParen Kind.Identifier = ap first_word (((two_sheets grouped plain).c xs ys h i).0 e) in
    omega arith

-- `)` is no clean sheet, so the theorem supposes nothing of it
pub not_clean : (xs : List Seen) → Afresh (symbol Kind.CloseParen eof) xs → NoFault xs → ⊥
unfolding Sheets.canonical
not_clean xs r g = absurd (none-some _ (clean_is refl (faultless r g (before_fresh refl (omega arith))).clean))

-- an entry that answers the first statement of `a b` rightly, and leaves the reader where it was, does not meet its contract
pub not_moved : (entry : Entry) (answer : Answer) (store : List ℕ) → Gives entry fresh (name 0 (name 1 eof)) (replicate 48 7) (record { step = record { answer = answer; reader = fresh }; store = store }) → ⊥
unfolding Sheets.canonical
not_moved entry answer store h =
    let z : ◌≡◌ {A = ℕ} 0 1 = ap (λ c. c.step.reader.position) (given_is entry fresh (name 0 (name 1 eof)) (replicate 48 7) (record { step = record { answer = answer; reader = fresh }; store = store }) h) in
    omega arith
