-- Calls of the entries are the definition's: the readers that a list of calls leaves, and the remaining answers on a sheet. Assumes nothing.
use Rattle.std.specs.Prelude.{◌≡◌, true, List, [], ◌∷◌, ℕ, ◌-◌, ◌*◌, ◌/◌, length, replicate}
use Rattle.std.proofs.Math.Path.{refl, ap, subst}
use Rattle.std.proofs.Common.{sym, ◌∙◌, arith}
use Rattle.std.proofs.lemmas.Bool.{false≢true}
use Rattle.std.proofs.lemmas.List.{length-replicate}
use Rattle.tree.specs.Tree.{Forest, records}
use Rattle.grammar.specs.Reading.Limit.{store_share}
use Rattle.grammar.specs.Reading.Result.{ifb}
use Rattle.grammar.specs.Reading.Next.{error_answer, Accepted, Called, bare, next_stmt}
use Rattle.grammar.proofs.Laws.Returned.{returned_accepted}
use Rattle.grammar.specs.declared.Answer.TheVariants.{Tree as ATree, End}
use Rattle.grammar.specs.declared.Reader.{Reader}
use Rattle.agreement.specs.Calls.{Entry, by_value, kept, Call, Gives, Run, no_call, a_call, defined, Does, takes_tree, takes_error, hands_over, ends, stops, refuses_reader, refuses_store}
use Rattle.agreement.specs.Answers.{Seen, tree, Roomy, seen_of, is_refused, Remaining, ended, answered, passed, answers_of}
use Rattle.agreement.proofs.Laws.Does.{does}
use Rattle.agreement.proofs.Laws.Step.{Before, before_next}
use Rattle.agreement.proofs.Laws.Clean.{Clean, c_end, c_tree, seen_tree, step_is}

-- either entry gives what the definition gives
pub given_is : (entry : Entry) (R : Reader) (T S : List ℕ) (g : Called) → Gives entry R T S g → g ≡ next_stmt R T (length S)
given_is by_value R T S g e = e
given_is kept R T S g e = e

pub given_does : (entry : Entry) (R : Reader) (T S : List ℕ) (g : Called) → Gives entry R T S g → Does T R (length S) g
given_does entry R T S g k = rw (given_is entry R T S g k) (does R T (length S))

-- the readers that a list of calls leaves
pub run_is : {T : List ℕ} {R S : Reader} {cs : List Call} {gs : List Called} → Run T R cs gs S → S ≡ defined T R cs
unfolding defined
run_is no_call = refl
run_is {T} {R} (a_call {c = c} {cs = cs} {g = g} h r) = run_is r ∙ ap (λ g. defined T g.step.reader cs) (given_is c.entry R T c.store g h)

pub defined_accepted : {T : List ℕ} {R : Reader} (cs : List Call) → Accepted T R → Accepted T (defined T R cs)
unfolding defined
defined_accepted [] a = a
defined_accepted {T} {R} (c ∷ cs) a = defined_accepted {R = (next_stmt R T (length c.store)).step.reader} cs (returned_accepted R T (length c.store) a)

tree_no_end : {n : ℕ} {P : Type 0} → ATree n ≡ End → P
tree_no_end e = absurd (let z : ◌≡◌ {A = ℕ} 0 1 = cc in omega arith)

-- a call that is refused changes nothing but the store, which is zero
pub refused_same : {T : List ℕ} {R : Reader} {m : ℕ} {c : Called} → Does T R m c → is_refused c.step.answer ≡ true → c ≡ bare m c.step.answer R
refused_same (takes_tree h) e = absurd (false≢true e)
refused_same (takes_error h) e = absurd (false≢true e)
refused_same (hands_over h) e = absurd (false≢true e)
refused_same ends e = absurd (false≢true e)
refused_same stops e = absurd (false≢true e)
refused_same (refuses_reader n) e = refl
refused_same (refuses_store a l) e = refl

-- a store that is large enough
abbrev store_for : List ℕ → Reader → List ℕ
store_for T R = replicate (store_share * (length T / 2 - R.position)) 0

roomy : (T : List ℕ) (R : Reader) → Roomy T R (length (store_for T R))
roomy T R = omega (arith, length-replicate {A = ℕ} (store_share * (length T / 2 - R.position)) 0)

module _ {T : List ℕ} where
  -- the remaining answers on a sheet before words that read cleanly: the trees, and then the end
  pub clean_remains : {ts : List ℕ} {R : Reader} {f : Forest} → Clean ts f → Before T R ts → Remaining T R (answers_of f)
  unfolding answers_of error_answer ifb
  clean_remains {R = R} (c_end e) b =
      let S = store_for T R in
      let s = step_is (length S) b (roomy T R) e in
      ended {R = R} by_value S (next_stmt R T (length S)) (roomy T R) refl (ap (λ c. c.step.answer) s)
  clean_remains {R = R} (c_tree {t = t} {f = f} e c) b =
      let S = store_for T R in
      let s = step_is (length S) b (roomy T R) e in
      subst (λ a. Remaining T R (a ∷ answers_of f)) (ap seen_of s ∙ seen_tree (length S) t)
      (answered {R = R} by_value S (next_stmt R T (length S)) (roomy T R) refl (λ x. tree_no_end (sym (ap (λ c. c.step.answer) s) ∙ x))
      (subst (λ c. Remaining T c.step.reader (answers_of f)) (sym s) (clean_remains c (before_next b e))))

  pub remains_only : {ts : List ℕ} {R : Reader} {f : Forest} {xs : List Seen} → Remaining T R xs → Clean ts f → Before T R ts → xs ≡ answers_of f
  unfolding answers_of error_answer ifb
  remains_only (ended i S g h k z) (c_end e) b = refl
  remains_only {R = R} (ended i S g h k z) (c_tree e c) b = tree_no_end (sym (ap (λ c. c.step.answer) (given_is i R T S g k ∙ step_is (length S) b h e)) ∙ z)
  remains_only {R = R} (answered i S g h k z r) (c_end e) b = absurd (z (ap (λ c. c.step.answer) (given_is i R T S g k ∙ step_is (length S) b h e)))
  remains_only {R = R} (answered i S g {xs = ys} h k z r) (c_tree {r = w} {t = t} {f = f} e c) b =
      let s = given_is i R T S g k ∙ step_is (length S) b h e in
      let x : seen_of g ≡ tree (records t) = ap seen_of s ∙ seen_tree (length S) t in
      let y : ys ≡ answers_of f = remains_only {ts = w} r c (subst (λ c. Before T c.step.reader w) (sym s) (before_next b e)) in
      cc
  remains_only {ts = ts} {R = R} (passed i S g k z r) c b =
      remains_only r c (subst (λ c. Before T c.step.reader ts) (sym (refused_same (given_does i R T S g k) (ap is_refused z))) b)
