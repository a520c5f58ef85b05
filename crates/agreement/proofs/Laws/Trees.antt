-- What holds of each leveled tree in the store holds of each tree that a call answers. Assumes nothing.
use Rattle.std.specs.Prelude.{Bool, List, [], ◌∷◌, ◌++◌, ℕ, ◌-◌, ◌/◌, eqb, length, replicate}
use Rattle.std.proofs.Math.Bool.{true, false}
use Rattle.tree.specs.Tree.{Tree, records}
use Rattle.grammar.specs.Reading.Limit.{depth_limit}
use Rattle.grammar.specs.Reading.Number
use Rattle.grammar.specs.Reading.Result.{Error, Res, ifb}
use Rattle.grammar.specs.Reading.Next.{waiting_in, error_kind, error_answer, Called, called, answered}
use Rattle.grammar.proofs.Laws.Keep.{Holds, k_ok, k_bad, k_fail, k_stop}
use Rattle.grammar.proofs.Laws.Levels.Leveled.{Leveled}
use Rattle.grammar.proofs.Laws.Levels.Nonterminals.{next_levels}
use Rattle.grammar.proofs.Promise.{Outcome, no_sheet, no_reader, stopped, waited, short, reads}
use Rattle.grammar.specs.declared.Answer.TheVariants.{Error as AError, End}
use Rattle.grammar.specs.declared.Reader.{Reader}
use Rattle.agreement.specs.Calls.{unread}
use Rattle.agreement.specs.Trees.{OfTree}

-- where P holds of a leveled tree's records, which stand first in a store of m words
module _ (P : ℕ → List ℕ → Type 0) (m : ℕ) (stored : (t : Tree) → Leveled t → P (length (records t) / 2) (records t ++ replicate (m - length (records t)) 0)) where
  error_of_tree : (b : Bool) (e : Error) (store : List ℕ) → OfTree P (ifb b (λ _. End) (λ _. AError (error_kind e))) store
  unfolding ifb
  error_of_tree true e store = tt
  error_of_tree false e store = tt

  called_of_tree : (n p : ℕ) {d : Res Tree} → Holds Leveled d → OfTree P (called n m p d).step.answer (called n m p d).store
  unfolding error_answer
  called_of_tree n p (k_ok h) = stored _ h
  called_of_tree n p (k_bad h) = stored _ h
  called_of_tree n p (k_fail {e = e} u) = error_of_tree (eqb e Number.end) e (replicate m 0)
  called_of_tree n p k_stop = tt

  answered_of_tree : (R : Reader) (q : List Error) → OfTree P (answered m R q).step.answer (answered m R q).store
  answered_of_tree R [] = tt
  answered_of_tree R (e ∷ q) = tt

  pub outcome_of_tree : {R : Reader} {T : List ℕ} {c : Called} → Outcome R T m c → OfTree P c.step.answer c.store
  outcome_of_tree (no_sheet n) = tt
  outcome_of_tree (no_reader s n) = tt
  outcome_of_tree (stopped s a h) = tt
  outcome_of_tree {R} (waited g h) = answered_of_tree R (waiting_in R)
  outcome_of_tree (short g w l) = tt
  outcome_of_tree {R} {T} (reads g w l) = called_of_tree (length T / 2) R.position (next_levels depth_limit [] (unread T R))
