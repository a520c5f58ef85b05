-- What each call of the definition does: it takes a token, hands over an error that waited, or says end, a stop or a refusal. Assumes nothing.
use Rattle.std.specs.Prelude.{◌≡◌, Bool, List, [], ◌∷◌, ℕ, ◌*◌, ◌-◌, ◌/◌, ◌<◌, take}
use Rattle.std.proofs.Math.Path.{refl}
use Rattle.std.proofs.Common.{inl, inr, arith, length-drop}
use Rattle.std.proofs.Math.Bool.{true, false}
use Rattle.std.proofs.lemmas.Bool.{eqb-false}
use Rattle.std.proofs.Math.Dec.{eqb}
use Rattle.std.proofs.Math.ListN.{length}
use Rattle.tree.specs.Tree.{Tree}
use Rattle.grammar.specs.Reading.Limit.{depth_limit}
use Rattle.grammar.specs.Reading.Result.{Error, Res, ok, bad, fail, stop, ifb}
use Rattle.grammar.specs.Reading.Next.{error_kind, error_answer, reader_at, Called, bare, called, answered, next_stmt}
use Rattle.grammar.proofs.Laws.Keep.{Keep, k_ok, k_bad, k_fail}
use Rattle.grammar.proofs.Laws.Taken.{Taken, Ended, next_takes}
use Rattle.grammar.proofs.Promise.{Going, Outcome, no_sheet, no_reader, stopped, waited, short, reads, outcome}
use Rattle.grammar.specs.declared.Answer.TheVariants.{Error as AError, End}
use Rattle.grammar.specs.declared.Reader.{Reader}
use Rattle.agreement.specs.Calls.{unread, Does, takes_tree, takes_error, hands_over, ends, stops, refuses_reader, refuses_store}

does_answer : {T : List ℕ} {R : Reader} (m : ℕ) (q : List Error) → take R.waiting R.errors ≡ q → Does T R m (answered m R q)
does_answer m [] e = ends
does_answer m (x ∷ q) e = hands_over e

module _ {T : List ℕ} {R : Reader} (m : ℕ) (g : Going T R) where
  moves : (r : List ℕ) → Taken (unread T R) r → R.position < length T / 2 - length r / 2
  moves r t = omega (arith, g.sheet.even, g.accepted.within, length-drop (2 * R.position) T)

  does_read : (d : Res Tree) → Keep (Taken (unread T R)) (Ended (unread T R)) d → Does T R m (called (length T / 2) m R.position d)
  unfolding error_answer ifb
  does_read (ok t r) (k_ok k) = takes_tree (moves r k)
  does_read (bad t q r) (k_bad k) = takes_tree (moves r k)
  does_read (fail x q r) (k_fail k) = go (eqb x 0) refl k
    where
      go : (c : Bool) → eqb x 0 ≡ c → Ended (unread T R) x r → Does T R m (bare m (ifb c (λ _. End) (λ _. AError (error_kind x))) (reader_at (length T / 2 - length r / 2) q))
      go true z k = ends
      go false z (inl k) = takes_error (moves r k)
      go false z (inr k) = absurd (eqb-false x 0 z k.0)
  does_read (stop n) k = stops

does_so : {T : List ℕ} {R : Reader} {m : ℕ} {c : Called} → Outcome R T m c → Does T R m c
does_so (no_sheet n) = stops
does_so (no_reader s n) = refuses_reader n
does_so (stopped s a h) = stops
does_so {m = m} (waited g h) = does_answer m _ refl
does_so (short g w l) = refuses_store g.accepted l
does_so {T} {R} {m} (reads g w l) = does_read m g _ (next_takes depth_limit [] (unread T R))

pub does : (R : Reader) (T : List ℕ) (m : ℕ) → Does T R m (next_stmt R T m)
does R T m = does_so (outcome R T m)
