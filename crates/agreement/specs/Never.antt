-- Document 02, P1: what it is that an error is never met, from a fresh reader, over every run of tokens. Definitions; they assume nothing. That 24, 28 and 32 are never met is
-- `never_met` in proofs/Never.antt.
use Rattle.std.specs.Prelude.{◌≢◌, ℕ}
use mathlib.Core.List.{List, Memᴰ}
use Rattle.grammar.specs.Reading.Number
use Rattle.grammar.specs.Reading.Result.{Error}
use Rattle.grammar.specs.Reading.Next.{number, fresh, waiting_in, Called}
use Rattle.grammar.specs.declared.Reader.{Reader}
use Rattle.agreement.specs.Calls.{Call, Run}

-- no sheet gives the error e: on any words, after any list of calls from a fresh reader on, by value or on the kept reader, with any stores, refused calls among them, no answer
-- of these has the number e, and e is none of the errors that then wait
pub record NeverMet (e : Error) : Type 0 where
  pub answered : {T : List ℕ} {calls : List Call} {given : List Called} {after : Reader} → Run T fresh calls given after → (g : Called) → Memᴰ g given → number g.step.answer ≢ e
  pub waiting : {T : List ℕ} {calls : List Call} {given : List Called} {after : Reader} → Run T fresh calls given after → Memᴰ e (waiting_in after) → ⊥

pub record ThreeNeverMet : Type 0 where
  pub nested_ellipsis : NeverMet Number.nested_ellipsis
  pub params_closing : NeverMet Number.params_closing
  pub param_order : NeverMet Number.param_order
