-- What the parts of a call count together. Assumes nothing.
use Rattle.std.proofs.Common.{◌≡◌, ℕ, ◌≤◌, Bool, List}
use borrow.Author.Tests.{le-ltb}
use Rattle.std.specs.Prelude.{OnOk, Result}
use Rattle.grammar.specs.Canonical.Writing.{Wrote, write_stmt}
use Rattle.grammar.specs.Reading.Next.{Called, next_stmt}
use Rattle.compared.specs.Said.{said_of_answer, said_of_written, expects}
use Rattle.compared.specs.Calls.{same_said, same_reader, holds, with_parts, with_called, with_outputs, with_output}
use Rattle.compared.specs.Trials.{Counts}
use Rattle.compared.specs.declared.answer.Said.{Said}
use Rattle.compared.specs.declared.answer.Want.{Want}
use Rattle.compared.specs.declared.call.Call.{Call}
use Rattle.compared.specs.declared.trial.Trial.{Trial}

-- a call on a store that is lent: what its parts count
pub counted : {R A E : Type 0} (call : Call) {room : ℕ} (want : Want) {r : Called} {n : ℕ} {got : Said} {reader store : Bool} (res : Result A E) (old new : Trial R) → n ≡ room
    → r ≡ next_stmt call.reader call.tokens.now n → got ≡ said_of_answer r.step.answer → reader ≡ same_reader r.step.reader want.reader → store ≡ holds r.store want.tree.now
    → OnOk res (Counts (with_parts (same_said got want.said) reader store) old new) → OnOk res (Counts (with_called (next_stmt call.reader call.tokens.now room) (expects want)) old new)
counted call {room} want res old new n e f a b h = rw (← n, ← e, ← b, ← a, ← f) h

-- the same of the writer
pub outputs : {R A E : Type 0} (records : List ℕ) {most room n : ℕ} (want : Said) {got : Said} (text : List ℕ) {w : Wrote} {output : Bool} (res : Result A E) (old new : Trial R) → room ≤ most → n ≡ room
    → w ≡ write_stmt records n → got ≡ said_of_written w.answer → output ≡ holds w.output text
    → OnOk res (Counts (with_outputs (same_said got want) output) old new) → OnOk res (Counts (with_output records most room want text) old new)
outputs records {most} {room} want text res old new l n e f b h = rw (le-ltb most room l, ← n, ← e, ← b, ← f) h
