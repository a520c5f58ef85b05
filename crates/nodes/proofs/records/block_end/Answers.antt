-- `nodes::records::block_end` meets its contract: a last expression statement is moved behind the list of the others. Assumes nothing.
use mathlib.Core.List.{[], ◌∷◌}
use native.Mathlib.Omega.{arith}
use lib.ListN.{take}
use Rattle.tree.specs.Store.{leading}
use Rattle.nodes.proofs.Ends.{joins, plain_text, given_text}
use Rattle.nodes.proofs.records.block_end.Goals as goal

pub returns-in-None : goal.returns-in-None
returns-in-None c = let u = c.suite_end-b.ensures in
    let r = c.resultless.ensures in
    record { up = omega arith; far = omega arith; text = λ s X st. plain_text st (omega arith) c.in-None.is (joins (take c.args.a c.args.store.now) (leading c.args.n) (0 ∷ 0 ∷ 534 ∷ 0 ∷ []) r.text u.text) }

pub returns-in-Some : goal.returns-in-Some
returns-in-Some c = let e = c.emit.ensures in
    record { up = omega arith; far = omega arith; text = λ s X st. given_text st (omega arith) c.in-Some.is c.block_result.ensures e.text }
