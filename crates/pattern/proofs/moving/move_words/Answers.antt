-- `pattern::moving::move_words` meets its contract. Assumes nothing.
use native.Mathlib.Omega.{arith}
use Rattle.tree.proofs.Copies.{copied, stayed}
use Rattle.pattern.proofs.moving.move_words.Goals as goal

pub returns-then-dest-from : goal.returns-then-dest-from
returns-then-dest-from c = copied _ _ _ _ (omega arith) c.copy_within.ensures.after

pub returns-else-dest-from : goal.returns-else-dest-from
returns-else-dest-from c = rw c.if-dest-from.false (stayed c.args.store.now c.args.from c.args.to c.requires.0 c.requires.1)
