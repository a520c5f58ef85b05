-- What is left to show of `cycle::block` in its cycle of calls. Assumes nothing.
use mathlib.Core.Path.{refl, sym}
use mathlib.Core.List.{[], append-nil}
use native.Mathlib.Omega.{arith}
use Rattle.tree.specs.Node
use Rattle.scan.proofs.Laws.{hands, way}
use Rattle.nodes.proofs.Made.{over_one}
use Rattle.cycle.proofs.PathsBody.{closable, under, unlisted}
use Rattle.cycle.proofs.PathsStmt.{block_step}
use Rattle.grammar.specs.Reading.Block.{block_of}
use Rattle.cycle.proofs.+reading.Goals as goal

pub block-returns-in_err-statements : goal.block-returns-in_err-statements
block-returns-in_err-statements t c = hands c.from_residual.ensures.1 (unlisted _ c.in_err-statements.ensures (way _ (block_step _ _ _ _)) refl (omega arith))

pub block-block_under-requires : goal.block-block_under-requires
block-block_under-requires t c = closable _ c.in_ok-statements.ensures (omega arith)

pub block-returns : goal.block-returns
block-returns t c = under (λ s. Node.block c.args.label (block_of s)) [] c.in_ok-statements.ensures c.block_under.ensures (way _ (block_step _ _ _ _)) (sym (append-nil _)) (λ s. over_one 19 _ _) (omega arith)
