-- What is left to show of `cycle::prim` in its cycle of calls. Assumes nothing.
use mathlib.Core.Path.{refl}
use native.Mathlib.Omega.{arith}
use Rattle.tree.specs.Tree.{records}
use Rattle.scan.proofs.Laws.{hands, way, goes, done, undone, fails, prefix, continued}
use Rattle.cycle.proofs.PathsPrimary.{primary_step}
use Rattle.cycle.proofs.Trees.{path_text}
use Rattle.grammar.specs.Reading.Primary.{with_path}
use Rattle.cycle.proofs.+reading.Goals as goal

pub prim-returns-in_err-receiver : goal.prim-returns-in_err-receiver
prim-returns-in_err-receiver t c = hands c.from_residual.ensures.1 (fails _ (way _ (primary_step _ _ _)) (undone c.in_err-receiver.ensures) refl (omega arith))

pub prim-returns : goal.prim-returns
prim-returns t c = let f = done c.in_ok-receiver.ensures in
    let on = goes _ (way _ (primary_step _ _ _)) f.same in
    continued (with_path f.what) (records f.what) c.path.ensures on f.text (path_text f.what) (prefix f (omega (arith, c.requires))) (omega (arith, c.requires, f.moved, f.room))
