-- `nodes::fields::variadic_end` meets its contract. Assumes nothing.
use mathlib.Core.Path.{refl}
use native.Mathlib.Omega.{arith}
use Rattle.tree.specs.NodeKind
use Rattle.nodes.proofs.Names.{leaf}
use Rattle.nodes.proofs.fields.variadic_end.Goals as goal

pub returns-in-Some : goal.returns-in-Some
returns-in-Some c = let e = c.emit.ensures in
    let x = e.next in
    record { up = omega arith; far = omega arith; text = rw c.in-Some.is (leaf NodeKind.ParamDef e refl refl); whole = e.whole }

pub returns-in-None : goal.returns-in-None
returns-in-None c = let e = c.emit-in-None.ensures in
    let x = e.next in
    record { up = omega arith; far = omega arith; text = rw c.in-None.is (leaf NodeKind.Absent e refl refl); whole = e.whole }
