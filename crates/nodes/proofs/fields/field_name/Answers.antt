-- `nodes::fields::field_name` meets its contract. Assumes nothing.
use mathlib.Core.Path.{refl, ap}
use Prim.Native.Nat.{ℕ, ◌+◌, ◌*◌}
use native.Mathlib.Omega.{arith}
use Rattle.tree.specs.NodeKind
use Rattle.tree.specs.Node
use Rattle.grammar.specs.Reading.Result.{then}
use Rattle.grammar.specs.Reading.Primary.{field_name}
use Rattle.scan.proofs.Laws.{handed, found, unfound}
use Rattle.nodes.proofs.Names.{onward, unwrote, leaf}
use Rattle.nodes.proofs.fields.field_name.Goals as goal

pub returns-in_err-name : goal.returns-in_err-name
unfolding field_name
returns-in_err-name c = rw (handed c.from_residual.ensures.1) (unwrote (onward _ (λ q. refl) (unfound c.in_err-name.ensures) (omega arith) (omega arith)))

pub returns : goal.returns
unfolding field_name then
returns c = let f = found c.in_ok-name.ensures in
    let g = f.got in
    let e = c.emit.ensures in
    record { how = record { got = record { what = Node.field_attribute (Node.named g.what.value c.args.access); same = λ q. rw (g.same q); on = g.on; within = g.within }; far = omega (arith, e.next); text = leaf NodeKind.FieldAttribute e (ap (λ (n : ℕ). n * 2 + c.args.access) f.is) refl } }
