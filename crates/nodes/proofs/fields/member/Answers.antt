-- `nodes::fields::member` meets its contract. Assumes nothing.
use mathlib.Core.Path.{refl}
use native.Mathlib.Omega.{arith}
use Rattle.tree.specs.NodeKind
use Rattle.tree.specs.Node
use Rattle.grammar.specs.Reading.Result.{then}
use Rattle.grammar.specs.Reading.Primary.{member_access}
use Rattle.scan.proofs.Laws.{handed, found, unfound}
use Rattle.nodes.proofs.Names.{onward, unwrote, leaf}
use Rattle.nodes.proofs.fields.member.Goals as goal

pub returns-in_err-name : goal.returns-in_err-name
unfolding member_access
returns-in_err-name c = rw (handed c.from_residual.ensures.1) (unwrote (onward _ (λ q. refl) (unfound c.in_err-name.ensures) (omega arith) (omega arith)))

pub returns : goal.returns
unfolding member_access then
returns c = let f = found c.in_ok-name.ensures in
    let g = f.got in
    let e = c.emit.ensures in
    record { how = record { got = record { what = Node.attribute g.what.value; same = λ q. rw (g.same q); on = g.on; within = g.within }; far = omega (arith, e.next); text = leaf NodeKind.Attribute e f.is refl } }
