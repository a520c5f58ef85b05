-- `nodes::fields::param_name` meets its contract. Assumes nothing.
use mathlib.Core.Path.{refl}
use native.Mathlib.Omega.{arith}
use Rattle.tree.specs.Node
use Rattle.grammar.specs.Reading.Result.{ok, then}
use Rattle.nodes.specs.Parts.{param_name}
use Rattle.scan.proofs.Laws.{handed, found, unfound}
use Rattle.nodes.proofs.Names.{onward}
use Rattle.nodes.proofs.fields.param_name.Goals as goal

pub returns-in_err-mode : goal.returns-in_err-mode
unfolding param_name
returns-in_err-mode c = rw (handed c.from_residual.ensures.1) (record { how = onward _ (λ q. refl) (unfound c.in_err-mode.ensures) (omega arith) (omega arith) })

pub returns-in_err-name : goal.returns-in_err-name
unfolding param_name then
returns-in_err-name c = let m = found c.in_ok-mode.ensures in
    let o = m.got.on in
    rw (handed c.from_residual-in_err-name.ensures.1) (record { how = onward (λ q name q₂ s. ok (Node.named name.value m.got.what) s) (λ q. rw (m.got.same q)) (unfound c.in_err-name.ensures) (omega arith) (omega arith) })

pub returns : goal.returns
unfolding param_name then
returns c = let m = found c.in_ok-mode.ensures in
    let f = found c.in_ok-name.ensures in
    let g = f.got in
    let h = f.below in
    let k = m.below in
    let o = m.got.on in
    let on = g.on in
    record { how = record { got = record { what = Node.named g.what.value m.got.what; same = λ q. rw (m.got.same q, g.same q); on = omega arith; within = g.within }; is = rw (f.is, m.is); below = omega arith } }
