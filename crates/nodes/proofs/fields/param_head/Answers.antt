-- `nodes::fields::param_head` meets its contract. Assumes nothing.
use mathlib.Core.Path.{refl}
use native.Mathlib.Omega.{arith}
use Rattle.grammar.specs.Reading.Result.{then}
use Rattle.nodes.specs.Parts.{param_head}
use Rattle.scan.proofs.Laws.{handed, found, unfound}
use Rattle.nodes.proofs.Names.{onward, same_heads}
use Rattle.nodes.proofs.fields.param_head.Goals as goal

pub returns-in_err-name : goal.returns-in_err-name
unfolding param_head
returns-in_err-name c = rw (handed c.from_residual.ensures.1) (record { how = onward _ (λ q. refl) (unfound c.in_err-name.ensures) (omega arith) (omega arith) })

pub returns : goal.returns
unfolding param_head then
returns c = let f = found c.in_ok-name.ensures in
    let o = f.got.on in
    same_heads (λ q. rw (f.got.same q, f.is)) c.param_kind.ensures (omega arith) (omega arith)
