-- `nodes::fields::variadic_param` meets its contract. Assumes nothing.
use mathlib.Core.Path.{refl}
use native.Mathlib.Omega.{arith}
use borrow.Author.Tests.{eq-eqb, ne_eqb}
use Rattle.grammar.specs.Reading.Result.{then, ifb}
use Rattle.nodes.specs.Parts.{variadic_head, h_variadic}
use Rattle.scan.proofs.Laws.{handed, taken, not_seen}
use Rattle.nodes.proofs.Names.{onward, failed}
use Rattle.nodes.proofs.fields.variadic_param.Goals as goal

pub returns-in_err-token : goal.returns-in_err-token
unfolding variadic_head
returns-in_err-token c = rw (handed c.from_residual.ensures.1) (record { how = onward _ (λ q. refl) (not_seen c.in_err-token.ensures) (omega arith) (omega arith) })

pub returns-then-token-eq-OP_ASSIGN : goal.returns-then-token-eq-OP_ASSIGN
unfolding variadic_head then ifb
returns-then-token-eq-OP_ASSIGN c = let tk = taken c.in_ok-token.ensures in
    record { how = failed (λ q. rw (tk.same q, eq-eqb _ _ c.if-token-eq-OP_ASSIGN.true)) (omega arith) (omega arith) (omega arith) }

pub returns : goal.returns
unfolding variadic_head then ifb
returns c = let tk = taken c.in_ok-token.ensures in
    record { how = record { got = record { what = h_variadic c.args.v; same = λ q. rw (tk.same q, ne_eqb _ _ c.if-token-eq-OP_ASSIGN.false); on = omega arith; within = omega arith }; is = refl; below = omega arith } }
