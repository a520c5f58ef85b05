-- `nodes::fields::param_kind` meets its contract. Assumes nothing.
use mathlib.Core.Path.{refl}
use native.Mathlib.Omega.{arith}
use borrow.Author.Tests.{ne_eqb}
use Rattle.token.specs.Kind
use Rattle.grammar.specs.Reading.Result.{then, ifb}
use Rattle.nodes.specs.Parts.{param_kind, h_required, h_default}
use Rattle.scan.proofs.Laws.{handed, taken, not_seen}
use Rattle.nodes.proofs.Names.{onward, same_heads}
use Rattle.nodes.proofs.fields.param_kind.Goals as goal

pub returns-in_err-token : goal.returns-in_err-token
unfolding param_kind
returns-in_err-token c = rw (handed c.from_residual.ensures.1) (record { how = onward _ (λ q. refl) (not_seen c.in_err-token.ensures) (omega arith) (omega arith) })

pub returns-in-9 : goal.returns-in-9
unfolding param_kind then ifb
returns-in-9 c = let tk = taken c.in_ok-token.ensures in
    same_heads (λ q. rw (tk.same q, c.in-9.is)) c.variadic_param.ensures (omega arith) (omega arith)

pub returns-in-39 : goal.returns-in-39
unfolding param_kind then ifb
returns-in-39 c = let tk = taken c.in_ok-token.ensures in
    record { how = record { got = record { what = h_default c.args.v; same = λ q. rw (tk.same q, c.in-39.is); on = omega arith; within = omega arith }; is = refl; below = omega arith } }

pub returns-in_default : goal.returns-in_default
unfolding param_kind then ifb
returns-in_default c = let tk = taken c.in_ok-token.ensures in
    record { how = record { got = record { what = h_required c.args.v; same = λ q. rw (tk.same q, ne_eqb c.in_ok-token.token.kind Kind.Ellipsis (search), ne_eqb c.in_ok-token.token.kind Kind.OpAssign (search)); on = omega arith; within = omega arith }; is = refl; below = omega arith } }
