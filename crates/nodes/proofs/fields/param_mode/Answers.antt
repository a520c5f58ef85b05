-- `nodes::fields::param_mode` meets its contract. Assumes nothing.
use mathlib.Core.Path.{refl}
use native.Mathlib.Omega.{arith}
use borrow.Author.Tests.{ne_eqb}
use Rattle.token.specs.Kind
use Rattle.grammar.specs.Reading.Result.{then, ifb}
use Rattle.grammar.specs.Reading.Function.{param_mode}
use Rattle.scan.proofs.Laws.{handed, taken, not_seen}
use Rattle.nodes.proofs.Names.{onward, finds, failed}
use Rattle.nodes.proofs.fields.param_mode.Goals as goal

pub returns-in_err-token : goal.returns-in_err-token
unfolding param_mode
returns-in_err-token c = rw (handed c.from_residual.ensures.1) (record { how = onward _ (λ q. refl) (not_seen c.in_err-token.ensures) (omega arith) (omega arith) })

pub returns-in-48 : goal.returns-in-48
unfolding param_mode then ifb
returns-in-48 c = let tk = taken c.in_ok-token.ensures in
    finds (λ q. rw (tk.same q, c.in-48.is)) (omega arith) (omega arith) (omega arith)

pub returns-in-47 : goal.returns-in-47
unfolding param_mode then ifb
returns-in-47 c = let tk = taken c.in_ok-token.ensures in
    finds (λ q. rw (tk.same q, c.in-47.is)) (omega arith) (omega arith) (omega arith)

pub returns-in-69 : goal.returns-in-69
unfolding param_mode then ifb
returns-in-69 c = let tk = taken c.in_ok-token.ensures in
    finds (λ q. rw (tk.same q, c.in-69.is)) (omega arith) (omega arith) (omega arith)

pub returns-in_default : goal.returns-in_default
unfolding param_mode then ifb
returns-in_default c = let tk = taken c.in_ok-token.ensures in
    record { how = failed (λ q. rw (tk.same q, ne_eqb c.in_ok-token.token.kind Kind.Var (search), ne_eqb c.in_ok-token.token.kind Kind.Let (search), ne_eqb c.in_ok-token.token.kind Kind.Identifier (search))) (omega arith) (omega arith) (omega arith) }
