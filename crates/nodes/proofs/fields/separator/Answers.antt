-- `nodes::fields::separator` meets its contract. Assumes nothing.
use mathlib.Core.Path.{refl}
use native.Mathlib.Omega.{arith}
use borrow.Author.Tests.{ne_eqb}
use Rattle.token.specs.Kind
use Rattle.grammar.specs.Reading.Result.{then, ifb}
use Rattle.nodes.specs.Parts.{separator}
use Rattle.scan.proofs.Laws.{handed, taken, not_seen}
use Rattle.nodes.proofs.Names.{onward, finds, failed}
use Rattle.nodes.proofs.fields.separator.Goals as goal

pub returns-in_err-token : goal.returns-in_err-token
unfolding separator
returns-in_err-token c = rw (handed c.from_residual.ensures.1) (record { how = onward _ (λ q. refl) (not_seen c.in_err-token.ensures) (omega arith) (omega arith) })

pub returns-in-6 : goal.returns-in-6
unfolding separator then ifb
returns-in-6 c = let tk = taken c.in_ok-token.ensures in
    finds (λ q. rw (tk.same q, c.in-6.is)) (omega arith) (omega arith) (omega arith)

pub returns-in-1 : goal.returns-in-1
unfolding separator then ifb
returns-in-1 c = let tk = taken c.in_ok-token.ensures in
    finds (λ q. rw (tk.same q, c.in-1.is)) (omega arith) (omega arith) (omega arith)

pub returns-in_default : goal.returns-in_default
unfolding separator then ifb
returns-in_default c = let tk = taken c.in_ok-token.ensures in
    record { how = failed (λ q. rw (tk.same q, ne_eqb c.in_ok-token.token.kind Kind.Comma (search), ne_eqb c.in_ok-token.token.kind Kind.CloseParen (search))) (omega arith) (omega arith) (omega arith) }
