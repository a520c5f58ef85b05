-- `nodes::fields::join_variadic` meets its contract. Assumes nothing.
use mathlib.Core.Path.{refl, sym, ◌∙◌}
use native.Mathlib.Omega.{arith}
use Rattle.scan.proofs.Laws.{handed, found, unfound}
use Rattle.nodes.proofs.Names.{unjoined, joins_variadic, not_last}
use Rattle.nodes.proofs.fields.join_variadic.Goals as goal

pub returns-in_err-behind : goal.returns-in_err-behind
returns-in_err-behind c = λ S X ps t s. rw (handed c.from_residual.ensures.1) (unjoined ps _ (unfound c.in_err-behind.ensures))

pub returns-then-behind-eq1 : goal.returns-then-behind-eq1
returns-then-behind-eq1 c = let f = found c.in_ok-behind.ensures in
    λ S X ps t s. not_last ps f.got c.args.v (f.is ∙ c.if-behind-eq1.true)

pub returns : goal.returns
returns c = let f = found c.in_ok-behind.ensures in
    λ S X ps t s. record { how = record { got = joins_variadic ps f.got c.args.v (λ i. c.if-behind-eq1.false (sym f.is ∙ i)); fits = record { are_required = t.are_required; are_default = t.are_default; is_variadic = refl }; few = omega arith; below = c.requires.1; up = omega arith; far = omega arith; text = s } }
