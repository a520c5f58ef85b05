-- `nodes::fields::join_default` meets its contract. Assumes nothing.
use mathlib.Core.Path.{ap, ◌∙◌}
use Prim.Native.Nat.{ℕ, ◌+◌}
use native.Mathlib.Omega.{arith}
use Rattle.scan.proofs.Laws.{handed, found, unfound}
use Rattle.nodes.proofs.Made.{count_snoc}
use Rattle.nodes.proofs.Names.{unjoined, joins_default}
use Rattle.nodes.proofs.fields.join_default.Goals as goal

pub returns-in_err-pos : goal.returns-in_err-pos
returns-in_err-pos c = λ S X ps v e t s. rw (handed c.from_residual.ensures.1) (unjoined ps _ (unfound c.in_err-pos.ensures))

pub returns : goal.returns
returns c = let f = found c.in_ok-pos.ensures in
    λ S X ps v e t s. record { how = record { got = joins_default ps f.got v e; fits = record { are_required = t.are_required; are_default = count_snoc ps.default_list _ ∙ ap (λ (n : ℕ). n + 1) t.are_default; is_variadic = t.is_variadic }; few = omega arith; below = c.requires.2; up = omega arith; far = omega arith; text = s } }
