-- `nodes::fields::join_required` meets its contract. Assumes nothing.
use mathlib.Core.Path.{◌≡◌, ap, ◌∙◌}
use Prim.Native.Nat.{ℕ, ◌+◌}
use native.Mathlib.Omega.{arith}
use Rattle.tree.specs.Tree.{count}
use Rattle.scan.proofs.Laws.{handed, found, unfound}
use Rattle.nodes.proofs.Made.{count_snoc}
use Rattle.nodes.proofs.Names.{is_empty, not_empty, unjoined, joins_required, out_of_order, required_text}
use Rattle.nodes.proofs.fields.join_required.Goals as goal

pub returns-in_err-pos : goal.returns-in_err-pos
returns-in_err-pos c = λ X ps t s. rw (handed c.from_residual.ensures.1) (unjoined ps _ (unfound c.in_err-pos.ensures))

pub returns-then-counts-gt0 : goal.returns-then-counts-gt0
returns-then-counts-gt0 c = let f = found c.in_ok-pos.ensures in
    λ X ps t s. out_of_order ps f.got c.args.v (not_empty ps.default_list (omega (arith, t.are_default, c.if-counts-gt0.true)))

pub returns : goal.returns
returns c = let f = found c.in_ok-pos.ensures in
    let e = c.emit-at.ensures in
    let x = e.next in
    let d = c.if-counts-gt0.false in
    λ X ps t s.
    let z : count ps.default_list ≡ 0 = omega (arith, t.are_default) in
    record { how = record { got = joins_required ps f.got c.args.v (is_empty ps.default_list z); fits = record { are_required = count_snoc ps.required_list _ ∙ ap (λ (n : ℕ). n + 1) t.are_required; are_default = t.are_default; is_variadic = t.is_variadic }; few = omega arith; below = c.requires.3; up = omega arith; far = omega arith; text = required_text X ps z s e } }
