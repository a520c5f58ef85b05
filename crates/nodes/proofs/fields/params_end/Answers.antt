-- `nodes::fields::params_end` meets its contract. Assumes nothing.
use native.Mathlib.Omega.{arith}
use Rattle.nodes.proofs.Names.{signature}
use Rattle.nodes.proofs.fields.params_end.Goals as goal

pub returns : goal.returns
returns c = let r = c.required_end-b.ensures in
    let l = c.list_end-d.ensures in
    let v = c.variadic_end.ensures in
    let up = r.up in
    let far = r.far in
    let next = l.next in
    let up2 = v.up in
    let far2 = v.far in
    record { up = omega arith; far = omega arith; text = λ X ps f t. signature ps _ X _ _ _ _ f t r.text l.text v.text }
