-- `Records::put_function`: the words are those before the record of the list that the function stands in. Assumes nothing.
use Rattle.std.proofs.Common.{[], ◌∷◌, ◌-◌, append_assoc}
use Rattle.tree.specs.Tree.{records, count}
use Rattle.limits.specs.Nests.{jump_in}
use Rattle.limits.proofs.Looped.{whole, jump_is}
use Rattle.limits.proofs.jumps.Records.put_function.Goals as goal

pub returns : goal.returns
unfolding records count
returns c =
    let jump = c.args.jump in
    let behind = 0 ∷ 0 ∷ 534 ∷ 0 ∷ 532 ∷ 0 ∷ 258 ∷ 0 ∷ 257 ∷ 0 ∷ 0 ∷ 0 ∷ [] in
    let all = whole (c.args.inside - 1) (jump_in jump.form jump.label) behind (jump_is jump.form jump.label) in
    simp append_assoc (rw all at (simp (c.in_ok-put_loops.ensures, c.in_ok-put_jump.ensures, c.in_ok-put.ensures, append_assoc) at c.put-2.ensures))
