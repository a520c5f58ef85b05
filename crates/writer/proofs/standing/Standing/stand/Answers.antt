-- `writer::standing::Standing::stand` meets its contract. Assumes nothing.
use mathlib.Core.Path.{◌≡◌, refl, ◌∙◌}
use mathlib.Core.Bool.{true, false}
use lib.Dec.{eqb}
use borrow.Author.Tests.{eq-eqb, ne_eqb}
use Prim.Native.Nat.{◌≤◌, ◌<◌, ◌-◌}
use native.Mathlib.Omega.{arith}
use lib.ListN.{length}
use Rattle.writer.specs.Standing.{keep_from, keep_in}
use Rattle.writer.proofs.Keeping.{from_room}
use Rattle.writer.proofs.standing.Standing.stand.Goals.{After-first_kept-self}
use Rattle.writer.proofs.standing.Standing.stand.Goals as goal

-- from which number on
module _ (c : After-first_kept-self) where
  room : (c.first_kept-self.result ≤ c.args.i) × (c.args.i - c.first_kept-self.result < length c.args.self.now.kept.now)
  room = from_room c.args.self.now.base c.first_kept-self.ensures (omega (arith, c.if-n-eq0.false))

pub returns-in_default-clause-keeps : goal.returns-in_default-clause-keeps
unfolding keep_from keep_in
returns-in_default-clause-keeps c = rw c.in_default.is (record { from = refl; words = refl })

pub returns-then-n-eq0-clause-keeps : goal.returns-then-n-eq0-clause-keeps
unfolding keep_from keep_in
returns-then-n-eq0-clause-keeps c =
    let e : eqb (length c.args.self.now.kept.now) 0 ≡ true = eq-eqb _ _ c.if-n-eq0.true in
    rw c.in-Some.is (record { from = rw e; words = rw e })

pub overflow_sub-self : goal.overflow_sub-self
overflow_sub-self c = omega (arith, room (goal.at.overflow_sub-self c).After-first_kept-self)

pub offset_bounds-self-i : goal.offset_bounds-self-i
offset_bounds-self-i c = omega (arith, room (goal.at.offset_bounds-self-i c).After-first_kept-self)

pub bounds-self-i : goal.bounds-self-i
bounds-self-i c = omega (arith, room (goal.at.bounds-self-i c).After-first_kept-self)

pub returns-clause-keeps : goal.returns-clause-keeps
unfolding keep_from keep_in
returns-clause-keeps c =
    let e : eqb (length c.args.self.now.kept.now) 0 ≡ false = ne_eqb _ _ c.if-n-eq0.false in
    let f = c.first_kept-self.ensures in
    rw c.in-Some.is (record { from = f ∙ rw e; words = rw (← f, e) })
