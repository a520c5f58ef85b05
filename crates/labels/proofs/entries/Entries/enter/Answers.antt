-- `labels::entries::Entries::enter` meets its contract. Assumes nothing.
use mathlib.Core.Path.{sym, ◌∙◌}
use Prim.Native.Nat.{◌+◌, ◌*◌, ◌≤◌}
use native.Mathlib.Omega.{arith}
use lib.ListN.{length, length-set}
use Rattle.labels.proofs.Kept.{length_held, is_full, has_room, held_stored, entered_none, entered_not, entered_full, entered_one}
use Rattle.labels.proofs.entries.Entries.enter.Goals.{then-kids-eq0-via-then-kids-eq0, then-kids-eq0-via-else-kids-eq0+then-not-encloses, then-kids-eq0-via-else-kids-eq0+else-not-encloses+then-is_full}
use Rattle.labels.proofs.entries.Entries.enter.Goals as goal

pub returns-then-kids-eq0-clause-entered : goal.returns-then-kids-eq0-clause-entered
returns-then-kids-eq0-clause-entered c = let room = c.args.self.now.room in
    elim c.then-kids-eq0.branch [
      | then-kids-eq0-via-then-kids-eq0 w ↦ record { words = sym (entered_none _ _ _ _ _ _ w.if-kids-eq0.true); room = room }
      | then-kids-eq0-via-else-kids-eq0+then-not-encloses w ↦ record { words = sym (entered_not _ _ _ _ _ _ (sym w.encloses.ensures ∙ w.if-not-encloses.true)); room = room }
      | then-kids-eq0-via-else-kids-eq0+else-not-encloses+then-is_full w ↦ record { words = sym (entered_full _ _ _ _ _ _ (is_full c.args.self.now.words.now c.args.self.now.count w.is_full.ensures w.if-is_full.true)); room = room }
    ]

pub returns-clause-entered : goal.returns-clause-entered
returns-clause-entered c =
    let z = length_held c.args.self.now.words.now c.args.self.now.count in
    let room : 3 * c.args.self.now.count + 3 ≤ length c.args.self.now.words.now = has_room c.args.self.now.words.now c.args.self.now.count c.is_full.ensures c.if-is_full.false in
    let e = sym c.encloses.ensures ∙ c.if-not-encloses.false in
    record {
      words = held_stored _ _ _ _ _ room ∙ sym (entered_one _ _ _ _ _ _ c.if-kids-eq0.false e (omega (arith, room)));
      room = simp length-set (omega (arith, room));
    }
