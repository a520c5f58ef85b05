-- `output::written` meets its contract. Assumes nothing.
use mathlib.Core.Path.{refl}
use native.Mathlib.Omega.{arith}
use borrow.Author.Rules.{rules}
use Rattle.std.proofs.lemmas.Slice.{overwrites}
use Rattle.tables.proofs.Answer.{cleared}
use Rattle.output.proofs.Laws.{no_room, fronted}
use Rattle.output.proofs.written.Goals as goal

pub returns-in_default : goal.returns-in_default
returns-in_default c = record { how = λ X h. cleared c.args.output.now _ _ c.clear.ensures refl (no_room h (omega (arith, c.in_default.ensures))) }

pub returns : goal.returns
returns c =
    let s = c.in-Some.ensures in
    record { how = λ X h. fronted h s.0 s.1 (search (rules, overwrites)) }
