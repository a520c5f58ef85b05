-- `writer::legal::item_too` meets its contract. Assumes nothing.
use mathlib.Core.Path.{◌≡◌, ◌∙◌}
use mathlib.Core.Bool.{true}
use Rattle.std.specs.Prelude.{Some}
use Rattle.writer.proofs.Places.{stands, some_place}
use Rattle.writer.proofs.legal.item_too.Goals as goal

pub kind_at-requires : goal.kind_at-requires
kind_at-requires c = search some_place

pub returns-then-items : goal.returns-then-items
returns-then-items c = let k = c.kind_at.ensures in
    let e : c.args.items ≡ true = c.if-items.true in
    record { how = λ t s a. c.target_item.ensures ∙ rw (e, ← k.how (Some t) s (stands a)) }
