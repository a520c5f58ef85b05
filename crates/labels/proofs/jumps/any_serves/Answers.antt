-- `labels::jumps::any_serves` meets its contract: by the entries, or by the records where they are full. Assumes nothing.
use mathlib.Core.Path.{ap, ◌∙◌}
use native.Mathlib.Omega.{arith}
use Rattle.labels.specs.Offences.{any_serves}
use Rattle.labels.specs.Entries.{kind_of}
use Rattle.labels.proofs.Kept.{length_held, has_room}
use Rattle.labels.proofs.jumps.any_serves.Goals as goal

pub returns-else-is_full : goal.returns-else-is_full
returns-else-is_full c = let z = length_held c.args.entries.now.words.now c.args.entries.now.count in
    c.any_kept.ensures ∙ ap (any_serves (kind_of c.args.jump.kind) c.args.jump.label) (c.requires.known (λ f. omega (arith, has_room c.args.entries.now.words.now c.args.entries.now.count c.is_full.ensures c.if-is_full.false)))
