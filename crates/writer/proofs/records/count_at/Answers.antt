-- `writer::records::count_at` meets its contract. Assumes nothing.
use mathlib.Core.Path.{sym, ap}
use Rattle.tables.specs.Children.{count_in}
use Rattle.writer.proofs.Spots.{spot_none, read}
use Rattle.writer.proofs.records.count_at.Goals as goal

pub returns-then-p-lt2 : goal.returns-then-p-lt2
returns-then-p-lt2 c = record { how = λ m s h. sym (ap count_in (spot_none m s c.if-p-lt2.true h)) }

pub returns : goal.returns
returns c = record { how = λ m s h. (read m s c.if-p-lt2.false h).kids }
