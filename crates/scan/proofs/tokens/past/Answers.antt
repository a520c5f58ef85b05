-- `scan::tokens::past` meets its contract. Assumes nothing.
use mathlib.Core.Path.{refl}
use Rattle.scan.proofs.Laws.{handed, taken, not_seen}
use Rattle.scan.proofs.tokens.past.Goals as goal

pub look-requires : goal.look-requires
look-requires c = let within = c.requires in (rw c.in-Suite.is at within).how

pub returns-in_err-look-in-Suite : goal.returns-in_err-look-in-Suite
returns-in_err-look-in-Suite c = rw (handed c.from_residual.ensures.1, c.in-Suite.is) (record { how = not_seen c.in_err-look-in-Suite.ensures })

pub returns-in_ok-look-in-Suite : goal.returns-in_ok-look-in-Suite
returns-in_ok-look-in-Suite c = rw c.in-Suite.is (record { how = (_, record { is = refl; taken = taken c.in_ok-look-in-Suite.ensures }) })

pub look-requires-in-Control : goal.look-requires-in-Control
look-requires-in-Control c = let within = c.requires in (rw c.in-Control.is at within).how

pub returns-in_err-look-in-Control : goal.returns-in_err-look-in-Control
returns-in_err-look-in-Control c = rw (handed c.from_residual-in_err-look-in-Control.ensures.1, c.in-Control.is) (record { how = not_seen c.in_err-look-in-Control.ensures })

pub returns-in_ok-look-in-Control : goal.returns-in_ok-look-in-Control
returns-in_ok-look-in-Control c = rw c.in-Control.is (record { how = (_, record { is = refl; taken = taken c.in_ok-look-in-Control.ensures }) })
