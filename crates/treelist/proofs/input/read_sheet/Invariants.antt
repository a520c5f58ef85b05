-- What the loop of `read_sheet` keeps. Assumes nothing.
use Rattle.treelist.specs.Sheets.{progress}
use Rattle.treelist.proofs.Inputs.{Reading}
use Rattle.treelist.proofs.input.read_sheet.Given as goal

abbrev pub invariant-loop : goal.invariant-loop
invariant-loop g l = Reading (g.R.Read.remaining l.initial.input) (g.R.Read.remaining l.input) (progress l.sheet)
