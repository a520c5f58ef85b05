-- What the loop of `Sheet::read` keeps. Assumes nothing.
use Rattle.std.proofs.Common.{◌≡◌, drop}
use Rattle.treelist.specs.Lines.{read}
use Rattle.treelist.specs.Sheets.{progress}
use Rattle.treelist.proofs.lines.Sheet.read.Given as goal

abbrev pub invariant-loop-byte : goal.invariant-loop-byte
invariant-loop-byte l = read (progress l.self) (drop l.byte-index l.bytes) ≡ read (progress l.initial.self) l.bytes
