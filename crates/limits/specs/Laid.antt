-- The words of layers. A definition; it assumes nothing.
use Rattle.std.specs.Prelude.{List, ◌++◌, ℕ}
use Rattle.std.specs.List.{repeat}
use Rattle.limits.specs.declared.made.Layers.{Layers}

-- the words before so many times, those in the middle, those behind as many times, and those at the end
abbrev pub laid : Layers → ℕ → List ℕ
laid l times = repeat times l.before.now ++ l.middle.now ++ repeat times l.behind.now ++ l.end.now
