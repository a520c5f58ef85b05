-- What the decision tells: an expression can be a pattern exactly if the definition makes one of it. Assumes nothing.
use mathlib.Core.Path.{◌≡◌, refl, sym, ap}
use mathlib.Core.Bool.{true, false, true≢false, false≢true}
use Rattle.std.specs.Prelude.{Option, Some, None, is_some}
use Rattle.tree.specs.Tree.{Tree}
use Rattle.pattern.specs.Contract.{Is}

pub can : (m : Option Tree) → is_some m ≡ true → Is m
can None e = absurd (false≢true e)
can (Some p) e = record { what = p; same = refl }

pub cannot : (m : Option Tree) → is_some m ≡ false → m ≡ None
cannot None e = refl
cannot (Some p) e = absurd (true≢false e)

pub decided_no : {m : Option Tree} → m ≡ None → false ≡ is_some m
decided_no e = ap is_some (sym e)
