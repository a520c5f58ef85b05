-- `writer::records::skip` meets its contract: the tree is a row of one. Assumes nothing.
use mathlib.Core.Path.{◌≡◌, refl, sym, ap, ◌∙◌}
use mathlib.Core.List.{List, ◌∷◌}
use Prim.Native.Nat.{ℕ, ◌+◌}
use native.Mathlib.Omega.{arith}
use lib.ListN.{length, take, length-append}
use lib.Seq.{length-take-le}
use Rattle.tree.specs.Tree.{Tree, records}
use Rattle.tree.specs.Records.{stack_records, StackSmall}
use Rattle.tree.specs.Rows.{end, on, rows, width, SmallRow, Trees, Starts}
use Rattle.writer.specs.Stack.{At}
use Rattle.writer.proofs.records.skip.Goals as goal

row_of : {L : List ℕ} {p : ℕ} {t : Tree} {s : List Tree} → At L p (t ∷ s) → Trees (stack_records s) (take p L) 1
unfolding rows width SmallRow stack_records StackSmall
row_of {t = t} a = record { row = on end t; many = refl; small = (tt, a.small.0); text = a.text }

under : {L : List ℕ} {p r : ℕ} {t : Tree} {s : List Tree} → At L p (t ∷ s) → Starts (stack_records s) L r → At L r s
unfolding stack_records StackSmall
under {L} {p} {t = t} {s = s} a r =
    let n : p ≡ length (stack_records s) + length (records t) = sym (length-take-le p L a.inside) ∙ ap length a.text ∙ length-append (stack_records s) (records t) in
    record { text = r.text; inside = omega (arith, r.at, a.inside); small = a.small.1 }

pub skip-requires : goal.skip-requires
skip-requires c =
    let a = c.requires.here in
    (a.inside, record { base = _; trees = row_of a })

pub returns : goal.returns
returns c = record { how = λ t s a. under a (c.skip.ensures _ (row_of a)) }
