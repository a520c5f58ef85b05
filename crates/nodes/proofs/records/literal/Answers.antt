-- `nodes::records::literal` meets its contract: a record for each kind, or the error of its kind. Assumes nothing.
use mathlib.Core.Path.{refl, sym, ap, ◌∙◌}
use Prim.Native.Nat.{ℕ}
use native.Mathlib.Omega.{arith}
use lib.ListN.{drop}
use Rattle.tree.specs.Tree.{count, records}
use Rattle.tree.specs.Node
use Rattle.grammar.specs.Reading.Result.{fail, ifb}
use Rattle.grammar.specs.Reading.Primary.{literal}
use Rattle.nodes.proofs.Ends.{wrote, refused, OneRecord, no_literal}
use Rattle.nodes.proofs.records.literal.Goals.{in-69, in-46, in-44, in-45, in-71, in-72, in-70}
use Rattle.nodes.proofs.records.literal.Goals as goal

pub returns-in_default : goal.returns-in_default
returns-in_default c = λ T h.
    refused (λ q. no_literal c.args.kind c.args.value q (drop c.args.cursor.pos T) (search) (search) (search) (search) (search) (search) (search) ∙ ap (λ (e : ℕ). fail e q (drop c.args.cursor.pos T)) (sym c.atom_error.ensures)) h

pub returns : goal.returns
unfolding literal ifb records count
returns c = λ T h.
    let e = c.emit.ensures in
    let v = c.args.value in
    let one : OneRecord c.args.kind v c.match-kind.word = elim c.match-kind.branch [
      | in-69 w ↦ rw (w.in-69.is, w.word-is) (record { tree = Node.identifier v; same = λ q ts. refl; words = refl })
      | in-46 w ↦ rw (w.in-46.is, w.word-is) (record { tree = Node.nil; same = λ q ts. refl; words = refl })
      | in-44 w ↦ rw (w.in-44.is, w.word-is) (record { tree = Node.boolean_literal 1; same = λ q ts. refl; words = refl })
      | in-45 w ↦ rw (w.in-45.is, w.word-is) (record { tree = Node.boolean_literal 0; same = λ q ts. refl; words = refl })
      | in-71 w ↦ rw (w.in-71.is, w.word-is) (record { tree = Node.integer_literal v; same = λ q ts. refl; words = refl })
      | in-72 w ↦ rw (w.in-72.is, w.word-is) (record { tree = Node.float_literal v; same = λ q ts. refl; words = refl })
      | in-70 w ↦ rw (w.in-70.is, w.word-is) (record { tree = Node.string_literal v; same = λ q ts. refl; words = refl })
    ] in
    wrote one.tree (λ q. one.same q _) h (omega arith) (rw one.words e.text)
