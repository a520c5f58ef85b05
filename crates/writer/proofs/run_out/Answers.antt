-- `writer::run_out` meets its contract. Assumes nothing.
use mathlib.Core.Path.{◌≡◌, refl}
use mathlib.Core.List.{[], ◌∷◌}
use native.Mathlib.Omega.{arith}
use lib.ListN.{length}
use Rattle.token.specs.Kind
use Rattle.output.specs.Text.{Holds}
use Rattle.writer.specs.Text.{token_in}
use Rattle.writer.proofs.Writing.{wrote_at}
use Rattle.writer.proofs.Ending.{semicolon, run_deep, run_done}
use Rattle.tables.proofs.Answer.{cleared}
use Rattle.writer.proofs.run_out.Goals.{After-write_tree}
use Rattle.writer.proofs.run_out.Goals as goal

-- the text begins with the semicolon
module _ (c : After-write_tree) where
  ends : Holds c.put.result c.put.new.output (Kind.Semicolon ∷ 0 ∷ [])
  unfolding token_in
  ends = semicolon (c.put.ensures Kind.Semicolon refl)

  kept : length c.write_tree.new.output ≡ length c.args.output.now
  kept = let k = c.write_tree.auto.output in let l = c.put.auto.output in omega arith

pub write_tree-requires : goal.write_tree-requires
unfolding token_in
write_tree-requires c = (c.requires, record { words = _; holds = semicolon (c.put.ensures Kind.Semicolon refl) })

pub written-requires : goal.written-requires
written-requires c =
    let y = c.requires in
    record { words = _; holds = (wrote_at c.write_tree.ensures c.in-Ok.is y.top y.rest _ y.here (ends (goal.at.written-requires c).After-write_tree)).2 }

pub returns-in-Ok : goal.returns-in-Ok
returns-in-Ok c =
    let w = (goal.at.returns-in-Ok c).After-write_tree in
    record {
      how = λ t a.
          let d = wrote_at c.write_tree.ensures c.in-Ok.is t [] _ a (ends w) in
          run_done t _ d.0 c.written.ensures d.2 (kept w);
    }

pub returns-in-Err : goal.returns-in-Err
returns-in-Err c =
    let w = (goal.at.returns-in-Err c).After-write_tree in
    record { how = λ t a. cleared c.write_tree.new.output _ (length c.args.output.now) c.clear.ensures (kept w) (run_deep t _ (wrote_at c.write_tree.ensures c.in-Err.is t [] _ a (ends w))) }
