-- What the contracts of the functions that read statement lists say, and of those that end them. Assumes nothing.
use Rattle.std.specs.Prelude.{◌≡◌, Result, Ok, Err, List, ℕ, ◌+◌, ◌*◌, ◌≤◌}
use Rattle.tree.specs.NodeKind
use Rattle.tree.specs.Tree.{count, records, kind_of}
use Rattle.tree.specs.Node
use Rattle.grammar.specs.Reading.Result.{Res, ok}
use Rattle.grammar.specs.Reading.Expr.{Stmts}
use Rattle.nodes.specs.Lists.{Ends, suite_words, held_words}
use Rattle.scan.specs.Post.{clean, Wrote, Failed, no_words}
use Rattle.cycle.specs.Parts.{Place, a_stmt, a_control, a_caught, control_words}
use Rattle.scan.specs.declared.Halt.{Halt}
use Rattle.scan.specs.declared.Suite.{Suite}
use Rattle.scan.specs.declared.Listed.{Listed}
use Rattle.scan.specs.declared.Listed.TheVariants.{Suite as ASuite, Control}
use Rattle.scan.specs.declared.Entry.{Entry}
use Rattle.scan.specs.declared.Entry.TheVariants.{Stmt as EStmt, Control as EControl, Caught as ECaught}

-- a list without control was read
pub record Suited (d : Res Stmts) (T : List ℕ) (pos slack at : ℕ) (S Q : List ℕ) (suite : Suite) (S' Q' : List ℕ) : Type 0 where
  pub run : Wrote suite_words d clean T pos pos slack at S Q suite.end.pos suite.end.at S' Q'
  pub plain : run.what.control ≡ Node.absent
  pub many : count run.what.suite ≡ suite.count
  pub short : 2 * suite.count ≤ suite.end.pos
  pub ends : Ends run.what.suite at suite.last

-- one with a control
pub record Held (d : Res Stmts) (T : List ℕ) (pos slack at : ℕ) (S Q : List ℕ) (p a : ℕ) (S' Q' : List ℕ) : Type 0 where
  pub run : Wrote held_words d clean T pos pos slack at S Q p a S' Q'
  pub held : kind_of run.what.control ≡ NodeKind.Absent → ⊥

abbrev pub ListsAs : Res Stmts → List ℕ → ℕ → ℕ → ℕ → List ℕ → List ℕ → List ℕ → List ℕ → Result Listed Halt → Type 0
ListsAs d T pos slack at S Q S' Q' (Ok (ASuite suite)) = Suited d T pos slack at S Q suite S' Q'
ListsAs d T pos slack at S Q S' Q' (Ok (Control end)) = Held d T pos slack at S Q end.pos end.at S' Q'
ListsAs d T pos slack at S Q S' Q' (Err h) = Failed d T pos pos at S Q S' Q' h

pub record Lists (d : Res Stmts) (T : List ℕ) (pos slack at : ℕ) (S Q S' Q' : List ℕ) (r : Result Listed Halt) : Type 0 where
  pub how : ListsAs d T pos slack at S Q S' Q' r

-- one place of a list, after n statements, where a token stands
pub record Controlled (d : Res Place) (T : List ℕ) (pos n at : ℕ) (S Q : List ℕ) (p a : ℕ) (S' Q' : List ℕ) : Type 0 where
  pub run : Wrote (control_words n) d (λ c q r. ok (a_control c) r) T pos (pos + 2) 8 at S Q p a S' Q'
  pub held : kind_of run.what ≡ NodeKind.Absent → ⊥

abbrev pub EntersAs : Res Place → List ℕ → ℕ → ℕ → ℕ → List ℕ → List ℕ → List ℕ → List ℕ → Result Entry Halt → Type 0
EntersAs d T pos n at S Q S' Q' (Ok (EStmt end)) = Wrote records d (λ t q r. ok (a_stmt t) r) T pos (pos + 2) 14 at S Q end.pos end.at S' Q'
EntersAs d T pos n at S Q S' Q' (Ok (EControl end)) = Controlled d T pos n at S Q end.pos end.at S' Q'
EntersAs d T pos n at S Q S' Q' (Ok (ECaught p)) = Wrote {A = Unit {0}} no_words d (λ u q r. ok a_caught r) T pos (pos + 2) 8 at S Q p at S' Q'
EntersAs d T pos n at S Q S' Q' (Err h) = Failed d T pos pos at S Q S' Q' h

pub record Enters (d : Res Place) (T : List ℕ) (pos n at : ℕ) (S Q S' Q' : List ℕ) (r : Result Entry Halt) : Type 0 where
  pub how : EntersAs d T pos n at S Q S' Q' r
