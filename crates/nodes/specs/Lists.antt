-- What the contracts of the functions that read statement lists say, and of those that end them. Assumes nothing.
use Rattle.std.specs.Prelude.{◌≡◌, List, [], ◌∷◌, ◌++◌, Option, None, Some, ℕ, ◌+◌, ◌≤◌, length, take}
use Rattle.tree.specs.NodeKind
use Rattle.tree.specs.Tree.{Tree, Forest, node, one, snoc, count, records, all_records, kind_of}
use Rattle.tree.specs.Node
use Rattle.grammar.specs.Reading.Expr.{Stmts}
use Rattle.grammar.specs.Reading.Block.{whole, split, block_of}
use Rattle.scan.specs.declared.Cursor.{Cursor}
use Rattle.scan.specs.declared.Listed.{Listed}
use Rattle.scan.specs.declared.Listed.TheVariants.{Suite as ASuite, Control}
use Rattle.scan.specs.Lists.{end_of}

-- the end of a list's statements, whose words start at «at»: the last one is an expression statement, whose words start at «last»; or last is none
pub data Ends (f : Forest) (at : ℕ) (last : Option ℕ) : Type 0 where
  keeps : split f ≡ whole f → last ≡ None → Ends f at last
  gives : (g : Forest) (v : ℕ) (e : Tree) → f ≡ snoc g (node NodeKind.Expression v (one e)) → last ≡ Some (at + length (all_records g)) → Ends f at last

-- a list's words in the store: its statements; or these, their list and the control
abbrev pub suite_words : Stmts → List ℕ
suite_words s = all_records s.suite

abbrev pub held_words : Stmts → List ℕ
held_words s = records (Node.list s.suite) ++ records s.control

-- a list as it stands in the store, behind X
pub record SuiteStands (s : Stmts) (X S : List ℕ) (a n : ℕ) (last : Option ℕ) : Type 0 where
  pub text : take a S ≡ X ++ suite_words s
  pub plain : s.control ≡ Node.absent
  pub many : count s.suite ≡ n
  pub ends : Ends s.suite (length X) last

pub record HeldStands (s : Stmts) (X S : List ℕ) (a : ℕ) : Type 0 where
  pub text : take a S ≡ X ++ held_words s
  pub held : kind_of s.control ≡ NodeKind.Absent → ⊥

-- a list of n statements up to a, the last one from «last» on if it is an expression statement, may be ended
pub record Closing (m most a n : ℕ) (last : Option ℕ) : Type 0 where
  pub room : a + most ≤ m
  pub few : n ≤ 65536
  pub some : {from : ℕ} → last ≡ Some from → (from + 2 ≤ a) × (1 ≤ n)

abbrev pub ClosableAs : ℕ → ℕ → Listed → Type 0
ClosableAs m most (ASuite suite) = Closing m most suite.end.at suite.count suite.last
ClosableAs m most (Control end) = end.at + most ≤ m

pub record Closable (m most : ℕ) (l : Listed) : Type 0 where
  pub how : ClosableAs m most l

-- a list without control became a block
pub record Blocked (a n : ℕ) (last : Option ℕ) (r : ℕ) (S S' : List ℕ) : Type 0 where
  pub up : a ≤ r
  pub far : r ≤ a + 10
  pub text : (s : Stmts) (X : List ℕ) → SuiteStands s X S a n last → take r S' ≡ X ++ records (block_of s)

-- the list became a tree and a record behind it, which is to be the node over that tree and those before it
pub record Under (tree : Stmts → Tree) (stands : Stmts → List ℕ → Type 0) (word value most : ℕ) (end r : Cursor) (S' : List ℕ) : Type 0 where
  pub stays : r.pos ≡ end.pos
  pub up : end.at ≤ r.at
  pub far : r.at ≤ end.at + most
  pub text : (s : Stmts) (X : List ℕ) → stands s X → take r.at S' ≡ X ++ (records (tree s) ++ word ∷ value ∷ [])

-- how a list stands in the store
abbrev pub Stands : List ℕ → Listed → Stmts → List ℕ → Type 0
Stands S (ASuite suite) s X = SuiteStands s X S suite.end.at suite.count suite.last
Stands S (Control end) s X = HeldStands s X S end.at

pub record Unders (tree : Stmts → Tree) (word value most : ℕ) (S S' : List ℕ) (l : Listed) (r : Cursor) : Type 0 where
  pub how : Under tree (Stands S l) word value most (end_of l) r S'
