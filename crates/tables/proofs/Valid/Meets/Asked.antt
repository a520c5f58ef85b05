-- What the tables ask of a tree in each role of the grammar: its class, and whether a label may begin it and a tuple of one member end it.
-- Definitions; they assume nothing.
use Rattle.std.specs.Prelude.{Bool, true, false, ℕ, suc, ◌≤◌, ◌<◌}
use Rattle.tree.specs.Tree.{Tree, one}
use Rattle.grammar.specs.Canonical.Valid.{Role, atom, prim, tight, unary, binop, assign, plain, ex, given, function, item, field, table_item, param, branch, else_clause, jump, control, body, block, stmt}
use Rattle.tables.specs.Choice.{where_zero}
use Rattle.tables.specs.Demand as Demand
use Rattle.tables.specs.Operators.{Levels}
use Rattle.tables.specs.Class as Class
use Rattle.tables.specs.Demand.{from_to, only, beside, Tight, Level, inside}
use Rattle.tables.specs.Check.{group_mode}

-- demands of roles that are not those of one place
abbrev pub Primary : ℕ
Primary = from_to Class.Primary Class.Atom

-- a function, by its name
abbrev pub Function : ℕ → ℕ
Function n = where_zero n (only Class.Tight) (beside Class.Named (only Class.Tight))

abbrev pub Statement : ℕ
Statement = only Class.Statement

abbrev pub Control : ℕ
Control = only Class.Control

abbrev pub Item : ℕ
Item = only Class.Item

abbrev pub TableItem : ℕ
TableItem = only Class.TableItem

abbrev pub Param : ℕ
Param = only Class.Param

abbrev pub Default : ℕ
Default = only Class.Default

abbrev pub Branch : ℕ
Branch = only Class.Branch

-- the roles that the grammar reads anything in: four actions, and as many levels as there are
abbrev pub Known : Role → Type 0
Known (binop begin l) = l ≤ Levels
Known (assign p close a) = a < 4
Known (given a) = a < 4
Known _ = Unit {0}

-- the demand on a tree in a role. Only under a group's modifier does it depend on the tree
abbrev pub asked : Role → Tree → ℕ
asked atom t = Demand.Atom
asked prim t = Primary
asked (tight begin) t = Tight
asked (unary begin) t = Demand.Unary
asked (binop begin l) t = Level l
asked (assign p close a) t = where_zero a Demand.Grouped Demand.Expr
asked (plain begin close) t = Demand.Grouped
asked (ex begin close) t = Demand.Expr
asked (given a) t = inside (suc a) (group_mode (one t))
asked (function n) t = Function n
asked (item calls) t = Item
asked field t = Demand.Field
asked table_item t = TableItem
asked param t = Param
asked branch t = Branch
asked else_clause t = Demand.BlockOrAbsent
asked jump t = Control
asked control t = Demand.ControlOrAbsent
asked body t = Demand.Body
asked block t = Demand.Block
asked stmt t = Statement

-- whether a label may be the first token
abbrev pub begin_of : Role → Bool
begin_of (tight begin) = begin
begin_of (unary begin) = begin
begin_of (binop begin l) = begin
begin_of (plain begin close) = begin
begin_of (ex begin close) = begin
begin_of (given a) = true
begin_of _ = false

-- whether a tuple of one member may be the end
abbrev pub close_of : Role → Bool
close_of (assign p close a) = close
close_of (plain begin close) = close
close_of (ex begin close) = close
close_of (given a) = true
close_of _ = false
