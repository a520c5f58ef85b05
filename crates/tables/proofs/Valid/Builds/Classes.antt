-- What a node's class alone says of a tree whose nodes all fit, and what each kind of node has to show for it. Definitions; they assume nothing.
use Rattle.std.specs.Prelude.{◌≡◌, Bool, true, false, not, ℕ, zero, suc, ◌+◌, ◌-◌, ◌%◌, ◌≤◌, eqb, ltb, leb, Some}
use Rattle.tree.specs.NodeKind
use Rattle.tree.specs.Tree.{Tree, Forest, node, none, more, one, two, three, kind_of}
use Rattle.tree.specs.Node
use Rattle.grammar.specs.Reading.Block.{split, whole}
use Rattle.grammar.specs.Reading.Stmt.{lone_ellipsis}
use Rattle.grammar.specs.Canonical.Write.{function_named}
use Rattle.grammar.specs.Canonical.Valid.{atom, tight, unary, binop, plain, ex, given, function, item, field, table_item, param, branch, jump, block, stmt, Valid, Valids, Pattern, IsNamed}
use Rattle.tables.specs.Operators.{Levels}
use Rattle.tables.specs.Class as Class
use Rattle.tables.specs.Class.{class}
use Rattle.tables.specs.Demand as Demand
use Rattle.tables.specs.Demand.{demand, fits}
use Rattle.tables.specs.Sound as Sound
use Rattle.tables.specs.Sound.{arity, exceeds}
use Rattle.tables.specs.Kinds as Kinds
use Rattle.tables.specs.Kinds.{unlabelled, closed}
use Rattle.tables.specs.Children as Children
use Rattle.tables.specs.Children.{value_in, Each}
use Rattle.tables.specs.Check as Check
use Rattle.tables.specs.Check.{class_of, mode_of, begins_labelled, ends_single}

-- one of two types, by a test
abbrev pub which : Bool → Type 0 → Type 0 → Type 0
which true A B = A
which false A B = B

abbrev pub value_of : Tree → ℕ
value_of t = value_in (Some t)

-- a tree begins and ends as a place wants it
abbrev pub Begins : Bool → Tree → Type 0
Begins begin t = begin ≡ false → begins_labelled t ≡ false

abbrev pub Ends : Bool → Tree → Type 0
Ends close t = close ≡ false → ends_single t ≡ false

-- expressions that bind tighter than operators, by class
pub data Tight : ℕ → Tree → Type 0 where
  as_lone : Tight Class.Lone (Node.unpack Node.absent)
  as_path : {a i : Tree} {f : Forest} → Valid atom a → Valid (item true) i → Valids (item true) f → Tight Class.Primary (Node.primary a (more i f))
  as_atom : {t : Tree} → Valid atom t → Tight Class.Atom t
  as_tight : {t : Tree} → ((begin : Bool) → Begins begin t → Valid (tight begin) t) → Tight Class.Tight t

-- expressions by class, each in the tightest role that the class has
pub data Expression : ℕ → Tree → Type 0 where
  bound : {c : ℕ} {t : Tree} → Tight c t → Expression c t
  as_unary : {t : Tree} → ((begin : Bool) → Begins begin t → Valid (unary begin) t) → Expression Class.Unary t
  as_binary : {t : Tree} (l : ℕ) → 1 ≤ l → l ≤ Levels → ((begin : Bool) → Begins begin t → Valid (binop begin l) t) → Expression (Class.Unary + l) t
  as_plain : {c : ℕ} {t : Tree} → Class.Tuple ≤ c → c ≤ Class.Local → ((begin close : Bool) → Begins begin t → Ends close t → Valid (plain begin close) t) → Expression c t
  as_any : {t : Tree} → ((begin close : Bool) → Begins begin t → Ends close t → Valid (ex begin close) t) → Expression Class.Keyword t

-- an expression, or an assignment that only a group's modifier gives; under its own action's modifier every assignment may stand
pub record Any (c : ℕ) (t : Tree) : Type 0 where
  pub own : c ≤ Class.Keyword → Expression c t
  pub lone : Class.Primary ≤ c → lone_ellipsis t ≡ false
  pub under : eqb (kind_of t) NodeKind.Assignment ≡ true → Valid (given (value_of t % 4)) t

-- parts of expressions and statements
pub data Receiver : Tree → Type 0 where
  receiver : {a : Tree} {f : Forest} → Valid atom a → Valids (item true) f → Receiver (Node.primary a f)

pub data Missing : Tree → Type 0 where
  missing : Missing Node.absent

pub data Default : Tree → Type 0 where
  default : {v : ℕ} {e : Tree} → IsNamed v → Valid (ex true true) e → Default (Node.default_def v e)

-- a function has the name of its signature
abbrev pub Named : Tree → Type 0
Named t = (n : ℕ) → function_named n t ≡ true → Valid (function n) t

abbrev pub Signature : Tree → Type 0
Signature t = (b : Tree) → Valid block b → Valid (function (value_of t)) (Node.function_def t b)

-- statement lists by class: without control; without one and without an expression at the end; with one
pub data Body : ℕ → Tree → Type 0 where
  open_body : {f : Forest} → Valids stmt f → Body Class.OpenBody (Node.stmt_list f Node.absent)
  plain_body : {f : Forest} → Valids stmt f → split f ≡ whole f → Body Class.PlainBody (Node.stmt_list f Node.absent)
  ended_body : {f : Forest} {c : Tree} → Valids stmt f → Valid jump c → Body Class.EndedBody (Node.stmt_list f c)

abbrev pub Part : ℕ → Tree → Type 0
Part c t =
    which (eqb c Class.Bare) (Receiver t)
    (which (eqb c Class.Named) (Named t)
    (which (eqb c Class.Absent) (Missing t)
    (which (eqb c Class.Pattern) (Pattern t)
    (which (eqb c Class.Statement) (Valid stmt t)
    (which (eqb c Class.Control) (Valid jump t)
    (which (eqb c Class.Item) (Valid (item true) t)
    (which (eqb c Class.Field) (Valid field t)
    (which (eqb c Class.TableItem) (Valid table_item t)
    (which (eqb c Class.Param) (Valid param t)
    (which (eqb c Class.Default) (Default t)
    (which (eqb c Class.Signature) (Signature t)
    (which (eqb c Class.Branch) (Valid branch t)
    (which (eqb c Class.Block) (Valid block t)
    (which (leb c Class.EndedBody) (Body c t)
    (Unit {0})))))))))))))))

-- lists
pub data Empty : Tree → Type 0 where
  empty_list : Empty (Node.list none)

pub data Only (P : Tree → Type 0) : Tree → Type 0 where
  only : {t : Tree} → P t → Only P (Node.list (one t))

pub data Listed (P : Tree → Type 0) : Tree → Type 0 where
  listed : {t : Tree} {f : Forest} → P t → Each P f → Listed P (Node.list (more t f))

abbrev pub Operand : Tree → Type 0
Operand t = (begin : Bool) → Begins begin t → Valid (binop begin Levels) t

pub record Argument (t : Tree) : Type 0 where
  pub valid : Valid (ex true true) t
  pub no_tuple : eqb (kind_of t) NodeKind.Tuple ≡ false

abbrev pub Lists : ℕ → Tree → Type 0
Lists c t =
    which (eqb c Class.Empty) (Empty t)
    (which (eqb c Class.Operands) (Listed Operand t)
    (which (eqb c Class.Argument) (Only Argument t)
    (which (eqb c (Class.Lists + Class.Default)) (Only Default t)
    (which (leb Class.Nothing c) (Unit {0})
    (Listed (Part (c - Class.Lists)) t)))))

abbrev pub Means : ℕ → Tree → Type 0
Means c t = which (leb c Class.Given) (Any c t) (which (ltb c Class.Lists) (Part c t) (Lists c t))

-- a child that meets the demand d of its place
pub record Kid (d : ℕ) (begin close : Bool) (t : Tree) : Type 0 where
  pub class : fits d (class_of t) ≡ true
  pub begins : Begins begin t
  pub ends : Ends close t
  pub means : Means (class_of t) t

-- the child number j of a node of the mode m
abbrev pub KidOf : ℕ → ℕ → ℕ → ℕ → Tree → Type 0
KidOf k v m j t = Kid (demand k v m j) (not (unlabelled k v)) (closed k) t

abbrev pub Shown : ℕ → ℕ → Forest → Type 0
Shown k v f = Means (class k v (mode_of k f)) (node k v f)

-- a node of n children that meet its demands
abbrev pub Shaped : ℕ → ℕ → ℕ → Type 0
Shaped k v zero = Shown k v none
Shaped k v (suc zero) = (t : Tree) → KidOf k v (mode_of k (one t)) 1 t → Shown k v (one t)
Shaped k v (suc (suc zero)) = (t u : Tree) → KidOf k v (mode_of k (two t u)) 1 t → KidOf k v (mode_of k (two t u)) 2 u → Shown k v (two t u)
Shaped k v (suc (suc (suc zero))) =
    (t u w : Tree) → KidOf k v (mode_of k (three t u w)) 1 t → KidOf k v (mode_of k (three t u w)) 2 u → KidOf k v (mode_of k (three t u w)) 3 w → Shown k v (three t u w)
Shaped k v (suc (suc (suc (suc n)))) = ⊥

-- a node of a kind, lists aside, whose value is in range
abbrev pub Rule : ℕ → Type 0
Rule k =
    which (eqb k NodeKind.List) (Unit {0})
    (which (exceeds k 1) (Shaped k 0 (arity k))
    ((v : ℕ) → exceeds k v ≡ false → Shaped k v (arity k)))

-- names all tables, for the proofs that compute with them
unfoldable pub tables : Unit {0}
unfolding Class.class Class.later_class Demand.demand Demand.first_demand Demand.second_demand Demand.third_demand Sound.top Sound.exceeds Sound.arity Kinds.unlabelled Kinds.closed Check.mode_of Check.inner_mode Children.last_tree
tables = tt

-- a rule for each kind from j up to n
infixr 5 ◌▸◌
pub data Rules : ℕ → ℕ → Type 0 where
  done : {n : ℕ} → Rules n n
  ◌▸◌ : {j n : ℕ} → Rule j → Rules (suc j) n → Rules j n
