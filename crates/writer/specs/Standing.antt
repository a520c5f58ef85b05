-- The trees that stand: finished, and their parents not yet visited. What their parents ask of them, and what is kept of them. Definitions; they assume nothing.
use Rattle.std.specs.Prelude.{◌≡◌, Bool, true, false, cond, ◌&&◌, List, [], ◌∷◌, ℕ, ◌+◌, ◌*◌, ◌-◌, ◌≤◌, ◌<◌, eqb, ltb, leb, length, get_or, set, Option, Some, None}
use Rattle.tree.specs.NodeKind
use Rattle.tree.specs.Tree.{Tree, Forest, node, none, more, count, head_kind}
use Rattle.tree.specs.Records.{stack_records, back}
use Rattle.grammar.specs.Canonical.Write.{tail_of, target_atom, target_items, target_path, target_receiver}
use Rattle.tables.specs.Choice.{when◌then◌else◌}
use Rattle.tables.specs.Children.{kind_in, count_in, value_in}
use Rattle.tables.specs.Kinds.{gives_name}
use Rattle.tables.specs.Sound.{sound}
use Rattle.tables.specs.Check.{class_of, begins_labelled}
use Rattle.writer.specs.declared.standing.Standing.{Standing}
use Rattle.writer.specs.Stack.{At}

-- the tree on top of a stack, if there is one
abbrev pub first_of : List Tree → Option Tree
first_of [] = None
first_of (t ∷ s) = Some t

-- whether the signature of a function with these children, which is the first of them, has the name that a tree gives as a target
abbrev pub name_serves : Forest → Option Tree → Bool
name_serves none m = false
name_serves (more t f) m = gives_name (kind_in m) (value_in m) (value_in (Some t))

-- whether a tree over the stack s serves a `fun` with a target: a path, a primary or a pattern as the target or a part of it; a function by its signature's name, which
-- is the one that the tree before it gives
unfoldable pub serves_as : ℕ → Forest → List Tree → Bool
serves_as k f s =
    when eqb k NodeKind.List then target_items f else
    when eqb k NodeKind.Primary then target_atom (head_kind f) && target_path (tail_of f) else
    when eqb k NodeKind.AttributePattern then target_receiver f else
    when eqb k NodeKind.IndexPattern then target_receiver f else
    when eqb k NodeKind.FunctionDef then name_serves f (first_of s) else
    false

abbrev pub serves : Tree → List Tree → Bool
serves (node k v f) s = serves_as k f s

abbrev pub one : Bool → ℕ
one b = cond b 1 0

-- what is kept of a tree over the stack s: its class, whether it begins with a label, whether it serves, and where it begins
unfoldable pub entry : Tree → List Tree → ℕ
entry t s = class_of t + 128 * one (begins_labelled t) + 256 * one (serves t s) + 512 * length (stack_records s)

-- what the code makes of a tree's numbers: nothing is kept of a tree whose numbers are too large for a word
abbrev pub far : ℕ
far = 18014398509481984

unfoldable pub word : ℕ → Bool → Bool → ℕ → Option ℕ
word class labelled serves b =
    when leb 128 class then None else
    when leb far b then None else
    Some (class + 128 * one labelled + 256 * one serves + 512 * b)

pub record Entry (w : ℕ) (t : Tree) (s : List Tree) : Type 0 where
  pub small : class_of t < 128
  pub same : w ≡ entry t s

-- of the trees of a stack, numbered from 0 at the bottom, those from the number base on are kept in F
unfoldable pub Kept : List ℕ → ℕ → List Tree → Type 0
Kept F base [] = Unit {0}
Kept F base (t ∷ s) = (base ≤ length s → Entry (get_or F (length s - base) 0) t s) × Kept F base s

-- the tree number i ends at q, and what is kept of it and of those below it is right
pub record On (L F : List ℕ) (base i q : ℕ) : Type 0 where
  pub top : Tree
  pub rest : List Tree
  pub here : At L q (top ∷ rest)
  pub many : length rest ≡ i
  pub kept : Kept F base (top ∷ rest)
  pub room : i < base + length F

-- a node ends at p, and of its children, the last of the h trees that stand before it, what is kept is right
pub record AtNode (L F : List ℕ) (base h p : ℕ) : Type 0 where
  pub kind : ℕ
  pub value : ℕ
  pub kids : Forest
  pub rest : List Tree
  pub here : At L p (node kind value kids ∷ rest)
  pub many : count kids + length rest ≡ h
  pub kept : Kept F base (back kids rest)
  pub room : h ≤ base + length F

-- the same of the pass's records, and of what it keeps
abbrev pub TreeAt : Standing → ℕ → ℕ → Type 0
TreeAt s i q = On s.records.now s.kept.now s.base i q

abbrev pub NodeAt : Standing → ℕ → Type 0
NodeAt s p = AtNode s.records.now s.kept.now s.base s.count p

-- the record of the node at p is sound, so that it has the children of its kind
pub record SoundAt (L : List ℕ) (p : ℕ) : Type 0 where
  pub how : (t : Tree) (s : List Tree) → At L p (t ∷ s) → sound (kind_in (Some t)) (value_in (Some t)) (count_in (Some t)) ≡ true

-- from which number on trees are kept with the last one, the number i, where there is room for n
unfoldable pub first_kept : ℕ → ℕ → ℕ → ℕ
first_kept n base i =
    when ltb i base then i else
    when leb n (i - base) then i else
    base

-- the word w of that tree, if it has one, is kept: from which number on trees are kept then, and the words
unfoldable pub keep_from : ℕ → ℕ → ℕ → Option ℕ → ℕ
keep_from n base i None = i + 1
keep_from n base i (Some w) =
    when eqb n 0 then i + 1 else
    first_kept n base i

unfoldable pub keep_in : List ℕ → ℕ → ℕ → Option ℕ → List ℕ
keep_in F base i None = F
keep_in F base i (Some w) =
    when eqb (length F) 0 then F else
    set F (i - first_kept (length F) base i) w

pub record Keeps (F F' : List ℕ) (base i : ℕ) (w : Option ℕ) (r : ℕ) : Type 0 where
  pub from : r ≡ keep_from (length F) base i w
  pub words : F' ≡ keep_in F base i w

-- the answer r is what is to be said of the tree at q and of those below it
pub record Tells {A : Type 0} (L : List ℕ) (q : ℕ) (what : Tree → List Tree → A) (r : A) : Type 0 where
  pub how : (t : Tree) (s : List Tree) → At L q (t ∷ s) → r ≡ what t s
