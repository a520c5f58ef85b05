-- What is kept of the nodes that enclose a place, and what the functions that keep it say. Definitions; they assume nothing.
use Rattle.std.specs.Prelude.{◌≡◌, Bool, true, false, not, ◌&&◌, List, [], ◌∷◌, ℕ, zero, suc, ◌+◌, ◌*◌, ◌-◌, ◌≤◌, ◌<◌, eqb, ltb, length, get_or, drop}
use Rattle.tree.specs.NodeKind
use Rattle.tables.specs.Choice.{when◌then◌else◌}
use Rattle.labels.specs.declared.entries.JumpKind.{JumpKind}
use Rattle.labels.specs.declared.entries.JumpKind.TheVariants.{Break, Continue}
use Rattle.labels.specs.Offences.{Enclosing, means, inside}
use Rattle.labels.specs.Behind.{enclosing}

-- the kind of node that a jump is
abbrev pub kind_of : JumpKind → ℕ
kind_of Break = NodeKind.Break
kind_of Continue = NodeKind.Continue

-- a node whose last child stands inside it: its kind and value, and how many trees stood before its own record, the last child on top
pub record Entry : Type 0 where
  pub kind : ℕ
  pub label : ℕ
  pub from : ℕ

-- the first n entries that some words hold, three words each, the last one first
unfoldable pub held : List ℕ → ℕ → List Entry
held F zero = []
held F (suc n) = record { kind = get_or F (3 * n) 0; label = get_or F (3 * n + 1) 0; from = get_or F (3 * n + 2) 0 } ∷ held F n

-- what encloses a place, by the entries that stand round it
unfoldable pub around : List Entry → List Enclosing
around [] = []
around (e ∷ es) = inside e.kind e.label (around es)

-- the entries that stand round the last of so many trees
unfoldable pub standing : ℕ → List Entry → List Entry
standing h [] = []
standing h (e ∷ es) =
    when ltb h e.from then standing h es else
    e ∷ es

-- the kinds whose last child is a body
unfoldable pub encloses : ℕ → Bool
encloses k =
    when eqb k NodeKind.Loop then true else
    when eqb k NodeKind.WhileLoop then true else
    when eqb k NodeKind.ForLoop then true else
    when eqb k NodeKind.Block then true else
    when eqb k NodeKind.FunctionDef then true else
    false

-- whether an enclosing node of the kind j with the label m serves one of the kind k with the label l
unfoldable pub node_serves : ℕ → ℕ → ℕ → ℕ → Bool
node_serves k l j m =
    when eqb j NodeKind.Loop then means l m else
    when eqb j NodeKind.WhileLoop then means l m else
    when eqb j NodeKind.ForLoop then means l m else
    when eqb j NodeKind.Block then eqb k NodeKind.Break && means l m else
    false

-- there is no room for one entry more in m words
abbrev pub Full : ℕ → List Entry → Type 0
Full m es = m < 3 * length es + 3

-- the entries with one more for a node of the kind k with the label l and c children, before whose record h trees stand; none where it encloses nothing, or in m words is no room
unfoldable pub entered : ℕ → ℕ → ℕ → ℕ → ℕ → List Entry → List Entry
entered m k l c h es =
    when eqb c 0 then es else
    when not (encloses k) then es else
    when ltb (m - 3 * length es) 3 then es else
    record { kind = k; label = l; from = h } ∷ es

-- one entry more, or none, is kept
pub record Entered (F F' : List ℕ) (n k l c h r : ℕ) : Type 0 where
  pub words : held F' r ≡ entered (length F) k l c h (held F n)
  pub room : 3 * r ≤ length F'

-- those that stand round the last of h trees
pub record Stands (F : List ℕ) (n h r : ℕ) : Type 0 where
  pub words : held F r ≡ standing h (held F n)
  pub fewer : r ≤ n

-- a record ends at p, and the n entries are what encloses it, unless they are full
pub record Round (L F : List ℕ) (n p : ℕ) : Type 0 where
  pub two : 2 ≤ p
  pub inside : p ≤ length L
  pub room : 3 * n ≤ length F
  pub known : (Full (length F) (held F n) → ⊥) → around (held F n) ≡ enclosing 1 (drop p L)
