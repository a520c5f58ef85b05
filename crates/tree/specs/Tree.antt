-- Trees of nodes, each with a kind, a value and its children, and their records in the store:
-- children first, two words a node, kind + 256 × the count of its children, and the value.
-- Definitions; they assume nothing.
use Rattle.std.specs.Prelude.{Bool, true, false, List, [], ◌∷◌, ◌++◌, ℕ, suc, ◌+◌, ◌*◌}

mutual
  pub data Tree : Type 0 where
    node : ℕ → ℕ → Forest → Tree

  pub data Forest : Type 0 where
    none : Forest
    more : Tree → Forest → Forest

abbrev pub empty : Forest → Bool
empty none = true
empty (more t f) = false

unfoldable pub count : Forest → ℕ
count none = 0
count (more t f) = suc (count f)

-- one tree more at the end
unfoldable pub snoc : Forest → Tree → Forest
snoc none t = more t none
snoc (more u f) t = more u (snoc f t)

abbrev pub one : Tree → Forest
one t = more t none

abbrev pub two : Tree → Tree → Forest
two t u = more t (more u none)

abbrev pub three : Tree → Tree → Tree → Forest
three t u v = more t (more u (more v none))

unfoldable mutual
  pub records : Tree → List ℕ
  records (node k v f) = all_records f ++ (k + 256 * count f) ∷ v ∷ []

  pub all_records : Forest → List ℕ
  all_records none = []
  all_records (more t f) = records t ++ all_records f

abbrev pub kind_of : Tree → ℕ
kind_of (node k v f) = k

-- the kind of the first tree; 0, the kind of `Absent`, where there is none
abbrev pub head_kind : Forest → ℕ
head_kind none = 0
head_kind (more t f) = kind_of t
