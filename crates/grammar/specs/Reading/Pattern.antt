-- What pattern an expression is, if it is one (pattern.rs, the three `try_from`). A definition, which runs on trees of any shape; it assumes nothing.
use Rattle.std.specs.Prelude.{Bool, ℕ, zero, suc, eqb, Option, Some, None, is_some, option_and_then}
use Rattle.tree.specs.NodeKind
use Rattle.tree.specs.Node
use Rattle.tree.specs.Tree.{Tree, Forest, node, none, more, one, two}
use Rattle.tree.specs.Choice.{both, pick}

-- where a tree stands: as a pattern; as the list of a tuple's members; as what an `Unpack` has
pub data Role : Type 0 where
  pattern members maybe : Role

-- a node without children
abbrev pub leaf : ℕ → ℕ → Forest → Option Tree
leaf k v none = Some (node k v none)
leaf k v (more t f) = None

-- a node of the kind k over one pattern
abbrev pub over : ℕ → Forest → Option Tree
over k none = None
over k (more p none) = Some (node k 0 (one p))
over k (more p (more q f)) = None

-- under a modifier, 0 or 1 + its action: a pattern without one stays as it is
abbrev pub modified : ℕ → Tree → Tree
modified zero p = p
modified (suc action) p = Node.modifier action p

-- a group vanishes, or is its modifier
abbrev pub grouped : ℕ → Forest → Option Tree
grouped v none = None
grouped v (more p none) = Some (modified v p)
grouped v (more p (more q f)) = None

-- one member or more
abbrev pub listed : ℕ → Forest → Option Tree
listed v none = None
listed v (more p f) = Some (node NodeKind.List v (more p f))

-- the last tree of a forest that starts with t, and those before it
unfoldable pub last_of : Tree → Forest → Tree
last_of t none = t
last_of t (more u f) = last_of u f

unfoldable pub front_of : Tree → Forest → Forest
front_of t none = none
front_of t (more u f) = more t (front_of u f)

-- a `Primary` becomes a pattern by its last item; the receiver is what stands before that
abbrev pub receiver : ℕ → Tree → ℕ → Forest → Tree
receiver v a w f = node NodeKind.Primary v (two a (node NodeKind.List w f))

abbrev pub by_attribute : Tree → ℕ → Forest → Option Tree
by_attribute to x none = Some (Node.attribute_pattern to x)
by_attribute to x (more t f) = None

abbrev pub by_index : Tree → Forest → Option Tree
by_index to none = None
by_index to (more e none) = Some (Node.index_pattern to e)
by_index to (more e (more t f)) = None

abbrev pub by_item : Tree → Tree → Option Tree
by_item to (node k x f) =
    pick (eqb k NodeKind.Attribute) (λ _. by_attribute to x f) λ _.
    pick (eqb k NodeKind.Index) (λ _. by_index to f) λ _.
    None

abbrev pub by_last : ℕ → Tree → ℕ → Forest → Option Tree
by_last v a w none = None
by_last v a w (more t f) = by_item (receiver v a w (front_of t f)) (last_of t f)

abbrev pub by_path : ℕ → Tree → Tree → Option Tree
by_path v a (node k w f) = pick (eqb k NodeKind.List) (λ _. by_last v a w f) (λ _. None)

abbrev pub access : ℕ → Forest → Option Tree
access v none = None
access v (more a none) = None
access v (more a (more l none)) = by_path v a l
access v (more a (more l (more t f))) = None

-- a node, given what its children are in each role
abbrev pub as_pattern : ℕ → ℕ → Forest → (Role → Option Forest) → Option Tree
as_pattern k v f kids =
    pick (eqb k NodeKind.Identifier) (λ _. leaf NodeKind.IdentifierPattern v f) λ _.
    pick (eqb k NodeKind.Group) (λ _. option_and_then (grouped v) (kids pattern)) λ _.
    pick (eqb k NodeKind.Unpack) (λ _. option_and_then (over NodeKind.Pack) (kids maybe)) λ _.
    pick (eqb k NodeKind.Tuple) (λ _. option_and_then (over NodeKind.TuplePattern) (kids members)) λ _.
    pick (eqb k NodeKind.Primary) (λ _. access v f) λ _.
    None

abbrev pub made : Role → ℕ → ℕ → Forest → (Role → Option Forest) → Option Tree
made pattern k v f kids = as_pattern k v f kids
made members k v f kids = pick (eqb k NodeKind.List) (λ _. option_and_then (listed v) (kids pattern)) (λ _. None)
made maybe k v f kids = pick (eqb k NodeKind.Absent) (λ _. leaf NodeKind.Absent v f) (λ _. as_pattern k v f kids)

unfoldable mutual
  pub conv : Tree → Role → Option Tree
  conv (node k v f) o = made o k v f (λ p. all_conv f p)

  pub all_conv : Forest → Role → Option Forest
  all_conv none o = Some none
  all_conv (more t f) o = both more (conv t o) (all_conv f o)

abbrev pub to_pattern : Tree → Option Tree
to_pattern t = conv t pattern

-- document 02, P4: an expression can be a pattern exactly when a pattern is made of it
abbrev pub can_be_pattern : Tree → Bool
can_be_pattern t = is_some (to_pattern t)
