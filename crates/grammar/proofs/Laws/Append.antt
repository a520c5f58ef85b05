-- What a tree writes does not depend on the words that follow it. Assumes nothing.
use Rattle.std.specs.Prelude.{◌≡◌, refl, Bool, true, false, List, [], ◌∷◌, ◌++◌, ℕ, zero, suc, ◌%◌}
use Rattle.tree.specs.Tree.{Tree, Forest, node, none, more}
use Rattle.tree.specs.Choice.{pick}
use Rattle.grammar.specs.Canonical.Write.{Place, own, modified, targeted, commas, members, suite, branches, row, W, Words, token, label, modifier, keyword, tokens_if, first, rest, after_commas, as_suite, after_elif, as_row, list, assignment_keyword, fun_keyword, layout, write, writes}

-- words that come behind all may as well come behind what follows
abbrev Appends : W → Type 0
Appends w = (r s : List ℕ) → w r ++ s ≡ w (r ++ s)

pick_append : (b : Bool) (x y : Unit {0} → List ℕ) (s : List ℕ) → pick b x y ++ s ≡ pick b (λ u. x u ++ s) (λ u. y u ++ s)
pick_append true x y s = refl
pick_append false x y s = refl

optional : (v : ℕ) → Appends (label v) × Appends (modifier v) × Appends (keyword v)
optional zero = search
optional (suc n) = search

if_append : (b : Bool) (k : ℕ) → Appends (tokens_if b (token k))
if_append true k = search
if_append false k = search

keywords : (p : Place) (v : ℕ) → Appends (assignment_keyword p v) × Appends (fun_keyword p)
keywords own v = ((optional (v % 4)).2, search)
keywords modified v = search
keywords targeted v = search
keywords commas v = search
keywords members v = search
keywords suite v = search
keywords branches v = search
keywords row v = search

-- of the children
data All : List Words → Type 0 where
  no_children : All []
  children : {w : Words} {ws : List Words} → ((p : Place) → Appends (w p)) → All ws → All (w ∷ ws)

rest_all : {ws : List Words} → All ws → All (rest ws)
rest_all no_children = no_children
rest_all (children h g) = g

first_append : {ws : List Words} → All ws → (p : Place) → Appends (first ws p)
first_append no_children p = search
first_append (children h g) p = h p

-- with a token for each, or none
spread : {ws : List Words} → All ws → Appends (after_commas ws) × Appends (after_elif ws) × Appends (as_suite ws) × Appends (as_row ws)
spread no_children = search
spread (children h g) = simp (h, (spread g).0, (spread g).1, (spread g).2, (spread g).3) (search)

list_append : {ws : List Words} → All ws → (p : Place) → Appends (list p ws)
list_append h own = search
list_append h modified = search
list_append h targeted = search
list_append no_children commas = search
list_append (children h g) commas = simp (h, (spread g).0) (search)
list_append no_children members = search
list_append (children h no_children) members = simp h (search)
list_append (children h (children g i)) members = simp (h, g, (spread i).0) (search)
list_append h suite = (spread h).2
list_append no_children branches = search
list_append (children h g) branches = simp (h, (spread g).1) (search)
list_append h row = (spread h).3

layout_append : {ws : List Words} → All ws → (p : Place) (k v : ℕ) (f : Forest) → Appends (layout p k v f ws)
layout_append h p k v f r s =
    simp (pick_append, list_append h p, (optional v).0, (optional v).1, if_append, (keywords p v).0, (keywords p v).1, first_append h, first_append (rest_all h), first_append (rest_all (rest_all h)))

mutual
  unfolding write

  pub write_append : (t : Tree) (p : Place) → Appends (write t p)
  write_append (node k v f) p r s = layout_append (all_append f) p k v f r s

  all_append : (f : Forest) → All (writes f)
  all_append none = no_children
  all_append (more t f) = children (λ p r s. write_append t p r s) (all_append f)
