-- What a leveled expression converts to is leveled. Assumes nothing.
use Rattle.std.specs.Prelude.{◌≡◌, Bool, true, false, List, ℕ, zero, suc, eqb, ltb, Option, Some, None, option_and_then}
use Rattle.tree.specs.NodeKind
use Rattle.tree.specs.Tree.{Tree, Forest, node, none, more}
use Rattle.tree.specs.Choice.{both, pick}
use Rattle.grammar.specs.Reading.Result.{Error}
use Rattle.grammar.specs.Reading.Look.{expect_pattern}
use Rattle.grammar.specs.Reading.Pattern.{Role, pattern, members, maybe, conv, all_conv, made, as_pattern, to_pattern, modified, grouped, over, listed, leaf, access, by_last, by_item, by_attribute, by_index, last_of, front_of}
use Rattle.grammar.specs.Levels.{fits}
use Rattle.grammar.proofs.Laws.Keep.{Holds, k_ok, k_failed}
use Rattle.grammar.proofs.Laws.Levels.Leveled.{Leveled, AllLeveled, leveling, p_none, p_more, p_children, p_first, p_later}
use Rattle.grammar.proofs.Laws.Levels.Always.{Always}

-- P holds of what an expression converts to, if it converts
data Holds? {A : Type 0} (P : A → Type 0) : Option A → Type 0 where
  none_held : Holds? P None
  held : {a : A} → P a → Holds? P (Some a)

both_held : {t : Option Tree} {f : Option Forest} → Holds? Leveled t → Holds? AllLeveled f → Holds? AllLeveled (both more t f)
both_held none_held g = none_held
both_held (held h) none_held = none_held
both_held (held h) (held g) = held (p_more h g)

bind_held : {m : Option Forest} {k : Forest → Option Tree} → Holds? AllLeveled m → ((f : Forest) → AllLeveled f → Holds? Leveled (k f)) → Holds? Leveled (option_and_then k m)
bind_held none_held f = none_held
bind_held (held h) f = f _ h

pick_held : (b : Bool) {x y : Unit {0} → Option Tree} → ((u : Unit {0}) → Holds? Leveled (x u)) → ((u : Unit {0}) → Holds? Leveled (y u)) → Holds? Leveled (pick b x y)
pick_held true h g = h tt
pick_held false h g = g tt

ruleset holding = (none_held, held, leveling)

-- the nodes that a conversion makes

pub modified_leveled : (m : ℕ) {p : Tree} → Leveled p → Leveled (modified m p)
modified_leveled zero h = h
modified_leveled (suc a) h = search leveling

grouped_leveled : (v : ℕ) (f : Forest) → AllLeveled f → Holds? Leveled (grouped v f)
grouped_leveled v none g = none_held
grouped_leveled v (more p none) g = held (modified_leveled v (p_first g))
grouped_leveled v (more p (more q f)) g = none_held

-- of a kind that is no operator's
module _ (k : ℕ) (small : ltb k 256 ≡ true) (any : (v : ℕ) (children : List ℕ) → fits k v children ≡ true) where
  leaf_leveled : (v : ℕ) (f : Forest) → Holds? Leveled (leaf k v f)
  leaf_leveled v none = search holding
  leaf_leveled v (more t f) = none_held

  over_leveled : (f : Forest) → AllLeveled f → Holds? Leveled (over k f)
  over_leveled none g = none_held
  over_leveled (more p none) g = search holding
  over_leveled (more p (more q f)) g = none_held

listed_leveled : (v : ℕ) (f : Forest) → AllLeveled f → Holds? Leveled (listed v f)
listed_leveled v none g = none_held
listed_leveled v (more p f) g = search holding

-- a path, by its last item

front_leveled : (t : Tree) (f : Forest) → AllLeveled (more t f) → AllLeveled (front_of t f)
unfolding front_of
front_leveled t none g = p_none
front_leveled t (more u f) g = p_more (p_first g) (front_leveled u f (p_later g))

last_leveled : (t : Tree) (f : Forest) → AllLeveled (more t f) → Leveled (last_of t f)
unfolding last_of
last_leveled t none g = p_first g
last_leveled t (more u f) g = last_leveled u f (p_later g)

attribute_leveled : {to : Tree} (x : ℕ) (f : Forest) → Leveled to → Holds? Leveled (by_attribute to x f)
attribute_leveled x none h = search holding
attribute_leveled x (more t f) h = none_held

index_leveled : {to : Tree} (f : Forest) → Leveled to → AllLeveled f → Holds? Leveled (by_index to f)
index_leveled none h g = none_held
index_leveled (more e none) h g = search holding depth 7
index_leveled (more e (more t f)) h g = none_held

item_leveled : {to : Tree} (i : Tree) → Leveled to → Leveled i → Holds? Leveled (by_item to i)
item_leveled (node k x f) h g = search (none_held, pick_held, attribute_leveled, index_leveled, p_children g)

last_item_leveled : (v w : ℕ) {a : Tree} (f : Forest) → Leveled a → AllLeveled f → Holds? Leveled (by_last v a w f)
last_item_leveled v w none h g = none_held
last_item_leveled v w (more t f) h g = let x = front_leveled t f g in item_leveled (last_of t f) (search leveling depth 7) (last_leveled t f g)

access_leveled : (v : ℕ) (f : Forest) → AllLeveled f → Holds? Leveled (access v f)
access_leveled v none g = none_held
access_leveled v (more a none) g = none_held
access_leveled v (more a (more (node k w f) none)) g = pick_held (eqb k NodeKind.List) (λ u. last_item_leveled v w f (p_first g) (p_children (p_first (p_later g)))) (λ u. none_held)
access_leveled v (more a (more l (more t f))) g = none_held

-- a node, given what its children are

pattern_node_leveled : (k v : ℕ) (f : Forest) (kids : Role → Option Forest) → AllLeveled f → ((o : Role) → Holds? AllLeveled (kids o)) → Holds? Leveled (as_pattern k v f kids)
pattern_node_leveled k v f kids g h = search (none_held, pick_held, bind_held, h, leaf_leveled, grouped_leveled, over_leveled, access_leveled) depth 9

made_leveled : (o : Role) (k v : ℕ) (f : Forest) (kids : Role → Option Forest) → AllLeveled f → ((o : Role) → Holds? AllLeveled (kids o)) → Holds? Leveled (made o k v f kids)
made_leveled pattern k v f kids g h = pattern_node_leveled k v f kids g h
made_leveled members k v f kids g h = search (none_held, pick_held, bind_held, h, listed_leveled)
made_leveled maybe k v f kids g h = search (pick_held, leaf_leveled, pattern_node_leveled k v f kids g h)

mutual
  unfolding conv

  convert_leveled : (t : Tree) (o : Role) → Leveled t → Holds? Leveled (conv t o)
  convert_leveled (node k v f) o h = made_leveled o k v f (λ p. all_conv f p) (p_children h) (λ p. converts_leveled f p (p_children h))

  converts_leveled : (f : Forest) (o : Role) → AllLeveled f → Holds? AllLeveled (all_conv f o)
  converts_leveled none o g = held p_none
  converts_leveled (more t f) o g = both_held (convert_leveled t o (p_first g)) (converts_leveled f o (p_later g))

pub pattern_leveled : (e : Error) {t : Tree} → Leveled t → Always Leveled (expect_pattern e (to_pattern t))
unfolding expect_pattern
pattern_leveled e {t} h q ts = go (to_pattern t) (convert_leveled t pattern h)
  where
    go : (m : Option Tree) → Holds? Leveled m → Holds Leveled (expect_pattern e m q ts)
    go None none_held = k_failed
    go (Some p) (held x) = k_ok x
