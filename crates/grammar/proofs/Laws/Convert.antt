-- What the parts of an expression convert to is a pattern, and so what the whole does. Assumes nothing.
use Rattle.std.specs.Prelude.{◌≡◌, refl, true, ℕ, suc, ◌<◌, Option, Some, None, option_and_then}
use Rattle.std.proofs.Common.{sym, subst}
use Rattle.tree.specs.Tree.{Tree, Forest, none, more, snoc}
use Rattle.tree.specs.Node
use Rattle.tree.specs.Choice.{both}
use Rattle.grammar.specs.Reading.Pattern.{pattern, maybe, conv, all_conv, to_pattern, grouped, over, listed, by_item, last_of, front_of}
use Rattle.grammar.specs.Canonical.Valid.{IsName, Role, atom, prim, item, Valid, Valids, Pattern, Patterns, v_nil, v_empty_tuple, v_identifier, v_true, v_false, v_integer, v_float, v_string, v_group, v_modified, v_atom, v_primary, v_attribute, v_index, v_invoke, v_invoke_table, v_none, v_more, p_identifier, p_attribute, p_index, p_tuple, p_pack, p_ellipsis, p_modifier, p_none, p_more}

pub data PatternOk : Option Tree → Type 0 where
  no_pattern : PatternOk None
  a_pattern : {p : Tree} → Pattern p → PatternOk (Some p)

data PatternsOk : Option Forest → Type 0 where
  no_patterns : PatternsOk None
  some_patterns : {f : Forest} → Patterns f → PatternsOk (Some f)

-- a tree converts to a pattern or to none
pub record Converts (t : Tree) : Type 0 where
  pub as_is : PatternOk (to_pattern t)

-- each tree of a forest converts to a pattern or to none
pub data Convert : Forest → Type 0 where
  c_none : Convert none
  c_more : {t : Tree} {f : Forest} → Converts t → Convert f → Convert (more t f)

pub convert_snoc : {t : Tree} {f : Forest} → Convert f → Converts t → Convert (snoc f t)
unfolding snoc
convert_snoc c_none x = c_more x c_none
convert_snoc (c_more y c) x = c_more y (convert_snoc c x)

more_ok : {m : Option Tree} {n : Option Forest} → PatternOk m → PatternsOk n → PatternsOk (both more m n)
more_ok no_pattern y = no_patterns
more_ok (a_pattern p) no_patterns = no_patterns
more_ok (a_pattern p) (some_patterns f) = some_patterns (p_more p f)

all_ok : {f : Forest} → Convert f → PatternsOk (all_conv f pattern)
unfolding conv
all_ok c_none = some_patterns p_none
all_ok (c_more x c) = more_ok x.as_is (all_ok c)

-- a group without a modifier vanishes
group_ok : {m : Option Tree} → PatternOk m → PatternOk (option_and_then (grouped 0) (both more m (Some none)))
group_ok no_pattern = no_pattern
group_ok (a_pattern p) = a_pattern p

modified_ok : {a : ℕ} {m : Option Tree} → a < 4 → PatternOk m → PatternOk (option_and_then (grouped (suc a)) (both more m (Some none)))
modified_ok h no_pattern = no_pattern
modified_ok h (a_pattern p) = a_pattern (p_modifier h p)

pack_ok : {m : Option Tree} → PatternOk m → PatternOk (option_and_then (over 45) (both more m (Some none)))
pack_ok no_pattern = no_pattern
pack_ok (a_pattern p) = a_pattern (p_pack p)

tuple_ok : {m : Option Tree} {n : Option Forest} → PatternOk m → PatternsOk n → PatternOk (option_and_then (over 44) (both more (option_and_then (listed 0) (both more m n)) (Some none)))
tuple_ok no_pattern y = no_pattern
tuple_ok (a_pattern p) no_patterns = no_pattern
tuple_ok (a_pattern p) (some_patterns f) = a_pattern (p_tuple p f)

-- what stands before the last item of a path, and that item
pub front_valid : {o : Role} {i : Tree} {f : Forest} → Valid o i → Valids o f → Valids o (front_of i f)
unfolding front_of
front_valid h v_none = v_none
front_valid h (v_more g f) = v_more h (front_valid g f)

pub last_valid : {o : Role} {i : Tree} {f : Forest} → Valid o i → Valids o f → Valid o (last_of i f)
unfolding last_of
last_valid h v_none = h
last_valid h (v_more g f) = last_valid g f

item_ok : {a i : Tree} {f : Forest} → Valid atom a → Valids (item true) f → Valid (item true) i → PatternOk (by_item (Node.primary a f) i)
item_ok a f (v_attribute n) = a_pattern (p_attribute a f n)
item_ok a f (v_index e) = a_pattern (p_index a f e)
item_ok a f (v_invoke args) = no_pattern
item_ok a f (v_invoke_table items) = no_pattern

-- what `...` stands behind is not absent
there : {t : Tree} → Valid prim t → conv t maybe ≡ conv t pattern
unfolding conv
there (v_atom v_nil) = refl
there (v_atom v_empty_tuple) = refl
there (v_atom (v_identifier n)) = refl
there (v_atom v_true) = refl
there (v_atom v_false) = refl
there (v_atom (v_integer v)) = refl
there (v_atom (v_float v)) = refl
there (v_atom (v_string n)) = refl
there (v_atom (v_group e)) = refl
there (v_atom (v_modified a e)) = refl
there (v_primary a i f) = refl

-- a kind that is no pattern's
pub none_sound : {t : Tree} → to_pattern t ≡ None → Converts t
none_sound e = record { as_is = subst PatternOk (sym e) no_pattern }

pub unpack_sound : {t : Tree} → Valid prim t → Converts t → Converts (Node.unpack t)
unfolding conv
unpack_sound h x = record { as_is = subst (λ m. PatternOk (option_and_then (over 45) (both more m (Some none)))) (sym (there h)) (pack_ok x.as_is) }

pub tuple_sound : {t : Tree} {f : Forest} → Convert (more t f) → Converts (Node.tuple (more t f))
unfolding conv
tuple_sound (c_more x c) = record { as_is = tuple_ok x.as_is (all_ok c) }

pub group_sound : {e : Tree} → Converts e → Converts (Node.group 0 e)
unfolding conv
group_sound x = record { as_is = group_ok x.as_is }

pub modified_sound : {a : ℕ} {e : Tree} → a < 4 → Converts e → Converts (Node.group (suc a) e)
unfolding conv
modified_sound h x = record { as_is = modified_ok h x.as_is }

pub identifier_sound : {n : ℕ} → IsName n → Converts (Node.identifier n)
unfolding conv
identifier_sound h = record { as_is = a_pattern (p_identifier h) }

pub ellipsis_sound : Converts (Node.unpack Node.absent)
unfolding conv
ellipsis_sound = record { as_is = a_pattern p_ellipsis }

pub primary_sound : {a i : Tree} {f : Forest} → Valid atom a → Valid (item true) i → Valids (item true) f → Converts (Node.primary a (more i f))
unfolding conv
primary_sound a i f = record { as_is = item_ok a (front_valid i f) (last_valid i f) }
