-- What the readings put together of leveled trees is leveled: blocks, arguments, groups, paths, parameters. Assumes nothing.
use Rattle.std.specs.Prelude.{◌≡◌, refl, Bool, true, false, cond, ℕ, zero, suc, ◌+◌, ◌*◌, ◌/◌, eqb}
use Rattle.std.proofs.Common.{eqb-true}
use Rattle.tree.specs.NodeKind
use Rattle.tree.specs.Tree.{Tree, Forest, node, none, more, one}
use Rattle.grammar.specs.Reading.Expr.{Stmts}
use Rattle.grammar.specs.Reading.Primary.{with_action, list_members, arguments, with_path}
use Rattle.grammar.specs.Reading.Block.{Split, whole, result, split_before, split_kids, split_last, split, block_split, block_of}
use Rattle.grammar.specs.Reading.Function.{Param, required, variadic, default, Params}
use Rattle.grammar.proofs.Laws.Facts.{if_both}
use Rattle.grammar.proofs.Laws.Levels.Leveled.{tree_level, Leveled, AllLeveled, leveling, p_none, p_more, p_children, p_first, p_later}

-- of a statement list
pub record LeveledStmts (s : Stmts) : Type 0 where
  pub suite : AllLeveled s.suite
  pub control : Leveled s.control

-- of a parameter, and of parameters
pub data LeveledParam : Param → Type 0 where
  p_required : {v : ℕ} → LeveledParam (required v)
  p_variadic : {v : ℕ} → LeveledParam (variadic v)
  p_default : {v : ℕ} {e : Tree} → Leveled e → LeveledParam (default v e)

pub record LeveledParams (ps : Params) : Type 0 where
  pub first : AllLeveled ps.required_list
  pub second : AllLeveled ps.default_list
  pub third : Leveled ps.variadic_one

pub p_stmts : {s : Stmts} → AllLeveled s.suite → Leveled s.control → LeveledStmts s
p_stmts f c = record { suite = f; control = c }

pub p_params : {ps : Params} → AllLeveled ps.required_list → AllLeveled ps.default_list → Leveled ps.variadic_one → LeveledParams ps
p_params a b c = record { first = a; second = b; third = c }

-- a group hands its action to an assignment
pub with_action_leveled : (m : ℕ) {t : Tree} → Leveled t → Leveled (with_action m t)
with_action_leveled zero h = h
with_action_leveled (suc a) {t = node k v f} h = go (eqb k NodeKind.Assignment) refl
  where
    go : (b : Bool) → eqb k NodeKind.Assignment ≡ b → Leveled (cond b (node k (a + 4 * (v / 4)) f) (node k v f))
    go true e = rw (eqb-true k NodeKind.Assignment e) (search (leveling, p_children h))
    go false e = h

-- a tuple's members are arguments, and anything else is one
list_members_leveled : {f : Forest} → AllLeveled f → AllLeveled (list_members f)
list_members_leveled {f = none} g = p_none
list_members_leveled {f = more (node k v f) g} h = p_children (p_first h)

pub arguments_leveled : {t : Tree} → Leveled t → AllLeveled (arguments t)
arguments_leveled {t = node k v f} h = go (eqb k NodeKind.Tuple)
  where
    go : (b : Bool) → AllLeveled (cond b (list_members f) (one (node k v f)))
    go true = list_members_leveled (p_children h)
    go false = p_more h p_none

-- an atom with its path, which is an operand as the atom is
pub with_path_leveled : {a : Tree} (f : Forest) → Leveled a → AllLeveled f → Leveled (with_path a f)
with_path_leveled none h g = h
with_path_leveled (more i f) h g = search leveling depth 9

pub with_path_level : (a : Tree) (f : Forest) → tree_level a ≡ 0 → tree_level (with_path a f) ≡ 0
with_path_level a none e = e
with_path_level a (more i f) e = refl

-- a block's statements and its result
data LeveledSplit : Split → Type 0 where
  p_whole : {f : Forest} → AllLeveled f → LeveledSplit (whole f)
  p_result : {f : Forest} {e : Tree} → AllLeveled f → Leveled e → LeveledSplit (result f e)

before_leveled : {t : Tree} {s : Split} → Leveled t → LeveledSplit s → LeveledSplit (split_before t s)
unfolding split_before
before_leveled h (p_whole g) = p_whole (p_more h g)
before_leveled h (p_result g e) = p_result (p_more h g) e

kids_leveled : (k v : ℕ) (f : Forest) → Leveled (node k v f) → LeveledSplit (split_kids k v f)
unfolding split_kids
kids_leveled k v none h = p_whole (p_more h p_none)
kids_leveled k v (more e none) h = if_both LeveledSplit _ (λ u. p_result p_none (p_first (p_children h))) (λ u. p_whole (p_more h p_none))
kids_leveled k v (more e (more u f)) h = p_whole (p_more h p_none)

split_leveled : (f : Forest) → AllLeveled f → LeveledSplit (split f)
unfolding split split_last
split_leveled none g = p_whole p_none
split_leveled (more (node k v f) none) g = kids_leveled k v f (p_first g)
split_leveled (more t (more u f)) g = before_leveled (p_first g) (split_leveled (more u f) (p_later g))

split_block_leveled : {s : Split} → LeveledSplit s → Leveled (block_split s)
unfolding block_split
split_block_leveled (p_whole g) = search leveling depth 9
split_block_leveled (p_result g e) = search leveling depth 9

pub block_leveled : (s : Stmts) → AllLeveled s.suite → Leveled s.control → Leveled (block_of s)
unfolding block_of
block_leveled s f c = if_both Leveled _ (λ u. split_block_leveled (split_leveled s.suite f)) (λ u. search leveling depth 9)

pub ruleset parts = (leveling, p_required, p_variadic, p_default, p_stmts, p_params, with_action_leveled, arguments_leveled, with_path_leveled, with_path_level, block_leveled)
