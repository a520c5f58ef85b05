-- `pattern::deciding::can_be_pattern` meets its contract: in each turn the top of a row of trees that are all to be patterns is passed. Assumes nothing.
use mathlib.Core.Path.{◌≡◌, sym}
use mathlib.Core.Bool.{true}
use mathlib.Core.Logic.{◌⊎◌, ⊎_elim, inl, inr}
use mathlib.Core.List.{List, [], ◌++◌}
use Prim.Native.Nat.{ℕ, ◌+◌, ◌-◌, ◌/◌, ◌≤◌, ◌<◌}
use native.Mathlib.Omega.{arith}
use borrow.Author.Tests.{eqb-true, eqb-false}
use lib.Dec.{eqb}
use lib.ListN.{length, take, get_or, length-take}
use Rattle.tree.specs.Tree.{Tree}
use Rattle.tree.specs.Rows.{rows, Trees, Starts}
use Rattle.grammar.specs.Reading.Pattern.{to_pattern, conv, pattern}
use Rattle.grammar.proofs.Laws.Facts.{by_test}
use Rattle.pattern.specs.Word
use Rattle.pattern.specs.Contract.{Is, Whole, ATree, has_members}
use Rattle.pattern.proofs.Decided.{decided_no}
use Rattle.pattern.proofs.Steps.{View, view, shorter, whole_ahead, all_read, decided_yes, ident_step, group_bare, group_modified, unpack_room, unpack_absent, unpack_other, tuple_room, tuple_step, tuple_none, some_members, no_pattern}
use Rattle.pattern.proofs.Access.{Receives, top_primary, primary_room, path_none, Shape, shape_of, no_item_step, attribute_pat, attribute_trees, index_pat, index_trees, no_top, top_passed}
use Rattle.pattern.proofs.deciding.can_be_pattern.Invariants.{Seeing}
use Rattle.pattern.proofs.deciding.can_be_pattern.Goals as goal

no_shorter : {t : Tree} (S : List ℕ) (from to i : ℕ) → Whole t S from to → i ≤ from → i ≤ length (take from S)
no_shorter S from to i g h = rw length-take (omega arith)

-- what is kept: up to i stands what is still to be decided, in any tree that the store may hold
abbrev Kept : List ℕ → ℕ → ℕ → ℕ → Type 0
Kept S from to i = (i ≤ length S) × ((t : Tree) → Whole t S from to → Seeing (to_pattern t) S from i)

-- a turn: the top of the row where it stands
module _ {S : List ℕ} {from to i : ℕ} (k : Kept S from to i) (l : from < i) where
  abbrev seen : {t : Tree} (g : Whole t S from to) → View (to_pattern t) (take from S) S i (k.1 _ g).ahead
  seen g = view k.0 (k.1 _ g).left (shorter S from i l)

  room : ATree S from to → 2 ≤ i
  room a = omega (arith, (seen a.whole).here.room)

  -- the records that are read before the top's own are there
  pack_room : get_or S (i - 2) 0 ≡ Word.Unpack → ATree S from to → 4 ≤ i
  pack_room e a = omega (arith, unpack_room k.0 (seen a.whole) e)

  member_room : get_or S (i - 2) 0 ≡ Word.Tuple → ATree S from to → 4 ≤ i
  member_room e a = omega (arith, tuple_room k.0 (seen a.whole) e)

  -- an access: its receiver, and its parts where there is a path
  module _ (e : get_or S (i - 2) 0 ≡ Word.Primary) where
    abbrev base : {t : Tree} → Whole t S from to → List ℕ
    base g = take from S ++ rows (seen g).under

    abbrev receives : {t : Tree} (g : Whole t S from to) → Receives (base g) S i (seen g).tree
    receives g = top_primary k.0 (seen g) e

    access_room : ATree S from to → 6 ≤ i
    access_room a = omega (arith, primary_room (receives a.whole))

    module _ (b : true ≡ has_members (get_or S (i - 4) 0)) where
      abbrev parts : {t : Tree} (g : Whole t S from to) → Shape (base g) S i (seen g).tree
      parts g =
          let l = some_members _ (sym b) in
          shape_of k.0 (receives g) l.0 l.1

      path_room : ATree S from to → 8 ≤ i
      path_room a = omega (arith, (parts a.whole).room)

      -- where the last item is an attribute, and where it is an index
      attributes : get_or S (i - 6) 0 ≡ Word.Attribute → (t : Tree) (g : Whole t S from to) → Trees (base g) (take (i - 6) S) (get_or S (i - 4) 0 / 256)
      attributes z t g = attribute_trees (parts g) z

      indexes : get_or S (i - 6) 0 ≡ Word.Index → (t : Tree) (g : Whole t S from to) → Trees (base g) (take (i - 6) S) (get_or S (i - 4) 0 / 256 + 1)
      indexes z t g = index_trees (parts g) z

      -- the n trees up to the path's last item are passed: they are the access, and the turn goes on where they start
      module _ {n r : ℕ} (trees : (t : Tree) (g : Whole t S from to) → Trees (base g) (take (i - 6) S) n) (skips : (B : List ℕ) → Trees B (take (i - 6) S) n → Starts B S r) where
        passed_less : ATree S from to → r < i
        passed_less a = omega (arith, (skips _ (trees _ a.whole)).at, (parts a.whole).room)

        passed_again : ATree S from to → ((t : Tree) (g : Whole t S from to) → Is (conv (seen g).tree pattern)) → Kept S from to r
        passed_again a pats =
            (omega (arith, passed_less a, k.0), λ t g. record { ahead = _; left = top_passed (seen g) (pats t g).what (pats t g).same (skips _ (trees t g)).text })

pub loop-i-init : goal.loop-i-init
loop-i-init c = (c.requires.whole.within, λ t g. record { ahead = []; left = whole_ahead g })

pub prove-unreachable-requires : goal.prove-unreachable-requires
prove-unreachable-requires c = omega (arith, room c.loop-i.invariant c.loop-i-test.true c.requires)

pub loop-i-preserved-in-31-1 : goal.loop-i-preserved-in-31-1
loop-i-preserved-in-31-1 c = (
  omega arith,
  λ t g.
      ⊎_elim
      (λ k. record { ahead = _; left = ident_step (seen c.loop-i.invariant c.loop-i-test.true g) k })
      (λ k. by_test (eqb (get_or c.args.store.now (c.loop-i.i - 1) 0) 0)
      (λ z. record { ahead = _; left = group_bare (seen c.loop-i.invariant c.loop-i-test.true g) k (eqb-true _ _ z) })
      (λ z. record { ahead = _; left = group_modified (seen c.loop-i.invariant c.loop-i-test.true g) k (eqb-false _ _ z) }))
      c.in-31.is,
)

pub overflow_sub-i-in-271-1 : goal.overflow_sub-i-in-271-1
overflow_sub-i-in-271-1 c = omega (arith, pack_room c.loop-i.invariant c.loop-i-test.true c.in-271.is c.requires)

pub overflow_sub-i-in-271 : goal.overflow_sub-i-in-271
overflow_sub-i-in-271 c = omega (arith, pack_room c.loop-i.invariant c.loop-i-test.true c.in-271.is c.requires)

pub loop-i-preserved-then-store-i-eq-ABSENT : goal.loop-i-preserved-then-store-i-eq-ABSENT
loop-i-preserved-then-store-i-eq-ABSENT c =
    (omega arith, λ t g. record { ahead = _; left = unpack_absent c.loop-i.invariant.0 (seen c.loop-i.invariant c.loop-i-test.true g) c.in-271.is c.if-store-i-eq-ABSENT.true })

pub loop-i-preserved-in-271-1 : goal.loop-i-preserved-in-271-1
loop-i-preserved-in-271-1 c =
    (omega arith, λ t g. record { ahead = _; left = unpack_other c.loop-i.invariant.0 (seen c.loop-i.invariant c.loop-i-test.true g) c.in-271.is c.if-store-i-eq-ABSENT.false })

pub overflow_sub-i-in-272-1 : goal.overflow_sub-i-in-272-1
overflow_sub-i-in-272-1 c = omega (arith, member_room c.loop-i.invariant c.loop-i-test.true c.in-272.is c.requires)

pub overflow_sub-i-in-272 : goal.overflow_sub-i-in-272
overflow_sub-i-in-272 c = omega (arith, member_room c.loop-i.invariant c.loop-i-test.true c.in-272.is c.requires)

pub loop-i-preserved-then-has_members : goal.loop-i-preserved-then-has_members
loop-i-preserved-then-has_members c =
    let l = some_members _ (sym c.if-has_members.ensures) in
    (omega arith, λ t g. record { ahead = _; left = tuple_step c.loop-i.invariant.0 (seen c.loop-i.invariant c.loop-i-test.true g) c.in-272.is l.0 l.1 })

pub overflow_sub-i-in-523-1 : goal.overflow_sub-i-in-523-1
overflow_sub-i-in-523-1 c = omega (arith, access_room c.loop-i.invariant c.loop-i-test.true c.in-523.is c.requires)

pub prove-unreachable-requires-in-523 : goal.prove-unreachable-requires-in-523
prove-unreachable-requires-in-523 c =
    omega (arith, path_room c.loop-i.invariant c.loop-i-test.true c.in-523.is c.if-has_members-2.ensures c.requires)

pub skip-i-requires : goal.skip-i-requires
skip-i-requires c =
    (omega arith, record { base = _; trees = attributes c.loop-i.invariant c.loop-i-test.true c.in-523.is c.if-has_members-2.ensures c.in-37.is _ c.requires.whole })

pub skip-i-requires-in-294 : goal.skip-i-requires-in-294
skip-i-requires-in-294 c =
    (omega arith, record { base = _; trees = indexes c.loop-i.invariant c.loop-i-test.true c.in-523.is c.if-has_members-2.ensures c.in-294.is _ c.requires.whole })

pub returns-in_default-store : goal.returns-in_default-store
returns-in_default-store c =
    λ t g. decided_no (no_top (seen c.loop-i.invariant c.loop-i-test.true g) (no_item_step (parts c.loop-i.invariant c.loop-i-test.true c.in-523.is c.if-has_members-2.ensures g) (search) (search)))

pub loop-i-smaller-in-37 : goal.loop-i-smaller-in-37
loop-i-smaller-in-37 c =
    passed_less c.loop-i.invariant c.loop-i-test.true c.in-523.is c.if-has_members-2.ensures (attributes c.loop-i.invariant c.loop-i-test.true c.in-523.is c.if-has_members-2.ensures c.in-37.is) c.skip-i.ensures c.requires

pub loop-i-preserved-in-37 : goal.loop-i-preserved-in-37
loop-i-preserved-in-37 c =
    passed_again c.loop-i.invariant c.loop-i-test.true c.in-523.is c.if-has_members-2.ensures (attributes c.loop-i.invariant c.loop-i-test.true c.in-523.is c.if-has_members-2.ensures c.in-37.is) c.skip-i.ensures c.requires (λ t g. record { what = _; same = attribute_pat (parts c.loop-i.invariant c.loop-i-test.true c.in-523.is c.if-has_members-2.ensures g) c.in-37.is })

pub loop-i-smaller : goal.loop-i-smaller
loop-i-smaller c =
    passed_less c.loop-i.invariant c.loop-i-test.true c.in-523.is c.if-has_members-2.ensures (indexes c.loop-i.invariant c.loop-i-test.true c.in-523.is c.if-has_members-2.ensures c.in-294.is) c.skip-i-in-294.ensures c.requires

pub loop-i-preserved : goal.loop-i-preserved
loop-i-preserved c =
    passed_again c.loop-i.invariant c.loop-i-test.true c.in-523.is c.if-has_members-2.ensures (indexes c.loop-i.invariant c.loop-i-test.true c.in-523.is c.if-has_members-2.ensures c.in-294.is) c.skip-i-in-294.ensures c.requires (λ t g. record { what = _; same = index_pat (parts c.loop-i.invariant c.loop-i-test.true c.in-523.is c.if-has_members-2.ensures g) c.in-294.is })

-- a tuple without members, a path without items, and what is none of these
pub returns-in_default : goal.returns-in_default
returns-in_default c =
    let n = sym c.if-has_members.ensures in
    λ t g. decided_no (tuple_none c.loop-i.invariant.0 (seen c.loop-i.invariant c.loop-i-test.true g) c.in-272.is n)

pub returns-in_default-2 : goal.returns-in_default-2
returns-in_default-2 c =
    let n = sym c.if-has_members-2.ensures in
    λ t g. decided_no (no_top (seen c.loop-i.invariant c.loop-i-test.true g) (path_none (receives c.loop-i.invariant c.loop-i-test.true c.in-523.is g) n))

pub returns-in_default-3 : goal.returns-in_default-3
returns-in_default-3 c =
    let n : ((get_or c.args.store.now (c.loop-i.i - 2) 0 ≡ Word.Identifier) ⊎ (get_or c.args.store.now (c.loop-i.i - 2) 0 ≡ Word.Group)) → ⊥ = search in
    λ t g. decided_no (no_pattern (seen c.loop-i.invariant c.loop-i-test.true g) (λ k. n (inl k)) (λ k. n (inr k)) (search) (search) (search))

pub returns : goal.returns
returns c =
    let v = c.loop-i.invariant in
    λ t g. decided_yes (to_pattern t) (all_read _ _ v.0 (v.1 _ g).left (no_shorter _ _ _ _ g c.loop-i-test.false))
