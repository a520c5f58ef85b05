-- `pattern::moving::move_access` meets its contract: the records of an attribute or an index pattern are put and copied from the right. Assumes nothing.
use mathlib.Core.Path.{◌≡◌}
use mathlib.Core.List.{List, ◌++◌}
use Prim.Native.Nat.{ℕ, ◌-◌, ◌/◌}
use native.Mathlib.Omega.{arith}
use native.Mathlib.Nat.{le_trans, sub-le}
use lib.ListN.{take, get_or, length-append}
use Rattle.tree.specs.Tree.{Tree}
use Rattle.tree.specs.Rows.{rows, Trees, Starts, enough}
use Rattle.pattern.specs.Word
use Rattle.pattern.specs.Contract.{Access}
use Rattle.pattern.proofs.Access.{before_last, front_trees, attribute_trees, index_first}
use Rattle.pattern.proofs.Moved.{reach, sure_shape, sure_index, attribute_moved, index_moved}
use Rattle.pattern.proofs.moving.move_access.Goals as goal

-- an attribute: where any access that the store may hold there starts
module _ {S : List ℕ} {i w r : ℕ} (e : get_or S (i - 6) 0 ≡ Word.Attribute) (skips : (B : List ℕ) → Trees B (take (i - 6) S) (get_or S (i - 4) 0 / 256) → Starts B S r) where
  attribute_starts : {B : List ℕ} {p : Tree} → Access B p S i w → Starts B S r
  attribute_starts a = skips _ (attribute_trees (sure_shape a) e)

-- an index: where its expression starts, and where the access does
module _ {S : List ℕ} {i w q : ℕ} (f : get_or S (i - 6) 0 ≡ Word.Attribute → ⊥) (skips : (B : List ℕ) → Trees B (take (i - 6) S) 1 → Starts B S q) where
  middle : {B : List ℕ} {p : Tree} (a : Access B p S i w) → Starts (B ++ rows (before_last (sure_shape a))) S q
  middle a = skips _ (index_first (sure_shape a) (sure_index a f))

  index_starts : {r : ℕ} → ((B : List ℕ) → Trees B (take q S) (get_or S (i - 4) 0 / 256) → Starts B S r) → {B : List ℕ} {p : Tree} → Access B p S i w → Starts B S r
  index_starts passes a = passes _ (front_trees (sure_shape a) q (middle a).text)

pub prove-unreachable-requires : goal.prove-unreachable-requires
prove-unreachable-requires c = omega (arith, (sure_shape c.requires.it).room)

pub prove-unreachable-requires-2 : goal.prove-unreachable-requires-2
prove-unreachable-requires-2 c = omega (arith, (sure_shape c.requires.it).list_word)

pub skip-start-requires : goal.skip-start-requires
skip-start-requires c =
    let a = c.requires.it in
    let h = reach a in
    (omega arith, record { base = _; trees = attribute_trees (sure_shape a) c.if-store-i-eq-ATTRIBUTE.true })

pub prove-unreachable-requires-then-store-i-eq-ATTRIBUTE : goal.prove-unreachable-requires-then-store-i-eq-ATTRIBUTE
prove-unreachable-requires-then-store-i-eq-ATTRIBUTE c =
    let a = c.requires.it in
    omega (arith, (attribute_starts c.if-store-i-eq-ATTRIBUTE.true c.skip-start.ensures a).at, (sure_shape a).room)

pub skip-middle-requires : goal.skip-middle-requires
skip-middle-requires c =
    let a = c.requires.it in
    let h = reach a in
    (omega arith, record { base = _; trees = index_first (sure_shape a) (sure_index a c.if-store-i-eq-ATTRIBUTE.false) })

pub prove-unreachable-requires-else-store-i-eq-ATTRIBUTE : goal.prove-unreachable-requires-else-store-i-eq-ATTRIBUTE
prove-unreachable-requires-else-store-i-eq-ATTRIBUTE c =
    let a = c.requires.it in
    let f = c.if-store-i-eq-ATTRIBUTE.false in
    let h = reach a in
    let m = enough _ c.args.store.now (c.args.i - 6) 1 (le_trans (sub-le _ 6) h) (index_first (sure_shape a) (sure_index a f)) in
    omega (arith, (middle f c.skip-middle.ensures a).at)

pub skip-start-requires-else-store-i-eq-ATTRIBUTE : goal.skip-start-requires-else-store-i-eq-ATTRIBUTE
skip-start-requires-else-store-i-eq-ATTRIBUTE c =
    let a = c.requires.it in
    let h = reach a in
    (omega arith, record { base = _; trees = front_trees (sure_shape a) c.skip-middle.result (middle c.if-store-i-eq-ATTRIBUTE.false c.skip-middle.ensures a).text })

pub prove-unreachable-requires-else-store-i-eq-ATTRIBUTE-2 : goal.prove-unreachable-requires-else-store-i-eq-ATTRIBUTE-2
prove-unreachable-requires-else-store-i-eq-ATTRIBUTE-2 c =
    let a = c.requires.it in
    let f = c.if-store-i-eq-ATTRIBUTE.false in
    let s = c.skip-middle.ensures in
    omega (arith, (index_starts f s c.skip-start-else-store-i-eq-ATTRIBUTE.ensures a).at, (middle f s a).at, length-append c.requires.base (rows (before_last (sure_shape a))))

pub returns-then-store-i-eq-ATTRIBUTE : goal.returns-then-store-i-eq-ATTRIBUTE
returns-then-store-i-eq-ATTRIBUTE c =
    let e = c.if-store-i-eq-ATTRIBUTE.true in
    λ B p a. attribute_moved a e (attribute_starts e c.skip-start.ensures a) c.emit.ensures c.emit-then-store-i-eq-ATTRIBUTE.ensures c.emit-then-store-i-eq-ATTRIBUTE-2.ensures c.move_words.ensures

pub returns-else-store-i-eq-ATTRIBUTE : goal.returns-else-store-i-eq-ATTRIBUTE
returns-else-store-i-eq-ATTRIBUTE c =
    let f = c.if-store-i-eq-ATTRIBUTE.false in
    let s = c.skip-middle.ensures in
    λ B p a. index_moved a (sure_index a f) (index_starts f s c.skip-start-else-store-i-eq-ATTRIBUTE.ensures a) (middle f s a) c.emit-else-store-i-eq-ATTRIBUTE.ensures c.move_words-else-store-i-eq-ATTRIBUTE.ensures c.emit-else-store-i-eq-ATTRIBUTE-2.ensures c.emit-else-store-i-eq-ATTRIBUTE-3.ensures c.move_words-else-store-i-eq-ATTRIBUTE-2.ensures (omega arith)
