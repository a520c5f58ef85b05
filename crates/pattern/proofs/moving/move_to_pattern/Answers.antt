-- `pattern::moving::move_to_pattern` meets its contract: in each turn the top of a row of trees that are all to be patterns is passed, and its records are written. Assumes nothing.
use mathlib.Core.Path.{◌≡◌, refl, ◌∙◌}
use mathlib.Core.List.{List, [], ◌∷◌, ◌++◌}
use Prim.Native.Nat.{ℕ, ◌-◌, ◌≤◌, ◌<◌}
use native.Mathlib.Omega.{arith}
use native.Mathlib.Nat.{le_trans}
use lib.ListN.{length, take, drop, get_or, length-append}
use lib.Seq.{length-take-le}
use Rattle.tree.specs.Tree.{Tree}
use Rattle.tree.specs.Rows.{rows}
use Rattle.tree.specs.Store.{Emitted}
use Rattle.grammar.specs.Reading.Pattern.{to_pattern, conv, pattern}
use Rattle.pattern.specs.Word
use Rattle.pattern.specs.Contract.{Is, Fit, AFit, Access, Moved, Over, over_words}
use Rattle.pattern.proofs.Decided.{can}
use Rattle.pattern.proofs.Steps.{Ahead, View, view, shorter, whole_ahead, ident_step, group_bare, group_modified}
use Rattle.pattern.proofs.Moved.{Going, go_same, go_emit, go_access, an_access, Above, sure_above, go_over, sure_pat, not_below, all_moved}
use Rattle.pattern.proofs.moving.move_to_pattern.Goals as goal

-- what is kept: the work so far, on any expression that the store held
abbrev Kept : List ℕ → ℕ → ℕ → List ℕ → ℕ → ℕ → Type 0
Kept S₀ from to S i w = (i ≤ w) × (w ≤ to) × (length S ≡ length S₀) × ((t p : Tree) → Fit t p S₀ from to → Going (to_pattern t) (take from S₀) (drop to S₀) S i w)

module _ {S₀ : List ℕ} {from to : ℕ} (a : AFit S₀ from to) where
  abbrev pat : Is (to_pattern a.tree)
  pat = can _ a.can

  abbrev held : Fit a.tree pat.what S₀ from to
  held = record { whole = a.whole; same = pat.same }

  -- what stands at the head of the loop
  module _ {S : List ℕ} {i w : ℕ} (k : Kept S₀ from to S i w) where
    within : w ≤ length S
    within = omega (arith, k.1, k.2, a.whole.within)

    reach : i ≤ length S
    reach = le_trans k.0 within

    -- a turn: the top of the row
    module _ (l : from < i) where
      abbrev seen : {t p : Tree} (g : Fit t p S₀ from to) → View (to_pattern t) (take from S₀) S i (k.3 t p g).ahead
      seen g = view reach (k.3 _ _ g).left (shorter S₀ from i l)

      room : 2 ≤ i
      room = omega (arith, (seen held).here.room)

      -- a record is written for the top's own
      one_record : {word value r : ℕ} {S' : List ℕ} → ((t p : Tree) (g : Fit t p S₀ from to) → Ahead (to_pattern t) (take from S₀) (take (i - 2) S) (word ∷ value ∷ (k.3 t p g).ahead))
          → length S' ≡ length S → Emitted (w - 2) word value r S S' → Kept S₀ from to S' (i - 2) (w - 2)
      one_record next e p =
          let r = room in
          (omega arith, omega arith, e ∙ k.2, λ t u g. go_emit _ (i - 2) w (next t u g) (k.3 t u g).done p (omega arith) (omega arith))

      -- an access, and the pattern that it is
      abbrev is : {t p : Tree} (g : Fit t p S₀ from to) → Is (conv (seen g).tree pattern)
      is g = sure_pat (seen g) g.same

      abbrev access : get_or S (i - 2) 0 ≡ Word.Primary → {t p : Tree} (g : Fit t p S₀ from to) → Access (take from S₀ ++ rows (seen g).under) (is g).what S i w
      access e g = an_access (seen g) (is g).same e k.0 within

      -- where it started
      started : (e : get_or S (i - 2) 0 ≡ Word.Primary) {r : ℕ} {S' : List ℕ} → ((B : List ℕ) (p : Tree) → Access B p S i w → Moved B p S i w r S') → r < i
      started e moved = omega (arith, (moved _ _ (access e held)).at, (seen held).here.room, length-append (take from S₀) (rows (seen held).under))

      -- what is a pattern and none of the others is an unpack or a tuple
      module _ (x : get_or S (i - 2) 0 ≡ Word.Identifier → ⊥) (y : get_or S (i - 2) 0 ≡ Word.Group → ⊥) (z : get_or S (i - 2) 0 ≡ Word.Primary → ⊥) where
        abbrev above : {t p : Tree} (g : Fit t p S₀ from to) → Above (to_pattern t) (take from S₀) S i (k.3 t p g).ahead
        above g = sure_above reach (seen g) g.same x y z

        -- how many words are passed
        few : {r : ℕ} {S' : List ℕ} → Over (over_words S i) w S r S' → (r ≤ i) × (2 ≤ r)
        few o =
            let b = above held in
            let many = o.many in
            (omega arith, omega arith)

pub loop-i-init : goal.loop-i-init
loop-i-init c = (omega arith, omega arith, refl, λ t p g. record { ahead = []; left = whole_ahead g.whole; done = refl })

pub prove-unreachable-requires : goal.prove-unreachable-requires
prove-unreachable-requires c = omega (arith, room c.requires c.loop-i.invariant c.loop-i-test.true)

pub loop-i-preserved-in-31 : goal.loop-i-preserved-in-31
loop-i-preserved-in-31 c = one_record c.requires c.loop-i.invariant c.loop-i-test.true (λ t u g. ident_step (seen c.requires c.loop-i.invariant c.loop-i-test.true g) c.in-31.is) c.emit.auto.store c.emit.ensures

pub loop-i-preserved-in-Some : goal.loop-i-preserved-in-Some
loop-i-preserved-in-Some c =
    let s = c.in-Some.ensures in
    let e = c.emit-in-Some in
    one_record c.requires c.loop-i.invariant c.loop-i-test.true (λ t u g. rw s.1 (group_modified (seen c.requires c.loop-i.invariant c.loop-i-test.true g) c.in-292.is (λ z. omega (arith, s.0, z)))) e.auto.store e.ensures

pub loop-i-preserved-in_default-checked_sub : goal.loop-i-preserved-in_default-checked_sub
loop-i-preserved-in_default-checked_sub c =
    let k = c.loop-i.invariant in
    (omega arith, k.1, k.2, λ t u g. go_same _ (group_bare (seen c.requires c.loop-i.invariant c.loop-i-test.true g) c.in-292.is (omega (arith, c.in_default-checked_sub.ensures))) (k.3 t u g).done)

pub move_access-start-requires : goal.move_access-start-requires
move_access-start-requires c = record { base = _; pat = _; it = access c.requires c.loop-i.invariant c.loop-i-test.true c.in-523.is (held c.requires) }

pub overflow_add-w : goal.overflow_add-w
overflow_add-w c =
    let m = c.move_access-start.ensures _ _ (access c.requires c.loop-i.invariant c.loop-i-test.true c.in-523.is (held c.requires)) in
    omega (arith, m.on)

pub loop-i-smaller-in-523 : goal.loop-i-smaller-in-523
loop-i-smaller-in-523 c = started c.requires c.loop-i.invariant c.loop-i-test.true c.in-523.is c.move_access-start.ensures

pub loop-i-preserved-in-523 : goal.loop-i-preserved-in-523
loop-i-preserved-in-523 c =
    let k = c.loop-i.invariant in
    let e = c.in-523.is in
    let m = c.move_access-start in
    let o = (m.ensures _ _ (access c.requires c.loop-i.invariant c.loop-i-test.true e (held c.requires))).on in (
      omega arith,
      omega arith,
      m.auto.store ∙ k.2,
      λ t u g.
          go_access _ (seen c.requires c.loop-i.invariant c.loop-i-test.true g) (is c.requires c.loop-i.invariant c.loop-i-test.true g).same (k.3 t u g).done (m.ensures _ _ (access c.requires c.loop-i.invariant c.loop-i-test.true e g)),
    )

pub put_over-n-requires : goal.put_over-n-requires
put_over-n-requires c = ((above c.requires c.loop-i.invariant c.loop-i-test.true (search) (search) (search) (held c.requires)).room, omega arith, omega arith)

pub overflow_sub-i-in_default : goal.overflow_sub-i-in_default
overflow_sub-i-in_default c = (few c.requires c.loop-i.invariant c.loop-i-test.true (search) (search) (search) c.put_over-n.ensures).0

pub loop-i-preserved : goal.loop-i-preserved
loop-i-preserved c =
    let k = c.loop-i.invariant in
    let o = c.put_over-n in
    let f = few c.requires c.loop-i.invariant c.loop-i-test.true (search) (search) (search) o.ensures in (
      omega arith,
      omega arith,
      o.auto.store ∙ k.2,
      λ t u g.
          go_over _ (above c.requires c.loop-i.invariant c.loop-i-test.true (search) (search) (search) g) (k.3 t u g).done k.0 o.ensures,
    )

pub prove-unreachable-requires-2 : goal.prove-unreachable-requires-2
prove-unreachable-requires-2 c =
    let g = c.requires.whole in
    let k = c.loop-i.invariant in
    let b = not_below c.loop-i.store c.loop-i.i (reach c.requires c.loop-i.invariant) (k.3 _ _ (held c.requires)).left in
    omega (arith, b, k.0, length-take-le c.args.from c.args.store.now (le_trans g.start g.within))

pub returns : goal.returns
returns c =
    let k = c.loop-i.invariant in
    λ t p g. all_moved g k.2 k.0 k.1 (k.3 t p g) c.loop-i-test.false c.move_words.ensures
