-- That every node of a tree fits, from its record and its children: nodes by the number of their children, and the ranges of values. Assumes nothing.
use Rattle.std.specs.Prelude.{◌≡◌, refl, Bool, true, false, not, ◌&&◌, ℕ, suc, ◌+◌, ◌*◌, eqb, ltb}
use Rattle.std.proofs.Common.{arith, ltb-true, le-ltb}
use Rattle.std.proofs.lemmas.Bool.{not-true}
use Rattle.tree.specs.NodeKind
use Rattle.tree.specs.Tree.{Tree, node, none, one, two, three, count}
use Rattle.grammar.proofs.Laws.Facts.{and_l, and_r}
use Rattle.grammar.specs.Canonical.Valid.{IsName, IsLabel, no_label, a_label, IsNamed, read_only, read_write}
use Rattle.tables.specs.Demand.{demand, fits}
use Rattle.tables.specs.Sound.{Name, Label, Named, exceeds, arity, sound}
use Rattle.tables.specs.Check.{class_of, mode_of, banned, kids_fit, all_fit}

-- a child that fits in its place, the number j under a node of the kind k, the value v and the mode m
pub record Kid (k v m j : ℕ) (t : Tree) : Type 0 where
  pub fit : all_fit t ≡ true
  pub class : fits (demand k v m j) (class_of t) ≡ true
  pub free : banned k v t ≡ false

-- a tree every node of which fits
pub record Fit (t : Tree) : Type 0 where
  pub fit : all_fit t ≡ true

-- a kind with n children
unfoldable pub shaped : ℕ → ℕ → Bool
shaped k n = not (ltb NodeKind.Modifier k) && (not (eqb k NodeKind.List) && eqb n (arity k))

sound_shaped : (k v n : ℕ) → shaped k n ≡ true → exceeds k v ≡ false → sound k v n ≡ true
unfolding sound shaped
sound_shaped k v n s e =
    let rest = and_r (not (ltb NodeKind.Modifier k)) (not (eqb k NodeKind.List) && eqb n (arity k)) s in
    rw (not-true (ltb NodeKind.Modifier k) (and_l (not (ltb NodeKind.Modifier k)) (not (eqb k NodeKind.List) && eqb n (arity k)) s), e, not-true (eqb k NodeKind.List) (and_l (not (eqb k NodeKind.List)) (eqb n (arity k)) rest), and_r (not (eqb k NodeKind.List)) (eqb n (arity k)) rest)

pub none_fits : {k v : ℕ} → shaped k 0 ≡ true → exceeds k v ≡ false → Fit (node k v none)
unfolding all_fit kids_fit count
none_fits {k} {v} s e = record { fit = rw (sound_shaped k v 0 s e) }

pub one_fits : {k v : ℕ} {t : Tree} → shaped k 1 ≡ true → exceeds k v ≡ false → Kid k v (mode_of k (one t)) 1 t → Fit (node k v (one t))
unfolding all_fit kids_fit count
one_fits {k} {v} s e a = record { fit = rw (sound_shaped k v 1 s e, a.class, a.free, a.fit) }

pub two_fits : {k v : ℕ} {t u : Tree} → shaped k 2 ≡ true → exceeds k v ≡ false → Kid k v (mode_of k (two t u)) 1 t → Kid k v (mode_of k (two t u)) 2 u → Fit (node k v (two t u))
unfolding all_fit kids_fit count
two_fits {k} {v} s e a b = record { fit = rw (sound_shaped k v 2 s e, a.class, a.free, b.class, b.free, a.fit, b.fit) }

pub three_fits : {k v : ℕ} {t u w : Tree} → shaped k 3 ≡ true → exceeds k v ≡ false → Kid k v (mode_of k (three t u w)) 1 t → Kid k v (mode_of k (three t u w)) 2 u → Kid k v (mode_of k (three t u w)) 3 w
    → Fit (node k v (three t u w))
unfolding all_fit kids_fit count
three_fits {k} {v} s e a b c = record { fit = rw (sound_shaped k v 3 s e, a.class, a.free, b.class, b.free, c.class, c.free, a.fit, b.fit, c.fit) }

-- the ranges
pub name_range : (n : ℕ) → IsName n → ltb Name n ≡ false
name_range n h = le-ltb Name n (omega (arith, ltb-true))

pub label_range : {l : ℕ} → IsLabel l → ltb Label l ≡ false
label_range no_label = refl
label_range (a_label {n} h) = le-ltb Label (suc n) (omega (arith, ltb-true))

pub named_range : {v : ℕ} → IsNamed v → ltb Named v ≡ false
named_range (read_only n h) = le-ltb Named (n * 2 + 0) (omega (arith, ltb-true))
named_range (read_write n h) = le-ltb Named (n * 2 + 1) (omega (arith, ltb-true))
