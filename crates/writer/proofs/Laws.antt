-- Post-order records from the end: popping a node, delimiting. Holds for any trees. Assumes nothing.
use mathlib.Core.Path.{◌≡◌, refl, sym, ap, ◌∙◌}
use mathlib.Core.List.{List, [], ◌∷◌, ◌++◌, append_assoc, append-nil}
use Prim.Native.Nat.{ℕ, ◌+◌, ◌*◌, ◌-◌, ◌/◌, ◌%◌, ◌≤◌, ◌<◌}
use native.Mathlib.Omega.{arith}
use lib.ListN.{length, get_or, length-append}
use lib.Seq.{length-take-le}
use Rattle.tree.specs.Tree.{Tree, Forest, node, none, more, count, records, all_records}
use Rattle.tree.specs.Rows.{last_two}
use Rattle.tree.specs.Records.{Small, Smalls, stack_records, StackSmall, back}
use Rattle.writer.specs.Stack.{At}

-- ---------------------------------------------------------------- kids on a stack
pub recs_back : (f : Forest) (s : List Tree) → stack_records (back f s) ≡ stack_records s ++ all_records f
unfolding stack_records back records
recs_back none s = sym (append-nil (stack_records s))
recs_back (more t f) s = recs_back f (t ∷ s) ∙ append_assoc (stack_records s) (records t) (all_records f)

pub back_append : (f : Forest) (u s : List Tree) → back f (u ++ s) ≡ back f u ++ s
unfolding back
back_append none u s = refl
back_append (more t f) u s = back_append f (t ∷ u) s

pub length_back : (f : Forest) (u : List Tree) → length (back f u) ≡ count f + length u
unfolding back count
length_back none u = omega arith
length_back (more t f) u = length_back f (t ∷ u) ∙ omega arith

small_back : (f : Forest) (s : List Tree) → Smalls f → StackSmall s → StackSmall (back f s)
unfolding back Small StackSmall
small_back none s a b = b
small_back (more t f) s a b = small_back f (t ∷ s) a.1 (a.0, b)

recs_node : (k v : ℕ) (f : Forest) (s : List Tree) → stack_records (node k v f ∷ s) ≡ stack_records (back f s) ++ (k + 256 * count f) ∷ v ∷ []
unfolding stack_records records
recs_node k v f s = rw (recs_back f s) (sym (append_assoc (stack_records s) (all_records f) ((k + 256 * count f) ∷ v ∷ [])))

long_recs : (s : List Tree) → 2 * length s ≤ length (stack_records s)
unfolding stack_records records
long_recs [] = omega arith
long_recs (node k v f ∷ s) =
    let a : length (stack_records s ++ (all_records f ++ (k + 256 * count f) ∷ v ∷ [])) ≡ length (stack_records s) + (length (all_records f) + 2) = length-append (stack_records s) _ ∙ ap (λ (n : ℕ). length (stack_records s) + n) (length-append (all_records f) ((k + 256 * count f) ∷ v ∷ [])) in
    omega (arith, long_recs s)

pub at_length : {L : List ℕ} {p : ℕ} {s : List Tree} → At L p s → p ≡ length (stack_records s)
at_length {L} {p} {s} a = sym (length-take-le p L a.inside) ∙ ap length a.text

pub at_many : {L : List ℕ} {p : ℕ} {s : List Tree} → At L p s → 2 * length s ≤ p
at_many {L} {p} {s} a = omega (arith, long_recs s, at_length a)

-- ---------------------------------------------------------------- popping a node
pub record Pop (L : List ℕ) (p k v : ℕ) (f : Forest) (s : List Tree) : Type 0 where
  pub two : 2 ≤ p
  pub word : get_or L (p - 2) 0 ≡ k + 256 * count f
  pub kind : get_or L (p - 2) 0 % 256 ≡ k
  pub kids : get_or L (p - 2) 0 / 256 ≡ count f
  pub value : get_or L (p - 1) 0 ≡ v
  pub under : At L (p - 2) (back f s)

pub pop : {L : List ℕ} {p k v : ℕ} {f : Forest} {s : List Tree} → At L p (node k v f ∷ s) → Pop L p k v f s
unfolding Small StackSmall
pop {L} {p} {k} {v} {f} {s} a =
    let w = last_two L (stack_records (back f s)) (k + 256 * count f) v p a.inside (a.text ∙ recs_node k v f s) in
    let x = w.word in
    let y = w.at in
    let z = a.inside in
    let small : k < 256 = a.small.0.0 in
    record {
      two = omega arith;
      word = x;
      kind = omega arith;
      kids = omega arith;
      value = w.value;
      under = record { text = w.front; inside = omega arith; small = small_back f s a.small.0.1 a.small.1 };
    }
