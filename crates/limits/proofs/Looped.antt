-- What is put of statement lists one in the other comes to their trees' records. Assumes nothing.
use Rattle.std.proofs.Common.{◌≡◌, ◌≤◌, ◌+◌, ◌-◌, refl, List, [], ◌∷◌, ◌++◌, ℕ, zero, suc, append_assoc, append-nil, Option, Some, None, arith}
use Rattle.tree.specs.Tree.{Tree, Forest, records, count}
use Rattle.tree.specs.Node.{stmt_list}
use Rattle.limits.specs.Nests.{parts, loops, loop_ends, jump_in, innermost}
use Rattle.limits.specs.declared.jumps.Form.{Form}
use Rattle.limits.specs.declared.jumps.Form.TheVariants.{Break, Continue, Among, Condition}
use Rattle.limits.specs.declared.jumps.Jump.{Jump}

-- a statement list's record stands behind its parts
closed : (n : ℕ) (f : Forest) (c : Tree) → records (loops n (stmt_list f c)) ≡ parts (loops n (stmt_list f c)) ++ 519 ∷ 0 ∷ []
unfolding loops records count
closed zero f c = refl
closed (suc n) f c = refl

-- loops round a statement list
looped : (n : ℕ) (f : Forest) (c : Tree) → parts (stmt_list f c) ++ loop_ends n ≡ parts (loops n (stmt_list f c))
unfolding loops loop_ends records count
looped zero f c = simp append-nil
looped (suc n) f c = rw (closed n f c, ← looped n f c) (simp (append_assoc, append-nil))

-- a tree that is a statement list
abbrev pub IsList : Tree → Type 0
IsList s = (f : Forest) × (c : Tree) × (s ≡ stmt_list f c)

pub jump_is : (form : Form) (label : ℕ) → IsList (jump_in form label)
jump_is Break label = (_, _, refl)
jump_is Continue label = (_, _, refl)
jump_is Among label = (_, _, refl)
jump_is Condition label = (_, _, refl)

pub innermost_is : (jump : Option Jump) → IsList (innermost jump)
innermost_is None = (_, _, refl)
innermost_is (Some jump) = jump_is jump.form jump.label

-- the whole, before anything
pub whole : (n : ℕ) (s : Tree) (more : List ℕ) → IsList s → parts s ++ (loop_ends n ++ 519 ∷ 0 ∷ more) ≡ records (loops n s) ++ more
whole n s more (f, c, e) = rw (e, closed n f c, ← looped n f c) (simp append_assoc)

-- a loop more
pub ends_more : (label : ℕ) → 1 ≤ label → loop_ends (label + 1 - 1) ≡ loop_ends (label - 1) ++ 519 ∷ 0 ∷ 259 ∷ label ∷ 257 ∷ 0 ∷ 0 ∷ 0 ∷ []
unfolding loop_ends
ends_more zero h = absurd (omega arith)
ends_more (suc n) h = let e : suc n + 1 - 1 ≡ suc n = omega arith in let d : suc n - 1 ≡ n = omega arith in rw (e, d)
