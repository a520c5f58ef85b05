-- Words that read cleanly are those of a clean reading at the depth limit. So a sheet that is read without a fault has one, of the trees that were answered; and the
-- canonical tokens of valid trees that are not too deep read cleanly. Assumes nothing.
use Rattle.std.specs.Prelude.{◌≡◌, refl, Bool, true, false, cond, List, [], ℕ, zero, suc, ◌+◌, ◌%◌, ◌≤◌, ◌<◌, eqb, length, Some, None}
use Rattle.std.proofs.Common.{ap, ◌∙◌, subst, arith, eqb-true}
use Rattle.std.proofs.lemmas.Option.{none-some, same_Some}
use Rattle.tree.specs.Tree.{Tree, Forest, none}
use Rattle.tree.specs.Node
use Rattle.tree.specs.Records.{bound}
use Rattle.grammar.specs.Reading.Limit.{depth_limit}
use Rattle.grammar.specs.Reading.Result.{Res, ok, bad, fail, stop, ifb}
use Rattle.grammar.specs.Reading.Next.{next}
use Rattle.grammar.specs.Canonical.Write.{own, run}
use Rattle.grammar.specs.Canonical.Need.{need}
use Rattle.grammar.specs.Canonical.Valid.{stmt, Valids}
use Rattle.grammar.specs.Canonical.Writing.{clean_then, clean_from, clean_reading}
use Rattle.grammar.proofs.Laws.Keep.{Keep, k_ok}
use Rattle.grammar.proofs.Laws.Taken.{Taken, Ended, next_takes}
use Rattle.grammar.proofs.Theorems.{run_reads_back}
use Rattle.agreement.specs.Answers.{Seen, Afresh, NoFault, answers_of, trees_of}
use Rattle.agreement.proofs.Laws.Clean.{Clean, c_end, c_tree, faultless_before, faultless}

-- a clean statement takes a token
takes : (ts : List ℕ) {t : Tree} {r : List ℕ} → next depth_limit [] ts ≡ ok t r → length r + 2 ≤ length ts
takes ts {t} {r} e = go (subst (Keep (Taken ts) (Ended ts)) e (next_takes depth_limit [] ts))
  where
    go : Keep (Taken ts) (Ended ts) (ok t r) → length r + 2 ≤ length ts
    go (k_ok h) = h

clean_counts : {ts : List ℕ} {f : Forest} → Clean ts f → (n : ℕ) → length ts < n → clean_from depth_limit n ts ≡ Some f
unfolding clean_from
clean_counts c zero h = absurd (omega arith)
clean_counts (c_end e) (suc n) h = rw e
clean_counts (c_tree {ts = ts} e c) (suc n) h = rw (e, clean_counts c n (omega (arith, takes ts e)))

pub clean_is : {ts : List ℕ} {f : Forest} → length ts % 2 ≡ 0 → Clean ts f → clean_reading depth_limit ts ≡ Some f
unfolding clean_reading ifb
clean_is {ts} h c = rw h (clean_counts c (suc (length ts)) (omega arith))

-- the way back
clean_back : (n : ℕ) (ts : List ℕ) {f : Forest} → clean_from depth_limit n ts ≡ Some f → Clean ts f
unfolding clean_from
clean_back zero ts e = absurd (none-some _ e)
clean_back (suc n) ts {f} e = go (next depth_limit [] ts) refl (λ r g x. clean_back n r x) e
  where
    go : (d : Res Tree) → next depth_limit [] ts ≡ d → ((r : List ℕ) (g : Forest) → clean_from depth_limit n r ≡ Some g → Clean r g) → clean_then d (λ r. clean_from depth_limit n r) ≡ Some f → Clean ts f
    go (ok t r) x k z =
        let b = bound (clean_from depth_limit n r) z in
        subst (Clean ts) (same_Some _ _ b.2) (c_tree x (k r b.0 b.1))
    go (bad t q r) x k z = absurd (none-some _ z)
    go (fail n q r) x k z = at_fail (eqb n 0) refl z
      where
        at_fail : (c : Bool) → eqb n 0 ≡ c → cond c (Some none) None ≡ Some f → Clean ts f
        at_fail true y z = subst (Clean ts) (same_Some _ _ z) (c_end (x ∙ ap (λ m. fail m q r) (eqb-true n 0 y)))
        at_fail false y z = absurd (none-some _ z)
    go (stop m) x k z = absurd (none-some _ z)

pub clean_of : (ts : List ℕ) {f : Forest} → clean_reading depth_limit ts ≡ Some f → Clean ts f
unfolding clean_reading ifb
clean_of ts {f} e = go (eqb (length ts % 2) 0) e
  where
    go : (b : Bool) → ifb b (λ _. clean_from depth_limit (suc (length ts)) ts) (λ _. None) ≡ Some f → Clean ts f
    go true e = clean_back (suc (length ts)) ts e
    go false e = absurd (none-some _ e)

-- a sheet that is read without a fault
pub faultless_trees : {U : List ℕ} {xs : List Seen} → Afresh U xs → NoFault xs → (clean_reading depth_limit U ≡ Some (trees_of U)) × (xs ≡ answers_of (trees_of U))
faultless_trees {U} r g =
    let b = faultless_before 0 [] r g in
    let f = faultless r g b in
    let e : clean_reading depth_limit U ≡ Some f.trees = clean_is b.going.sheet.even f.clean in
    (rw e, rw e f.answered)

-- what is valid is read cleanly from its canonical tokens, where the depth is enough
pub run_clean : {f : Forest} → Valids stmt f → need (Node.list f) own ≤ depth_limit → Clean (run f) f
run_clean {f} v h = clean_of (run f) (run_reads_back v depth_limit h)
