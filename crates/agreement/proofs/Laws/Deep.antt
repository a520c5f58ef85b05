-- Where no 62 comes as the canonical tokens of valid trees are read, the depth limit is enough for them. Assumes nothing.
use Rattle.std.specs.Prelude.{◌≡◌, Bool, true, false, List, [], ◌∷◌, leb, length}
use Rattle.std.proofs.Math.Path.{refl}
use Rattle.std.proofs.Common.{sym, ap, ◌∙◌, subst, arith, leb-true, leb-false}
use Prim.Native.Nat.{ℕ, ◌-◌, ◌*◌, ◌/◌, ◌≤◌, ◌<◌}
use Rattle.token.specs.Kind
use Rattle.tree.specs.Tree.{Forest}
use Rattle.tree.specs.Node
use Rattle.grammar.specs.Reading.Limit.{depth_limit, store_share, too_deep}
use Rattle.grammar.specs.Reading.Result.{ok}
use Rattle.grammar.specs.Reading.Next.{called, next_stmt, next}
use Rattle.grammar.specs.Canonical.Write.{own, run}
use Rattle.grammar.specs.Canonical.Need.{need}
use Rattle.grammar.specs.Canonical.Valid.{stmt, Valids, v_none, v_more}
use Rattle.grammar.proofs.Laws.Back.Steps.{reach}
use Rattle.grammar.proofs.Laws.Back.Snoc.{most_more}
use Rattle.grammar.proofs.Laws.Back.Depths.{Leads, here, behind, next_reads, run_length}
use Rattle.grammar.specs.declared.Reader.{Reader}
use Rattle.agreement.specs.Answers.{Seen, stopped, seen_of, Reads, last, then, Lacks62, lacks_more, Keeps}
use Rattle.agreement.proofs.Laws.Step.{Before, before_fresh, call_is, before_next}
use Rattle.agreement.proofs.Laws.Clean.{seen_tree}

-- a reading with 62 among its answers
record Stops (T : List ℕ) (R : Reader) : Type 0 where
  answers : List Seen
  reads : Reads T R answers
  deep : Lacks62 answers → ⊥

no_lacks : {xs : List Seen} → Lacks62 (stopped too_deep ∷ xs) → ⊥
no_lacks (lacks_more n l) = n refl

lacks_rest : {a : Seen} {xs : List Seen} → Lacks62 (a ∷ xs) → Lacks62 xs
lacks_rest (lacks_more n l) = l

module _ {T : List ℕ} where
  deep_stops : {f : Forest} {x : List ℕ} {R : Reader} → Valids stmt f → depth_limit < need (Node.list f) own → Leads (run f) x → Before T R x → Stops T R
  unfolding need run reach
  deep_stops v_none d l b = absurd (omega arith)
  deep_stops {x = x} {R = R} (v_more {t = t} {f = f} h hs) d l b = go (leb (need t own) depth_limit) refl λ S z e. deep_stops hs e behind z
    where
      m : ℕ
      m = store_share * (length T / 2 - R.position)

      rest : List ℕ
      rest = Kind.Semicolon ∷ 0 ∷ run f

      read : (c : Bool) → leb (need t own) depth_limit ≡ c → next depth_limit [] x ≡ reach c (ok t rest)
      read c e = (next_reads h depth_limit [] (run f) l).is ∙ ap (λ c. reach c (ok t rest)) e

      called_is : (c : Bool) → leb (need t own) depth_limit ≡ c → next_stmt R T m ≡ called (length T / 2) m R.position (reach c (ok t rest))
      called_is c e = call_is m b (omega arith) ∙ ap (called (length T / 2) m R.position) (read c e)

      go : (c : Bool) → leb (need t own) depth_limit ≡ c → ((S : Reader) → Before T S rest → depth_limit < need (Node.list f) own → Stops T S) → Stops T R
      go true e k =
          let i = called_is true e in
          let s = k _ (before_next b (read true e)) (let u = leb-true (need t own) depth_limit e in let w = most_more t f in omega arith) in
          record {
            answers = _;
            reads = then {R = R} m (omega arith) (ap seen_of i ∙ seen_tree m t) refl (subst (λ y. Reads T y.step.reader s.answers) (sym i) s.reads);
            deep = λ n. s.deep (lacks_rest n);
          }
      go false e k = record { answers = _; reads = last {R = R} m (omega arith) (ap seen_of (called_is false e)) refl; deep = no_lacks }

pub shallow_enough : {f : Forest} → Valids stmt f → Keeps (run f) → need (Node.list f) own ≤ depth_limit
shallow_enough {f} v k = go (leb (need (Node.list f) own) depth_limit) refl
  where
    go : (c : Bool) → leb (need (Node.list f) own) depth_limit ≡ c → need (Node.list f) own ≤ depth_limit
    go true e = leb-true _ _ e
    go false e =
        let s = deep_stops v (leb-false _ _ e) here (before_fresh (run_length f).0 k.short) in
        absurd (s.deep (k.shallow s.answers s.reads))
