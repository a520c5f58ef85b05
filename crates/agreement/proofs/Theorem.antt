-- Demand 3: what Statement.antt says holds of any two sheets and any calls on them. Assumes nothing.
use Rattle.std.specs.Prelude.{◌≡◌, refl, ◌↔◌, List, [], ℕ, ◌*◌, ◌-◌, ◌%◌, ◌≤◌, length, Some}
use Rattle.std.proofs.Common.{sym, ap, ◌∙◌, subst, arith, length-drop}
use Rattle.tree.specs.Tree.{Forest, records}
use Rattle.tree.specs.Node
use Rattle.tree.specs.Records.{records_same}
use Rattle.grammar.specs.Reading.Limit.{depth_limit}
use Rattle.grammar.specs.Reading.Next.{Accepted, fresh}
use Rattle.grammar.specs.Canonical.Write.{own, run}
use Rattle.grammar.specs.Canonical.Need.{need}
use Rattle.grammar.specs.Canonical.Valid.{stmt, Valids, v_none, v_more}
use Rattle.grammar.specs.Canonical.Writing.{clean_reading}
use Rattle.grammar.proofs.Laws.Back.Depths.{run_length}
use Rattle.grammar.proofs.Laws.Small.{valid_small}
use Rattle.grammar.proofs.Theorems.{sound, same_trees}
use Rattle.grammar.specs.declared.Reader.{Reader}
use Rattle.agreement.specs.Calls.{defined, unread}
use Rattle.agreement.specs.Answers.{Seen, Reads, Afresh, Remaining, answers_of, trees_of, canonical}
use Rattle.agreement.specs.Statement.{Left, part, Agree, TwoSheets}
use Rattle.agreement.proofs.Laws.Step.{Before, before_fresh}
use Rattle.agreement.proofs.Laws.Clean.{Clean, clean_reads, clean_only, faultless_before}
use Rattle.agreement.proofs.Laws.Whole.{clean_of, faultless_trees, run_clean}
use Rattle.agreement.proofs.Laws.Deep.{shallow_enough}
use Rattle.agreement.proofs.Laws.Calls.{run_is, defined_accepted, clean_remains, remains_only}
use Rattle.agreement.proofs.Laws.Writer.{rewritten}

-- what is known of one sheet
record Known (s : Left) : Type 0 where
  before : Before s.sheet s.after (part s)
  given : clean_reading depth_limit (part s) ≡ Some (trees_of (part s))
  clean : Clean (part s) (trees_of (part s))
  answered : s.answers ≡ answers_of (trees_of (part s))
  valid : Valids stmt (trees_of (part s))
  enough : need (Node.list (trees_of (part s))) own ≤ depth_limit

known : (s : Left) → Known s
known s =
    let T = s.sheet in
    let D : Reader = defined T s.reader s.calls in
    let U : List ℕ = unread T D in
    let b : Before U fresh U = faultless_before 0 [] s.read s.clean in
    let a : Accepted T D = defined_accepted s.calls s.accepted in
    let n : length U ≡ length T - 2 * D.position = length-drop (2 * D.position) T in
    let e : length T % 2 ≡ 0 = omega (arith, b.going.sheet.even, n, a.within) in
    let f : Before T D U = record { going = record { sheet = record { even = e; within = omega (arith, s.within) }; accepted = a; going = s.none_pending.stopped }; none_waits = s.none_pending.waiting; left = refl } in
    let (g, x) = faultless_trees s.read s.clean in
    let v : Valids stmt (trees_of U) = sound depth_limit U (trees_of U) g in
    record { before = rw (run_is s.ran) f; given = g; clean = clean_of U g; answered = x; valid = v; enough = shallow_enough v s.keeps }

-- (a), (b), (d), (e)
agree : (s : Left) → Agree s
agree s =
    let k = known s in
    let x = k.answered in
    let r = run_clean k.valid k.enough in
    let f = before_fresh (run_length (trees_of (part s))).0 s.keeps.short in
    record {
      a = run_is s.ran;
      b = subst (Remaining s.sheet s.after) (sym x) (clean_remains k.clean k.before);
      b_only = λ xs h. remains_only h k.clean k.before ∙ sym x;
      b_defined = rw (sym (run_is s.ran)) (subst (Reads s.sheet s.after) (sym x) (clean_reads k.clean k.before));
      b_trees = x;
      d = subst (Afresh (canonical (part s))) (sym x) (clean_reads r f);
      d_only = λ xs h. clean_only r f h ∙ sym x;
      e = λ words m. rewritten k.valid k.enough words (rw x at m);
    }

-- trees that are valid are known by their answers
same_answers : {f g : Forest} → Valids stmt f → Valids stmt g → answers_of f ≡ answers_of g → f ≡ g
unfolding answers_of
same_answers v_none v_none e = refl
same_answers v_none (v_more h v) e = cc
same_answers (v_more h v) v_none e = cc
same_answers (v_more {t = t} {f = f} h v) (v_more {t = u} {f = g} i w) e =
    let x : records t ≡ records u = cc in
    let y : answers_of f ≡ answers_of g = cc in
    cc (records_same (valid_small h) (valid_small i) x, same_answers v w y)

-- (c)
pub two_sheets : (s u : Left) → TwoSheets s u
two_sheets s u = record { first = agree s; second = agree u; c = λ xs ys h i. both xs ys (remains_only h k.clean k.before) (remains_only i l.clean l.before) }
  where
    k : Known s
    k = known s

    l : Known u
    l = known u

    both : (xs ys : List Seen) → xs ≡ answers_of (trees_of (part s)) → ys ≡ answers_of (trees_of (part u)) → (xs ≡ ys) ↔ (canonical (part s) ≡ canonical (part u))
    both xs ys x y = (
      (λ e. ap run (same_answers k.valid l.valid (sym x ∙ e ∙ y))),
      λ e. x ∙ ap answers_of ((same_trees depth_limit depth_limit _ _ _ _ k.given l.given).1 e) ∙ sym y,
    )
