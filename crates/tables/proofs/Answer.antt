-- What is answered of a tree and left of the output is, by the tables and by grammar's definition, the same. Assumes nothing.
use Rattle.std.specs.Prelude.{◌≡◌, refl, Bool, true, false, List, [], ◌∷◌, ◌++◌, ℕ, ◌-◌, leb, ltb, length, take, replicate, Some}
use Rattle.std.proofs.Common.{sym, ap, ◌∙◌, true≢false, arith, leb-true, leb-false, lt-ltb, le-ltb}
use Rattle.token.specs.Kind
use Rattle.tree.specs.Tree.{Tree}
use Rattle.tree.specs.Records.{Small}
use Rattle.grammar.specs.Reading.Limit.{depth_limit, too_deep, no_statement}
use Rattle.grammar.specs.Reading.Result.{ifb}
use Rattle.grammar.specs.Canonical.Need.{need}
use Rattle.grammar.specs.Canonical.Write.{own}
use Rattle.grammar.specs.Canonical.Writing.{readable, statement_words, Wrote, bare, written}
use Rattle.grammar.proofs.Laws.Facts.{not_true, by_test}
use Rattle.grammar.proofs.Theorems.{readable_valid, limit_exact}
use Rattle.grammar.specs.declared.Written.{Written}
use Rattle.grammar.specs.declared.Written.TheVariants.{Stopped, Refused}
use Rattle.tables.specs.Check.{legal_tree}
use Rattle.tables.specs.Answer.{in_room, run_out}
use Rattle.tables.proofs.Same.Trees.{text_is, within_is}
use Rattle.tables.proofs.Valid.Builds.{legal_valid}
use Rattle.tables.proofs.Valid.Meets.Legal.{valid_legal}

-- an answer that leaves nothing in the output
pub cleared : {r : Written} {w : Wrote} (O O' : List ℕ) (m : ℕ) → O' ≡ take 0 O ++ replicate (length O - 0) 0 → length O ≡ m → w ≡ bare m r → record { answer = r; output = O' } ≡ w
cleared {r} O O' m e l b =
    let z : length O - 0 ≡ m = omega arith in
    ap (λ (x : List ℕ). record { answer = r; output = x }) (e ∙ rw z) ∙ sym b

-- ---------------------------------------------------------------- grammar's definition
-- a choice by `at most` is the other one by `less than`
other_way : {A : Type 0} (n d : ℕ) (f g : Unit {0} → A) → ifb (leb n d) f g ≡ ifb (ltb d n) g f
unfolding ifb
other_way n d f g = go (leb n d) refl
  where
    go : (b : Bool) → leb n d ≡ b → ifb (leb n d) f g ≡ ifb (ltb d n) g f
    go true e = rw (e, le-ltb d n (leb-true n d e))
    go false e = rw (e, lt-ltb d n (leb-false n d e))

-- a clean reading, limits aside, gives a tree exactly if the tables accept it
pub readable_is : (t : Tree) → Small t → readable t ≡ legal_tree t
readable_is t s =
    by_test (legal_tree t)
    (λ e. (readable_valid t s).1 (legal_valid t e) ∙ sym e)
    (λ e. not_true (readable t) (λ x. true≢false (sym (valid_legal ((readable_valid t s).0 x)) ∙ e)) ∙ sym e)

-- what grammar's definition answers of a tree
pub illegal_tree : (t : Tree) → Small t → legal_tree t ≡ false → (m : ℕ) → written (Some t) m ≡ bare m (Refused no_statement)
unfolding ifb
illegal_tree t s e m = rw (readable_is t s, e)

pub legal_run : (t : Tree) → Small t → legal_tree t ≡ true → (m : ℕ) → written (Some t) m ≡ run_out t m
unfolding ifb run_out in_room
legal_run t s e m =
    let v = legal_valid t e in
    rw (readable_is t s, e, limit_exact v, within_is v depth_limit, text_is v (Kind.Semicolon ∷ 0 ∷ [])) (sym (other_way (need t own) depth_limit (λ _. in_room (statement_words t) m) (λ _. bare m (Stopped too_deep))))
