-- What is shown of reading and of canonical tokens, for the whole language. Assumes nothing.
-- 1. A statement of any clean reading, at any depth, is valid; so is what each nonterminal reads cleanly, in its role.
-- 2. A valid statement's canonical tokens, followed by any rest, read to that tree and that rest, at every depth that is large enough; so do the canonical runs.
-- 3. A tree is valid exactly if there are tokens whose clean reading, limits aside, gives it; and exactly if the writer does not refuse it with 65.
-- 4. The depth that a statement's canonical tokens need is a number computed from the tree: with fewer depths the reading stops with 62, else it ends.
--    More depth changes no reading that did not stop with 62.
-- 5. The number of tokens of a statement, computed from the tree, is half the length of what is written.
-- 6. What a statement writes does not depend on what follows it: a run is the statements' tokens in turn, then `EOF`.
-- 7. Of two sheets that read cleanly, the trees are the same exactly if the canonical runs are, and each run reads back to those trees.
-- 8. Trees with the same records are the same, and decoding a tree's records gives the tree; words that decode to no tree are no clean reading's.
-- 9. The sheets of document 01 say what it says, those with the same and with other canonical tokens among them: `sheets_tried` in Sheets.antt.
use Rattle.std.specs.Prelude.{◌≡◌, refl, ◌↔◌, ◌≢◌, Bool, true, false, List, [], ◌∷◌, ◌++◌, ℕ, suc, ◌*◌, ◌-◌, ◌/◌, ◌≤◌, max, eqb, ltb, length, replicate, Option, Some, None}
use Rattle.std.proofs.Common.{sym, ap, ◌∙◌, subst, le_refl, arith, eqb-true, eq-eqb, le-leb}
use Rattle.token.specs.Kind
use Rattle.tree.specs.Tree.{Tree, Forest, none, more, one, records}
use Rattle.tree.specs.Node
use Rattle.tree.specs.Decode.{decode}
use Rattle.tree.specs.Records.{Small, decode_records, records_same, decode_text}
use Rattle.grammar.specs.Reading.Limit.{depth_limit, too_deep, no_statement, short_output}
use Rattle.grammar.specs.Reading.Result.{Error, ok, stop, ifb}
use Rattle.grammar.specs.Reading.Depth.{at_depth}
use Rattle.grammar.specs.Reading.Next.{next}
use Rattle.grammar.specs.Reading.Stmt as Stmt
use Rattle.grammar.specs.Canonical.Write.{own, token, statement, run}
use Rattle.grammar.specs.Canonical.Need.{need}
use Rattle.grammar.specs.Canonical.Count.{tokens}
use Rattle.grammar.specs.Canonical.Valid.{stmt, Valid, Valids, v_none, v_more}
use Rattle.grammar.specs.Given.{Among, first, later, GivenBy, Given, in_turn}
use Rattle.grammar.specs.Canonical.Writing.{clean_reading, statement_words, same_words, gives, readable, is_too_deep, exceeds_depth, bare, written, write_stmt}
use Rattle.grammar.proofs.Laws.Facts.{clash, and_l, and_r, not_true}
use Rattle.grammar.proofs.Laws.Depth.{enough, next_depth}
use Rattle.grammar.proofs.Laws.Back.Steps.{reach}
use Rattle.grammar.proofs.Sheets.{read, expected, table, sheets_tried}
use Rattle.grammar.specs.declared.Written.TheVariants.{Tokens, Stopped, Refused}
use Rattle.grammar.proofs.Laws.Small.{valid_small}
use Rattle.grammar.proofs.Laws.Length.{statement_length}
use Rattle.grammar.proofs.Laws.Append.{write_append}
use Rattle.grammar.proofs.Laws.Clean.{clean_sound}
use Rattle.grammar.proofs.Laws.Sound.Base.{Sound}
use Rattle.grammar.proofs.Laws.Sound.Stmt.{depth_sound}
use Rattle.grammar.proofs.Laws.Back.Depths.{next_back, stmt_back, reading_back, depth_is}

-- 1
pub sound : (d : ℕ) (ts : List ℕ) (f : Forest) → clean_reading d ts ≡ Some f → Valids stmt f
sound d ts f e = clean_sound d ts f e

pub sound_roles : (d : ℕ) → Sound (at_depth d)
sound_roles d = depth_sound d

-- words are the same as a test says
same_words_are : (vs ws : List ℕ) → same_words vs ws ≡ true → vs ≡ ws
same_words_are [] [] e = refl
same_words_are [] (w ∷ ws) e = clash e refl
same_words_are (v ∷ vs) [] e = clash e refl
same_words_are (v ∷ vs) (w ∷ ws) e =
    let a : v ≡ w = eqb-true v w (and_l (eqb v w) (same_words vs ws) e) in
    let b : vs ≡ ws = same_words_are vs ws (and_r (eqb v w) (same_words vs ws) e) in
    cc

same_words_refl : (ws : List ℕ) → same_words ws ws ≡ true
same_words_refl [] = refl
same_words_refl (w ∷ ws) = rw (eq-eqb w w refl) (same_words_refl ws)

one_need : (t : Tree) → need (Node.list (one t)) own ≤ need t own
unfolding need
one_need t = le_refl (need t own)

-- 2
pub reads_back : {t : Tree} → Valid stmt t → (d : ℕ) → need t own ≤ d → (q : List Error) (r : List ℕ) → Stmt.stmt (at_depth d) q (statement t r) ≡ ok t (Kind.Semicolon ∷ 0 ∷ r)
unfolding reach
reads_back h d l q r = rw (stmt_back h d q r, le-leb _ d l)

pub run_reads_back : {f : Forest} → Valids stmt f → (d : ℕ) → need (Node.list f) own ≤ d → clean_reading d (run f) ≡ Some f
run_reads_back h d l = reading_back h d l

-- 3
pub among_valid : {t : Tree} {f : Forest} → Among t f → Valids stmt f → Valid stmt t
among_valid first (v_more h f) = h
among_valid (later a) (v_more h f) = among_valid a f

one_back : {t : Tree} → Valid stmt t → clean_reading (need t own) (run (one t)) ≡ Some (one t)
one_back {t} h = reading_back (v_more h v_none) (need t own) (one_need t)

pub valid_given : (t : Tree) → Valid stmt t ↔ GivenBy t
valid_given t = (
  (λ h. record { depth = need t own; sheet = run (one t); statements = one t; clean = one_back h; among = first }),
  λ g. among_valid g.among (sound g.depth g.sheet g.statements g.clean),
)

pub readable_valid : (t : Tree) → Small t → (readable t ≡ true) ↔ Valid stmt t
unfolding readable
readable_valid t s = ((λ e. go (clean_reading (need t own) (run (one t))) refl e), λ h. rw (one_back h) (same_words_refl (records t)))
  where
    go : (m : Option Forest) → clean_reading (need t own) (run (one t)) ≡ m → gives t m ≡ true → Valid stmt t
    go None c e = clash e refl
    go (Some none) c e = clash e refl
    go (Some (more u none)) c e =
        let h = among_valid first (sound (need t own) (run (one t)) (one u) c) in
        subst (Valid stmt) (sym (records_same s (valid_small h) (same_words_are (records t) (records u) e))) h
    go (Some (more u (more v f))) c e = clash e refl

refused : (t : Tree) (m : ℕ) → readable t ≡ false → (written (Some t) m).answer ≡ Refused no_statement
unfolding ifb
refused t m e = rw e

not_refused : (t : Tree) (m : ℕ) → readable t ≡ true → (written (Some t) m).answer ≡ Refused no_statement → ⊥
unfolding ifb
not_refused t m e h = go (exceeds_depth t) (ltb m (length (statement_words t))) (rw e at h)
  where
    go : (b c : Bool)
        → (ifb b (λ _. bare m (Stopped too_deep)) (λ _. ifb c (λ _. bare m (Refused short_output)) λ _.
        record { answer = Tokens (length (statement_words t) / 2); output = statement_words t ++ replicate (m - length (statement_words t)) 0 })).answer ≡ Refused no_statement → ⊥
    go true c x = let z : ◌≡◌ {A = ℕ} 0 1 = cc in omega arith
    go false true x = let z : ◌≡◌ {A = ℕ} short_output no_statement = cc in omega arith
    go false false x = let z : ◌≡◌ {A = ℕ} 0 1 = cc in omega arith

pub refused_65 : (words : List ℕ) (m : ℕ) → ((write_stmt words m).answer ≡ Refused no_statement) ↔ (Given words → ⊥)
unfolding write_stmt
refused_65 words m = (
  (λ e g.
      let h = (valid_given g.tree).1 g.by in
      not_refused g.tree m ((readable_valid g.tree (valid_small h)).1 h) (sym (ap (λ d. (written d m).answer) (sym (ap decode g.text) ∙ decode_records (valid_small h))) ∙ e)),
  λ n. go n (decode words) refl,
)
  where
    go : (Given words → ⊥) → (d : Option Tree) → decode words ≡ d → (written d m).answer ≡ Refused no_statement
    go n None e = refl
    go n (Some t) e =
        let s = decode_text e in
        refused t m (not_true (readable t) λ x. n (record { tree = t; text = s.0; by = (valid_given t).0 ((readable_valid t s.1).0 x) }))

-- 4
pub depth_exact : {t : Tree} → Valid stmt t → (d : ℕ) → is_too_deep (next d [] (statement_words t)) ≡ ltb d (need t own)
depth_exact h d = depth_is h d

pub limit_exact : {t : Tree} → Valid stmt t → exceeds_depth t ≡ ltb depth_limit (need t own)
unfolding exceeds_depth
limit_exact h = depth_is h depth_limit

pub depth_enough : {t : Tree} → Valid stmt t → (d e : ℕ) → need t own ≤ d → need t own ≤ e → (q : List Error) (r : List ℕ) → next d q (statement t r) ≡ next e q (statement t r)
depth_enough h d e l m q r = rw (next_back h d q r, next_back h e q r, le-leb _ d l, le-leb _ e m)

pub deep_enough : {d e : ℕ} → d ≤ e → (q : List Error) (ts : List ℕ) → next d q ts ≢ stop too_deep → next e q ts ≡ next d q ts
deep_enough h q ts = enough (next_depth h q ts)

-- 5
pub token_count : (t : Tree) → length (statement_words t) ≡ 2 * suc (tokens t own)
token_count t = statement_length t

-- 6
pub statement_first : (t : Tree) (r : List ℕ) → statement t r ≡ statement_words t ++ r
statement_first t r = sym (write_append t own (token Kind.Semicolon []) r)

pub run_in_turn : (f : Forest) → run f ≡ in_turn f
unfolding run in_turn
run_in_turn none = refl
run_in_turn (more t f) = rw (run_in_turn f) (statement_first t (in_turn f))

-- 7
pub same_trees : (d e : ℕ) (ts us : List ℕ) (f g : Forest) → clean_reading d ts ≡ Some f → clean_reading e us ≡ Some g → (f ≡ g) ↔ (run f ≡ run g)
same_trees d e ts us f g a b = (
  (λ x. ap run x),
  λ x.
      let n : ℕ = max (need (Node.list f) own) (need (Node.list g) own) in
      let p : clean_reading n (run f) ≡ Some f = reading_back (sound d ts f a) n (omega arith) in
      let q : clean_reading n (run g) ≡ Some g = reading_back (sound e us g b) n (omega arith) in
      let y : clean_reading n (run f) ≡ clean_reading n (run g) = ap (clean_reading n) x in
      cc,
)

pub run_again : (d : ℕ) (ts : List ℕ) (f : Forest) → clean_reading d ts ≡ Some f → need (Node.list f) own ≤ depth_limit → clean_reading depth_limit (run f) ≡ Some f
run_again d ts f a l = reading_back (sound d ts f a) depth_limit l

-- 8
pub same_records : {t u : Tree} → Valid stmt t → Valid stmt u → records t ≡ records u → t ≡ u
same_records h g e = records_same (valid_small h) (valid_small g) e

pub decoded : {t : Tree} → Valid stmt t → decode (records t) ≡ Some t
decoded h = decode_records (valid_small h)

-- 9
pub sheets : read table ≡ expected table
sheets = sheets_tried
