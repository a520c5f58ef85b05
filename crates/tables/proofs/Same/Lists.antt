-- Lists: the tables and grammar say the same of them at their places, once they say the same of the members. Assumes nothing.
use Rattle.std.specs.Prelude.{◌≡◌, refl, not, List, [], ◌∷◌, ℕ, suc, ◌+◌, eqb}
use Rattle.std.proofs.Common.{ap, arith}
use Rattle.std.proofs.Math.Path.{sym}
use borrow.Author.Tests.{eq-eqb, ne_eqb}
use Rattle.token.specs.Kind
use Rattle.tree.specs.NodeKind
use Rattle.tree.specs.Tree.{Tree, Forest, none, more, one, empty, count}
use Rattle.tree.specs.Node
use Rattle.grammar.specs.Canonical.Write.{Place, own, commas, members, suite, branches, row, W, Words, token, tokens_if, head_empty, after_commas, with_commas, as_suite, after_elif, as_row, write, writes}
use Rattle.grammar.specs.Canonical.Need.{most, need, needs}
use Rattle.grammar.proofs.Laws.Facts.{by_test}
use Rattle.grammar.proofs.Laws.Back.Snoc.{most_more}
use Rattle.tables.specs.Choice.{where_is}
use Rattle.tables.specs.Operators.{NoToken}
use Rattle.tables.specs.Form.{Own, Commas, Members, Suite, Branches, Row, Leading, first_place, second_place, place_of, first_deeper, second_deeper, deeper}
use Rattle.tables.specs.Tokens.{between, after_token}
use Rattle.tables.specs.Layout.{emit, text, texts}
use Rattle.tables.proofs.Same.Depth.{taken, takens}
use Rattle.tables.proofs.Same.Agree.{number, Same, EachOwn, tables}

-- members stand by themselves, as deep as the list
member_place : (v m j : ℕ) → place_of NodeKind.List v m j ≡ Own
unfolding place_of first_place second_place
member_place v m j = by_test (eqb j 1) (λ e. rw e) (λ e. rw e (by_test (eqb j 2) (λ e. rw e) (λ e. rw e)))

member_deeper : (m j : ℕ) → deeper NodeKind.List m j ≡ 0
unfolding deeper first_deeper second_deeper
member_deeper m j = by_test (eqb j 1) (λ e. rw e) (λ e. rw e (by_test (eqb j 2) (λ e. rw e) (λ e. rw e)))

members_taken : (f : Forest) → EachOwn f → (m j : ℕ) → takens f NodeKind.List 0 m j ≡ most (needs f)
unfolding taken need
members_taken none u m j = refl
members_taken (more t f) u m j =
    rw (member_place 0 m j, member_deeper m j) (omega (arith, members_taken f u.1 m (suc j), most_more t f))

-- with the same token behind each member, or none
module _ (m c : ℕ) (run : List Words → W) (stop : (r : List ℕ) → run [] r ≡ r)
    (step : (w : Words) (ws : List Words) (r : List ℕ) → run (w ∷ ws) r ≡ w own (emit c 0 (run ws r)))
    (behind : (n j : ℕ) → between m n j ≡ c) where
  behind_each : (f : Forest) → EachOwn f → (n j : ℕ) (r : List ℕ) → texts f NodeKind.List 0 m n j r ≡ run (writes f) r
  unfolding text after_token write
  behind_each none u n j r = sym (stop r)
  behind_each (more t f) u n j r = rw (member_place 0 m j, behind n j, u.0.words, behind_each f u.1 n (suc j) r) (sym (step (write t) (writes f) r))

-- with a token between any two of n members
module _ (m c n : ℕ) (after : List Words → W) (stop : (r : List ℕ) → after [] r ≡ r)
    (step : (w : Words) (ws : List Words) (r : List ℕ) → after (w ∷ ws) r ≡ emit c 0 (w own (after ws r)))
    (behind : (j : ℕ) → between m n j ≡ where_is j n NoToken c) where
  between_all : (t : Tree) (f : Forest) → Same own t → EachOwn f → (j : ℕ) (r : List ℕ) → n ≡ j + count f → texts (more t f) NodeKind.List 0 m n j r ≡ write t own (after (writes f) r)
  unfolding text after_token write count where_is emit
  between_all t none h u j r e = rw (member_place 0 m j, behind j, eq-eqb j n (omega arith), h.words, stop r)
  between_all t (more s f) h u j r e =
      rw (member_place 0 m j, behind j, ne_eqb j n (λ q. omega arith), h.words, step (write s) (writes f) r)
      (ap (λ x. write t own (emit c 0 x)) (between_all s f u.0 u.1 (suc j) r (omega arith)))

-- the lists, at their places
list_same : {p : Place} {f : Forest} → EachOwn f → ((r : List ℕ) → text (Node.list f) (number p) r ≡ write (Node.list f) p r) → Same p (Node.list f)
unfolding tables
list_same {p} {f} u h = record { words = h; depth = rw (members_taken f u (number p) 1) (omega arith) }

pub suite_same : {f : Forest} → EachOwn f → Same suite (Node.list f)
unfolding tables
suite_same {f} u = list_same u (behind_each Suite Kind.Semicolon as_suite (λ r. refl) (λ w ws r. refl) (λ n j. refl) f u (count f) 1)

pub row_same : {f : Forest} → EachOwn f → Same row (Node.list f)
unfolding tables
row_same {f} u = list_same u (behind_each Row NoToken as_row (λ r. refl) (λ w ws r. refl) (λ n j. refl) f u (count f) 1)

pub commas_same : {f : Forest} → EachOwn f → Same commas (Node.list f)
unfolding tables
commas_same {f = none} u = list_same u λ r. refl
commas_same {f = more t f} u =
    list_same u λ r. between_all Commas Kind.Comma (suc (count f)) after_commas (λ r. refl) (λ w ws r. refl) (λ j. refl) t f u.0 u.1 1 r (omega arith)

pub members_same : {t : Tree} {f : Forest} → EachOwn (more t f) → Same members (Node.list (more t f))
unfolding tables
members_same {f = none} u = list_same u λ r. u.0.words (token Kind.Comma r)
members_same {t} {f = more s f} u =
    list_same u λ r. between_all Members Kind.Comma (suc (suc (count f))) after_commas (λ r. refl) (λ w ws r. refl)
    (λ j. rw (ne_eqb (suc (suc (count f))) 1 (λ q. omega arith))) t (more s f) u.0 u.1 1 r (omega arith)

pub branches_same : {t : Tree} {f : Forest} → EachOwn (more t f) → Same branches (Node.list (more t f))
unfolding tables
branches_same {t} {f} u =
    list_same u λ r. ap (λ x. Kind.If ∷ 0 ∷ x) (between_all Branches Kind.Elif (suc (count f)) after_elif (λ r. refl) (λ w ws r. refl) (λ j. refl) t f u.0 u.1 1 r (omega arith))

-- a comma behind each: between them, and one behind all if there are some
abbrev led : List Words → W
led [] r = r
led (w ∷ ws) r = w own (after_commas ws (token Kind.Comma r))

led_step : (w : Words) (ws : List Words) (r : List ℕ) → led (w ∷ ws) r ≡ w own (token Kind.Comma (led ws r))
led_step w [] r = refl
led_step w (u ∷ ws) r = refl

pub record Leads (t : Tree) : Type 0 where
  pub words : (r : List ℕ) → text t Leading r ≡ write t commas (tokens_if (not (head_empty (one t))) (token Kind.Comma) r)
  pub depth : taken t Leading ≡ need t own

leading_words : (f : Forest) → EachOwn f → (r : List ℕ) → texts f NodeKind.List 0 Leading (count f) 1 r ≡ with_commas (writes f) (tokens_if (not (empty f)) (token Kind.Comma) r)
unfolding text write emit between
leading_words none u r = refl
leading_words (more t f) u r = behind_each Leading Kind.Comma led (λ r. refl) led_step (λ n j. refl) (more t f) u (count (more t f)) 1 r

pub leading_same : {f : Forest} → EachOwn f → Leads (Node.list f)
unfolding tables
leading_same {f} u = record { words = leading_words f u; depth = rw (members_taken f u Leading 1) (omega arith) }
