-- A node from its end: the children from the last, each with the token behind it, and what stands around them. Holds for any tree. Assumes nothing.
use mathlib.Core.Path.{◌≡◌, refl, sym, ap, ◌∙◌, subst}
use mathlib.Core.Bool.{Bool, true, false, ◌&&◌}
use mathlib.Core.List.{List, [], ◌∷◌, ◌++◌}
use Prim.Native.Nat.{ℕ, suc, ◌+◌, ◌-◌, ◌/◌, ◌%◌, ◌≤◌, ◌<◌}
use native.Mathlib.Omega.{arith}
use lib.Dec.{leb}
use lib.ListN.{length, get_or}
use borrow.Author.Tests.{le-leb, lt-leb}
use Rattle.std.specs.Prelude.{Some}
use Rattle.tree.specs.Tree.{Tree, Forest, node, none, more, count}
use Rattle.tree.specs.Records.{back}
use Rattle.tables.specs.Form.{place_of, base, deeper}
use Rattle.tables.specs.Layout.{form_of, text, texts, within, withins, emit, opened, closed}
use Rattle.tables.proofs.Same.Depth.{deeper_base}
use Rattle.writer.specs.Post.{StepAs, WroteTree}
use Rattle.writer.specs.Stack.{At, Says}
use Rattle.tables.specs.Children.{kind_in, value_in, children_in}
use Rattle.writer.specs.declared.form.Form.{Form}
use Rattle.writer.specs.declared.form.Place.{Place}
use Rattle.writer.specs.Form.{place_number, form_number, FormAt}
use Rattle.writer.specs.Text.{Put, Opened}
use Rattle.output.specs.Text.{Holds}
use Rattle.tables.specs.Tokens.{after_token}
use Rattle.std.specs.declared.result.Result.{Result}
use Rattle.std.specs.declared.result.Result.TheVariants.{Ok, Err}
use Rattle.writer.specs.declared.Step.{Step}
use Rattle.writer.specs.declared.TooDeep.{TooDeep}
use Rattle.writer.proofs.Laws.{pop, back_append, length_back}
use Rattle.writer.proofs.Places.{stands}
use Rattle.writer.proofs.Keeping.{says_one}
use Rattle.writer.proofs.Kids.{from_first, from_last, test_back}
use Rattle.writer.proofs.Writing.{under_top}

-- a depth that is enough for the node has room for its child, which is never deeper than the node's base
pub below_base : {b c d : ℕ} (w m j : ℕ) → c ≡ deeper (w % 256) m j → b ≡ base (w % 256) → b ≤ d → c ≤ d
below_base w m j e g h = omega (arith, deeper_base (w % 256) m j)

-- ---------------------------------------------------------------- from the last child as from the first
-- the words of some children of a node, the last one on top, before the words r
unfoldable pub textR : ℕ → ℕ → ℕ → ℕ → List Tree → List ℕ → List ℕ
textR k v m n [] r = r
textR k v m n (t ∷ u) r = textR k v m n u (text t (place_of k v m (suc (length u))) (emit (after_token k v m n (suc (length u))) 0 r))

text_back : (k v m n : ℕ) (f : Forest) (u : List Tree) (r : List ℕ) → textR k v m n (back f u) r ≡ textR k v m n u (texts f k v m n (suc (length u)) r)
unfolding textR back text
text_back k v m n none u r = refl
text_back k v m n (more t f) u r = text_back k v m n f (t ∷ u) r

-- the depth d of a node is enough for its child number j
abbrev pub enough_for : ℕ → ℕ → ℕ → ℕ → ℕ → Tree → Bool
enough_for k v m d j t = within t (place_of k v m j) (d - deeper k m j)

withins_each : (k v m d : ℕ) (f : Forest) (j : ℕ) → withins f k v m d j ≡ from_first (enough_for k v m d) j f
unfolding within from_first
withins_each k v m d none j = refl
withins_each k v m d (more t f) j = ap (λ b. enough_for k v m d j t && b) (withins_each k v m d f (suc j))

text_node : (k v place : ℕ) (f : Forest) (X : List ℕ) → text (node k v f) place X ≡ opened k v (form_of k v f place) (textR k v (form_of k v f place) (count f) (back f []) (closed k v (form_of k v f place) X))
unfolding text textR
text_node k v place f X = ap (opened k v (form_of k v f place)) (sym (text_back k v (form_of k v f place) (count f) f [] (closed k v (form_of k v f place) X)))

within_node : (k v place d : ℕ) (f : Forest) → within (node k v f) place d ≡ leb (base k) d && from_last (enough_for k v (form_of k v f place) d) (back f [])
unfolding within from_last
within_node k v place d f =
    let m : ℕ = form_of k v f place in
    ap (λ b. leb (base k) d && b) (withins_each k v m d f 1 ∙ sym (test_back (enough_for k v m d) f []))

-- ---------------------------------------------------------------- a node: where the loop over its children stands
-- what the node writes is Y, and it is within its depth if `enough` says so; the children that are left, and the words behind them
pub record Left (L : List ℕ) (s : List Tree) (Y : List ℕ) (enough : Bool) (d k v m n p : ℕ) (O : List ℕ) (j q a : ℕ) : Type 0 where
  pub kids : List Tree
  pub words : List ℕ
  pub here : At L q (kids ++ s)
  pub holds : Holds a O words
  pub many : length kids ≡ j
  pub same : Y ≡ opened k v m (textR k v m n kids words)
  pub deep : enough ≡ from_last (enough_for k v m d) kids
  pub below : q + 2 ≤ p

-- the node that ends at p is too deep by itself
pub base_deep : {L : List ℕ} {p b d : ℕ} (place : ℕ) (t : Tree) (s : List Tree) → At L p (t ∷ s) → b ≡ base (get_or L (p - 2) 0 % 256) → d < b → within t place d ≡ false
base_deep {L} {p} {b} {d} place (node k v f) s at e h =
    let x = pop at in
    let g : b ≡ base k = rw x.kind at e in
    within_node k v place d f ∙ rw (lt-leb (base k) d (rw (← g) h))

-- the form that was found, by the number that the tables have for it
pub form_says : {L : List ℕ} {p : ℕ} {place : Place} {form : Form} {t : Tree} {s : List Tree} → FormAt L p place form → At L p (t ∷ s)
    → Says L p (λ x. form_of (kind_in x) (value_in x) (children_in x) (place_number place)) (form_number (get_or L (p - 2) 0 % 256) form)
form_says {L} {p} {form = form} {t = node k v f} {s} x a = says_one a (ap (λ (n : ℕ). form_number n form) (pop a).kind ∙ x.how (Some (node k v f)) s (stands a))

-- all children are left
pub left_start : {L : List ℕ} {p b d m a : ℕ} {O : List ℕ} (place : ℕ) (t : Tree) (s : List Tree) (X : List ℕ) → At L p (t ∷ s) → b ≡ base (get_or L (p - 2) 0 % 256) → b ≤ d
    → Says L p (λ x. form_of (kind_in x) (value_in x) (children_in x) place) m → Holds a O (closed (get_or L (p - 2) 0 % 256) (get_or L (p - 1) 0) m X)
    → Left L s (text t place X) (within t place d) d (get_or L (p - 2) 0 % 256) (get_or L (p - 1) 0) m (get_or L (p - 2) 0 / 256) p O (get_or L (p - 2) 0 / 256) (p - 2) a
left_start {L} {p} {b} {d} {m} {a} {O} place (node k v f) s X at e h says g =
    let x = pop at in
    let form : m ≡ form_of k v f place = says.how (Some (node k v f)) s (record { how = at }) in
    let n = length_back f [] in
    let many = x.kids in
    let two = x.two in
    let low : b ≡ base k = rw x.kind at e in
    record {
      kids = back f [];
      words = closed (get_or L (p - 2) 0 % 256) (get_or L (p - 1) 0) m X;
      here = subst (λ (z : List Tree). At L (p - 2) z) (back_append f [] s) x.under;
      holds = g;
      many = omega arith;
      same = text_node k v place f X ∙ rw (x.kind, x.value, x.kids, form);
      deep = within_node k v place d f ∙ rw (le-leb (base k) d (rw (← low) h), x.kind, x.value, form);
      below = omega arith;
    }

-- the last child that is left
pub record Last (L : List ℕ) (s : List Tree) (Y : List ℕ) (enough : Bool) (d k v m n p : ℕ) (O : List ℕ) (j q a : ℕ) : Type 0 where
  pub top : Tree
  pub others : List Tree
  pub words : List ℕ
  pub here : At L q (top ∷ (others ++ s))
  pub holds : Holds a O words
  pub many : length others ≡ j - 1
  pub same : Y ≡ opened k v m (textR k v m n others (text top (place_of k v m j) (emit (after_token k v m n j) 0 words)))
  pub deep : enough ≡ enough_for k v m d j top && from_last (enough_for k v m d) others
  pub below : q + 2 ≤ p

pub last : {L : List ℕ} {s : List Tree} {Y : List ℕ} {enough : Bool} {d k v m n p : ℕ} {O : List ℕ} {j q a : ℕ} → Left L s Y enough d k v m n p O j q a → 0 < j → Last L s Y enough d k v m n p O j q a
unfolding textR from_last
last {L} {s} {Y} {enough} {d} {k} {v} {m} {n} {p} {O} {j} {q} {a} w h = go w.kids w.here w.many w.same w.deep
  where
    go : (u : List Tree) → At L q (u ++ s) → length u ≡ j → Y ≡ opened k v m (textR k v m n u w.words) → enough ≡ from_last (enough_for k v m d) u → Last L s Y enough d k v m n p O j q a
    go [] at l e g = absurd (omega arith)
    go (t ∷ u) at l e g = record {
      top = t;
      others = u;
      words = w.words;
      here = at;
      holds = w.holds;
      many = omega arith;
      same = e ∙ ap (λ (i : ℕ). opened k v m (textR k v m n u (text t (place_of k v m i) (emit (after_token k v m n i) 0 w.words)))) l;
      deep = g ∙ ap (λ (i : ℕ). enough_for k v m d i t && from_last (enough_for k v m d) u) l;
      below = w.below;
    }

module _ {L : List ℕ} {s : List Tree} {Y : List ℕ} {enough : Bool} {d k v m n p : ℕ} {O : List ℕ} {j q a : ℕ} (w : Last L s Y enough d k v m n p O j q a) {its below : ℕ} (pe : its ≡ place_of k v m j) (de : below ≡ deeper k m j) where
  -- what a call says of it
  called : {O₁ O₂ : List ℕ} {b : ℕ} {r : Result Step TooDeep} → Put (after_token k v m n j) 0 a b O O₁ → WroteTree L (d - below) its q b O₁ O₂ r
      → StepAs (enough_for k v m d j w.top) L (w.others ++ s) (text w.top (place_of k v m j) (emit (after_token k v m n j) 0 w.words)) O₂ r
  called put x = rw (← pe, ← de) (x.how w.top (w.others ++ s) _ w.here (put.how w.words w.holds))

  pub last_done : {O₁ O₂ : List ℕ} {b : ℕ} {step : Step} {r : Result Step TooDeep} → Put (after_token k v m n j) 0 a b O O₁ → WroteTree L (d - below) its q b O₁ O₂ r → r ≡ Ok step → Left L s Y enough d k v m n p O₂ (j - 1) step.records step.words
  last_done put x re =
      let t = rw re at (called put x) in
      let y = under_top w.here t.1 in
      let z = w.below in
      record {
        kids = w.others;
        words = text w.top (place_of k v m j) (emit (after_token k v m n j) 0 w.words);
        here = t.1;
        holds = t.2;
        many = w.many;
        same = w.same;
        deep = w.deep ∙ rw t.0;
        below = omega arith;
      }

  pub last_deep : {O₁ O₂ : List ℕ} {b : ℕ} {r : Result Step TooDeep} {e : TooDeep} → Put (after_token k v m n j) 0 a b O O₁ → WroteTree L (d - below) its q b O₁ O₂ r → r ≡ Err e → enough ≡ false
  last_deep put x re =
      let t = rw re at (called put x) in
      w.deep ∙ rw t

-- no child is left
pub left_end : {L : List ℕ} {s : List Tree} {Y : List ℕ} {enough : Bool} {d k v m n p : ℕ} {O O' : List ℕ} {j q a b : ℕ} → Left L s Y enough d k v m n p O j q a → j ≡ 0 → Opened k v m a b O O' → (enough ≡ true) × At L q s × Holds b O' Y
unfolding textR from_last
left_end {L} {s} {Y} {enough} {d} {k} {v} {m} {n} {p} {O} {O'} {j} {q} {a} {b} w h o = go w.kids w.here w.many w.same w.deep
  where
    go : (u : List Tree) → At L q (u ++ s) → length u ≡ j → Y ≡ opened k v m (textR k v m n u w.words) → enough ≡ from_last (enough_for k v m d) u → (enough ≡ true) × At L q s × Holds b O' Y
    go [] at l e g = (g, at, rw e (o.how w.words w.holds))
    go (t ∷ u) at l e g = absurd (omega arith)
