-- A tree is written as two words for each of its tokens. Assumes nothing.
use Rattle.std.specs.Prelude.{◌≡◌, Bool, true, false, ◌&&◌, List, [], ◌∷◌, ℕ, zero, suc, ◌+◌, ◌*◌, ◌%◌, ◌≤◌, min, eqb, ltb, length}
use Rattle.std.proofs.Common.{zero-add, suc-add, arith, eqb-true, ltb-true, ne_eqb}
use Rattle.std.proofs.lemmas.Bool.{eqb-false}
use Rattle.token.specs.Kind
use Rattle.tree.specs.NodeKind
use Rattle.tree.specs.Tree.{Tree, Forest, node, none, more, head_kind}
use Rattle.grammar.specs.Canonical.Write.{Place, own, modified, targeted, commas, members, suite, branches, row, Words, token, label, modifier, keyword, named, tokens_if, first, rest, second, third, after_commas, as_suite, after_elif, as_row, list, has_function, fun_gives, assignment_keyword, fun_keyword, layout, write, writes}
use Rattle.grammar.specs.Canonical.Writing.{statement_words}
use Rattle.grammar.specs.Canonical.Count
use Rattle.grammar.specs.Canonical.Count.{Counts, tokens, counts}
use Rattle.grammar.proofs.Laws.Facts.{by_test}

-- a law of every number: of the first n, and of those behind them
abbrev Each : (ℕ → Type 0) → ℕ → Type 0
Each P zero = Unit {0}
Each P (suc n) = P 0 × Each (λ k. P (suc k)) n

every : (P : ℕ → Type 0) (n : ℕ) → Each P n → ((k : ℕ) → P (n + k)) → (k : ℕ) → P k
every P zero a g k = rw zero-add at (g k)
every P (suc n) a g zero = a.0
every P (suc n) a g (suc k) = every (λ k. P (suc k)) n a.1 (λ k. rw suc-add at (g k)) k

-- what some tokens add
abbrev Adds : (List ℕ → List ℕ) → ℕ → Type 0
Adds w n = (r : List ℕ) → length (w r) ≡ 2 * n + length r

-- a token that is there where its value is not 0
optional : (v : ℕ) → Adds (label v) (min 1 v) × Adds (modifier v) (min 1 v) × Adds (keyword v) (min 1 v)
optional zero = omega arith
optional (suc n) = omega arith

named_length : (v : ℕ) → Adds (named v) (1 + v % 2)
named_length v r = by_test (eqb (v % 2) 0) (λ e. simp e (omega (arith, eqb-true))) (λ e. simp e (omega (arith, eqb-false)))

if_length : (k : ℕ) (b : Bool) → Adds (tokens_if b (token k)) (Count.if_so b)
if_length k true = omega arith
if_length k false = omega arith

keywords : (p : Place) (v : ℕ) → Adds (assignment_keyword p v) (Count.assignment_keyword p v) × Adds (fun_keyword p) (Count.fun_keyword p)
keywords own v = (λ r. omega (arith, (optional (v % 4)).2 r), omega arith)
keywords modified v = omega arith
keywords targeted v = omega arith
keywords commas v = omega arith
keywords members v = omega arith
keywords suite v = omega arith
keywords branches v = omega arith
keywords row v = omega arith

-- what the children add
data Longs : List Words → List Counts → Type 0 where
  no_children : Longs [] []
  children : {w : Words} {c : Counts} {ws : List Words} {cs : List Counts} → ((p : Place) → Adds (w p) (c p)) → Longs ws cs → Longs (w ∷ ws) (c ∷ cs)

rest_long : {ws : List Words} {cs : List Counts} → Longs ws cs → Longs (rest ws) (Count.rest cs)
rest_long no_children = no_children
rest_long (children h g) = g

first_length : {ws : List Words} {cs : List Counts} → Longs ws cs → (p : Place) → Adds (first ws p) (Count.first cs p)
first_length no_children p r = omega arith
first_length (children h g) p r = h p r

second_length : {ws : List Words} {cs : List Counts} → Longs ws cs → (p : Place) → Adds (second ws p) (Count.second cs p)
second_length h = first_length (rest_long h)

third_length : {ws : List Words} {cs : List Counts} → Longs ws cs → (p : Place) → Adds (third ws p) (Count.third cs p)
third_length h = second_length (rest_long h)

-- with a token for each, or none
spread : {ws : List Words} {cs : List Counts} → Longs ws cs → Adds (after_commas ws) (Count.list suite cs) × Adds (after_elif ws) (Count.list suite cs) × Adds (as_suite ws) (Count.list suite cs) × Adds (as_row ws) (Count.list row cs)
spread no_children = omega arith
spread (children h g) = simp (h, (spread g).0, (spread g).1, (spread g).2, (spread g).3) (omega arith)

list_length : {ws : List Words} {cs : List Counts} → Longs ws cs → (p : Place) → Adds (list p ws) (Count.list p cs)
list_length h own r = omega arith
list_length h modified r = omega arith
list_length h targeted r = omega arith
list_length no_children commas r = omega arith
list_length (children h g) commas r = simp h (omega (arith, (spread g).0 r))
list_length no_children members r = omega arith
list_length (children h no_children) members r = simp h (omega arith)
list_length (children h (children g i)) members r = simp (h, g) (omega (arith, (spread i).0 r))
list_length h suite r = (spread h).2 r
list_length no_children branches r = omega arith
list_length (children h g) branches r = simp h (omega (arith, (spread g).1 r))
list_length h row r = (spread h).3 r

module _ {ws : List Words} {cs : List Counts} (h : Longs ws cs) (p : Place) (v : ℕ) (f : Forest) (r : List ℕ) where
  abbrev Law : ℕ → Type 0
  Law k = length (layout p k v f ws r) ≡ 2 * Count.layout p k v f cs + length r

  assignment_length : Law NodeKind.Assignment
  assignment_length =
      by_test (fun_gives p v && has_function f)
      (λ e. simp (e, first_length h, second_length h) (omega arith))
      (λ e. simp (e, (keywords p v).0, first_length h, second_length h) (omega arith))

  pack_length : Law NodeKind.Pack
  pack_length = by_test (eqb (head_kind f) NodeKind.Pack) (λ e. simp (e, first_length h) (omega arith)) (λ e. simp (e, first_length h) (omega arith))

  -- what is no kind of a node
  others : (k : ℕ) → 47 ≤ k → Law k
  others k l =
      let a : (c : ℕ) → ltb c 47 ≡ true → eqb k c ≡ false = λ c e. ne_eqb k c λ q. omega (arith, ltb-true) in
      simp a (omega arith)

  -- statements, expressions, parts of functions and tables, atoms and access items, patterns
  layout_length : (k : ℕ) → Law k
  layout_length =
      every Law 11 (simp (list_length h p, (optional v).0, first_length h, second_length h, third_length h) (omega arith))
      (every (λ k. Law (11 + k)) 13 (simp (assignment_length, (optional v).0, (keywords p v).1, if_length Kind.Else, if_length Kind.Semicolon, first_length h, second_length h) (omega arith))
      (every (λ k. Law (11 + (13 + k))) 5 (simp (named_length, if_length Kind.Comma, if_length Kind.Ellipsis, first_length h, second_length h, third_length h) (omega arith))
      (every (λ k. Law (11 + (13 + (5 + k)))) 12 (simp ((optional v).1, first_length h) (omega arith))
      (every (λ k. Law (11 + (13 + (5 + (12 + k))))) 6 (simp (pack_length, first_length h, second_length h) (omega arith))
      (λ k. others (11 + (13 + (5 + (12 + (6 + k))))) (omega arith))))))

mutual
  unfolding write tokens

  pub tokens_length : (t : Tree) (p : Place) (r : List ℕ) → length (write t p r) ≡ 2 * tokens t p + length r
  tokens_length (node k v f) = λ p r. layout_length (longs f) p v f r k

  longs : (f : Forest) → Longs (writes f) (counts f)
  longs none = no_children
  longs (more t f) = children (tokens_length t) (longs f)

pub statement_length : (t : Tree) → length (statement_words t) ≡ 2 * suc (tokens t own)
statement_length t = omega (arith, tokens_length t own (token Kind.Semicolon []))
