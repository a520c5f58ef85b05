-- Functions and their targets (grammar's Reading/Function.antt), one step each, as the code goes. Assumes nothing.
use mathlib.Core.Path.{◌≡◌, refl, sym, ap, ◌∙◌}
use mathlib.Core.Bool.{Bool, true, false}
use mathlib.Core.List.{List, [], ◌∷◌, ◌++◌, append_assoc, append-nil}
use Prim.Native.Nat.{ℕ, ◌+◌, ◌≤◌}
use native.Mathlib.Omega.{arith}
use lib.Dec.{eqb}
use lib.ListN.{length, take, drop}
use borrow.Author.Tests.{eq-eqb, ne_eqb, eqb-true}
use Rattle.std.specs.Prelude.{Option, Some, None}
use Rattle.token.specs.Kind
use Rattle.token.specs.declared.Token.{Token}
use Rattle.tree.specs.NodeKind
use Rattle.tree.specs.Choice.{pick}
use Rattle.tree.specs.Tree.{Tree, Forest, node, none, more, count, records, kind_of}
use Rattle.tree.specs.Node
use Rattle.grammar.proofs.Laws.Keep.{Holds, k_ok, k_failed, k_on, k_any, k_if, k_tested}
use Rattle.grammar.proofs.Laws.Levels.Leveled.{p_none}
use Rattle.grammar.proofs.Laws.Levels.Nonterminals.{depth_levels, atom_leveled, path_leveled}
use Rattle.grammar.specs.Reading.Number
use Rattle.grammar.specs.Reading.Result.{Res, ok, then, ifb, Error}
use Rattle.grammar.specs.Reading.Look.{expect, expect_pattern}
use Rattle.grammar.specs.Reading.Pattern.{to_pattern, conv, last_of, front_of, by_item, receiver}
use Rattle.grammar.specs.Reading.Expr.{Depth, Stmts}
use Rattle.grammar.specs.Reading.Primary.{atom, path, with_path, literal}
use Rattle.grammar.specs.Reading.Block.{body, block_of}
use Rattle.grammar.specs.Reading.Function.{Params, function_param_list, function_def, function_assignment_target, target_name, function_decl_expr}
use Rattle.grammar.specs.Reading.Depth.{at_depth}
use Rattle.grammar.proofs.Laws.Levels.Parts.{with_path_leveled}
use Rattle.pattern.specs.Contract.{Whole}
use Rattle.nodes.specs.Parts.{signature_words, path_words}
use Rattle.scan.specs.Post.{clean, Wrote, Taken}
use Rattle.nodes.specs.Ends.{tree_value}
use Rattle.scan.proofs.Laws.{Looks, shorter, prefix}
use Rattle.cycle.proofs.Trees.{path_text}
use Rattle.cycle.proofs.Shapes.{given}

-- THE DEFINITION of a function
abbrev pub def_tree : ℕ → Params → Stmts → Tree
def_tree name ps b = Node.function_def (Node.signature_def name ps.required_list ps.default_list ps.variadic_one) (block_of b)

abbrev pub def_body : Depth → ℕ → Params → List Error → List ℕ → Res Tree
def_body low name ps q u = then q (body low q u) λ b q₄ x. ok (def_tree name ps b) x

abbrev pub def_close : Depth → ℕ → Params → List Error → List ℕ → Res Tree
def_close low name ps q s = then q (expect Kind.CloseParen Number.params_closing q s) λ tok₂ q₃ u. def_body low name ps q₃ u

abbrev pub def_params : Depth → ℕ → List Error → List ℕ → Res Tree
def_params low name q r = then q (function_param_list low q r) (def_close low name)

pub def_step : (low : Depth) (name : ℕ) (q : List Error) (ts : List ℕ) → function_def low name q ts ≡ then q (expect Kind.OpenParen Number.params_opening q ts) (λ tok q₁ r. def_params low name q₁ r)
unfolding function_def
def_step low name q ts = refl

-- its words, behind those of the signature's parts
pub def_words : (name : ℕ) (ps : Params) (b : Stmts) → records (def_tree name ps b) ≡ (signature_words ps ++ 792 ∷ name ∷ []) ++ (records (block_of b) ++ 532 ∷ 0 ∷ [])
unfolding records count
def_words name ps b = simp (append-nil, append_assoc)

-- TARGETS
pub target_step : (low : Depth) (q : List Error) (ts : List ℕ) → function_assignment_target low q ts ≡ then q (atom low q ts) (λ a q₁ r. then q₁ (path low false (length r) none q₁ r) λ f q₂ s. expect_pattern Number.function_target (to_pattern (with_path a f)) q₂ s)
unfolding function_assignment_target
target_step low q ts = refl

module _ (d : ℕ) where
  -- an atom and its path in the store
  pub target_stands : {T : List ℕ} {pos least slack at : ℕ} {S Q : List ℕ} {p a : ℕ} {S₁ Q₁ : List ℕ} {least₁ slack₁ p₂ a₂ : ℕ} {S₂ Q₂ : List ℕ} (g : Wrote records (atom (at_depth d) Q (drop pos T)) clean T pos least slack at S Q p a S₁ Q₁)
      (h : Wrote path_words (path (at_depth d) false (length (drop p T)) none Q₁ (drop p T)) clean T p least₁ slack₁ a S₁ Q₁ p₂ a₂ S₂ Q₂) → at ≤ length S → a ≤ length S₁ → a₂ ≤ length S₂ → Whole (with_path g.what h.what) S₂ at a₂
  target_stands {at = at} {S = S} {a = a} {S₁ = S₁} {a₂ = a₂} {S₂ = S₂} g h i j k =
      let o = g.room in
      let o₂ = h.room in
      let e : take at S₂ ≡ take at S = shorter S₂ S₁ at a o.up (prefix h j) ∙ prefix g i in
      record {
        small = (with_path_leveled h.what (given (atom_leveled (at_depth d) (depth_levels d) _ _) g.same).leveled (given (path_leveled (at_depth d) (depth_levels d) false _ none p_none _ _) h.same)).small;
        text = h.text ∙ ap (λ (y : List ℕ). y ++ path_words h.what) g.text ∙ append_assoc (take at S) (records g.what) (path_words h.what) ∙ rw (e, path_text g.what h.what);
        start = omega arith;
        within = k;
      }

-- DECLARATIONS
pub decl_looks : (low : Depth) (q : List Error) (ts : List ℕ) → Looks q ts (function_decl_expr low q ts)
unfolding function_decl_expr
decl_looks low q ts = record { go = _; is = refl }

module _ (low : Depth) (q : List Error) {T : List ℕ} {pos k n v : ℕ} (at : Taken T pos k n v) where
  pub decl_open : k ≡ Kind.OpenParen → function_decl_expr low q (drop pos T) ≡ function_def low 0 q (drop pos T)
  unfolding function_decl_expr then ifb
  decl_open e = rw (at.same, eq-eqb _ _ e)

  pub decl_target : (k ≡ Kind.OpenParen → ⊥) → function_decl_expr low q (drop pos T) ≡ then q (function_assignment_target low q (drop pos T)) (λ p q₂ r. then q₂ (function_def low (target_name p) q₂ r) λ d q₃ s. ok (Node.assignment 2 0 p d) s)
  unfolding function_decl_expr then ifb
  decl_target e = rw (at.same, ne_eqb _ _ e)

pub decl_name : (low : Depth) (p : Tree) {n : ℕ} → n ≡ target_name p → (q : List Error) (r : List ℕ) → then q (function_def low (target_name p) q r) (λ d q₃ s. ok (Node.assignment 2 0 p d) s) ≡ then q (function_def low n q r) (λ d q₃ s. ok (Node.assignment 2 0 p d) s)
decl_name low p e q r = ap (λ (m : ℕ). then q (function_def low m q r) (λ d q₃ s. ok (Node.assignment 2 0 p d) s)) (sym e)

-- THE NAME of a target is its first token's, if it is a name alone
-- a pattern that is a name alone is of a token of this kind and value
abbrev pub Names : ℕ → ℕ → Tree → Type 0
Names k v t = kind_of t ≡ NodeKind.IdentifierPattern → (k ≡ Kind.Identifier) × (tree_value t ≡ v)

-- an expression of which that is true as a pattern
data Named (k v : ℕ) : Tree → Type 0 where
  the_name : k ≡ Kind.Identifier → Named k v (Node.identifier v)
  no_name : {j x : ℕ} → to_pattern (node j x none) ≡ None → Named k v (node j x none)

literal_named : (tok : Token) (q : List Error) (rest : List ℕ) → Holds (Named tok.kind tok.value) (literal tok q rest)
unfolding literal conv
literal_named tok q rest =
    k_tested _ (λ u e. k_ok (the_name (eqb-true _ _ e))) λ _ e.
    k_if _ (λ _. k_ok (no_name refl)) λ _. k_if _ (λ _. k_ok (no_name refl)) λ _. k_if _ (λ _. k_ok (no_name refl)) λ _.
    k_if _ (λ _. k_ok (no_name refl)) λ _. k_if _ (λ _. k_ok (no_name refl)) λ _. k_if _ (λ _. k_ok (no_name refl)) λ _. k_failed

atom_named : (low : Depth) (q : List Error) {T : List ℕ} {pos k n v : ℕ} → Taken T pos k n v → (k ≡ Kind.OpenParen → ⊥) → Holds (Named k v) (atom low q (drop pos T))
unfolding atom then ifb
atom_named low q {T} {pos} {k} {n} {v} at e = rw (at.same, ne_eqb _ _ e) (literal_named (record { kind = k; newline = n; value = v }) q (drop (pos + 2) T))

-- no item makes a name alone
data Other : Option Tree → Type 0 where
  is_none : Other None
  is_other : {t : Tree} → (kind_of t ≡ NodeKind.IdentifierPattern → ⊥) → Other (Some t)

other_pick : (b : Bool) {x y : Unit {0} → Option Tree} → ((u : Unit {0}) → Other (x u)) → ((u : Unit {0}) → Other (y u)) → Other (pick b x y)
other_pick true f g = f tt
other_pick false f g = g tt

item_other : (to i : Tree) → Other (by_item to i)
item_other to (node k x none) = other_pick (eqb k NodeKind.Attribute) (λ u. is_other (λ e. omega arith)) (λ u. other_pick (eqb k NodeKind.Index) (λ u. is_none) (λ u. is_none))
item_other to (node k x (more t none)) = other_pick (eqb k NodeKind.Attribute) (λ u. is_none) (λ u. other_pick (eqb k NodeKind.Index) (λ u. is_other (λ e. omega arith)) (λ u. is_none))
item_other to (node k x (more t (more s f))) = other_pick (eqb k NodeKind.Attribute) (λ u. is_none) (λ u. other_pick (eqb k NodeKind.Index) (λ u. is_none) (λ u. is_none))

path_other : (a i : Tree) (f : Forest) → Other (to_pattern (Node.primary a (more i f)))
unfolding conv
path_other a i f = item_other (receiver 0 a 0 (front_of i f)) (last_of i f)

expect_other : {k v : ℕ} (e : ℕ) (m : Option Tree) (q : List Error) (ts : List ℕ) → Other m → Holds (Names k v) (expect_pattern e m q ts)
unfolding expect_pattern
expect_other e None q ts is_none = k_failed
expect_other e (Some t) q ts (is_other h) = k_ok (λ x. absurd (h x))

name_pattern : (v : ℕ) → to_pattern (Node.identifier v) ≡ Some (node NodeKind.IdentifierPattern v none)
unfolding conv
name_pattern v = refl

expect_name : {k v : ℕ} (e : ℕ) (m : Option Tree) (q : List Error) (ts : List ℕ) → k ≡ Kind.Identifier → m ≡ Some (node NodeKind.IdentifierPattern v none) → Holds (Names k v) (expect_pattern e m q ts)
unfolding expect_pattern
expect_name e m q ts i j = rw j (k_ok (λ x. (i, refl)))

expect_none : {k v : ℕ} (e : ℕ) (m : Option Tree) (q : List Error) (ts : List ℕ) → m ≡ None → Holds (Names k v) (expect_pattern e m q ts)
unfolding expect_pattern
expect_none e m q ts j = rw j k_failed

pattern_named : {k v : ℕ} (e : ℕ) (a : Tree) (f : Forest) (q : List Error) (ts : List ℕ) → Named k v a → Holds (Names k v) (expect_pattern e (to_pattern (with_path a f)) q ts)
pattern_named {k} {v} e a none q ts (the_name i) = expect_name e _ q ts i (name_pattern v)
pattern_named e a none q ts (no_name j) = expect_none e _ q ts j
pattern_named e a (more i f) q ts h = expect_other e _ q ts (path_other a i f)

pub target_named : (low : Depth) (q : List Error) {T : List ℕ} {pos k n v : ℕ} → Taken T pos k n v → (k ≡ Kind.OpenParen → ⊥) → Holds (Names k v) (function_assignment_target low q (drop pos T))
unfolding function_assignment_target
target_named low q at e = k_on q (atom_named low q at e) λ a q₁ r x. k_any q₁ (path low false (length r) none q₁ r) λ f q₂ s. pattern_named _ a f q₂ s x
