-- Expressions, at any place, of which the tables and grammar say the same once they say the same of the children at theirs. Assumes nothing.
use Rattle.std.specs.Prelude.{◌≡◌, refl, true, false, ◌&&◌, List, eqb}
use Prim.Native.Nat.{ℕ, zero, suc, ◌-◌, ◌/◌, ◌%◌, ◌<◌}
use native.Mathlib.Omega.{arith}
use Rattle.std.proofs.Math.Dec.{eqb-suc-zero}
use Rattle.operator.specs.Operator.{op_token, unary_token, assign_token}
use Rattle.tree.specs.NodeKind
use Rattle.tree.specs.Tree.{Tree, Forest, node, one, two, kind_of}
use Rattle.tree.specs.Node
use Rattle.grammar.specs.Canonical.Write.{Place, group_place, own, modified, targeted, commas, members, suite, branches, row, fun_gives, has_function, assignment_keyword}
use Rattle.grammar.specs.Canonical.Need.{need}
use Rattle.grammar.proofs.Laws.Facts.{by_test, clash}
use Rattle.tables.specs.Operators.{NoToken}
use Rattle.tables.specs.Form as Form
use Rattle.tables.specs.Form.{Fun}
use Rattle.tables.specs.Check.{name_given, function_form}
use Rattle.tables.specs.Tokens.{modifier_token, assignment_token, assigns, carried}
use Rattle.tables.specs.Layout.{emit, assignment_form}
use Rattle.tables.proofs.Same.Agree.{number, depth_place, Same, tables}
use Rattle.tables.proofs.Same.Nodes.{kind_is}
use Rattle.tables.proofs.Same.Marks.{symbol_words, label_words, keyword_words, action_words, unary_words}

-- the form of an assignment: what the tables say by the number of its place
by_place : (p : Place) (v : ℕ) → (Form.fun_gives (number p) v ≡ fun_gives p v) × (eqb (number p) Fun ≡ false)
    × ((r : List ℕ) → emit (assignment_token v (number p)) (carried NodeKind.Assignment v (assignment_token v (number p))) r ≡ assignment_keyword p v r)
unfolding Form.fun_gives emit assignment_token
by_place own v = (refl, refl, action_words NodeKind.Assignment v (v % 4))
by_place modified v = (refl, refl, λ r. refl)
by_place targeted v = (refl, refl, λ r. refl)
by_place commas v = (refl, refl, λ r. refl)
by_place members v = (refl, refl, λ r. refl)
by_place suite v = (refl, refl, λ r. refl)
by_place branches v = (refl, refl, λ r. refl)
by_place row v = (refl, refl, λ r. refl)

plain_form : (p : Place) (v : ℕ) (f : Forest) → (fun_gives p v && has_function f) ≡ false → assignment_form v f (number p) ≡ number p
unfolding assignment_form function_form
plain_form p v f e =
    rw (by_place p v).0
    (by_test (fun_gives p v) (λ a. rw a (by_test (has_function f) (λ b. clash (rw (a, b)) e) (λ b. rw b))) (λ a. rw a))

fun_form : (p : Place) (v : ℕ) (f : Forest) → fun_gives p v ≡ true → has_function f ≡ true → assignment_form v f (number p) ≡ Fun
unfolding assignment_form function_form
fun_form p v f a b = rw ((by_place p v).0, a, b) (by_test (eqb (name_given f) 0) (λ e. rw e) (λ e. rw e))

-- at each place where a function stands; and it takes a depth
abbrev pub Function : Tree → Type 0
Function t = Same own t × Same modified t × Same targeted t × (0 < need t own)

-- expressions, at any place
module _ (p : Place) where
  pub primary_same : {a l : Tree} → Same own a → Same row l → Same p (node NodeKind.Primary 0 (two a l))
  unfolding tables
  primary_same h g = record { words = λ r. rw (h.words, g.words); depth = omega arith }

  pub unary_op_same : {t : Tree} (n : ℕ) → unary_token n < NoToken → Same own t → Same p (Node.unary_op n t)
  unfolding tables
  unary_op_same n l h = record { words = λ r. rw (unary_words NodeKind.UnaryOp n n _ l, h.words); depth = omega arith }

  pub binary_op_same : {a b : Tree} (n : ℕ) → op_token n < NoToken → Same own a → Same own b → Same p (Node.binary_op n a b)
  unfolding tables
  binary_op_same n l h g = record { words = λ r. rw (symbol_words (op_token n) _ l, h.words, g.words); depth = omega arith }

  pub unpack_same : {t : Tree} → Same own t → Same p (Node.unpack t)
  unfolding tables
  unpack_same h = record { words = λ r. rw h.words; depth = omega arith }

  pub tuple_same : {l : Tree} → Same members l → Same p (node NodeKind.Tuple 0 (one l))
  unfolding tables
  tuple_same h = record { words = λ r. rw h.words; depth = omega arith }

  pub table_same : {l : Tree} → Same commas l → Same p (node NodeKind.Table 0 (one l))
  unfolding tables
  table_same h = record { words = λ r. rw h.words; depth = omega arith }

  pub if_expr_same : {l e : Tree} → Same branches l → Same own e → Same p (node NodeKind.IfExpr 0 (two l e))
  unfolding tables
  if_expr_same {e = e} h g =
      record { words = λ r. by_test (eqb (kind_of e) NodeKind.Absent) (λ q. rw (kind_is e, q, h.words, g.words)) (λ q. rw (kind_is e, q, h.words, g.words)); depth = omega arith }

  pub block_same : {b : Tree} (l : ℕ) → Same own b → Same p (Node.block l b)
  unfolding tables
  block_same l h = record { words = λ r. rw (label_words NodeKind.Block l, h.words); depth = omega arith }

  pub group_same : {e : Tree} (v : ℕ) → Same (group_place v) e → Same p (Node.group v e)
  unfolding tables modifier_token
  group_same zero h = record { words = λ r. rw h.words; depth = omega arith }
  group_same (suc a) h =
      let e : suc a - 1 ≡ a = omega arith in
      record { words = λ r. rw (eqb-suc-zero a, e, keyword_words NodeKind.Group (suc a) a, h.words); depth = rw (eqb-suc-zero a) (omega arith) }

  pub nil_same : Same p Node.nil
  unfolding tables
  nil_same = record { words = λ r. refl; depth = omega arith }

  pub empty_tuple_same : Same p Node.empty_tuple
  unfolding tables
  empty_tuple_same = record { words = λ r. refl; depth = omega arith }

  pub identifier_same : (n : ℕ) → Same p (Node.identifier n)
  unfolding tables
  identifier_same n = record { words = λ r. refl; depth = omega arith }

  pub boolean_literal_same : (b : ℕ) → Same p (Node.boolean_literal b)
  unfolding tables
  boolean_literal_same b = record { words = λ r. by_test (eqb b 0) (λ e. rw e) (λ e. rw e); depth = omega arith }

  pub integer_literal_same : (n : ℕ) → Same p (Node.integer_literal n)
  unfolding tables
  integer_literal_same n = record { words = λ r. refl; depth = omega arith }

  pub float_literal_same : (n : ℕ) → Same p (Node.float_literal n)
  unfolding tables
  float_literal_same n = record { words = λ r. refl; depth = omega arith }

  pub string_literal_same : (n : ℕ) → Same p (Node.string_literal n)
  unfolding tables
  string_literal_same n = record { words = λ r. refl; depth = omega arith }

  -- an assignment as it stands, and as `fun` with a target
  pub assignment_same : {t d : Tree} (v : ℕ) → depth_place p ≡ p → assign_token (v / 4) < NoToken → (fun_gives p v && has_function (two t d)) ≡ false → Same own t → Same own d
      → Same p (node NodeKind.Assignment v (two t d))
  unfolding tables assigns
  assignment_same {t} {d} v q l e h g =
      let m : assignment_form v (two t d) (number p) ≡ number p = plain_form p v (two t d) e in
      record { words = λ r. rw (m, e, (by_place p v).2, (by_place p v).1, symbol_words (assign_token (v / 4)) _ l, h.words, g.words); depth = rw (q, m, e, (by_place p v).1) (omega arith) }

  pub target_same : {t d : Tree} (v : ℕ) → depth_place p ≡ p → fun_gives p v ≡ true → has_function (two t d) ≡ true → Same own t → Function d
      → Same p (node NodeKind.Assignment v (two t d))
  unfolding tables assignment_token assigns
  target_same {t} {d} v q l e h g =
      let m : assignment_form v (two t d) (number p) ≡ Fun = fun_form p v (two t d) l e in
      record { words = λ r. rw (m, l, e, h.words, g.2.words); depth = rw (q, m, l, e) (omega arith) }

pub function_def_same : {s b : Tree} → Same own s → Same own b → Function (Node.function_def s b)
unfolding tables
function_def_same h g = (
  record { words = λ r. rw (h.words, g.words); depth = omega arith },
  record { words = λ r. rw (h.words, g.words); depth = omega arith },
  record { words = λ r. rw (h.words, g.words); depth = omega arith },
  omega arith,
)
