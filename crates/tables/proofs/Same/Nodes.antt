-- Nodes that stand by themselves, of which the tables and grammar say the same once they say the same of the children at their places:
-- statements, parts of blocks, functions and tables, access items, patterns. Assumes nothing.
use Rattle.std.specs.Prelude.{◌≡◌, refl, false, not, ℕ, eqb, Some}
use Rattle.std.proofs.Math.Bool.{and-true, and-false}
use Rattle.std.proofs.Common.{arith}
use Rattle.tree.specs.NodeKind
use Rattle.tree.specs.Tree.{Tree, Forest, node, none, more, one, two, three, kind_of}
use Rattle.tree.specs.Node
use Rattle.grammar.specs.Canonical.Write.{own, commas, members, suite, head_empty}
use Rattle.grammar.proofs.Laws.Facts.{by_test}
use Rattle.tables.specs.Children.{kind_in, count_in}
use Rattle.tables.specs.Check.{signature_mode}
use Rattle.tables.proofs.Same.Agree.{Same, tables}
use Rattle.tables.proofs.Same.Lists.{Leads}
use Rattle.tables.proofs.Same.Marks.{label_words, named_words, keyword_words}

-- statements
pub expression_same : {e : Tree} → Same own e → Same own (Node.expression e)
unfolding tables
expression_same h = record { words = h.words; depth = omega arith }

pub inner_same : {e : Tree} → Same own (Node.expression e) → Same own e
unfolding tables
inner_same h = record { words = h.words; depth = omega arith }

pub loop_same : {b : Tree} (l : ℕ) → Same own b → Same own (Node.loop l b)
unfolding tables
loop_same l h = record { words = λ r. rw (label_words NodeKind.Loop l, h.words); depth = omega arith }

pub while_loop_same : {c b : Tree} (l : ℕ) → Same own c → Same own b → Same own (Node.while_loop l c b)
unfolding tables
while_loop_same l h g = record { words = λ r. rw (label_words NodeKind.WhileLoop l, h.words, g.words); depth = omega arith }

pub for_loop_same : {p e b : Tree} (l : ℕ) → Same own p → Same own e → Same own b → Same own (Node.for_loop l p e b)
unfolding tables
for_loop_same l h g i = record { words = λ r. rw (label_words NodeKind.ForLoop l, h.words, g.words, i.words); depth = omega arith }

pub assert_same : {e : Tree} → Same own e → Same own (Node.assert e)
unfolding tables
assert_same h = record { words = λ r. rw h.words; depth = omega arith }

pub continue_same : (l : ℕ) → Same own (Node.continue l)
unfolding tables
continue_same l = record { words = λ r. rw (label_words NodeKind.Continue l); depth = omega arith }

pub break_same : {e : Tree} (l : ℕ) → Same own e → Same own (Node.break l e)
unfolding tables
break_same l h = record { words = λ r. rw (label_words NodeKind.Break l, h.words); depth = omega arith }

pub return_same : {e : Tree} → Same own e → Same own (Node.return e)
unfolding tables
return_same h = record { words = λ r. rw h.words; depth = omega arith }

pub absent_same : Same own Node.absent
unfolding tables
absent_same = record { words = λ r. refl; depth = omega arith }

pub stmt_list_same : {l c : Tree} → Same suite l → Same own c → Same own (node NodeKind.StmtList 0 (two l c))
unfolding tables
stmt_list_same h g = record { words = λ r. rw (h.words, g.words); depth = omega arith }

-- a node whose last child may be absent
pub kind_is : (t : Tree) → kind_in (Some t) ≡ kind_of t
kind_is (node k v f) = refl

pub expr_block_same : {b e : Tree} → Same own b → Same own e → Same own (Node.expr_block b e)
unfolding tables
expr_block_same {e = e} h g =
    record { words = λ r. by_test (eqb (kind_of e) NodeKind.Absent) (λ q. rw (kind_is e, q, h.words, g.words)) (λ q. rw (kind_is e, q, h.words, g.words)); depth = omega arith }

pub conditional_branch_same : {c b : Tree} → Same own c → Same own b → Same own (Node.conditional_branch c b)
unfolding tables
conditional_branch_same h g = record { words = λ r. rw (h.words, g.words); depth = omega arith }

-- access items and fields
pub attribute_same : (n : ℕ) → Same own (Node.attribute n)
unfolding tables
attribute_same n = record { words = λ r. refl; depth = omega arith }

pub index_same : {e : Tree} → Same own e → Same own (Node.index e)
unfolding tables
index_same h = record { words = λ r. rw h.words; depth = omega arith }

pub invoke_same : {l : Tree} → Same commas l → Same own (node NodeKind.Invoke 0 (one l))
unfolding tables
invoke_same h = record { words = λ r. rw h.words; depth = omega arith }

pub invoke_table_same : {l : Tree} → Same commas l → Same own (node NodeKind.InvokeTable 0 (one l))
unfolding tables
invoke_table_same h = record { words = λ r. rw h.words; depth = omega arith }

pub field_attribute_same : (v : ℕ) → Same own (Node.field_attribute v)
unfolding tables
field_attribute_same v = record { words = named_words NodeKind.FieldAttribute v; depth = omega arith }

pub field_index_same : {e : Tree} → Same own e → Same own (Node.field_index e)
unfolding tables
field_index_same h = record { words = λ r. rw h.words; depth = omega arith }

pub table_item_same : {i e : Tree} → Same own i → Same own e → Same own (Node.table_item i e)
unfolding tables
table_item_same h g = record { words = λ r. rw (h.words, g.words); depth = omega arith }

-- functions
pub param_def_same : (v : ℕ) → Same own (Node.param_def v)
unfolding tables
param_def_same v = record { words = named_words NodeKind.ParamDef v; depth = omega arith }

pub default_def_same : {e : Tree} (v : ℕ) → Same own e → Same own (Node.default_def v e)
unfolding tables
default_def_same v h = record { words = λ r. rw (named_words NodeKind.DefaultDef v, h.words); depth = omega arith }

-- whether the first of some trees has no child says nothing of those behind it
head_alike : (t : Tree) (f : Forest) → head_empty (more t f) ≡ head_empty (one t)
head_alike (node k v g) f = refl

-- the signature: required parameters only, some and a default, some and a variadic one
pub required_signature : {l : Tree} (n : ℕ) → Same commas l → Same own (node NodeKind.SignatureDef n (three l (Node.list none) Node.absent))
unfolding tables signature_mode
required_signature {l} n h = record { words = λ r. rw (and-false (not (head_empty (three l (Node.list none) Node.absent))), h.words); depth = omega arith }

pub default_signature : {l d : Tree} (n : ℕ) → Leads l → count_in (Some d) ≡ 1 → head_empty (one d) ≡ false → Same commas d → Same own (node NodeKind.SignatureDef n (three l d Node.absent))
unfolding tables signature_mode
default_signature {l} {d} n h c e g = record { words = λ r. rw (c, head_alike d (one Node.absent), e, and-true (not (head_empty (three l d Node.absent))), head_alike l (two d Node.absent), h.words, g.words); depth = rw c (omega arith) }

pub variadic_signature : {l x : Tree} (n : ℕ) → Leads l → eqb (kind_of x) NodeKind.Absent ≡ false → Same own x → Same own (node NodeKind.SignatureDef n (three l (Node.list none) x))
unfolding tables signature_mode
variadic_signature {l} {x} n h e g = record { words = λ r. rw (kind_is x, e, and-true (not (head_empty (three l (Node.list none) x))), head_alike l (two (Node.list none) x), h.words, g.words); depth = rw (kind_is x, e) (omega arith) }

-- patterns
pub identifier_pattern_same : (n : ℕ) → Same own (Node.identifier_pattern n)
unfolding tables
identifier_pattern_same n = record { words = λ r. refl; depth = omega arith }

pub attribute_pattern_same : {t : Tree} (n : ℕ) → Same own t → Same own (Node.attribute_pattern t n)
unfolding tables
attribute_pattern_same n h = record { words = λ r. rw h.words; depth = omega arith }

pub index_pattern_same : {t e : Tree} → Same own t → Same own e → Same own (Node.index_pattern t e)
unfolding tables
index_pattern_same h g = record { words = λ r. rw (h.words, g.words); depth = omega arith }

pub tuple_pattern_same : {l : Tree} → Same members l → Same own (node NodeKind.TuplePattern 0 (one l))
unfolding tables
tuple_pattern_same h = record { words = λ r. rw h.words; depth = omega arith }

pub pack_same : {t : Tree} → Same own t → Same own (Node.pack t)
unfolding tables
pack_same {t} h =
    by_test (eqb (kind_of t) NodeKind.Pack)
    (λ e. record { words = λ r. rw (kind_is t, e, h.words); depth = rw (kind_is t, e) (omega arith) })
    (λ e. record { words = λ r. rw (kind_is t, e, h.words); depth = rw (kind_is t, e) (omega arith) })

pub modifier_same : {t : Tree} (a : ℕ) → Same own t → Same own (Node.modifier a t)
unfolding tables
modifier_same a h = record { words = λ r. rw (keyword_words NodeKind.Modifier a a, h.words); depth = omega arith }
