-- Which trees a clean reading, limits aside, can give: a family over the roles in which the grammar reads a tree. Definitions; they assume nothing.
use Rattle.std.specs.Prelude.{◌≡◌, Bool, true, false, ◌&&◌, ℕ, zero, suc, pred, ◌+◌, ◌*◌, ◌<◌, ◌^◌, eqb, ltb}
use Rattle.operator.specs.Operator.{op_level, op_number, assign_code, unary_code, level_count}
use Rattle.tree.specs.NodeKind
use Rattle.tree.specs.Tree.{Tree, Forest, none, more, one, two, kind_of}
use Rattle.tree.specs.Node
use Rattle.grammar.specs.Reading.Block.{split, whole}
use Rattle.grammar.specs.Reading.Function.{target_name}
use Rattle.grammar.specs.Reading.Stmt.{lone_ellipsis}
use Rattle.grammar.specs.Canonical.Write.{Place, own, modified, target_atom, fun_gives, has_function}

-- a name's number
abbrev pub IsName : ℕ → Type 0
IsName n = ltb n (2 ^ 32) ≡ true

-- a label, 0 or 1 + its name
pub data IsLabel : ℕ → Type 0 where
  no_label : IsLabel 0
  a_label : {n : ℕ} → IsName n → IsLabel (suc n)

-- a name with its access
pub data IsNamed : ℕ → Type 0 where
  read_only : (n : ℕ) → IsName n → IsNamed (Node.named n 0)
  read_write : (n : ℕ) → IsName n → IsNamed (Node.named n 1)

-- The roles, tightest first. `begin`: a label may be the first token, as of a labelled block. `close`: `)` comes directly behind, so that a tuple may have one member.
-- atom, prim: what `parse_atom` and `parse_primary` give. tight: `parse_primary_expr`. unary, binop: operands of each level.
-- assign: an assignment with an action, at its place. plain: an expression without a keyword of its own. ex: any expression. given: under a group's modifier.
-- function: with the name of its signature. The others are named after their nodes; jump: a control; body: a `StmtList`; block: an `ExprBlock`
pub data Role : Type 0 where
  atom prim : Role
  tight unary : Bool → Role
  binop : Bool → ℕ → Role
  assign : Place → Bool → ℕ → Role
  plain ex : Bool → Bool → Role
  given function : ℕ → Role
  item : Bool → Role
  field table_item param branch else_clause jump control body block stmt : Role

mutual
  pub data Valid : Role → Tree → Type 0 where
    v_nil : Valid atom Node.nil
    v_empty_tuple : Valid atom Node.empty_tuple
    v_identifier : {n : ℕ} → IsName n → Valid atom (Node.identifier n)
    v_true : Valid atom (Node.boolean_literal 1)
    v_false : Valid atom (Node.boolean_literal 0)
    v_integer : (v : ℕ) → Valid atom (Node.integer_literal v)
    v_float : (v : ℕ) → Valid atom (Node.float_literal v)
    v_string : {n : ℕ} → IsName n → Valid atom (Node.string_literal n)
    v_group : {e : Tree} → Valid (plain true true) e → Valid atom (Node.group 0 e)
    v_modified : {a : ℕ} {e : Tree} → a < 4 → Valid (given a) e → Valid atom (Node.group (suc a) e)
    v_atom : {t : Tree} → Valid atom t → Valid prim t
    v_primary : {a i : Tree} {f : Forest} → Valid atom a → Valid (item true) i → Valids (item true) f → Valid prim (Node.primary a (more i f))
    v_prim : {begin : Bool} {t : Tree} → Valid prim t → Valid (tight begin) t
    v_unpack : {begin : Bool} {t : Tree} → Valid prim t → Valid (tight begin) (Node.unpack t)
    v_ellipsis : {begin : Bool} → Valid (tight begin) (Node.unpack Node.absent)
    v_table : {begin : Bool} {f : Forest} → Valids table_item f → Valid (tight begin) (Node.table f)
    v_function : {begin : Bool} {t : Tree} → Valid (function 0) t → Valid (tight begin) t
    v_target : {begin : Bool} {p d : Tree} → Target p → Valid (function (target_name p)) d → Valid (tight begin) (Node.assignment 2 0 p d)
    v_if : {begin : Bool} {b e : Tree} {f : Forest} → Valid branch b → Valids branch f → Valid else_clause e → Valid (tight begin) (Node.if_expr (more b f) e)
    v_block : {begin : Bool} {b : Tree} → Valid block b → Valid (tight begin) (Node.block 0 b)
    v_labelled : {n : ℕ} {b : Tree} → IsName n → Valid block b → Valid (tight true) (Node.block (suc n) b)
    v_tight : {begin : Bool} {t : Tree} → Valid (tight begin) t → Valid (unary begin) t
    v_unary_op : {begin : Bool} {t : Tree} (k : ℕ) → eqb (unary_code k) 0 ≡ false → Valid (unary true) t → Valid (unary begin) (Node.unary_op (pred (unary_code k)) t)
    v_unary : {begin : Bool} {t : Tree} → Valid (unary begin) t → Valid (binop begin zero) t
    v_up : {begin : Bool} {l : ℕ} {t : Tree} → Valid (binop begin l) t → Valid (binop begin (suc l)) t
    v_binary_op : {begin : Bool} {l : ℕ} {a b : Tree} (k : ℕ) → op_level k ≡ suc l → Valid (binop begin (suc l)) a → Valid (binop true l) b → Valid (binop begin (suc l)) (Node.binary_op (op_number k) a b)
    v_assign : {p : Place} {close : Bool} {a : ℕ} {lhs rhs : Tree} (k : ℕ) → eqb (assign_code k) 0 ≡ false → Pattern lhs → Valid (ex true close) rhs
        → (fun_gives p (a + 4 * pred (assign_code k)) && has_function (two lhs rhs)) ≡ false → Valid (assign p close a) (Node.assignment a (pred (assign_code k)) lhs rhs)
    v_inner : {begin close : Bool} {t : Tree} → Valid (binop begin level_count) t → Valid (plain begin close) t
    v_single : {begin : Bool} {t : Tree} → Valid (binop begin level_count) t → Valid (plain begin true) (Node.tuple (one t))
    v_tuple : {begin close : Bool} {t u : Tree} {f : Forest} → Valid (binop begin level_count) t → Valid (binop true level_count) u → Valids (binop true level_count) f → Valid (plain begin close) (Node.tuple (more t (more u f)))
    v_local : {begin close : Bool} {t : Tree} → Valid (assign own close 0) t → Valid (plain begin close) t
    v_plain : {begin close : Bool} {t : Tree} → Valid (plain begin close) t → Valid (ex begin close) t
    v_keyword : {begin close : Bool} {a : ℕ} {t : Tree} → a < 3 → Valid (assign own close (suc a)) t → Valid (ex begin close) t
    v_given : {a : ℕ} {t : Tree} → eqb (kind_of t) NodeKind.Assignment ≡ false → Valid (plain true true) t → Valid (given a) t
    v_given_assign : {a : ℕ} {t : Tree} → Valid (assign modified true a) t → Valid (given a) t
    v_given_target : {a : ℕ} {p d : Tree} → Target p → Valid (function (target_name p)) d → Valid (given a) (Node.assignment a 0 p d)
    v_function_def : {n : ℕ} {f : Forest} {b : Tree} → Valids param f → Valid block b → Valid (function n) (Node.function_def (Node.signature_def n f none Node.absent) b)
    v_function_default : {n v : ℕ} {f : Forest} {e b : Tree} → Valids param f → IsNamed v → Valid (ex true true) e → Valid block b → Valid (function n) (Node.function_def (Node.signature_def n f (one (Node.default_def v e)) Node.absent) b)
    v_function_variadic : {n v : ℕ} {f : Forest} {b : Tree} → Valids param f → IsNamed v → Valid block b → Valid (function n) (Node.function_def (Node.signature_def n f none (Node.param_def v)) b)
    v_attribute : {calls : Bool} {n : ℕ} → IsName n → Valid (item calls) (Node.attribute n)
    v_index : {calls : Bool} {e : Tree} → Valid (ex true false) e → Valid (item calls) (Node.index e)
    v_invoke : {f : Forest} → Arguments f → Valid (item true) (Node.invoke f)
    v_invoke_table : {f : Forest} → Valids table_item f → Valid (item true) (Node.invoke_table f)
    v_field : {v : ℕ} → IsNamed v → Valid field (Node.field_attribute v)
    v_field_index : {e : Tree} → Valid (ex true false) e → Valid field (Node.field_index e)
    v_table_item : {i e : Tree} → Valid field i → Valid (binop true level_count) e → Valid table_item (Node.table_item i e)
    v_param : {v : ℕ} → IsNamed v → Valid param (Node.param_def v)
    v_branch : {c b : Tree} → Valid (ex true false) c → Valid block b → Valid branch (Node.conditional_branch c b)
    v_no_else : Valid else_clause Node.absent
    v_else : {b : Tree} → Valid block b → Valid else_clause b
    v_continue : {l : ℕ} → IsLabel l → Valid jump (Node.continue l)
    v_break : {l : ℕ} → IsLabel l → Valid jump (Node.break l Node.absent)
    v_break_value : {e : Tree} → Valid (ex false false) e → Valid jump (Node.break 0 e)
    v_break_label : {n : ℕ} {e : Tree} → IsName n → Valid (ex true false) e → Valid jump (Node.break (suc n) e)
    v_return : Valid jump (Node.return Node.absent)
    v_return_value : {e : Tree} → Valid (ex true false) e → Valid jump (Node.return e)
    v_no_control : Valid control Node.absent
    v_control : {c : Tree} → Valid jump c → Valid control c
    v_body : {f : Forest} {c : Tree} → Valids stmt f → Valid control c → Valid body (Node.stmt_list f c)
    v_block_plain : {f : Forest} → Valids stmt f → split f ≡ whole f → Valid block (Node.expr_block (Node.stmt_list f Node.absent) Node.absent)
    v_block_control : {f : Forest} {c : Tree} → Valids stmt f → Valid jump c → Valid block (Node.expr_block (Node.stmt_list f c) Node.absent)
    v_block_result : {f : Forest} {e : Tree} → Valids stmt f → Valid stmt (Node.expression e) → Valid block (Node.expr_block (Node.stmt_list f Node.absent) e)
    v_expression : {e : Tree} → Valid (ex false false) e → lone_ellipsis e ≡ false → Valid stmt (Node.expression e)
    v_loop : {l : ℕ} {b : Tree} → IsLabel l → Valid body b → Valid stmt (Node.loop l b)
    v_while : {l : ℕ} {c b : Tree} → IsLabel l → Valid (ex true false) c → Valid body b → Valid stmt (Node.while_loop l c b)
    v_for : {l : ℕ} {p e b : Tree} → IsLabel l → Pattern p → Valid (ex true false) e → Valid body b → Valid stmt (Node.for_loop l p e b)
    v_assert : {e : Tree} → Valid (ex true false) e → Valid stmt (Node.assert e)

  -- each tree of a forest in one role
  pub data Valids : Role → Forest → Type 0 where
    v_none : {o : Role} → Valids o none
    v_more : {o : Role} {t : Tree} {f : Forest} → Valid o t → Valids o f → Valids o (more t f)

  -- the arguments of an invocation: a tuple's members, or one expression that is no tuple
  pub data Arguments : Forest → Type 0 where
    no_argument : Arguments none
    one_argument : {t : Tree} → Valid (ex true true) t → eqb (kind_of t) NodeKind.Tuple ≡ false → Arguments (one t)
    arguments : {t u : Tree} {f : Forest} → Valid (binop true level_count) t → Valid (binop true level_count) u → Valids (binop true level_count) f → Arguments (more t (more u f))

  -- patterns
  pub data Pattern : Tree → Type 0 where
    p_identifier : {n : ℕ} → IsName n → Pattern (Node.identifier_pattern n)
    p_attribute : {a : Tree} {f : Forest} {n : ℕ} → Valid atom a → Valids (item true) f → IsName n → Pattern (Node.attribute_pattern (Node.primary a f) n)
    p_index : {a e : Tree} {f : Forest} → Valid atom a → Valids (item true) f → Valid (ex true false) e → Pattern (Node.index_pattern (Node.primary a f) e)
    p_tuple : {p : Tree} {f : Forest} → Pattern p → Patterns f → Pattern (Node.tuple_pattern (more p f))
    p_pack : {p : Tree} → Pattern p → Pattern (Node.pack p)
    p_ellipsis : Pattern (Node.pack Node.absent)
    p_modifier : {a : ℕ} {p : Tree} → a < 4 → Pattern p → Pattern (Node.modifier a p)

  pub data Patterns : Forest → Type 0 where
    p_none : Patterns none
    p_more : {p : Tree} {f : Forest} → Pattern p → Patterns f → Patterns (more p f)

  -- what `fun` can have for a target
  pub data Target : Tree → Type 0 where
    t_name : {n : ℕ} → IsName n → Target (Node.identifier_pattern n)
    t_attribute : {a : Tree} {f : Forest} {n : ℕ} → target_atom (kind_of a) ≡ true → Valid atom a → Valids (item false) f → IsName n → Target (Node.attribute_pattern (Node.primary a f) n)
    t_index : {a e : Tree} {f : Forest} → target_atom (kind_of a) ≡ true → Valid atom a → Valids (item false) f → Valid (ex true false) e → Target (Node.index_pattern (Node.primary a f) e)
