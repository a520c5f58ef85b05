-- What falls at each call of the cycle, and what its loops keep. What falls is `span` times the depth that is left, and a rank. `binop` has a
-- rank for each operator level, and the members that lead to it stand above the last of them. Assumes nothing.
use Prim.Native.Nat.{ℕ, suc, ◌+◌, ◌*◌, ◌-◌, ◌≤◌}
use Rattle.cycle.proofs.Climb.{climb}
use Rattle.cycle.proofs.PathsCond.{Going}
use Rattle.cycle.specs.Parts.{tail}
use Rattle.grammar.specs.Reading.Depth.{at_depth}
use Rattle.grammar.specs.Reading.Function.{params, function_param_list}
use Rattle.grammar.specs.Reading.Primary.{path as path_def, table_items, table_literal}
use Rattle.grammar.specs.Reading.Stmt.{stmts, synchronize}
use Rattle.nodes.specs.Lists.{Ends}
use Rattle.nodes.specs.Parameters.{NamedBelow, params_words, Fitting}
use Rattle.operator.specs.Operator.{level_count}
use Rattle.scan.specs.Post.{As, Moved, Wrote}
use Rattle.scan.specs.Parts.{until}
use Rattle.scan.specs.declared.Cursor.{Cursor}
use Rattle.scan.specs.declared.Suite.{Suite}
use Rattle.nodes.specs.declared.Counts.{Counts}
use Rattle.tree.specs.Tree.{Tree, records, count, all_records, none}
use lib.ListN.{length, drop, take}
use mathlib.Core.Bool.{Bool}
use mathlib.Core.List.{List, ◌++◌}
use mathlib.Core.Path.{◌≡◌}
use Rattle.cycle.proofs.+reading.Given as goal

-- more than every rank
abbrev span : ℕ
span = level_count + 14

abbrev pub decreases-arm : goal.decreases-arm
decreases-arm l = span * l.depth + (level_count + 5)

abbrev pub decreases-atom : goal.decreases-atom
decreases-atom l = span * l.depth + (level_count + 6)

abbrev pub decreases-begin : goal.decreases-begin
decreases-begin l = span * l.depth + 3

abbrev pub decreases-binop : goal.decreases-binop
decreases-binop l = span * l.depth + 1 + l.level

abbrev pub decreases-block : goal.decreases-block
decreases-block l = span * l.depth + 2

abbrev pub decreases-body : goal.decreases-body
decreases-body l = span * l.depth + 1

abbrev pub decreases-call : goal.decreases-call
decreases-call l = span * l.depth + (level_count + 5)

abbrev pub decreases-catch : goal.decreases-catch
decreases-catch l = span * l.depth + (level_count + 6)

abbrev pub decreases-cond : goal.decreases-cond
decreases-cond l = span * l.depth + (level_count + 6)

abbrev pub decreases-def : goal.decreases-def
decreases-def l = span * l.depth + (level_count + 7)

abbrev pub decreases-dest : goal.decreases-dest
decreases-dest l = span * l.depth + (level_count + 11)

abbrev pub decreases-dots : goal.decreases-dots
decreases-dots l = span * l.depth + (level_count + 12)

abbrev pub decreases-each : goal.decreases-each
decreases-each l = span * l.depth + (level_count + 6)

abbrev pub decreases-expr : goal.decreases-expr
decreases-expr l = span * l.depth + (level_count + 4)

abbrev pub decreases-fun : goal.decreases-fun
decreases-fun l = span * l.depth + (level_count + 12)

abbrev pub decreases-group : goal.decreases-group
decreases-group l = span * l.depth + (level_count + 5)

abbrev pub decreases-index : goal.decreases-index
decreases-index l = span * l.depth + (level_count + 5)

abbrev pub decreases-item : goal.decreases-item
decreases-item l = span * l.depth + (level_count + 7)

abbrev pub decreases-jump : goal.decreases-jump
decreases-jump l = span * l.depth + (level_count + 6)

abbrev pub decreases-key : goal.decreases-key
decreases-key l = span * l.depth + (level_count + 6)

abbrev pub decreases-label : goal.decreases-label
decreases-label l = span * l.depth + (level_count + 7)

abbrev pub decreases-lhs : goal.decreases-lhs
decreases-lhs l = span * l.depth + (level_count + 5)

abbrev pub decreases-list : goal.decreases-list
decreases-list l = span * l.depth

abbrev pub decreases-loops : goal.decreases-loops
decreases-loops l = span * l.depth + 2

abbrev pub decreases-param : goal.decreases-param
decreases-param l = span * l.depth + (level_count + 5)

abbrev pub decreases-part : goal.decreases-part
decreases-part l = span * l.depth + (level_count + 9)

abbrev pub decreases-path : goal.decreases-path
decreases-path l = span * l.depth + (level_count + 10)

abbrev pub decreases-prim : goal.decreases-prim
decreases-prim l = span * l.depth + (level_count + 11)

abbrev pub decreases-rhs : goal.decreases-rhs
decreases-rhs l = span * l.depth

abbrev pub decreases-sig : goal.decreases-sig
decreases-sig l = span * l.depth + (level_count + 6)

abbrev pub decreases-stmt : goal.decreases-stmt
decreases-stmt l = span * l.depth + (level_count + 8)

abbrev pub decreases-sync : goal.decreases-sync
decreases-sync l = span * l.depth + (level_count + 5)

abbrev pub decreases-table : goal.decreases-table
decreases-table l = span * l.depth + (level_count + 8)

abbrev pub decreases-tail : goal.decreases-tail
decreases-tail l = span * l.depth + (level_count + 2)

abbrev pub decreases-term : goal.decreases-term
decreases-term l = span * l.depth + (level_count + 13)

abbrev pub decreases-tuple : goal.decreases-tuple
decreases-tuple l = span * l.depth + (level_count + 3)

abbrev pub decreases-turn : goal.decreases-turn
decreases-turn l = span * l.depth + (level_count + 9)

abbrev pub decreases-unop : goal.decreases-unop
decreases-unop l = span * l.depth

abbrev pub decreases-val : goal.decreases-val
decreases-val l = span * l.depth + (level_count + 5)

abbrev pub decreases-whiles : goal.decreases-whiles
decreases-whiles l = span * l.depth + (level_count + 5)

-- where the loop stands. What the first call read is only known by its text, so this is said for any tree t₀ with that text
pub record GoingBinop (T S₀ Q₀ : List ℕ) (depth l pos at : ℕ) (first : Cursor) (S Q : List ℕ) (left : Cursor) : Type 0 where
  pub fuel : ℕ
  pub enough : length T ≤ left.pos + fuel
  pub run : (t₀ : Tree) → take first.at S₀ ≡ take at S₀ ++ records t₀ → Wrote records (climb (at_depth depth) l (length (drop first.pos T)) t₀ Q₀ (drop first.pos T)) (climb (at_depth depth) l fuel) T pos (pos + 2) 20 at S₀ Q₀ left.pos left.at S Q
  pub kept : length S ≡ length S₀

abbrev pub invariant-binop-loop-token : goal.invariant-binop-loop-token
invariant-binop-loop-token l = GoingBinop l.tokens l.initial.store l.initial.queue l.depth l.level l.fn.cursor.pos l.fn.cursor.at l.initial.left l.store l.queue l.left

abbrev pub decreases-binop-loop-token : goal.decreases-binop-loop-token
decreases-binop-loop-token l = length l.tokens - l.left.pos

abbrev pub invariant-cond-loop-branch : goal.invariant-cond-loop-branch
invariant-cond-loop-branch l = Going l.tokens l.initial.store l.initial.queue l.depth l.fn.cursor.pos l.fn.cursor.at l.store l.queue l.end.pos l.end.at l.n

abbrev pub decreases-cond-loop-branch : goal.decreases-cond-loop-branch
decreases-cond-loop-branch l = length l.tokens - l.end.pos

-- where the loop stands: the whole is what `stmts` makes of the n statements that are written so far
pub record GoingList (T S₀ Q₀ : List ℕ) (depth end pos at : ℕ) (S Q : List ℕ) (suite : Suite) : Type 0 where
  pub fuel : ℕ
  pub enough : length T ≤ suite.end.pos + fuel
  pub run : Wrote all_records ((at_depth depth).list end Q₀ (drop pos T)) (stmts (at_depth (depth - 1)) end fuel) T pos pos 8 at S₀ Q₀ suite.end.pos suite.end.at S Q
  pub many : count run.what ≡ suite.count
  pub short : 2 * suite.count ≤ suite.end.pos
  pub ending : Ends run.what at suite.last
  pub kept : length S ≡ length S₀

abbrev pub invariant-list-loop-token : goal.invariant-list-loop-token
invariant-list-loop-token l = GoingList l.tokens l.initial.store l.initial.queue l.depth (until l.end) l.fn.cursor.pos l.fn.cursor.at l.store l.queue l.suite

abbrev pub decreases-list-loop-token : goal.decreases-list-loop-token
decreases-list-loop-token l = length l.tokens - l.suite.end.pos

-- where the loop stands: the whole is what `path` makes of the n items that are written so far; the token before each of these has left 14 words
pub record GoingPath (T S₀ Q₀ : List ℕ) (depth : ℕ) (calls : Bool) (pos at : ℕ) (S Q : List ℕ) (p a n : ℕ) : Type 0 where
  pub fuel : ℕ
  pub enough : length T ≤ p + fuel
  pub run : Wrote all_records (path_def (at_depth depth) calls (length (drop pos T)) none Q₀ (drop pos T)) (path_def (at_depth depth) calls fuel) T pos pos 8 at S₀ Q₀ p a S Q
  pub many : count run.what ≡ n
  pub short : 2 * n ≤ p
  pub spare : a + 8 * pos + 14 * n ≤ at + 8 * p
  pub kept : length S ≡ length S₀

abbrev pub invariant-path-loop-token : goal.invariant-path-loop-token
invariant-path-loop-token l = GoingPath l.tokens l.initial.store l.initial.queue l.depth l.calls l.fn.cursor.pos l.fn.cursor.at l.store l.queue l.end.pos l.end.at l.n

abbrev pub decreases-path-loop-token : goal.decreases-path-loop-token
decreases-path-loop-token l = length l.tokens - l.end.pos

-- where the loop stands
pub record GoingSig (T S₀ Q₀ : List ℕ) (depth pos at : ℕ) (S Q : List ℕ) (p a : ℕ) (c : Counts) : Type 0 where
  pub fuel : ℕ
  pub enough : length T ≤ p + fuel
  pub run : Wrote params_words (function_param_list (at_depth depth) Q₀ (drop pos T)) (params (at_depth depth) fuel) T pos pos 8 at S₀ Q₀ p a S Q
  pub fits : Fitting run.what c
  pub few : 2 * (c.required + c.default) ≤ p
  pub below : NamedBelow c.variadic
  pub kept : length S ≡ length S₀

abbrev pub invariant-sig-loop-token : goal.invariant-sig-loop-token
invariant-sig-loop-token l = GoingSig l.tokens l.initial.store l.initial.queue l.depth l.fn.cursor.pos l.fn.cursor.at l.store l.queue l.end.pos l.end.at l.counts

abbrev pub decreases-sig-loop-token : goal.decreases-sig-loop-token
decreases-sig-loop-token l = length l.tokens - l.end.pos

-- where the loop stands: the whole is what resynchronizing from here makes
pub record GoingSync (T S₀ Q₀ : List ℕ) (depth pos at : ℕ) (inside : Bool) (S Q : List ℕ) (p : ℕ) : Type 0 where
  pub fuel : ℕ
  pub enough : length T ≤ p + fuel
  pub same : As Q₀ (synchronize (at_depth depth) inside (length (drop pos T)) Q₀ (drop pos T)) Q (synchronize (at_depth depth) inside fuel Q (drop p T))
  pub moved : Moved (length T) pos p Q₀ Q
  pub text : take at S ≡ take at S₀
  pub kept : length S ≡ length S₀

abbrev pub invariant-sync-loop-token : goal.invariant-sync-loop-token
invariant-sync-loop-token l = GoingSync l.tokens l.initial.store l.initial.queue l.depth l.fn.cursor.pos l.fn.cursor.at l.inside l.store l.queue l.pos

abbrev pub decreases-sync-loop-token : goal.decreases-sync-loop-token
decreases-sync-loop-token l = length l.tokens - l.pos

-- where the loop stands: the whole is what `table_items` makes of the n items that are written so far
pub record GoingTable (T S₀ Q₀ : List ℕ) (depth pos at : ℕ) (S Q : List ℕ) (p a n : ℕ) : Type 0 where
  pub fuel : ℕ
  pub enough : length T ≤ p + fuel
  pub run : Wrote all_records (table_literal (at_depth depth) Q₀ (drop pos T)) (table_items (at_depth depth) fuel) T pos pos 8 at S₀ Q₀ p a S Q
  pub many : count run.what ≡ n
  pub short : 2 * n ≤ p
  pub kept : length S ≡ length S₀

abbrev pub invariant-table-loop-token : goal.invariant-table-loop-token
invariant-table-loop-token l = GoingTable l.tokens l.initial.store l.initial.queue l.depth l.fn.cursor.pos l.fn.cursor.at l.store l.queue l.end.pos l.end.at l.n

abbrev pub decreases-table-loop-token : goal.decreases-table-loop-token
decreases-table-loop-token l = length l.tokens - l.end.pos

-- where the loop stands
pub record GoingTail (T S₀ Q₀ : List ℕ) (depth pos at : ℕ) (S Q : List ℕ) (p a n : ℕ) : Type 0 where
  pub fuel : ℕ
  pub enough : length T ≤ p + fuel
  pub run : Wrote all_records (tail (at_depth depth) (length (drop pos T)) none Q₀ (drop pos T)) (tail (at_depth depth) fuel) T pos pos 8 at S₀ Q₀ p a S Q
  pub many : suc (count run.what) ≡ n
  pub few : 2 * n ≤ p + 2
  pub kept : length S ≡ length S₀

abbrev pub invariant-tail-loop-token : goal.invariant-tail-loop-token
invariant-tail-loop-token l = GoingTail l.tokens l.initial.store l.initial.queue l.depth l.fn.cursor.pos l.fn.cursor.at l.store l.queue l.end.pos l.end.at l.n

abbrev pub decreases-tail-loop-token : goal.decreases-tail-loop-token
decreases-tail-loop-token l = length l.tokens - l.end.pos
