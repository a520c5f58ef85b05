-- `nodes::records::expect_pattern` meets its contract: what the first step answers is what the second asks for. Assumes nothing.
use mathlib.Core.Path.{◌≡◌, sym, ap, ◌∙◌}
use mathlib.Core.Bool.{true, false}
use mathlib.Core.List.{List}
use Prim.Native.Nat.{ℕ}
use native.Mathlib.Omega.{arith}
use lib.ListN.{drop}
use Rattle.std.specs.Prelude.{Option}
use Rattle.tree.specs.Tree.{Tree}
use Rattle.grammar.specs.Reading.Pattern.{to_pattern, can_be_pattern}
use Rattle.grammar.specs.Reading.Result.{Error}
use Rattle.grammar.specs.Reading.Look.{expect_pattern}
use Rattle.nodes.proofs.Ends.{wrote, refused}
use Rattle.pattern.proofs.Decided.{can, cannot}
use Rattle.nodes.proofs.records.expect_pattern.Goals as goal

-- the reading that the definition goes on with
same : {m : Option Tree} (e : ℕ) (t : Tree) → to_pattern t ≡ m → (q : List Error) (x : List ℕ) → expect_pattern e (to_pattern t) q x ≡ expect_pattern e m q x
same e t k q x = ap (λ (m : Option Tree). expect_pattern e m q x) k

pub returns-then-not-can_be_pattern : goal.returns-then-not-can_be_pattern
unfolding expect_pattern
returns-then-not-can_be_pattern c =
    λ t T g h.
    let no : can_be_pattern t ≡ false = sym (c.can_be_pattern.ensures t g) ∙ c.if-not-can_be_pattern.true in
    refused (λ q. same c.args.e t (cannot (to_pattern t) no) q (drop c.args.cursor.pos T)) h

pub returns : goal.returns
unfolding expect_pattern
returns c =
    λ t T g h.
    let is : can_be_pattern t ≡ true = sym (c.can_be_pattern.ensures t g) ∙ c.if-not-can_be_pattern.false in
    let p = can (to_pattern t) is in
    let s = c.move_to_pattern.ensures t p.what (record { whole = g; same = p.same }) in
    wrote p.what (λ q. same c.args.e t p.same q (drop c.args.cursor.pos T)) h (omega (arith, s.short)) s.text
