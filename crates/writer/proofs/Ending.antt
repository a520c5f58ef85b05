-- What is answered and left of a tree, from its semicolon on. Assumes nothing.
use mathlib.Core.Path.{◌≡◌, ◌∙◌}
use mathlib.Core.Bool.{true, false}
use mathlib.Core.List.{List, [], ◌∷◌}
use Prim.Native.Nat.{ℕ, ◌+◌}
use lib.ListN.{length}
use Rattle.token.specs.Kind
use Rattle.tree.specs.Tree.{Tree}
use Rattle.grammar.specs.Reading.Limit.{depth_limit, too_deep}
use Rattle.grammar.specs.Reading.Result.{ifb}
use Rattle.grammar.specs.Canonical.Writing.{bare}
use Rattle.grammar.specs.declared.Written.{Written}
use Rattle.grammar.specs.declared.Written.TheVariants.{Stopped}
use Rattle.tables.specs.Form.{Own}
use Rattle.tables.specs.Layout.{text, within, emit}
use Rattle.output.specs.Text.{Fronted, Holds}
use Rattle.tables.specs.Answer.{run_out}
use Rattle.writer.specs.Text.{Put}
use Rattle.writer.proofs.Texts.{holds_all}

pub semicolon : {b : ℕ} {O O' : List ℕ} → Put Kind.Semicolon 0 (length O + 2) b O O' → Holds b O' (Kind.Semicolon ∷ 0 ∷ [])
unfolding emit
semicolon {O = O} u = u.how [] (holds_all O)

pub run_deep : (t : Tree) (m : ℕ) → within t Own depth_limit ≡ false → run_out t m ≡ bare m (Stopped too_deep)
unfolding run_out ifb
run_deep t m e = rw e

pub run_done : {b : ℕ} {O O' : List ℕ} {r : Written} (t : Tree) (m : ℕ) → within t Own depth_limit ≡ true → Fronted b O O' r → Holds b O (text t Own (Kind.Semicolon ∷ 0 ∷ [])) → length O ≡ m → record { answer = r; output = O' } ≡ run_out t m
unfolding run_out ifb
run_done t m e f h l = f.how _ h ∙ rw (e, l)
