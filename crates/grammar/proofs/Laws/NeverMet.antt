-- Why two errors are never met. 24, `...` nested: `parse_primary` gives no `...`. 28, the parameters' closing: the list of parameters ends before `)` only. Assumes nothing.
use Rattle.std.specs.Prelude.{◌≡◌, refl, true, false, List, ℕ, zero, suc, eqb}
use Rattle.token.specs.Kind
use Rattle.token.specs.declared.Token.{Token}
use Rattle.tree.specs.NodeKind
use Rattle.tree.specs.Tree.{Tree, Forest, none, more, kind_of}
use Rattle.grammar.specs.Reading.Result.{Error}
use Rattle.grammar.specs.Reading.Expr.{Depth}
use Rattle.grammar.specs.Reading.Primary.{group_expr, literal, atom, with_path, primary}
use Rattle.grammar.specs.Reading.Function.{Params, params}
use Rattle.grammar.proofs.Laws.Keep.{successes, Success, Holds, k_ok, k_failed, k_on, k_tested}
use Rattle.grammar.proofs.Laws.Seen.{kind_at, look_seen, is_at}

-- 24
abbrev pub NoUnpack : Tree → Type 0
NoUnpack t = eqb (kind_of t) NodeKind.Unpack ≡ false

literal_no_unpack : (tok : Token) (q : List Error) (rest : List ℕ) → Holds NoUnpack (literal tok q rest)
unfolding literal
literal_no_unpack tok q rest = search successes depth 15

group_no_unpack : (low : Depth) (q : List Error) (ts : List ℕ) → Holds NoUnpack (group_expr low q ts)
unfolding group_expr
group_no_unpack low q ts = search successes depth 15

atom_no_unpack : (low : Depth) (q : List Error) (ts : List ℕ) → Holds NoUnpack (atom low q ts)
unfolding atom
atom_no_unpack low q ts = search (successes, group_no_unpack, literal_no_unpack)

path_no_unpack : (a : Tree) (f : Forest) → NoUnpack a → NoUnpack (with_path a f)
path_no_unpack a none h = h
path_no_unpack a (more i f) h = refl

pub primary_no_unpack : (low : Depth) (q : List Error) (ts : List ℕ) → Holds NoUnpack (primary low q ts)
unfolding primary
primary_no_unpack low q ts = k_on q (atom_no_unpack low q ts) λ a q₁ r h. search (successes, path_no_unpack)

-- 28
pub params_close : (low : Depth) (n : ℕ) (ps : Params) (q : List Error) (ts : List ℕ) → Success (λ ps r. eqb (kind_at r) Kind.CloseParen ≡ true) (params low n ps q ts)
unfolding params
params_close low zero ps q ts = k_failed
params_close low (suc n) ps q ts =
    k_on q (look_seen q ts) λ tok q₁ rest s. k_tested _ (λ _ e. k_ok (is_at s Kind.CloseParen e)) (λ _ e. search (successes, params_close low n) depth 9)
