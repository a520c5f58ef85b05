-- `token::look` meets its contract: too few words by their count, else the words at the place, by the tests on the way. Assumes nothing.
use mathlib.Core.Path.{sym, ◌∙◌}
use borrow.Author.Tests.{eq-eqb, ne_eqb, le-leb, lt-leb}
use native.Mathlib.Omega.{arith}
use Prim.Native.Nat.{◌/◌, ◌≤◌, ◌<◌}
use lib.ListN.{get_or, length-drop}
use Rattle.token.proofs.Words.{seen_short, seen_here}
use Rattle.token.proofs.look.Goals as goal

pub returns-then-tokens-lt2 : goal.returns-then-tokens-lt2
returns-then-tokens-lt2 c = seen_short _ (rw length-drop (omega arith))

pub returns-then-tokens-at : goal.returns-then-tokens-at
returns-then-tokens-at c = seen_short _ (rw length-drop (omega arith))

pub returns-then-kind-gt-LEXER_ERROR : goal.returns-then-kind-gt-LEXER_ERROR
returns-then-kind-gt-LEXER_ERROR c =
    let a = c.args in
    seen_here a.tokens.now a.at (omega arith)
    (simp (lt-leb _ _ c.if-kind-gt-LEXER_ERROR.true))

pub returns-then-newline-gt1 : goal.returns-then-newline-gt1
returns-then-newline-gt1 c =
    let a = c.args in
    let newline : 1 < get_or a.tokens.now a.at 0 / 256 = omega arith in
    seen_here a.tokens.now a.at (omega arith)
    (simp (le-leb _ _ c.if-kind-gt-LEXER_ERROR.false, lt-leb _ _ newline))

pub returns-then-not-value_fits : goal.returns-then-not-value_fits
returns-then-not-value_fits c =
    let a = c.args in
    let newline : get_or a.tokens.now a.at 0 / 256 ≤ 1 = omega arith in
    seen_here a.tokens.now a.at (omega arith)
    (simp (le-leb _ _ c.if-kind-gt-LEXER_ERROR.false, le-leb _ _ newline, sym c.value_fits.ensures ∙ c.if-not-value_fits.true))

pub returns-then-kind-eq-LEXER_ERROR : goal.returns-then-kind-eq-LEXER_ERROR
returns-then-kind-eq-LEXER_ERROR c =
    let a = c.args in
    let newline : get_or a.tokens.now a.at 0 / 256 ≤ 1 = omega arith in
    seen_here a.tokens.now a.at (omega arith)
    (simp (le-leb _ _ c.if-kind-gt-LEXER_ERROR.false, le-leb _ _ newline, sym c.value_fits.ensures ∙ c.if-not-value_fits.false, eq-eqb _ _ c.if-kind-eq-LEXER_ERROR.true))

pub returns : goal.returns
returns c =
    let a = c.args in
    let newline : get_or a.tokens.now a.at 0 / 256 ≤ 1 = omega arith in
    seen_here a.tokens.now a.at (omega arith)
    (simp (le-leb _ _ c.if-kind-gt-LEXER_ERROR.false, le-leb _ _ newline, sym c.value_fits.ensures ∙ c.if-not-value_fits.false, ne_eqb _ _ c.if-kind-eq-LEXER_ERROR.false))
