-- `parser::next_stmt` meets its contract. Assumes nothing.
use mathlib.Core.Path.{refl, sym, ◌∙◌}
use borrow.Author.Tests.{not-true, not-false}
use lib.ListN.{length}
use Rattle.parser.proofs.Answers.{bare_out, a_reader, no_sheet, front_out, unread_out, step_malformed, step_refused, step_stopped, step_waiting, step_short, step_reads}
use Rattle.parser.proofs.next_stmt.Goals as goal

pub returns-then-not-is_sheet : goal.returns-then-not-is_sheet
returns-then-not-is_sheet c = bare_out c.args.store.now _ _ c.clear.ensures refl c.stop_at.ensures (step_malformed c.args.reader c.args.tokens.now (length c.args.store.now) (not-false (no_sheet c.args.reader c.args.tokens.now (length c.args.store.now)) (sym c.is_sheet.ensures ∙ c.if-not-is_sheet.true)))

pub returns-then-not-is_reader : goal.returns-then-not-is_reader
returns-then-not-is_reader c = let sh = not-true (no_sheet c.args.reader c.args.tokens.now (length c.args.store.now)) (sym c.is_sheet.ensures ∙ c.if-not-is_sheet.false) in
    bare_out c.args.store.now _ _ c.clear-then-not-is_reader.ensures refl refl (step_refused c.args.reader c.args.tokens.now (length c.args.store.now) sh (sym c.is_reader.ensures ∙ c.if-not-is_reader.true))

pub returns-then-reader-gt0 : goal.returns-then-reader-gt0
returns-then-reader-gt0 c = let sh = not-true (no_sheet c.args.reader c.args.tokens.now (length c.args.store.now)) (sym c.is_sheet.ensures ∙ c.if-not-is_sheet.false) in
    let rd = sym c.is_reader.ensures ∙ c.if-not-is_reader.false in
    bare_out c.args.store.now _ _ c.clear-then-reader-gt0.ensures refl refl (step_stopped c.args.reader c.args.tokens.now (length c.args.store.now) sh rd c.if-reader-gt0.true)

pub returns-then-reader-gt0-2 : goal.returns-then-reader-gt0-2
returns-then-reader-gt0-2 c = let sh = not-true (no_sheet c.args.reader c.args.tokens.now (length c.args.store.now)) (sym c.is_sheet.ensures ∙ c.if-not-is_sheet.false) in
    let rd = sym c.is_reader.ensures ∙ c.if-not-is_reader.false in
    front_out c.args.reader c.args.store.now _ _ c.clear-then-reader-gt0-2.ensures refl (step_waiting c.args.reader c.args.tokens.now (length c.args.store.now) sh rd c.if-reader-gt0.false c.if-reader-gt0-2.true) (sym c.of-queue.ensures ∙ c.pop.ensures) c.from-error.ensures c.go_on.ensures

pub returns-then-store-count : goal.returns-then-store-count
returns-then-store-count c = let sh = not-true (no_sheet c.args.reader c.args.tokens.now (length c.args.store.now)) (sym c.is_sheet.ensures ∙ c.if-not-is_sheet.false) in
    let rd = sym c.is_reader.ensures ∙ c.if-not-is_reader.false in
    bare_out c.args.store.now _ _ c.clear-then-store-count.ensures refl refl (step_short c.args.reader c.args.tokens.now (length c.args.store.now) sh rd c.if-reader-gt0.false c.if-reader-gt0-2.false c.if-store-count.true)

pub returns : goal.returns
returns c = let sh = not-true (no_sheet c.args.reader c.args.tokens.now (length c.args.store.now)) (sym c.is_sheet.ensures ∙ c.if-not-is_sheet.false) in
    let rd = sym c.is_reader.ensures ∙ c.if-not-is_reader.false in
    let fit = a_reader c.args.reader c.args.tokens.now (length c.args.store.now) sh rd in
    unread_out c.args.tokens.now c.args.reader.position (length c.args.store.now) fit.within c.read_on.ensures (step_reads c.args.reader c.args.tokens.now (length c.args.store.now) sh rd c.if-reader-gt0.false c.if-reader-gt0-2.false c.if-store-count.false)
