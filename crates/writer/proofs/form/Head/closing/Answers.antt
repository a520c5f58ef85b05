-- `writer::form::Head::closing` meets its contract: one token after another. Assumes nothing.
use Rattle.writer.proofs.Texts.{closed_puts}
use Rattle.writer.proofs.form.Head.closing.Goals as goal

pub returns : goal.returns
returns c = let last = c.last_token-last.ensures in
    closed_puts (c.carried.ensures _ last) (c.put-b.ensures _ last) (c.put.ensures _ c.behind_token.ensures)
