-- `writer::form::Head::opening` meets its contract: one token after another. Assumes nothing.
use Rattle.writer.proofs.Texts.{opened_puts}
use Rattle.writer.proofs.form.Head.opening.Goals as goal

pub returns : goal.returns
returns c = let second = c.second_token-second.ensures in
    let first = c.first_token-first.ensures in
    opened_puts (c.carried.ensures _ second) (c.carried-2.ensures _ first) (c.put-b.ensures _ c.third_token.ensures) (c.put-c.ensures _ second) (c.put.ensures _ first)
