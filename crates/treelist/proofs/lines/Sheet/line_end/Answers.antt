-- `Sheet::line_end`: a whole line is one token more. Assumes nothing.
use Rattle.std.proofs.Common.{rules}
use Rattle.std.specs.Result.{IsOk}
use Rattle.treelist.proofs.Scans.{added}
use Rattle.treelist.proofs.lines.Sheet.line_end.Goals as goal

pub returns : goal.returns
returns c =
    let pushed : IsOk c.try_push.result = search rules in
    added c.args.self.now.tokens.items _ _ c.args.line c.start.result c.in_ok-token.field-0 c.requires c.in_ok-token.ensures (c.try_push.ensures.variant.0 pushed) c.start.ensures (search rules)
