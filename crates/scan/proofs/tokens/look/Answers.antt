-- `scan::tokens::look` meets its contract. Assumes nothing.
use mathlib.Core.Path.{sym, ap, ◌∙◌}
use Rattle.std.proofs.Common.{Err}
use native.Mathlib.Omega.{arith}
use Rattle.scan.proofs.Text.{token_taken, lexer_room, lexer_missed, nothing_missed, bad_stops}
use Rattle.scan.proofs.tokens.look.Goals as goal

pub overflow_add-result : goal.overflow_add-result
overflow_add-result c = let r = lexer_room c.args.tokens.now c.args.pos (ap Err (sym c.in-Err-LexerError.field-0-is) ∙ c.in-Err-LexerError.ensures) in omega arith

pub returns-in-Ok : goal.returns-in-Ok
returns-in-Ok c = record { how = token_taken c.args.tokens.now c.args.pos c.in-Ok.ensures }

pub returns-in-Err-LexerError : goal.returns-in-Err-LexerError
returns-in-Err-LexerError c = record { how = lexer_missed c.args.tokens.now c.args.pos (ap Err (sym c.in-Err-LexerError.field-0-is) ∙ c.in-Err-LexerError.ensures) }

pub returns-in-Err-Nothing : goal.returns-in-Err-Nothing
returns-in-Err-Nothing c = record { how = nothing_missed c.args.tokens.now c.args.pos c.requires (ap Err (sym c.in-Err-Nothing.field-0-is) ∙ c.in-Err-Nothing.ensures) }

pub returns-in-Err-Bad : goal.returns-in-Err-Bad
returns-in-Err-Bad c = record { how = bad_stops _ (ap Err (sym c.in-Err-Bad.field-0-is) ∙ c.in-Err-Bad.ensures) }
