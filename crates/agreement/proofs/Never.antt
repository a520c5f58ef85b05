-- Document 02, P1: from a fresh reader, over every run of tokens, 24, 28 and 32 are never answered, and none of them ever waits (`never_met`). The claim is about a fresh reader,
-- since a reader may be handed in in which one of them waits: 61 allows it, and then it is answered. That none is ever on its way is `stmt_numbers` in grammar's Laws/Numbers.antt, with
-- the reasons for 24 and 28 in Laws/NeverMet.antt and that for 32, on which the other two do not lean, in Laws/ParamOrder.antt. Assumes nothing.
use Rattle.std.specs.Prelude.{◌≡◌, refl, false}
use mathlib.Core.List.{List}
use Rattle.grammar.specs.Reading.Number
use Rattle.grammar.specs.Reading.Result.{Error}
use Rattle.grammar.proofs.Laws.Facts.{clash}
use Rattle.grammar.proofs.Laws.Waits.{is_error_but, ErrorBut, two_never, three_never, IsError}
use Rattle.grammar.proofs.Laws.Top.{Covers, covers_but_two, covers_but_three}
use Rattle.agreement.specs.Never.{NeverMet, ThreeNeverMet}
use Rattle.agreement.proofs.Laws.Met.{only_fresh, run_only, run_met, one_of}

-- an error that is not among those that can be met
never : (xs : List Error) → Covers (ErrorBut xs) → (e : Error) → IsError e → is_error_but xs e ≡ false → NeverMet e
never xs M e i n = record {
  answered = λ r g m x. clash (run_met M (only_fresh _) r g m i x) n;
  waiting = λ r m. clash (one_of (run_only M (only_fresh _) r).waits.errors m) n;
}

pub never_met : ThreeNeverMet
never_met = record {
  nested_ellipsis = never two_never covers_but_two Number.nested_ellipsis refl refl;
  params_closing = never two_never covers_but_two Number.params_closing refl refl;
  param_order = never three_never covers_but_three Number.param_order refl refl;
}
