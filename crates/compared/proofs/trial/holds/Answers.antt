-- What stands behind the words, and nothing where the words do not stand there. Assumes nothing.
use Rattle.std.proofs.Common.{Some, None}
use Rattle.std.proofs.lemmas.Bool.Decides.{Decides-eqb}
use Rattle.std.proofs.lemmas.Slice.Eq.{strip_prefix_is}
use Rattle.compared.proofs.Behind.{zero_behind, none_behind}
use Rattle.compared.proofs.trial.holds.Goals as goal

pub returns-in-Some : goal.returns-in-Some
returns-in-Some c =
    let on = strip_prefix_is Decides-eqb c.args.store.now c.args.words.now (Some c.in-Some.rest) c.in-Some.ensures.cases in
    zero_behind _ _ _ _ on c.is_zero.ensures

pub returns-in-None : goal.returns-in-None
returns-in-None c = none_behind _ _ (strip_prefix_is Decides-eqb c.args.store.now c.args.words.now None c.in-None.ensures.cases)
