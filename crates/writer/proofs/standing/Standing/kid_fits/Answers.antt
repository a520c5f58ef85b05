-- `writer::standing::Standing::kid_fits` meets its contract. Assumes nothing.
use mathlib.Core.Path.{sym, ◌∙◌}
use Rattle.grammar.proofs.Laws.Facts.{clash}
use Rattle.writer.proofs.Places.{stands}
use Rattle.writer.proofs.Validity.{kid_is}
use Rattle.writer.proofs.Keeping.{on_place}
use Rattle.writer.proofs.standing.Standing.kid_fits.Goals.{then-fits, else-fits}
use Rattle.writer.proofs.standing.Standing.kid_fits.Goals as goal

pub ends_wrong-requires : goal.ends_wrong-requires
ends_wrong-requires c = search on_place

pub returns-then-not-starts_wrong : goal.returns-then-not-starts_wrong
returns-then-not-starts_wrong c = elim c.if-fits.branch [
  | then-fits w ↦ record {
    how = λ t s a.
        let k = kid_is t _ _ _ (c.class_of.ensures.how t s a) c.fits.ensures (w.starts_wrong.ensures.how t s a) (c.ends_wrong.ensures.how _ s (stands a)) in
        rw (w.if-fits.true, sym w.value-is ∙ c.if-not-starts_wrong.true) at k;
  }
  | else-fits w ↦ clash c.if-not-starts_wrong.true (w.value-is ∙ w.if-fits.false)
]
