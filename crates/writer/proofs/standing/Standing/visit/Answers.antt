-- `writer::standing::Standing::visit` meets its contract. Assumes nothing.
use mathlib.Core.Path.{sym, ◌∙◌}
use Rattle.writer.specs.Standing.{SoundAt}
use Rattle.writer.proofs.Laws.{at_length}
use Rattle.writer.proofs.Places.{stands}
use Rattle.writer.proofs.Keeping.{node_place}
use Rattle.writer.proofs.Validity.{node_unsound, node_sound}
use Rattle.writer.proofs.Visits.{kids_at, fit_begins, fit_items, class_found, entry_made}
use Rattle.writer.proofs.standing.Standing.visit.Goals.{Else-not-sound}
use Rattle.writer.proofs.standing.Standing.visit.Goals as goal

-- its record is sound
module _ (c : Else-not-sound) where
  sound_node : SoundAt c.args.self.now.records.now c.args.p
  sound_node = let k = c.kind_at-kind.ensures in
      let v = c.value_at-value.ensures in
      let n = c.count_at.ensures in
      record { how = λ t s a. rw (← k.how _ s (stands a), ← v.how _ s (stands a), ← n.how _ s (stands a)) (sym c.sound.ensures ∙ c.if-not-sound.false) }

pub kind_at-kind-requires : goal.kind_at-kind-requires
kind_at-kind-requires c = search node_place

pub value_at-value-requires : goal.value_at-value-requires
value_at-value-requires c = search node_place

pub count_at-requires : goal.count_at-requires
count_at-requires c = search node_place

pub returns-then-not-sound : goal.returns-then-not-sound
returns-then-not-sound c = record { how = λ t s a. node_unsound t (c.kind_at-kind.ensures.how _ s (stands a)) (c.value_at-value.ensures.how _ s (stands a)) (c.count_at.ensures.how _ s (stands a)) (sym c.sound.ensures ∙ c.if-not-sound.true) }

pub mode_by-m-requires : goal.mode_by-m-requires
mode_by-m-requires c = (c.requires, sound_node (goal.at.mode_by-m-requires c).Else-not-sound)

pub returns-in_err-kids : goal.returns-in_err-kids
returns-in_err-kids c = rw c.from_residual.ensures (record { how = λ t s a. node_sound t (c.kind_at-kind.ensures.how _ s (stands a)) (c.value_at-value.ensures.how _ s (stands a)) (c.count_at.ensures.how _ s (stands a)) (sym c.sound.ensures ∙ c.if-not-sound.false) (c.mode_by-m.ensures.how _ s (stands a)) ∙ kids_at c.kids_fit.ensures c.in_err-kids.was t s a })

pub serves_by-serves-requires : goal.serves_by-serves-requires
serves_by-serves-requires c = (c.requires, sound_node (goal.at.serves_by-serves-requires c).Else-not-sound, c.mode_by-m.ensures, fit_begins c.kids_fit.ensures c.in_ok-kids.was, fit_items c.kids_fit.ensures c.in_ok-kids.was)

pub returns : goal.returns
returns c = record {
  how = λ t s a.
      let k = kids_at c.kids_fit.ensures c.in_ok-kids.was t s a in (
        node_sound t (c.kind_at-kind.ensures.how _ s (stands a)) (c.value_at-value.ensures.how _ s (stands a)) (c.count_at.ensures.how _ s (stands a)) (sym c.sound.ensures ∙ c.if-not-sound.false) (c.mode_by-m.ensures.how _ s (stands a)) ∙ k.0,
        entry_made t s (class_found t (c.kind_at-kind.ensures.how _ s (stands a)) (c.value_at-value.ensures.how _ s (stands a)) (c.mode_by-m.ensures.how _ s (stands a)) c.class.ensures) (c.labelled_by-labelled.ensures.how t s a) (c.serves_by-serves.ensures.how t s a) (at_length k.1) c.word_of.ensures,
      );
}
