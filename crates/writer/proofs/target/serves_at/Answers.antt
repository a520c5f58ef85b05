-- `writer::target::serves_at` meets its contract: each arm is the definition there. Assumes nothing.
use mathlib.Core.Path.{refl, sym, ◌∙◌}
use Rattle.std.specs.Prelude.{Some}
use Rattle.tables.specs.Children.{children_in}
use Rattle.writer.specs.Standing.{serves_as}
use Rattle.writer.proofs.Numbers.{tests}
use Rattle.writer.proofs.Places.{stands, some_place, kid_place, of_kid}
use Rattle.writer.proofs.Targets.{receiver_is}
use Rattle.writer.proofs.Keeping.{serves_arm, says_tells}
use Rattle.writer.proofs.target.serves_at.Goals as goal

pub kind_at-requires : goal.kind_at-requires
kind_at-requires c = search some_place

pub target_receiver-requires : goal.target_receiver-requires
target_receiver-requires c = search some_place

pub target_receiver-requires-in-42 : goal.target_receiver-requires-in-42
target_receiver-requires-in-42 c = kid_place c.kid_of.ensures (some_place c.requires)

pub target_receiver-requires-in-43 : goal.target_receiver-requires-in-43
target_receiver-requires-in-43 c = kid_place c.kid_of-in-43.ensures (some_place c.requires)

pub value_at-name-requires : goal.value_at-name-requires
value_at-name-requires c = kid_place c.kid_of-in-20.ensures (some_place c.requires)

pub returns-in-1 : goal.returns-in-1
unfolding serves_as
returns-in-1 c = serves_arm c.kind_at.ensures c.in-1.is c.path_serves.ensures

pub returns-in-11 : goal.returns-in-11
unfolding serves_as
returns-in-11 c = serves_arm c.kind_at.ensures c.in-11.is (says_tells c.target_receiver.ensures)

pub returns-in-42 : goal.returns-in-42
unfolding serves_as
returns-in-42 c = serves_arm c.kind_at.ensures c.in-42.is (record { how = λ t s a. (of_kid c.kid_of.ensures c.target_receiver-in-42.ensures).how _ s (stands a) ∙ sym (receiver_is (children_in (Some t))) })

pub returns-in-43 : goal.returns-in-43
unfolding serves_as
returns-in-43 c = serves_arm c.kind_at.ensures c.in-43.is (record { how = λ t s a. (of_kid c.kid_of-in-43.ensures c.target_receiver-in-43.ensures).how _ s (stands a) ∙ sym (receiver_is (children_in (Some t))) })

pub returns-in-20 : goal.returns-in-20
unfolding serves_as
returns-in-20 c = serves_arm c.kind_at.ensures c.in-20.is c.function_serves.ensures

pub returns-in_default : goal.returns-in_default
unfolding serves_as
returns-in_default c = serves_arm c.kind_at.ensures refl (record { how = λ t s a. search tests })

pub kid_of-requires-clause-somewhere : goal.kid_of-requires-clause-somewhere
kid_of-requires-clause-somewhere c = some_place c.requires

pub kid_of-requires-in-43-clause-somewhere : goal.kid_of-requires-in-43-clause-somewhere
kid_of-requires-in-43-clause-somewhere c = some_place c.requires

pub kid_of-requires-in-20-clause-somewhere : goal.kid_of-requires-in-20-clause-somewhere
kid_of-requires-in-20-clause-somewhere c = some_place c.requires
