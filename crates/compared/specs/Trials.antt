-- What a run counts, and where a call stands, as text. Definitions; they assume nothing.
use Rattle.std.specs.Prelude.{◌≡◌, List, ℕ, ◌∷◌, ◌++◌}
use Rattle.std.specs.Fmt.{decimal}
use Rattle.compared.specs.Tally.{nothing, sum_of}
use Rattle.compared.specs.declared.tally.Tally.{Tally}
use Rattle.compared.specs.declared.trial.Place.{Place}
use Rattle.compared.specs.declared.trial.Trial.{Trial}

-- the name, a space, the number
abbrev pub place_text : Place → List ℕ
place_text p = p.name.now ++ 32 ∷ decimal p.at

-- the counts of the present group become these of what they were; those of the groups before it stay
abbrev pub Counts : {R : Type 0} → (Tally → Tally) → Trial R → Trial R → Type 0
Counts f old new = (new.group ≡ f old.group) × (new.total ≡ old.total)

-- the present group ends: its counts join those before it
abbrev pub Ends : {R : Type 0} → Trial R → Trial R → Type 0
Ends old new = (new.group ≡ nothing) × (new.total ≡ sum_of old.total old.group)
