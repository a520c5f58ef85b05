-- What each entry promises, for all inputs: its contract says this by name. Definitions; they assume nothing.
use Rattle.std.specs.Prelude.{◌≡◌, List, ℕ}
use Rattle.labels.specs.declared.FlatLabels.{FlatLabels}
use Rattle.labels.specs.Offences.{Labels, check_labels, number, record_number}

-- the check, of a statement's records: what it answers
abbrev pub Checks : List ℕ → Labels → Type 0
Checks words answer = answer ≡ check_labels words

-- an answer as two numbers
abbrev pub flat_labels : Labels → FlatLabels
flat_labels a = record { number = number a; record_number = record_number a }

-- the one that C links: the same, with the answer as two numbers
abbrev pub ExportsChecking : List ℕ → FlatLabels → Type 0
ExportsChecking words answer = answer ≡ flat_labels (check_labels words)
