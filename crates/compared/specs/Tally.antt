-- The counts of a run, and the line that they are printed as. Definitions; they assume nothing.
use Rattle.std.specs.Prelude.{Bool, List, ℕ, ◌+◌, ◌%◌, ◌^◌, ◌++◌, if◌then◌else◌, codes}
use Rattle.std.specs.Fmt.{decimal}
use Rattle.compared.specs.declared.tally.Tally.{Tally}

-- counts in 64 bits
abbrev pub plus : ℕ → ℕ → ℕ
plus a b = (a + b) % 2 ^ 64

-- nothing counted
abbrev pub nothing : Tally
nothing = record { sheets = 0; answers = 0; writes = 0; checks = 0; differences = 0 }

-- two tallies together
abbrev pub sum_of : Tally → Tally → Tally
sum_of a b =
    record {
      sheets = plus a.sheets b.sheets;
      answers = plus a.answers b.answers;
      writes = plus a.writes b.writes;
      checks = plus a.checks b.checks;
      differences = plus a.differences b.differences;
    }

-- one more of one kind
abbrev pub with_sheet : Tally → Tally
with_sheet t = record t { sheets = plus t.sheets 1 }

abbrev pub with_answer : Tally → Tally
with_answer t = record t { answers = plus t.answers 1 }

abbrev pub with_write : Tally → Tally
with_write t = record t { writes = plus t.writes 1 }

abbrev pub with_check : Tally → Tally
with_check t = record t { checks = plus t.checks 1 }

abbrev pub with_difference : Tally → Tally
with_difference t = record t { differences = plus t.differences 1 }

-- a part that was compared: the same counts nothing, another one is a difference
abbrev pub with_part : Bool → Tally → Tally
with_part same t = if same then t else with_difference t

-- as text
abbrev pub tally_text : Tally → List ℕ
tally_text t =
    codes "sheets " ++ decimal t.sheets ++ codes ", answers " ++ decimal t.answers ++ codes ", writes " ++ decimal t.writes ++ codes ", checks " ++ decimal t.checks
    ++ codes ", differences " ++ decimal t.differences
