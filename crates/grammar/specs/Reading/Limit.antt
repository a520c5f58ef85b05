-- The limits of a reading, and the numbers of stops and refusals. Definitions; they assume nothing.
use Rattle.std.specs.Prelude.{ℕ}

-- operand readings, right sides of assignments and statement lists begun and unfinished
abbrev pub depth_limit : ℕ
depth_limit = 37

-- tokens of a sheet
abbrev pub length_limit : ℕ
length_limit = 65536

-- errors that wait
abbrev pub queue_limit : ℕ
queue_limit = 96

-- words of the store for each unread token
abbrev pub store_share : ℕ
store_share = 16

-- stops
abbrev pub malformed : ℕ
malformed = 60

abbrev pub too_deep : ℕ
too_deep = 62

abbrev pub queue_full : ℕ
queue_full = 64

-- refusals
abbrev pub bad_reader : ℕ
bad_reader = 61

abbrev pub short_store : ℕ
short_store = 63

abbrev pub no_statement : ℕ
no_statement = 65

abbrev pub short_output : ℕ
short_output = 66

-- a break or continue that leads nowhere, with a label and without (document 02, P2)
abbrev pub offender_labelled : ℕ
offender_labelled = 67

abbrev pub offender_unlabelled : ℕ
offender_unlabelled = 68
