-- What a line and a sheet that are being read are in the definitions of the lines. Definitions; they assume nothing.
use Rattle.std.specs.Prelude.{◌≡◌, ℕ, true, false, cond, ◌-◌, ◌+◌, ◌*◌, ◌&&◌, List, [], ◌∷◌, length, is_some, unwrap_or, Option, Some, None, eqb}
use Rattle.std.specs.Int.{from_bool}
use Rattle.std.specs.Option.{option_map}
use Rattle.treelist.specs.Lines.{Scan, Progress, bad, digit, letter, is_digit, value_at}
use Rattle.treelist.specs.declared.line.Line.{Line}
use Rattle.treelist.specs.declared.lines.Sheet.{Sheet}
use Rattle.arrayvec.specs.ArrayVec.{ArrayVec}
use Rattle.std.specs.List.{flat_map}

-- the scan in a line, behind so many lines
abbrev pub scan : ℕ → Line → Scan
scan lines l = record { lines = lines; at = l.at; begun = is_some l.number; number = unwrap_or l.number 0; kind = l.kind; newline = from_bool l.newline; malformed = false }

-- the same, or `bad` once a line was malformed
abbrev pub scan_of : ℕ → Option Line → Scan
scan_of lines None = bad lines
scan_of lines (Some l) = scan lines l

-- a byte that is no line end
abbrev pub within_line : Scan → ℕ → Scan
within_line s byte = cond (is_digit s.at byte) (digit s (byte - 48)) (letter s byte)

-- a line has all its text and a value, or not
abbrev pub NotWhole : Line → Type 0
NotWhole l = (eqb l.at value_at && is_some l.number) ≡ false

abbrev pub Whole : Line → List ℕ → Type 0
Whole l words = ((eqb l.at value_at && is_some l.number) ≡ true) × (words ≡ (l.kind + 256 * from_bool l.newline) ∷ unwrap_or l.number 0 ∷ [])

-- the words of tokens
abbrev pub words : ArrayVec (List ℕ) → List ℕ
words t = flat_map (λ x. x) t.items

-- how far a sheet was read
abbrev pub progress : Sheet → Progress
progress s = record { scan = scan_of (length s.tokens.items) s.line; words = words s.tokens }

-- the words of tokens, if there are any
abbrev pub words_of : Option (ArrayVec (List ℕ)) → Option (List ℕ)
words_of = option_map words
