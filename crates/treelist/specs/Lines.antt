-- The format of a sheet's lines: of the bytes of the input, the words of its tokens, or none where a line is malformed or a 501st comes.
-- A line is `token=K newline=N value=V`, to the byte: no other blank, no sign, no carriage return, no empty line. K, N and V are decimal digits, at least one,
-- leading zeros among them: 01 asks for decimal numbers and sets no length. The line end of the last line may be missing. Definitions; they assume nothing.
use Rattle.std.specs.Prelude.{◌≡◌, refl, Bool, true, false, cond, ◌&&◌, ◌||◌, List, [], ◌∷◌, ◌++◌, ℕ, ◌+◌, ◌*◌, ◌-◌, eqb, leb, ltb, get_or, Option, Some, None}
use Rattle.treelist.specs.Text.{bytes}

-- where the reading of the lines stands: how many are whole; in the present one how many bytes of the text were met, whether the number
-- that is due has a digit, that number, and the kind and the newline once they are read; whether a line was malformed
pub record Scan : Type 0 where
  pub lines : ℕ
  pub at : ℕ
  pub begun : Bool
  pub number : ℕ
  pub kind : ℕ
  pub newline : ℕ
  pub malformed : Bool

-- a line but its numbers: these are due behind 6, 15 and all 22 of its bytes
abbrev pub text : List ℕ
text = bytes "token= newline= value="

abbrev pub kind_at : ℕ
kind_at = 6

abbrev pub newline_at : ℕ
newline_at = 15

abbrev pub value_at : ℕ
value_at = 22

abbrev pub most_lines : ℕ
most_lines = 500

abbrev pub most_kind : ℕ
most_kind = 76

abbrev pub most_newline : ℕ
most_newline = 1

abbrev pub is_due : ℕ → Bool
is_due at = eqb at kind_at || eqb at newline_at || eqb at value_at

-- a digit of a number that is due
abbrev pub is_digit : ℕ → ℕ → Bool
is_digit at byte = leb 48 byte && leb byte 57 && is_due at

-- before a line, behind so many
abbrev pub at_line : ℕ → Scan
at_line n = record { lines = n; at = 0; begun = false; number = 0; kind = 0; newline = 0; malformed = false }

-- a malformed line behind so many; nothing else counts then
abbrev pub bad : ℕ → Scan
bad n = record { lines = n; at = 0; begun = false; number = 0; kind = 0; newline = 0; malformed = true }

-- a digit more of a number below 2^64
unfoldable pub digit : Scan → ℕ → Scan
digit s d =
    cond (leb (10 * s.number + d) 18446744073709551615)
    (record { lines = s.lines; at = s.at; begun = true; number = 10 * s.number + d; kind = s.kind; newline = s.newline; malformed = s.malformed })
    (bad s.lines)

-- past a byte of the text; the kind and the newline are these
abbrev pub past : Scan → ℕ → ℕ → Scan
past s k n = record { lines = s.lines; at = s.at + 1; begun = false; number = 0; kind = k; newline = n; malformed = s.malformed }

-- a number is whole, of at most so much; the kind and the newline are then these
unfoldable pub number_end : Scan → ℕ → ℕ → ℕ → Scan
number_end s most k n = cond (s.begun && leb s.number most) (past s k n) (bad s.lines)

-- a byte that is no digit of a number and no line end
unfoldable pub letter : Scan → ℕ → Scan
letter s byte =
    cond (eqb s.at value_at) (bad s.lines)
    (cond (eqb (get_or text s.at 0) byte)
    (cond (eqb s.at kind_at) (number_end s most_kind s.number s.newline)
    (cond (eqb s.at newline_at) (number_end s most_newline s.kind s.number)
    (past s s.kind s.newline)))
    (bad s.lines))

-- how far the lines were read, and the words of the whole ones
pub record Progress : Type 0 where
  pub scan : Scan
  pub words : List ℕ

-- a line's end
unfoldable pub line_end : Progress → Progress
line_end p =
    let s : Scan = p.scan in
    cond (eqb s.at value_at && s.begun && ltb s.lines most_lines)
    (record { scan = at_line (s.lines + 1); words = p.words ++ (s.kind + 256 * s.newline) ∷ s.number ∷ [] })
    (record { scan = bad s.lines; words = p.words })

-- one byte more
unfoldable pub step : Progress → ℕ → Progress
step p byte =
    cond p.scan.malformed p
    (cond (eqb byte 10) (line_end p)
    (cond (is_digit p.scan.at byte) (record { scan = digit p.scan (byte - 48); words = p.words })
    (record { scan = letter p.scan byte; words = p.words })))

unfoldable pub read : Progress → List ℕ → Progress
read p [] = p
read p (byte ∷ more) = read (step p byte) more

-- the end of the input also ends a line that was begun
unfoldable pub closed : Progress → Progress
closed p = cond (eqb p.scan.at 0) p (line_end p)

abbrev pub start : Progress
start = record { scan = at_line 0; words = [] }

-- the words of the tokens that were read, or none where a line was malformed
abbrev pub said : Progress → Option (List ℕ)
said p = cond p.scan.malformed None (Some p.words)

-- the words of the tokens that the bytes of an input say
abbrev pub sheet_of : List ℕ → Option (List ℕ)
sheet_of input = said (closed (read start input))

-- examples

nothing : sheet_of [] ≡ Some []
unfolding digit number_end letter line_end step read closed
nothing = refl

one_line : sheet_of (bytes "token=69 newline=1 value=7\n") ≡ Some (325 ∷ 7 ∷ [])
unfolding digit number_end letter line_end step read closed
one_line = refl

no_line_end : sheet_of (bytes "token=11 newline=0 value=0\ntoken=75 newline=1 value=0") ≡ Some (11 ∷ 0 ∷ 331 ∷ 0 ∷ [])
unfolding digit number_end letter line_end step read closed
no_line_end = refl

leading_zeros : sheet_of (bytes "token=0069 newline=01 value=007\n") ≡ Some (325 ∷ 7 ∷ [])
unfolding digit number_end letter line_end step read closed
leading_zeros = refl

greatest : sheet_of (bytes "token=76 newline=0 value=18446744073709551615\n") ≡ Some (76 ∷ 18446744073709551615 ∷ [])
unfolding digit number_end letter line_end step read closed
greatest = refl

too_great : sheet_of (bytes "token=76 newline=0 value=18446744073709551616\n") ≡ None
unfolding digit number_end letter line_end step read closed
too_great = refl

no_kind : sheet_of (bytes "token=77 newline=0 value=0\n") ≡ None
unfolding digit number_end letter line_end step read closed
no_kind = refl

no_newline : sheet_of (bytes "token=1 newline=2 value=0\n") ≡ None
unfolding digit number_end letter line_end step read closed
no_newline = refl

no_digit : sheet_of (bytes "token=1 newline=0 value=\n") ≡ None
unfolding digit number_end letter line_end step read closed
no_digit = refl

sign : sheet_of (bytes "token=1 newline=0 value=+1\n") ≡ None
unfolding digit number_end letter line_end step read closed
sign = refl

blank : sheet_of (bytes "token=1 newline=0 value=1 \n") ≡ None
unfolding digit number_end letter line_end step read closed
blank = refl

carriage_return : sheet_of (bytes "token=1 newline=0 value=1\r\n") ≡ None
unfolding digit number_end letter line_end step read closed
carriage_return = refl

empty_line : sheet_of (bytes "token=1 newline=0 value=1\n\n") ≡ None
unfolding digit number_end letter line_end step read closed
empty_line = refl

half_a_line : sheet_of (bytes "token=1 newline") ≡ None
unfolding digit number_end letter line_end step read closed
half_a_line = refl
