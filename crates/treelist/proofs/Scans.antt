-- What the proofs of the functions that read lines share. Assumes nothing.
use Rattle.std.proofs.Common.{◌≡◌, ℕ, ◌+◌, ◌<◌, ◌≤◌, List, [], ◌∷◌, ◌++◌, length, get_or, drop, ◌∙◌, add-one, drop-cons, append-nil, Some, Option}
use lib.ListN.{drop_of_length-le, length-append}
use borrow.Author.Tests.{lt-ltb}
use Rattle.std.proofs.lemmas.Grind.{flat_map-append}
use Rattle.std.specs.List.{flat_map}
use Rattle.treelist.specs.Lines.{Progress, read, step, line_end, most_lines, at_line}
use Rattle.treelist.specs.Sheets.{progress, scan, Whole}
use Rattle.treelist.specs.declared.line.Line.{Line}

-- a token more
words_more : (tokens : List (List ℕ)) (t : List ℕ) → flat_map (λ x. x) (tokens ++ t ∷ []) ≡ flat_map (λ x. x) tokens ++ t
words_more tokens t = flat_map-append (λ x. x) tokens (t ∷ []) ∙ rw append-nil

-- a line more
pub added : (tokens after : List (List ℕ)) (line : Option Line) (l begun : Line) (token : List ℕ) → line ≡ Some l → Whole l token → length tokens < most_lines
    → ((n : ℕ) → scan n begun ≡ at_line n) → after ≡ tokens ++ token ∷ []
    → progress (record { tokens = record { items = after }; line = Some begun }) ≡ line_end (progress (record { tokens = record { items = tokens }; line = line }))
unfolding line_end
added tokens after line l begun token e (h, t) b s a =
    rw (e, h, lt-ltb _ _ b, a, s (length (tokens ++ token ∷ [])), length-append tokens (token ∷ []), words_more tokens token, t)

-- the bytes that are left: one of them, and none
pub read_more : (p q : Progress) (bytes : List ℕ) (i : ℕ) → i < length bytes → read p (drop i bytes) ≡ q → read (step p (get_or bytes i 0)) (drop (i + 1) bytes) ≡ q
unfolding read
read_more p q bytes i l e = rw add-one (rw (drop-cons bytes i 0) at e)

pub read_all : (p q : Progress) (bytes : List ℕ) (i : ℕ) → length bytes ≤ i → read p (drop i bytes) ≡ q → p ≡ q
unfolding read
read_all p q bytes i l e = rw (drop_of_length-le bytes l) at e
