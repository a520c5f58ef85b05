-- What the proof of `read_sheet` stands on: what the reads so far come to. Assumes nothing.
use Rattle.std.proofs.Common.{◌≡◌, ℕ, ◌<◌, List, [], ◌∷◌, ◌++◌, Bool, false, Option, Result, Ok, length, take, ltb, refl, sym, ap, ◌∙◌}
use borrow.Author.Tests.{ltb-false}
use native.Mathlib.Omega.{arith}
use Rattle.std.proofs.Math.Nat.{min-eq_left}
use Rattle.std.proofs.KnownBytes.{Consumes-nil, Consumes-trans}
use Rattle.std.specs.Io.KnownBytes.{Consumes, IsAtEnd, ReadConsumes}
use Rattle.arrayvec.specs.ArrayVec.{ArrayVec}
use Rattle.std.specs.Counts.{IsPrefixLen}
use Rattle.std.specs.Io.{ReadsAtMost}
use Rattle.std.specs.declared.io.Error.{Error}
use Rattle.treelist.specs.Lines.{Progress, step, read, start, closed, said}
use Rattle.treelist.specs.Sheets.{words_of}
use Rattle.treelist.specs.Input.{Feeds, Reads}

-- bytes after bytes
read_append : (p : Progress) (a b : List ℕ) → read p (a ++ b) ≡ read (read p a) b
unfolding read
read_append p [] b = refl
read_append p (x ∷ a) b = read_append (step p x) a b

-- what was left of an input and what is left now, and what the bytes between come to
abbrev pub Reading : Option (List ℕ) → Option (List ℕ) → Progress → Type 0
Reading old new p = (bytes : List ℕ) × Consumes old new bytes × (p ≡ read start bytes)

pub begun : (old : Option (List ℕ)) (p : Progress) → p ≡ start → Reading old old p
unfolding read
begun old p e = ([], Consumes-nil old, e)

more : (old mid new : Option (List ℕ)) (p q : Progress) (bytes : List ℕ) → Reading old mid p → Consumes mid new bytes → q ≡ read p bytes → Reading old new q
more old mid new p q bytes (so_far, c, e) d f =
    (so_far ++ bytes, Consumes-trans old mid new so_far bytes c d, f ∙ (ap (λ r. read r bytes) e ∙ sym (read_append start so_far bytes)))

-- a read whose bytes were gone through, by what it came to
pub fed : (old mid new : Option (List ℕ)) (p q : Progress) (got : Result ℕ Error) (bytes : List ℕ) (goes_on : Bool) → Reading old mid p → ReadsAtMost got bytes → ReadConsumes mid new got bytes → Feeds got bytes p (Ok goes_on) q → Reading old new q
fed old mid new p q got bytes goes_on r b c (n, is, m, e) =
    let most : IsPrefixLen n bytes = rw is at b in
    let came : Consumes mid new (take n bytes) × (n ≡ 0 → 0 < length bytes → IsAtEnd new) = rw is at c in
    more old mid new p q (take n bytes) r came.0 (e ∙ ap (λ (k : ℕ). read p (take k bytes)) (min-eq_left most.0))

-- what is not above 0
none : (n : ℕ) → false ≡ ltb 0 n → n ≡ 0
none n e = let l = ltb-false 0 n (sym e) in omega arith

-- one behind which no more comes: the input is at its end
pub over : (mid new : Option (List ℕ)) (p q : Progress) (got : Result ℕ Error) (bytes : List ℕ) → 0 < length bytes → ReadConsumes mid new got bytes → Feeds got bytes p (Ok false) q → IsAtEnd new
over mid new p q got bytes l c (n, is, m, e) =
    let came : Consumes mid new (take n bytes) × (n ≡ 0 → 0 < length bytes → IsAtEnd new) = rw is at c in
    came.1 (none n m) l

pub ended : (old new : Option (List ℕ)) (q : Progress) (tokens : Option (ArrayVec (List ℕ))) → Reading old new q → IsAtEnd new → words_of tokens ≡ said (closed q) → Reads old new tokens
ended old new q tokens (bytes, d, g) e f = (bytes, d, e, f ∙ ap (λ r. said (closed r)) g)
