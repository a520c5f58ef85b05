-- What is known of the input, read to its end. Definitions; they assume nothing.
use Rattle.std.specs.Prelude.{◌≡◌, List, ℕ, Bool, Option, Result, Ok, Err, ltb, min, take, length}
use Rattle.std.specs.Io.KnownBytes.{Consumes, IsAtEnd}
use Rattle.arrayvec.specs.ArrayVec.{ArrayVec}
use Rattle.std.specs.declared.io.Error.{Error}
use Rattle.treelist.specs.Lines.{Progress, read, sheet_of}
use Rattle.treelist.specs.Sheets.{words_of}

-- what a read comes to, by its result: so many of the bytes came, and more may come where that is above 0, as 0 is the input's end; or the read failed, and why
abbrev pub Feeds : Result ℕ Error → List ℕ → Progress → Result Bool Error → Progress → Type 0
Feeds got bytes p (Ok more) q = (n : ℕ) × (got ≡ Ok n) × (more ≡ ltb 0 n) × (q ≡ read p (take (min n (length bytes)) bytes))
Feeds got bytes p (Err why) q = (got ≡ Err why) × (q ≡ p)

-- what was left of an input and what is left now, where that is known, and the tokens: some bytes were read, up to the end, and the tokens are theirs
abbrev pub Reads : Option (List ℕ) → Option (List ℕ) → Option (ArrayVec (List ℕ)) → Type 0
Reads old new tokens = (bytes : List ℕ) × Consumes old new bytes × IsAtEnd new × (words_of tokens ≡ sheet_of bytes)

-- tokens, or none, that the lines of some bytes say
abbrev pub ASheet : Option (ArrayVec (List ℕ)) → Type 0
ASheet tokens = (bytes : List ℕ) × (words_of tokens ≡ sheet_of bytes)
