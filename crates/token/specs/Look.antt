-- What looking at the words of a run finds: the first two as a token, unless they are none. Assumes nothing.
use Rattle.std.specs.Prelude.{Bool, Result, Ok, Err, ◌&&◌, ◌||◌, cond, List, [], ◌∷◌, ℕ, ◌%◌, ◌/◌, eqb, leb, ltb}
use Rattle.token.specs.Kind
use Rattle.token.specs.declared.Token.{Token}
use Rattle.token.specs.declared.Unread.{Unread}
use Rattle.token.specs.declared.Unread.TheVariants.{LexerError, Nothing, Bad}

-- the kinds that carry a name's number
abbrev pub has_name : ℕ → Bool
has_name kind = eqb kind Kind.Identifier || eqb kind Kind.StringLiteral || eqb kind Kind.Label

-- the kinds that carry 64 bits
abbrev pub has_bits : ℕ → Bool
has_bits kind = eqb kind Kind.IntegerLiteral || eqb kind Kind.FloatLiteral

-- a name's number is below 2^32, bits are any, and all other kinds, the lexer error too, carry 0
abbrev pub value_fits : ℕ → ℕ → Bool
value_fits kind value = cond (has_name kind) (ltb value 4294967296) (has_bits kind || eqb value 0)

-- kinds end with the lexer error, and a newline is 0 or 1
abbrev pub token_fits : ℕ → ℕ → ℕ → Bool
token_fits kind newline value = leb kind Kind.LexerError && leb newline 1 && value_fits kind value

abbrev pub seen_token : ℕ → ℕ → ℕ → Result Token Unread
seen_token kind newline value =
    cond (token_fits kind newline value)
    (cond (eqb kind Kind.LexerError) (Err LexerError) (Ok (record { kind = kind; newline = newline; value = value })))
    (Err Bad)

-- a record's first word is the kind + 256 × newline, its second the value
abbrev pub seen_word : ℕ → ℕ → Result Token Unread
seen_word word value = seen_token (word % 256) (word / 256) value

-- a single word is no record
unfoldable pub seen : List ℕ → Result Token Unread
seen [] = Err Nothing
seen (word ∷ []) = Err Nothing
seen (word ∷ value ∷ rest) = seen_word word value
