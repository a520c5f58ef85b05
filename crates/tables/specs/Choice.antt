-- One of two, by a test: so that a table reads line by line. Definitions; they assume nothing.
use Rattle.std.specs.Prelude.{Bool, cond, ℕ, eqb}

infixr 5 when◌then◌else◌
abbrev pub when◌then◌else◌ : {A : Type 0} → Bool → A → A → A
when b then x else y = cond b x y

-- One of two numbers: by whether x is 0, and by whether x is y.
unfoldable pub where_zero : ℕ → ℕ → ℕ → ℕ
where_zero x same other =
    when eqb x 0 then same else
    other

unfoldable pub where_is : ℕ → ℕ → ℕ → ℕ → ℕ
where_is x y same other =
    when eqb x y then same else
    other
