-- What two values that may be missing come to, and a choice. Definitions; they assume nothing.
use Rattle.std.specs.Prelude.{Bool, true, false, Option, Some, None}

-- k of both values, if there are both
abbrev pub both : {A B C : Type 0} → (A → B → C) → Option A → Option B → Option C
both k None m = None
both k (Some a) None = None
both k (Some a) (Some b) = Some (k a b)

-- a choice; what is not chosen is not computed
abbrev pub pick : {A : Type 0} → Bool → (Unit {0} → A) → (Unit {0} → A) → A
pick true f g = f tt
pick false f g = g tt
