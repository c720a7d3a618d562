-- Several checks in their order: each is a test that says whether it fails, and the refusal that it then gives.
use Rattle.std.specs.Prelude.{Bool, cond, List, [], ◌∷◌, Some, None, Ok, Err, Option, Result}

-- the refusal of the first check that fails, or none
abbrev pub first_of : {E : Type 0} → List (Bool × E) → Option E
first_of [] = None
first_of (check ∷ later) = cond check.0 (Some check.1) (first_of later)

-- the answer x, unless a check refused
abbrev pub unless : {E A : Type 0} → Option E → A → Result A E
unless None x = Ok x
unless (Some r) x = Err r
