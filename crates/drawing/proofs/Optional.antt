-- A count of nodes that is left out.
use Rattle.std.proofs.Common.{◌≡◌, ℕ, true, eqb, List, [], ◌∷◌, length, None, refl, arith}
use Rattle.std.proofs.lemmas.Bool.Decides.{nat_tests}
use Rattle.notation.specs.Numbers.{whole_number}

pub no_whole_number : (word : List ℕ) → true ≡ eqb (length word) 0 → whole_number word ≡ None
unfolding whole_number
no_whole_number [] e = refl
no_whole_number (b ∷ bs) e = absurd (grind (arith, nat_tests))
