-- A word with no mark of a form.
use Rattle.std.proofs.Common.{◌≡◌, ℕ, false, eqb, List, [], ◌∷◌, get_or, None, refl, ap, arith}
use Rattle.std.specs.Str.Pattern.{FindsCharPrefix}
use Rattle.std.proofs.lemmas.Bool.{ne_eqb}
use Rattle.std.proofs.lemmas.Str.Pattern.{strip_prefix_char}

-- a word that has no @ to strip begins with another byte
pub unmarked : (word : List ℕ) → FindsCharPrefix 64 word None → eqb (get_or word 0 0) 64 ≡ false
unmarked [] h = refl
unmarked (b ∷ bs) h = ne_eqb b 64 (λ e. strip_prefix_char 64 (b ∷ bs) None h (omega arith) bs (ap (λ (n : ℕ). n ∷ bs) e))
