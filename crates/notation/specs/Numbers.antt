-- The texts of numbers.
use Rattle.std.specs.Prelude.{◌≡◌, ℕ, ◌^◌, ◌<◌, Bool, true, cond, ◌&&◌, List, length, pos, Some, None, Option, nat_lt, Float}
use Rattle.std.specs.Float.{binary32}
use Rattle.std.specs.Float.Ieee.{of_int}
use Rattle.std.specs.Float.Parse.{is_float_text}
use Rattle.std.specs.Str.Parse.{IsNumeral, without_leading_plus, digits_value}
use Rattle.std.specs.Str.{all_ascii_digits}

-- A number: a sign or none, then digits with at most one point and at least one digit, then perhaps e, a sign or none, and
-- digits; or after the sign inf, infinity or nan, in letters of either case.
unfoldable pub a_number : List ℕ → Bool
a_number text = is_float_text text

-- x is the number that a text writes. Of a whole number below 2 ^ 32 that is the f32 nearest to it.
pub record Number (text : List ℕ) (x : Float) : Type 0 where
  pub written : a_number text ≡ true
  pub nearest : IsNumeral 10 (without_leading_plus text) → digits_value 10 (without_leading_plus text) < 2 ^ 32 → x ≡ of_int binary32 (pos (digits_value 10 (without_leading_plus text)))

-- the whole number below 2 ^ 32 that a text of digits writes, a + before them or none
unfoldable pub whole_number : List ℕ → Option ℕ
whole_number text =
    let digits = without_leading_plus text in
    cond (all_ascii_digits digits && nat_lt 0 (length digits) && nat_lt (digits_value 10 digits) (2 ^ 32)) (Some (digits_value 10 digits)) None
