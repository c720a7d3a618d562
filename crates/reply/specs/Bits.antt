-- How a float is written for programs: the eight hexadecimal digits of its bits.
use Rattle.std.specs.Prelude.{ℕ, ◌/◌, ◌%◌, ◌^◌, List, [], ◌∷◌, map, to_bits, Float}
use Rattle.std.specs.Float.{binary32}
use Rattle.std.specs.Char.{digit_char}
use Rattle.record.specs.Zero.{zeroed}

-- a zero has no sign, and what is no number has the bits 7fc00000
unfoldable pub bits_of : Float → ℕ
bits_of x = to_bits binary32 (zeroed x)

-- the hexadecimal digit at a place, the last being place 0
abbrev pub digit_at : ℕ → ℕ → ℕ
digit_at n place = digit_char (n / 16 ^ place % 16)

unfoldable pub hex : ℕ → List ℕ
hex n = map (digit_at n) (7 ∷ 6 ∷ 5 ∷ 4 ∷ 3 ∷ 2 ∷ 1 ∷ 0 ∷ [])

abbrev pub bits_text : Float → List ℕ
bits_text x = hex (bits_of x)
