-- f32 arithmetic. Each operation is rounded once: to the nearest f32, at a tie to the even one.
use Rattle.std.specs.Prelude.{ℕ, false, Float}
use Rattle.std.specs.Float.{binary32}
use Rattle.std.specs.Float.Ieee.{add, sub, mul, div, round}

infixl 6 ◌+f◌
infixl 6 ◌-f◌
infixl 7 ◌*f◌
infixl 7 ◌/f◌
abbrev pub ◌+f◌ : Float → Float → Float
x +f y = add binary32 x y

abbrev pub ◌-f◌ : Float → Float → Float
x -f y = sub binary32 x y

abbrev pub ◌*f◌ : Float → Float → Float
x *f y = mul binary32 x y

abbrev pub ◌/f◌ : Float → Float → Float
x /f y = div binary32 x y

-- the f32 nearest to the fraction n / d, as a constant's decimals are read: 2.54 is decimal 254 100
unfoldable pub decimal : ℕ → ℕ → Float
decimal n d = round binary32 false n d

-- the f32 of a small whole number
abbrev pub whole : ℕ → Float
whole n = decimal n 1
