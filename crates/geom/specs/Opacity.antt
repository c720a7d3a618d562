-- Opacities that count as 1.
use Rattle.std.specs.Prelude.{ℕ, ◌+◌, ◌-◌, Bool, nat_le, to_bits, Float}
use Rattle.std.specs.Float.{binary32}

-- the bits of 1, and how far from them an opacity's bits may be
abbrev pub one_bits : ℕ
one_bits = 0x3f80_0000

abbrev pub plain_bits : ℕ
plain_bits = 4

-- how far two numbers are apart
abbrev pub distance : ℕ → ℕ → ℕ
distance m n = (m - n) + (n - m)

-- the opacity's bits are at most 4 from those of 1
unfoldable pub plain : Float → Bool
plain x = nat_le (distance (to_bits binary32 x) one_bits) plain_bits
