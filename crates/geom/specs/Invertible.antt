-- When a 2x2 matrix of f32 is invertible: over whole numbers, so that nothing is rounded.
use Rattle.std.specs.Prelude.{◌≡◌, ℕ, ◌*◌, ◌/◌, ◌^◌, Bool, true, false, not, ◌&&◌, T, ℤ, pos, negsuc, ◌*ℤ◌, neg_ℤ, ◌==◌, Float}
use Rattle.std.specs.Float.Ieee.{fits, up, down}
use Rattle.std.specs.Float.{float_is_finite, nan, inf, fin, binary32}

-- n, negative where the sign is true
abbrev pub signed : Bool → ℕ → ℤ
signed false n = pos n
signed true n = neg_ℤ (pos n)

-- Every finite f32 is a whole number of units of 2 ^ -149, the format's smallest step, and this is how many.
unfoldable pub units : Float → ℤ
units nan = pos 0
units (inf s) = pos 0
units (fin s m e) = signed s (m * up e * 2 ^ 149 / down e)

-- whether two whole numbers are equal
abbrev pub same : ℤ → ℤ → Bool
same (pos m) (pos n) = m == n
same (pos m) (negsuc n) = false
same (negsuc m) (pos n) = false
same (negsuc m) (negsuc n) = m == n

-- all four are finite, and a * d is not b * c
unfoldable pub invertible : Float → Float → Float → Float → Bool
invertible a b c d = float_is_finite a && float_is_finite b && float_is_finite c && float_is_finite d && not (same (units a *ℤ units d) (units b *ℤ units c))

-- The division in `units` loses nothing: of ± m * 2 ^ e, which is ± m * up e / down e, the units are exactly 2 ^ 149 times that.
abbrev pub UnitsExact : Type 0
UnitsExact = (s : Bool) (m : ℕ) (e : ℤ) → T (fits binary32 (fin s m e)) → units (fin s m e) *ℤ pos (down e) ≡ signed s (m * up e * 2 ^ 149)

-- The test of equality above is right.
abbrev pub SameIsEquality : Type 0
SameIsEquality = (x y : ℤ) → (same x y ≡ true → x ≡ y) × (x ≡ y → same x y ≡ true)
