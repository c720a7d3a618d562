-- The bits of a float in which a zero has no sign.
use Rattle.std.proofs.Common.{◌≡◌, ℕ, zero, suc, ◌*◌, ◌<◌, true, false, ℤ, pos, sym, refl, ap, ◌∙◌, mul-pos, zero-mul, arith}
use native.Mathlib.Nat.{zero-div}
use lib.Ieee.{Float, nan, inf, fin, binary32, of_bits, of_fields, odd, to_bits, eq, is_nan, up, down}
use lib.Ieee.Fits.{up_pos}
use Rattle.std.proofs.lemmas.Bool.{and_parts, eqb-true, false≢true, true≢false}
use Rattle.record.specs.Zero.{zeroed}
use Rattle.reply.specs.Bits.{bits_of}

nought : of_bits binary32 0 ≡ fin false 0 (pos 0)
unfolding of_bits of_fields odd
nought = refl

pub nan_bits : (x : Float) → true ≡ is_nan x → 0x7fc0_0000 ≡ bits_of x
unfolding bits_of zeroed to_bits is_nan
nan_bits nan h = refl
nan_bits (inf s) h = absurd (true≢false h)
nan_bits (fin s m e) h = absurd (true≢false h)

some : (m : ℕ) (e : ℤ) → 0 < suc m * up e * 1
some m e = mul-pos (mul-pos (omega arith) (up_pos e)) (omega arith)

zero_bits_at : (x : Float) → eq x (fin false 0 (pos 0)) ≡ true → 0 ≡ bits_of x
unfolding bits_of zeroed to_bits eq
zero_bits_at nan h = absurd (false≢true h)
zero_bits_at (inf s) h = absurd (false≢true h)
zero_bits_at (fin s zero e) h = simp (zero-mul, zero-div)
zero_bits_at (fin s (suc m) e) h =
    let none : suc m * up e * 1 ≡ 0 * 1 * down e = eqb-true (suc m * up e * 1) (0 * 1 * down e) (and_parts _ _ h).0 in
    absurd (omega (arith, some m e, none ∙ zero-mul (down e)))

pub zero_bits : (x : Float) → eq x (of_bits binary32 0) ≡ true → 0 ≡ bits_of x
zero_bits x h = zero_bits_at x (ap (eq x) (sym nought) ∙ h)

other_bits_at : (x : Float) → eq x (fin false 0 (pos 0)) ≡ false → to_bits binary32 x ≡ bits_of x
unfolding bits_of zeroed eq
other_bits_at nan h = refl
other_bits_at (inf s) h = refl
other_bits_at (fin true zero e) h = absurd (true≢false (simp zero-mul at h))
other_bits_at (fin false zero e) h = refl
other_bits_at (fin s (suc m) e) h = refl

pub other_bits : (x : Float) → eq x (of_bits binary32 0) ≡ false → to_bits binary32 x ≡ bits_of x
other_bits x h = other_bits_at x (ap (eq x) (sym nought) ∙ h)
