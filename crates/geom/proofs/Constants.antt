-- The constants of the code, by their bits, are the floats nearest to the decimals of the rules.
use Rattle.std.proofs.Common.{◌≡◌, refl}
use lib.Ieee.{binary32, round, of_bits, of_fields, odd, units, size, span, climb}
use lib.Count.{count_trailing_zeros}
use Rattle.geom.specs.F32.{decimal}

pub zero_is : of_bits binary32 0 ≡ decimal 0 1
unfolding decimal round of_bits of_fields odd units size span climb count_trailing_zeros
zero_is = refl

pub one_is : of_bits binary32 0x3f80_0000 ≡ decimal 1 1
unfolding decimal round of_bits of_fields odd units size span climb count_trailing_zeros
one_is = refl

pub two_is : of_bits binary32 0x4000_0000 ≡ decimal 2 1
unfolding decimal round of_bits of_fields odd units size span climb count_trailing_zeros
two_is = refl

pub six_is : of_bits binary32 0x40c0_0000 ≡ decimal 6 1
unfolding decimal round of_bits of_fields odd units size span climb count_trailing_zeros
six_is = refl

pub seventy_two_is : of_bits binary32 0x4290_0000 ≡ decimal 72 1
unfolding decimal round of_bits of_fields odd units size span climb count_trailing_zeros
seventy_two_is = refl

pub hundred_is : of_bits binary32 0x42c8_0000 ≡ decimal 100 1
unfolding decimal round of_bits of_fields odd units size span climb count_trailing_zeros
hundred_is = refl

-- 2.54 and 25.4
pub cm_is : of_bits binary32 0x4022_8f5c ≡ decimal 254 100
unfolding decimal round of_bits of_fields odd units size span climb count_trailing_zeros
cm_is = refl

pub mm_is : of_bits binary32 0x41cb_3333 ≡ decimal 254 10
unfolding decimal round of_bits of_fields odd units size span climb count_trailing_zeros
mm_is = refl
