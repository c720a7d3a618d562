-- The bounds of the code, by their bits, are those of the rules.
use Rattle.std.proofs.Common.{◌≡◌, refl}
use lib.Ieee.{binary32, round, of_bits, of_fields, odd, units, size, span, climb}
use lib.Count.{count_trailing_zeros}
use Rattle.geom.specs.F32.{decimal}
use Rattle.svgtree.specs.Limits.{min_dpi, max_dpi, max_font_size, max_id, max_magnitude}

pub min_dpi_is : of_bits binary32 0x4120_0000 ≡ min_dpi
unfolding decimal round of_bits of_fields odd units size span climb count_trailing_zeros
min_dpi_is = refl

pub max_dpi_is : of_bits binary32 0x457a_0000 ≡ max_dpi
unfolding decimal round of_bits of_fields odd units size span climb count_trailing_zeros
max_dpi_is = refl

pub max_font_size_is : of_bits binary32 0x447a_0000 ≡ max_font_size
unfolding decimal round of_bits of_fields odd units size span climb count_trailing_zeros
max_font_size_is = refl

pub max_id_is : of_bits binary32 0x477f_ff00 ≡ max_id
unfolding decimal round of_bits of_fields odd units size span climb count_trailing_zeros
max_id_is = refl

pub max_magnitude_is : of_bits binary32 0x4974_2400 ≡ max_magnitude
unfolding decimal round of_bits of_fields odd units size span climb count_trailing_zeros
max_magnitude_is = refl
