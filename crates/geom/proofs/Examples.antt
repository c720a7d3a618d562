-- The worked examples, computed.
use Rattle.std.proofs.Common.{refl}
use lib.Ieee.{round, of_bits, to_bits, of_fields, odd, units, size, span, climb, add, sub, sum, mul, div, neg, lt}
use lib.Count.{count_trailing_zeros}
use Rattle.std.specs.Float.{float_is_finite}
use Rattle.geom.specs.F32.{decimal}
use Rattle.geom.specs.Length.{in_unit}
use Rattle.geom.specs.Size.{finite_size, valid_size}
use Rattle.geom.specs.Fit.{fit, scales, across, down, aligned}
use Rattle.geom.specs.Opacity.{plain}
use Rattle.geom.specs.Root.{side_or_full, percent_side, root_side, sides_of, root_flag, size_refusal, root_size}
use Rattle.geom.specs.Worked.{WorkedLengths, WorkedRootSizes, WorkedFits, WorkedOpacities, WorkedExamples}

lengths : WorkedLengths
unfolding in_unit decimal round odd units size span climb count_trailing_zeros mul div
lengths = (λ base F. refl, λ base dpi. refl)

root_sizes : WorkedRootSizes
unfolding root_size sides_of root_side percent_side side_or_full root_flag size_refusal finite_size valid_size float_is_finite in_unit decimal round odd units size span climb count_trailing_zeros mul div lt
root_sizes = (refl, refl, refl, refl)

fits : WorkedFits
unfolding fit scales across down aligned decimal round odd units size span climb count_trailing_zeros mul div add sub sum neg lt
fits = (refl, refl)

opacities : WorkedOpacities
unfolding plain of_bits to_bits of_fields decimal round odd units size span climb count_trailing_zeros
opacities = (refl, refl)

pub worked_examples : WorkedExamples
worked_examples = (lengths, root_sizes, fits, opacities)
