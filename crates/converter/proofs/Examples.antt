-- The worked examples of groups and clips, computed.
use Rattle.std.proofs.Common.{refl}
use lib.Ieee.{to_unsigned, round, odd, units, size, span, climb, add, sub, sum, mul, div, neg, lt, eq, to_bits}
use lib.Count.{count_trailing_zeros}
use Rattle.std.specs.Float.{float_is_finite}
use Rattle.geom.specs.F32.{decimal}
use Rattle.geom.specs.Fit.{fit, scales, across, down, aligned, default_aspect}
use Rattle.geom.specs.Length.{in_unit, base_of}
use Rattle.geom.specs.Matrix.{identity, translation, product, finite_matrix, is_identity}
use Rattle.geom.specs.Opacity.{plain}
use Rattle.geom.specs.Root.{side_or_full}
use Rattle.geom.specs.Size.{finite_rect, valid_rect}
use Rattle.geom.proofs.Examples.{worked_examples}
use Rattle.element.specs.Attributes.{value_of}
use Rattle.element.specs.Forms.{as_length, as_rect, as_matrix, as_aspect, as_number, as_word}
use Rattle.converter.specs.Rectangle.{measured, position, side, resolved_rect, fitted_view_box, placing, viewport}
use Rattle.converter.specs.Clip.{both_set, from_use, keeps_in, svg_clip, symbol_clip}
use Rattle.converter.specs.Groups.{group, clip_group, spare, if_finite}
use Rattle.converter.specs.Rules.{svg_groups, finite_placing, use_symbol_groups, convert_svg, convert_use_symbol, convert_symbol}
use Rattle.converter.specs.State.{ruled, framed}
use Rattle.converter.specs.Worked.{WorkedUse, WorkedPercentUse, WorkedSvg, AllWorkedExamples}

worked_use : WorkedUse
unfolding convert_use_symbol use_symbol_groups finite_placing convert_symbol if_finite spare group clip_group ruled framed symbol_clip keeps_in measured position side resolved_rect fitted_view_box placing viewport value_of as_length as_rect as_matrix as_aspect as_number as_word side_or_full in_unit base_of fit scales across down aligned default_aspect identity translation product finite_matrix is_identity plain finite_rect valid_rect float_is_finite decimal round odd units size span climb count_trailing_zeros add sub sum mul div neg lt eq to_bits to_unsigned
worked_use = (refl, refl)

worked_percent_use : WorkedPercentUse
unfolding convert_use_symbol use_symbol_groups finite_placing if_finite group clip_group framed symbol_clip keeps_in measured position side resolved_rect fitted_view_box placing viewport value_of as_length as_rect as_matrix as_aspect as_number as_word side_or_full in_unit base_of identity translation finite_matrix finite_rect valid_rect float_is_finite decimal round odd units size span climb count_trailing_zeros mul div lt to_unsigned
worked_percent_use = refl

worked_svg : WorkedSvg
unfolding convert_svg svg_groups finite_placing if_finite spare group clip_group ruled svg_clip both_set from_use keeps_in measured position side resolved_rect fitted_view_box placing viewport value_of as_length as_rect as_matrix as_aspect as_number as_word side_or_full in_unit base_of identity translation product finite_matrix is_identity plain finite_rect valid_rect float_is_finite decimal round odd units size span climb count_trailing_zeros add sum mul div lt eq to_bits to_unsigned
worked_svg = (refl, refl)

pub all_worked_examples : AllWorkedExamples
all_worked_examples = (worked_examples, worked_use, worked_percent_use, worked_svg)
