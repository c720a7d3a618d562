use Rattle.std.proofs.Common.{arith}
use Rattle.std.proofs.lemmas.Grind.{common_steps}
use Rattle.converter.proofs.Laws.{svg_clips_to, own_then_placing}
use Rattle.converter.proofs.Goodness.{svg_good}
use Rattle.converter.proofs.rules.convert_svg.Goals as goal

pub returns-clause-clips_to_its_rectangle : goal.returns-clause-clips_to_its_rectangle
returns-clause-clips_to_its_rectangle c = rw (c.svg_groups.ensures, c.svg_clip.ensures, c.resolve_rect-rect.ensures) (svg_clips_to _ _ _ _)

pub returns-clause-own_matrix_then_placing : goal.returns-clause-own_matrix_then_placing
returns-clause-own_matrix_then_placing c =
    rw (c.svg_groups.ensures, c.viewbox_transform.ensures, c.resolve_rect-rect.ensures, c.fitted_view_box-view_box.ensures) (own_then_placing _ _ _ _)

pub returns-clause-groups_are_good : goal.returns-clause-groups_are_good
returns-clause-groups_are_good c = rw (c.svg_groups.ensures, c.ruled-inside.ensures, c.svg_clip.ensures) (svg_good _ _ _ _ _ (grind (arith, common_steps)))
