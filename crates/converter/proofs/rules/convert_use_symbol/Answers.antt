use Rattle.std.proofs.Common.{arith}
use Rattle.std.proofs.lemmas.Grind.{common_steps}
use Rattle.converter.proofs.Laws.{symbol_clips_to, own_then_symbol}
use Rattle.converter.proofs.Goodness.{use_symbol_good}
use Rattle.converter.proofs.rules.convert_use_symbol.Goals as goal

pub returns-clause-clips_to_its_rectangle : goal.returns-clause-clips_to_its_rectangle
returns-clause-clips_to_its_rectangle c = rw (c.use_symbol_groups.ensures, c.symbol_clip.ensures, c.resolve_rect-rect.ensures) (symbol_clips_to _ _ _ _ _)

pub returns-clause-own_matrix_then_placing : goal.returns-clause-own_matrix_then_placing
returns-clause-own_matrix_then_placing c =
    rw (c.use_symbol_groups.ensures, c.viewbox_transform.ensures, c.resolve_rect-rect.ensures, c.fitted_view_box-view_box.ensures) (own_then_symbol _ _ _ _ _)

pub returns-clause-groups_are_good : goal.returns-clause-groups_are_good
returns-clause-groups_are_good c = rw (c.use_symbol_groups.ensures, c.symbol_clip.ensures) (use_symbol_good _ _ _ _ _ _ (grind (arith, common_steps)))
