use Rattle.std.proofs.Common.{arith}
use Rattle.std.proofs.lemmas.Bool.Decides.{nat_tests}
use Rattle.geom.proofs.Constants.{zero_is}
use Rattle.svgtree.proofs.Bounds.{min_dpi_is, max_dpi_is, max_font_size_is}
use Rattle.svgtree.proofs.document.are_good.Goals as goal

pub returns-then-options-3 : goal.returns-then-options-3
returns-then-options-3 c = grind (arith, nat_tests, zero_is, min_dpi_is, max_dpi_is, max_font_size_is)

pub returns-else-options-3 : goal.returns-else-options-3
returns-else-options-3 c = grind (arith, nat_tests, zero_is, min_dpi_is, max_dpi_is, max_font_size_is)
