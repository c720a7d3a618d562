use Rattle.std.proofs.Common.{arith}
use Rattle.std.proofs.lemmas.Bool.Decides.{nat_tests}
use Rattle.record.specs.Good.{good_opacity}
use Rattle.geom.proofs.Constants.{zero_is, one_is}
use Rattle.record.proofs.is_good_opacity.Goals as goal

pub returns-then-opacity : goal.returns-then-opacity
unfolding good_opacity
returns-then-opacity c = grind (arith, nat_tests, zero_is, one_is)

pub returns-else-opacity : goal.returns-else-opacity
unfolding good_opacity
returns-else-opacity c = grind (arith, nat_tests, zero_is, one_is)
