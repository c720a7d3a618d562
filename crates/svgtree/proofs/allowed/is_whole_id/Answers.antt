use Rattle.std.proofs.Common.{arith}
use Rattle.std.proofs.lemmas.Bool.Decides.{nat_tests}
use Rattle.geom.proofs.Constants.{zero_is}
use Rattle.svgtree.proofs.Bounds.{max_id_is}
use Rattle.svgtree.proofs.allowed.is_whole_id.Goals as goal

pub returns-then-x-2 : goal.returns-then-x-2
returns-then-x-2 c = grind (arith, nat_tests, zero_is, max_id_is)

pub returns-else-x-2 : goal.returns-else-x-2
returns-else-x-2 c = grind (arith, nat_tests, zero_is, max_id_is)
