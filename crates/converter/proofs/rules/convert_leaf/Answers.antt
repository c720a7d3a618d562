use Rattle.converter.specs.Rules.{bare}
use Rattle.converter.specs.State.{ruled, framed}
use Rattle.converter.proofs.Laws.{alone_spare}
use Rattle.converter.proofs.Goodness.{good_spare, finite_identity}
use Rattle.converter.proofs.rules.convert_leaf.Goals as goal

pub returns-clause-own_matrix_alone : goal.returns-clause-own_matrix_alone
unfolding bare
returns-clause-own_matrix_alone c = rw (c.spare_group.ensures, c.bare.ensures) (alone_spare _ _ _ _ (cc))

pub returns-clause-groups_are_good : goal.returns-clause-groups_are_good
unfolding bare ruled framed
returns-clause-groups_are_good c = rw (c.spare_group.ensures, c.bare.ensures) (λ o. (tt, good_spare _ _ _ (cc) o, finite_identity))
