use Rattle.converter.specs.Rules.{bare}
use Rattle.converter.specs.State.{ruled, framed}
use Rattle.converter.proofs.Laws.{alone_spare}
use Rattle.converter.proofs.Goodness.{good_spare, finite_identity}
use Rattle.converter.proofs.rules.convert_symbol.Goals as goal

pub returns-clause-placing_alone : goal.returns-clause-placing_alone
unfolding bare
returns-clause-placing_alone c = rw (c.spare_group.ensures, c.bare.ensures) (alone_spare _ _ _ _ (cc))

pub returns-clause-groups_are_good : goal.returns-clause-groups_are_good
unfolding bare ruled framed
returns-clause-groups_are_good c = rw (c.spare_group.ensures, c.bare.ensures) (λ f o. (tt, good_spare _ _ _ f o, finite_identity))
