use Rattle.converter.proofs.Goodness.{good_root, good_spare, finite_identity}
use Rattle.converter.proofs.root.convert_root.Goals as goal

pub returns-clause-groups_are_good : goal.returns-clause-groups_are_good
returns-clause-groups_are_good c =
    rw (c.root_group.ensures, c.spare_group.ensures, c.default.ensures, c.default-2.ensures)
    (λ o. (good_root _ (cc), good_spare _ _ _ finite_identity o, finite_identity))
