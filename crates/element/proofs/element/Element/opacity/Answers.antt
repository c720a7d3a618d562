use Rattle.geom.proofs.Constants.{one_is}
use Rattle.element.proofs.element.Element.opacity.Goals as goal

pub returns : goal.returns
returns c = cc one_is
