use Rattle.geom.proofs.Constants.{zero_is}
use Rattle.element.proofs.element.Element.id.Goals as goal

pub returns : goal.returns
returns c = cc zero_is
