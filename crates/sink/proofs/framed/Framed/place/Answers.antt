use Rattle.geom.proofs.Constants.{one_is}
use Rattle.sink.proofs.framed.Framed.place.Goals as goal

pub returns : goal.returns
returns g c = rw (← one_is) c.over.ensures
