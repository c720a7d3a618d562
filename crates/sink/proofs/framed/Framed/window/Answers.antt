use Rattle.geom.proofs.Constants.{one_is}
use Rattle.sink.proofs.framed.Framed.window.Goals as goal

pub returns : goal.returns
returns g c = rw (← one_is, ← c.default.ensures) c.over.ensures
