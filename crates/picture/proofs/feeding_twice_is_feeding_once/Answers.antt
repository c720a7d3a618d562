use Rattle.picture.proofs.Feeding.{feeding_twice_is_feeding_once}
use Rattle.picture.proofs.feeding_twice_is_feeding_once.Goals as goal

pub returns : goal.returns
returns g c = feeding_twice_is_feeding_once
