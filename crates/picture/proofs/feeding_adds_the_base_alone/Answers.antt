use Rattle.picture.proofs.Feeding.{feeding_adds_the_base_alone}
use Rattle.picture.proofs.feeding_adds_the_base_alone.Goals as goal

pub returns : goal.returns
returns g c = feeding_adds_the_base_alone
