use Rattle.picture.proofs.Feeding.{feeding_counts}
use Rattle.picture.proofs.feeding_counts.Goals as goal

pub returns : goal.returns
returns g c = feeding_counts
