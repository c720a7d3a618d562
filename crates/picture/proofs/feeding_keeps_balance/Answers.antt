use Rattle.picture.proofs.Feeding.{feeding_keeps_balance}
use Rattle.picture.proofs.feeding_keeps_balance.Goals as goal

pub returns : goal.returns
returns g c = feeding_keeps_balance
