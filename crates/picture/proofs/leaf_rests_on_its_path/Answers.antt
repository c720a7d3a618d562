use Rattle.picture.proofs.Locality.{leaf_rests_on_its_path}
use Rattle.picture.proofs.leaf_rests_on_its_path.Goals as goal

pub returns : goal.returns
returns g c = leaf_rests_on_its_path
