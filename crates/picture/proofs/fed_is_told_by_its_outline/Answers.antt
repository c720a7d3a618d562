use Rattle.picture.proofs.Feeding.{fed_is_told_by_its_outline}
use Rattle.picture.proofs.fed_is_told_by_its_outline.Goals as goal

pub returns : goal.returns
returns g c = fed_is_told_by_its_outline
