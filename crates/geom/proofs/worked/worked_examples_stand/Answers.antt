use Rattle.geom.proofs.Examples.{worked_examples}
use Rattle.geom.proofs.worked.worked_examples_stand.Goals as goal

pub returns : goal.returns
returns c = worked_examples
