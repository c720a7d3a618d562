use Rattle.group_table.proofs.Levels.{innermost}
use Rattle.group_table.proofs.laws.parents_stand.Goals as goal

pub returns : goal.returns
returns c = innermost
