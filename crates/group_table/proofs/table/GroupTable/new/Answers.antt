use Rattle.std.proofs.Common.{rules}
use Rattle.group_table.proofs.Keeping.{fresh, begun}
use Rattle.group_table.proofs.table.GroupTable.new.Goals as goal

-- the ghost fields hold of a table with a turn or without one, so that the clause alone tells which of the two is new
pub invariant_of-result : goal.invariant_of-result
invariant_of-result c = search (rules, fresh, begun)
