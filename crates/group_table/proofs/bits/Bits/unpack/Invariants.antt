use Rattle.group_table.proofs.Packing.{Matched}
use Rattle.group_table.proofs.bits.Bits.unpack.Given as goal

abbrev pub invariant-loop-i : goal.invariant-loop-i
invariant-loop-i g l = Matched l.fn.self.words l.floats l.i g.row.N
