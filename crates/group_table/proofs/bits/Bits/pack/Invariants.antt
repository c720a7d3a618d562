use Rattle.std.proofs.Common.{◌≡◌, true, take}
use Rattle.std.specs.List.{list_all}
use Rattle.group_table.specs.Floats.{is_number}
use Rattle.group_table.proofs.Packing.{Matched}
use Rattle.group_table.proofs.bits.Bits.pack.Given as goal

abbrev pub invariant-loop-i : goal.invariant-loop-i
invariant-loop-i g l = Matched l.words l.fn.floats l.i g.row.N × (list_all is_number (take l.i l.words) ≡ true)
