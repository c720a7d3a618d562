use Rattle.std.proofs.Common.{refl, sym, ap, ◌∙◌, arith}
use Rattle.record.specs.Good.{good_clip}
use Rattle.group_table.proofs.Finite.{group_parts}
use Rattle.group_table.proofs.packed.GroupBits.pack.Goals as goal

pub map-requires : goal.map-requires
map-requires c = λ clip is. sym (ap good_clip is) ∙ (group_parts c.args.group c.requires).1

pub pack-requires-2 : goal.pack-requires-2
pack-requires-2 c = (omega arith, (omega arith, rw (group_parts c.args.group c.requires).2 refl))
