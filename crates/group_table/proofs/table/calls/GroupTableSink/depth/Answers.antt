use Rattle.group_table.specs.Table.{meaning_of}
use Rattle.group_table.proofs.Steps.{room_is}
use Rattle.group_table.proofs.table.calls.GroupTableSink.depth.Goals as goal

pub returns : goal.returns
returns c = let t = c.args.self.now in c.depth.ensures (meaning_of t) (room_is t c.in_ok-self.field-0 c.in_ok-self.was)
