use Rattle.sink.proofs.Counts.{opened}
use Rattle.sink.proofs.room.Room.open.Goals as goal

pub returns : goal.returns
returns c = λ m is. opened c.args.self m is c.args.group c.is_good.result _ c.is_good.ensures c.in_ok-first.ensures
