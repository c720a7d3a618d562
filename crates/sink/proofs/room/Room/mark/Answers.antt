use Rattle.sink.proofs.Counts.{marked}
use Rattle.sink.proofs.room.Room.mark.Goals as goal

pub returns : goal.returns
returns c = λ m is. marked c.args.self m is c.args.mark c.is_good.result _ c.is_good.ensures c.in_ok-first.ensures
