use Rattle.sink.proofs.Counts.{closed}
use Rattle.sink.proofs.room.Room.close.Goals as goal

pub returns : goal.returns
returns c = λ m is. closed c.args.self m is c.if-self-eq0.false
