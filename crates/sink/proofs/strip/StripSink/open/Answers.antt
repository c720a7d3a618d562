use Rattle.sink.proofs.Stripping.{open_stripped}
use Rattle.sink.proofs.strip.StripSink.open.Goals as goal

pub returns : goal.returns
returns g c =
    let of = g.S.Sink.meaning in
    let is = c.open.ensures in
    let q = open_stripped (of c.args.self.now.below) (of c.open.new.self) c.args.group c.open.result (is.answer, is.after) in
    record { answer = q.0; after = q.1 }
