use Rattle.sink.proofs.Framing.{open_framed}
use Rattle.sink.proofs.framed.FramedSink.open.Goals as goal

pub returns-clause-after : goal.returns-clause-after
returns-clause-after g c =
    let of = g.S.Sink.meaning in
    let s = c.args.self.now in
    let is = c.open.ensures in
    (open_framed s.group s.good (of s.below) (of c.open.new.self) c.args.group c.open.result (is.answer, is.after)).1 _
