use Rattle.sink.proofs.Framing.{clear_framed}
use Rattle.sink.proofs.framed.FramedSink.clear.Goals as goal

pub returns : goal.returns
returns g c =
    let of = g.S.Sink.meaning in
    let s = c.args.self.now in
    clear_framed s.group s.good (of s.below) (of c.clear.new.self) _ c.clear.ensures
