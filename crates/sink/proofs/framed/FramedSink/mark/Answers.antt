use Rattle.sink.proofs.Framing.{mark_framed}
use Rattle.sink.proofs.framed.FramedSink.mark.Goals as goal

pub returns-clause-after : goal.returns-clause-after
returns-clause-after g c =
    let of = g.S.Sink.meaning in
    let s = c.args.self.now in
    let is = c.mark.ensures in
    (mark_framed s.group s.good (of s.below) (of c.mark.new.self) c.args.mark c.mark.result (is.answer, is.after)).1 _
