use Rattle.sink.proofs.Framing.{close_deep}
use Rattle.sink.proofs.framed.FramedSink.close.Goals as goal

pub returns-in-Some-clause-after : goal.returns-in-Some-clause-after
returns-in-Some-clause-after g c =
    let of = g.S.Sink.meaning in
    let s = c.args.self.now in
    let is = c.close.ensures in
    (close_deep s.group s.good (of s.below) (of c.close.new.self) c.in-Some.depth _ c.in-Some.ensures c.if-depth-gt1.true (is.answer, is.after)).1 _
