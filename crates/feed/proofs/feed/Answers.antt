use Rattle.std.proofs.Common.{◌∙◌}
use Rattle.feed.proofs.Delivering.{left_cleared, left_as_is, refused, accepted, script, marks, groups}
use Rattle.feed.proofs.feed.Goals as goal

pub returns-then-is_err : goal.returns-then-is_err
returns-then-is_err g c =
    let of = g.S.Sink.meaning in
    let m = of c.args.sink.now in
    let rs = c.args.records.now in
    let r = c.draw-drawn.result in
    let n = of c.clear.new.self in
    let answer = c.draw-drawn.ensures.answer in
    let after = c.clear.ensures ∙ left_cleared r (of c.draw-drawn.new.sink) c.if-is_err.ensures.value ∙ c.draw-drawn.ensures.after in
    record {
      answer = answer;
      after = after;
      refused = refused m rs r n answer after;
      accepted = accepted m rs r n answer after;
      script = script m rs r n answer after;
      marks = marks m rs r n answer after;
      groups = groups m rs r n answer after;
    }

pub returns-else-is_err : goal.returns-else-is_err
returns-else-is_err g c =
    let of = g.S.Sink.meaning in
    let m = of c.args.sink.now in
    let rs = c.args.records.now in
    let r = c.draw-drawn.result in
    let n = of c.draw-drawn.new.sink in
    let answer = c.draw-drawn.ensures.answer in
    let after = left_as_is r n c.if-is_err.ensures.value ∙ c.draw-drawn.ensures.after in
    record {
      answer = answer;
      after = after;
      refused = refused m rs r n answer after;
      accepted = accepted m rs r n answer after;
      script = script m rs r n answer after;
      marks = marks m rs r n answer after;
      groups = groups m rs r n answer after;
    }
