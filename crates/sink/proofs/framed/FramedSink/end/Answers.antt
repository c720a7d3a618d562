use Rattle.std.proofs.Common.{rules, tests, ◌≡◌, Some}
use Rattle.sink.specs.Calls.{depth_of}
use Rattle.sink.proofs.Framing.{end_alone}
use Rattle.sink.proofs.framed.FramedSink.end.Goals as goal

-- that one group is open is searched for, so that the proof doesn't rest on how the code tests it
pub returns : goal.returns
returns g c =
    let of = g.S.Sink.meaning in
    let s = c.args.self.now in
    let is = c.close.ensures in
    let on = c.end.ensures in
    let alone : Some 1 ≡ depth_of (of s.below) = search (rules, tests) in
    let q = end_alone s.group s.good (of s.below) (of c.close.new.self) (of c.end.new.self) _ _ alone (is.answer, is.after) (on.answer, on.after) in
    record { answer = q.0; after = q.1 _ }
