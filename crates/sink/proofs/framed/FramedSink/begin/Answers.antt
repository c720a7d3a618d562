use Rattle.std.proofs.Common.{◌∙◌}
use Rattle.std.proofs.lemmas.Result.{err_from_is_err_and}
use Rattle.sink.proofs.Framing.{begin_refused, begin_opened, kept_ok, kept_err}
use Rattle.sink.proofs.framed.FramedSink.begin.Goals as goal

pub returns-in_err-begin : goal.returns-in_err-begin
returns-in_err-begin g c =
    let of = g.S.Sink.meaning in
    let s = c.args.self.now in
    let is = c.begin.ensures in
    let p = err_from_is_err_and c.from_residual.result c.from_residual.ensures.1 in
    let q = begin_refused s.group s.good (of s.below) (of c.begin.new.self) _ _ c.in_err-begin.was (is.answer, is.after) in
    record { answer = rw (p.1, p.2) q.0; after = q.1 _ }

pub returns-then-is_err : goal.returns-then-is_err
returns-then-is_err g c =
    let of = g.S.Sink.meaning in
    let s = c.args.self.now in
    let is = c.begin.ensures in
    let on = c.open-opened.ensures in
    let left = c.clear.ensures ∙ kept_err _ (of c.open-opened.new.self) c.if-is_err.ensures.value in
    let q = begin_opened s.group s.good (of s.below) (of c.begin.new.self) (of c.open-opened.new.self) (of c.clear.new.self) _ _ _ c.in_ok-begin.was (is.answer, is.after) (on.answer, on.after) left in
    record { answer = q.0; after = q.1 _ }

pub returns-else-is_err : goal.returns-else-is_err
returns-else-is_err g c =
    let of = g.S.Sink.meaning in
    let s = c.args.self.now in
    let is = c.begin.ensures in
    let on = c.open-opened.ensures in
    let left = kept_ok _ (of c.open-opened.new.self) c.if-is_err.ensures.value in
    let q = begin_opened s.group s.good (of s.below) (of c.begin.new.self) (of c.open-opened.new.self) (of c.open-opened.new.self) _ _ _ c.in_ok-begin.was (is.answer, is.after) (on.answer, on.after) left in
    record { answer = q.0; after = q.1 _ }
