use Rattle.std.proofs.Common.{rules, ◌∙◌}
use Rattle.std.proofs.lemmas.Result.{err_from_is_err_and}
use Rattle.feed.proofs.Playing.{went_on, stopped, fed_begun, fed_next, fed_ended, draws_ok, draws_err}
use Rattle.feed.proofs.draw.Goals as goal

pub returns-in_err-map_err-2 : goal.returns-in_err-map_err-2
returns-in_err-map_err-2 g c =
    let of = g.S.Sink.meaning in
    let rs = c.args.records.now in
    let begun = c.begin.ensures in
    let is = c.put.ensures in
    let start =
    fed_begun (of c.args.sink.now) (of c.begin.new.self) rs c.begin.result (begun.answer, begun.after)
    ∙ went_on _ c.begin.result (of c.begin.new.self) _ c.in_ok-map_err.ensures.variant in
    let here =
    fed_next rs c.loop-i.i-counter _ (of c.loop-i.sink) (of c.put.new.sink) c.put.result c.loop-i-test.true (is.answer, is.after)
    ∙ stopped _ c.put.result (of c.put.new.sink) _ c.in_err-map_err-2.field-0.0 c.in_err-map_err-2.ensures.variant (λ f e. search rules) in
    let p = err_from_is_err_and c.from_residual-in_err-map_err-2.result c.from_residual-in_err-map_err-2.ensures.1 in
    let q = draws_err _ c.from_residual-in_err-map_err-2.result _ (of c.put.new.sink) (rw p.2 at p.1) (start ∙ c.loop-i.invariant ∙ here) in
    record { answer = q.0; after = q.1 }

pub loop-i-preserved : goal.loop-i-preserved
loop-i-preserved g c =
    let of = g.S.Sink.meaning in
    let rs = c.args.records.now in
    let is = c.put.ensures in
    c.loop-i.invariant
    ∙ fed_next rs c.loop-i.i-counter _ (of c.loop-i.sink) (of c.put.new.sink) c.put.result c.loop-i-test.true (is.answer, is.after)
    ∙ went_on _ c.put.result (of c.put.new.sink) _ c.in_ok-map_err-2.ensures.variant

pub returns-in_err-map_err-3 : goal.returns-in_err-map_err-3
returns-in_err-map_err-3 g c =
    let of = g.S.Sink.meaning in
    let rs = c.args.records.now in
    let begun = c.begin.ensures in
    let is = c.end.ensures in
    let start =
    fed_begun (of c.args.sink.now) (of c.begin.new.self) rs c.begin.result (begun.answer, begun.after)
    ∙ went_on _ c.begin.result (of c.begin.new.self) _ c.in_ok-map_err.ensures.variant in
    let here =
    fed_ended rs c.loop-i.i-counter (of c.loop-i.sink) (of c.end.new.self) c.end.result c.loop-i-test.false (is.answer, is.after)
    ∙ stopped _ c.end.result (of c.end.new.self) _ c.in_err-map_err-3.field-0.0 c.in_err-map_err-3.ensures.variant (λ f e. search rules) in
    let p = err_from_is_err_and c.from_residual-in_err-map_err-3.result c.from_residual-in_err-map_err-3.ensures.1 in
    let q = draws_err _ c.from_residual-in_err-map_err-3.result _ (of c.end.new.self) (rw p.2 at p.1) (start ∙ c.loop-i.invariant ∙ here) in
    record { answer = q.0; after = q.1 }

pub returns : goal.returns
returns g c =
    let of = g.S.Sink.meaning in
    let rs = c.args.records.now in
    let begun = c.begin.ensures in
    let is = c.end.ensures in
    let start =
    fed_begun (of c.args.sink.now) (of c.begin.new.self) rs c.begin.result (begun.answer, begun.after)
    ∙ went_on _ c.begin.result (of c.begin.new.self) _ c.in_ok-map_err.ensures.variant in
    let here =
    fed_ended rs c.loop-i.i-counter (of c.loop-i.sink) (of c.end.new.self) c.end.result c.loop-i-test.false (is.answer, is.after)
    ∙ went_on _ c.end.result (of c.end.new.self) _ c.in_ok-map_err-3.ensures.variant in
    let q = draws_ok _ (of c.end.new.self) (start ∙ c.loop-i.invariant ∙ here) in
    record { answer = q.0; after = q.1 }
