use Rattle.std.proofs.Common.{ap, ◌∙◌, Err}
use Rattle.std.proofs.lemmas.Result.{err_from_is_err_and}
use Rattle.sink.proofs.Calling.{end_refused, end_fails, end_passes}
use Rattle.group_table.specs.Table.{meaning_of}
use Rattle.group_table.proofs.Steps.{room_is, end_done, ended}
use Rattle.group_table.proofs.table.calls.GroupTableSink.end.Goals as goal

pub returns-in_err-end : goal.returns-in_err-end
returns-in_err-end c =
    let t = c.args.self.now in
    let p = err_from_is_err_and c.from_residual-in_err-end.result c.from_residual-in_err-end.ensures.1 in
    let fails = end_fails (meaning_of t) c.in_err-end.field-0.0 (c.in_err-end.ensures (meaning_of t) (room_is t c.in_ok-turn.turn c.in_ok-turn.ensures.ok_part)) in
    let q = end_refused (meaning_of t) c.in_err-end.field-0.0 c.from_residual-in_err-end.result (p.1 ∙ ap (λ f. Err f) p.2) fails in
    record { answer = q.0; after = q.1 }

pub invariant_of-self : goal.invariant_of-self
invariant_of-self c =
    let t = c.args.self.now in
    ended t c.in_ok-turn.turn c.in_ok-turn.ensures.ok_part (end_passes (meaning_of t) c.in_ok-end.field-0 (c.in_ok-end.ensures (meaning_of t) (room_is t c.in_ok-turn.turn c.in_ok-turn.ensures.ok_part)))

pub returns : goal.returns
returns c =
    let t = c.args.self.now in
    let passed = end_passes (meaning_of t) c.in_ok-end.field-0 (c.in_ok-end.ensures (meaning_of t) (room_is t c.in_ok-turn.turn c.in_ok-turn.ensures.ok_part)) in
    let q = end_done t passed in
    record { answer = q.0; after = q.1 }
