use Rattle.std.proofs.Common.{ap, ◌∙◌, Err}
use Rattle.std.proofs.lemmas.Result.{err_from_is_err_and}
use Rattle.sink.proofs.Calling.{end_refused, end_fails, end_passes}
use Rattle.sink_tests.proofs.Noting.{meaning_of, room_is, ended, whole}
use Rattle.sink_tests.proofs.notebook.NotebookSink.end.Goals as goal

pub returns-in_err-end : goal.returns-in_err-end
returns-in_err-end c =
    let s = c.args.self.now in
    let p = err_from_is_err_and c.from_residual-in_err-end.result c.from_residual-in_err-end.ensures.1 in
    let fails = end_fails (meaning_of s) c.in_err-end.field-0.0 (c.in_err-end.ensures (meaning_of s) (room_is s c.in_ok-turn.turn c.in_ok-turn.ensures.ok_part)) in
    let q = end_refused (meaning_of s) c.in_err-end.field-0.0 c.from_residual-in_err-end.result (p.1 ∙ ap (λ f. Err f) p.2) fails in
    record { answer = q.0; after = q.1 }

pub invariant_of-self-clause-ended : goal.invariant_of-self-clause-ended
invariant_of-self-clause-ended c =
    let s = c.args.self.now in
    let on = c.in_ok-turn.ensures.ok_part in
    λ e. whole s c.in_ok-turn.turn on (end_passes (meaning_of s) c.in_ok-end.field-0 (c.in_ok-end.ensures (meaning_of s) (room_is s c.in_ok-turn.turn on)))

pub returns : goal.returns
returns c =
    let s = c.args.self.now in
    let q = ended s (end_passes (meaning_of s) c.in_ok-end.field-0 (c.in_ok-end.ensures (meaning_of s) (room_is s c.in_ok-turn.turn c.in_ok-turn.ensures.ok_part))) in
    record { answer = q.0; after = q.1 }
