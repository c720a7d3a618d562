use Rattle.std.proofs.Common.{rules, vec_items, ap, ◌∙◌, Err, arith}
use Rattle.std.proofs.lemmas.Result.{err_from_is_err_and}
use Rattle.record.specs.declared.Event.TheVariants as variants
use Rattle.sink.proofs.Calling.{open_refused}
use Rattle.sink_tests.proofs.Noting.{meaning_of, room_is, open_added, within, not_ended, kept, done}
use Rattle.sink_tests.proofs.notebook.NotebookSink.open.Goals as goal

-- that the room which is asked is the notebook's is searched for, so that no proof rests on how the code names it
pub returns-in_err-room : goal.returns-in_err-room
returns-in_err-room c =
    let s = c.args.self.now in
    let p = err_from_is_err_and c.from_residual-in_err-room.result c.from_residual-in_err-room.ensures.1 in
    let fails = c.in_err-room.ensures (meaning_of s) (search (rules, room_is s c.in_ok-turn.turn c.in_ok-turn.ensures.ok_part)) in
    let q = open_refused (meaning_of s) c.args.group c.in_err-room.field-0.0 c.from_residual-in_err-room.result (p.1 ∙ ap (λ f. Err f) p.2) fails in
    record { answer = q.0; after = q.1 }

pub push_reserved-requires : goal.push_reserved-requires
push_reserved-requires c =
    let s = c.args.self.now in
    let added = open_added s c.in_ok-room.room c.args.group (c.in_ok-room.ensures (meaning_of s) (search (rules, room_is s c.in_ok-turn.turn c.in_ok-turn.ensures.ok_part))) in
    omega (arith, within s (variants.Open c.args.group) _ c.in_ok-room.room added, s.records.ok.0)

pub invariant_of-self : goal.invariant_of-self
invariant_of-self c =
    let s = c.args.self.now in
    let p = c.push_reserved.ensures in
    let added = open_added s c.in_ok-room.room c.args.group (c.in_ok-room.ensures (meaning_of s) (search (rules, room_is s c.in_ok-turn.turn c.in_ok-turn.ensures.ok_part))) in
    record { ok = rw p.capacity s.ok; ended = not_ended c.in_ok-room.room _; roomy = kept s (variants.Open c.args.group) _ c.in_ok-room.room added (vec_items c.push_reserved.new.self) p.items }

pub returns : goal.returns
returns c =
    let s = c.args.self.now in
    let added = open_added s c.in_ok-room.room c.args.group (c.in_ok-room.ensures (meaning_of s) (search (rules, room_is s c.in_ok-turn.turn c.in_ok-turn.ensures.ok_part))) in
    let q = done s (variants.Open c.args.group) _ c.in_ok-room.room added (vec_items c.push_reserved.new.self) c.push_reserved.ensures.items in
    record { answer = q.0; after = q.1 }
