use Rattle.std.proofs.Common.{vec_items, ap, ◌∙◌, Err}
use Rattle.std.proofs.lemmas.Result.{err_from_is_err_and}
use Rattle.record.specs.declared.Event.TheVariants as variants
use Rattle.sink.proofs.Calling.{close_refused}
use Rattle.group_table.specs.Table.{meaning_of}
use Rattle.group_table.proofs.Steps.{room_is, within, close_added, some_inside, inside_before, close_done, closed}
use Rattle.group_table.proofs.table.calls.GroupTableSink.close.Goals as goal

pub returns-in_err-room : goal.returns-in_err-room
returns-in_err-room c =
    let t = c.args.self.now in
    let p = err_from_is_err_and c.from_residual-in_err-room.result c.from_residual-in_err-room.ensures.1 in
    let fails = c.in_err-room.ensures (meaning_of t) (room_is t c.in_ok-turn.turn c.in_ok-turn.ensures.ok_part) in
    let q = close_refused (meaning_of t) c.in_err-room.field-0.0 c.from_residual-in_err-room.result (p.1 ∙ ap (λ f. Err f) p.2) fails in
    record { answer = q.0; after = q.1 }

pub unwrap-group-requires : goal.unwrap-group-requires
unwrap-group-requires c =
    let t = c.args.self.now in
    let turn = c.in_ok-turn.turn in
    let on = c.in_ok-turn.ensures.ok_part in
    let added = close_added t c.in_ok-room.room (c.in_ok-room.ensures (meaning_of t) (room_is t turn on)) in
    some_inside t turn on _ c.in_ok-room.room added.1 added.0

pub parent_at-outside-requires : goal.parent_at-outside-requires
parent_at-outside-requires c =
    let t = c.args.self.now in
    let turn = c.in_ok-turn.turn in
    let on = c.in_ok-turn.ensures.ok_part in
    let added = close_added t c.in_ok-room.room (c.in_ok-room.ensures (meaning_of t) (room_is t turn on)) in
    inside_before t turn on _ c.in_ok-room.room added.1 c.unwrap-group.result c.unwrap-group.ensures

pub add-requires : goal.add-requires
add-requires c =
    let t = c.args.self.now in
    let turn = c.in_ok-turn.turn in
    let on = c.in_ok-turn.ensures.ok_part in
    let added = close_added t c.in_ok-room.room (c.in_ok-room.ensures (meaning_of t) (room_is t turn on)) in
    within t turn on variants.Close _ c.in_ok-room.room added.1

pub invariant_of-self : goal.invariant_of-self
invariant_of-self c =
    let t = c.args.self.now in
    let turn = c.in_ok-turn.turn in
    let on = c.in_ok-turn.ensures.ok_part in
    let added = close_added t c.in_ok-room.room (c.in_ok-room.ensures (meaning_of t) (room_is t turn on)) in
    let a = c.add in
    closed t turn on _ c.in_ok-room.room added.1 c.unwrap-group.result c.unwrap-group.ensures (vec_items a.new.self.memory) a.new.self.count c.parent_at-outside.result a.ensures.count c.parent_at-outside.ensures a.ensures.memory

pub returns : goal.returns
returns c =
    let t = c.args.self.now in
    let turn = c.in_ok-turn.turn in
    let on = c.in_ok-turn.ensures.ok_part in
    let added = close_added t c.in_ok-room.room (c.in_ok-room.ensures (meaning_of t) (room_is t turn on)) in
    let a = c.add in
    let q = close_done t turn on _ c.in_ok-room.room added.1 c.unwrap-group.result c.unwrap-group.ensures (vec_items a.new.self.memory) a.new.self.count a.ensures.count a.ensures.memory in
    record { answer = q.0; after = q.1 }
