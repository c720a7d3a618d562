use Rattle.std.proofs.Common.{rules, vec_items, refl, ap, ◌∙◌, Err}
use Rattle.std.proofs.lemmas.Result.{err_from_is_err_and}
use Rattle.record.specs.declared.Event.TheVariants as variants
use Rattle.record.specs.Zero.{zeroed_record}
use Rattle.sink.proofs.Calling.{open_refused}
use Rattle.group_table.specs.Table.{meaning_of}
use Rattle.group_table.proofs.Steps.{room_is, parent_within, last_within, within, open_added, child_done, opened}
use Rattle.group_table.proofs.table.calls.GroupTableSink.open.Goals as goal

-- that the room which is asked is the table's is searched for, so that no proof rests on how the code names it
pub returns-in_err-room : goal.returns-in_err-room
returns-in_err-room c =
    let t = c.args.self.now in
    let p = err_from_is_err_and c.from_residual-in_err-room.result c.from_residual-in_err-room.ensures.1 in
    let fails = c.in_err-room.ensures (meaning_of t) (search (rules, room_is t c.in_ok-turn.turn c.in_ok-turn.ensures.ok_part)) in
    let q = open_refused (meaning_of t) c.args.group c.in_err-room.field-0.0 c.from_residual-in_err-room.result (p.1 ∙ ap (λ f. Err f) p.2) fails in
    record { answer = q.0; after = q.1 }

pub pack-requires : goal.pack-requires
pack-requires c =
    let t = c.args.self.now in
    (open_added t c.in_ok-room.room c.args.group (c.in_ok-room.ensures (meaning_of t) (search (rules, room_is t c.in_ok-turn.turn c.in_ok-turn.ensures.ok_part)))).0

pub add_child-place-requires : goal.add_child-place-requires
add_child-place-requires c =
    let t = c.args.self.now in
    let turn = c.in_ok-turn.turn in
    let on = c.in_ok-turn.ensures.ok_part in
    let added = open_added t c.in_ok-room.room c.args.group (c.in_ok-room.ensures (meaning_of t) (search (rules, room_is t turn on))) in
    record { room = within t turn on (zeroed_record (variants.Open c.args.group)) _ c.in_ok-room.room added.1; parent = parent_within t turn on; last = last_within t turn on }

pub invariant_of-self : goal.invariant_of-self
invariant_of-self c =
    let t = c.args.self.now in
    let turn = c.in_ok-turn.turn in
    let on = c.in_ok-turn.ensures.ok_part in
    let added = open_added t c.in_ok-room.room c.args.group (c.in_ok-room.ensures (meaning_of t) (search (rules, room_is t turn on))) in
    let a = c.add_child-place in
    opened t turn on c.args.group _ c.in_ok-room.room added.1 c.pack.result c.pack.ensures (vec_items a.new.self.memory) a.new.self.count a.result a.ensures.count a.ensures.place a.ensures.memory

pub returns : goal.returns
returns c =
    let t = c.args.self.now in
    let turn = c.in_ok-turn.turn in
    let on = c.in_ok-turn.ensures.ok_part in
    let added = open_added t c.in_ok-room.room c.args.group (c.in_ok-room.ensures (meaning_of t) (search (rules, room_is t turn on))) in
    let a = c.add_child-place in
    let same = ap (λ g. zeroed_record (variants.Open g)) c.pack.ensures in
    let q = child_done t turn on (zeroed_record (variants.Open c.args.group)) _ c.in_ok-room.room added.1 (variants.Open c.pack.result) same refl (vec_items a.new.self.memory) a.new.self.count a.ensures.count a.ensures.memory in
    record { answer = q.0; after = q.1 }
