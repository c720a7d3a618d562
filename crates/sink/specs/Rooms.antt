-- What a sink without layers counts in a turn.
use Rattle.std.specs.Prelude.{◌≡◌, ◌+◌, true, length, Some, None, pos, Result, MatchResult}
use Rattle.refusal.specs.Order.{first_of}
use Rattle.sink.specs.declared.fault.SinkFault.{SinkFault}
use Rattle.sink.specs.declared.room.Room.{Room}
use Rattle.sink.specs.Script.{opens, closes, places}
use Rattle.sink.specs.Meaning.{Meaning}
use Rattle.sink.specs.Calls.{Checks, Outcome}

-- In a sink of meaning m, which has no base and is in a turn, so many groups are open and so many places are left.
pub record IsRoomOf (room : Room) (m : Meaning) : Type 0 where
  pub in_turn : m.turn ≡ true
  pub no_base : length m.base.groups ≡ 0
  pub open_groups : opens m.script ≡ closes m.script + room.open_groups
  pub places_left : m.limit.number ≡ pos (places m.script + room.places_left)

-- The answer to a call that has these checks and this outcome: the fault of the first check that fails, or else the room that is there then.
abbrev pub Answers : Checks → Outcome → Result Room SinkFault → Type 0
Answers checks outcome result = MatchResult result (λ room. (first_of checks ≡ None) × IsRoomOf room outcome.next) (λ fault. first_of checks ≡ Some fault)
