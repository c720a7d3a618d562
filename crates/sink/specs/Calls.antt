-- What each call of a sink answers, and what it makes of the meaning.
use Rattle.std.specs.Prelude.{ℕ, ◌+◌, ◌-◌, Bool, true, false, cond, not, List, [], ◌∷◌, ◌++◌, length, replicate, Some, None, Ok, Err, Option, Result, ◌==◌, nat_le}
use Rattle.refusal.specs.Order.{first_of, unless}
use Rattle.record.specs.declared.Group.{Group}
use Rattle.record.specs.declared.Mark.{Mark}
use Rattle.record.specs.Records.{Record}
use Rattle.record.specs.declared.Event.TheVariants as variants
use Rattle.record.specs.Good.{good_group, good_mark}
use Rattle.record.specs.Zero.{zeroed_group, zeroed_mark}
use Rattle.sink.specs.declared.fault.SinkFault.{SinkFault}
use Rattle.sink.specs.declared.fault.SinkFault.TheVariants.{OutOfTurn, NotGood, TooDeep, NoPlaces}
use Rattle.sink.specs.Script.{level, places}
use Rattle.sink.specs.Meaning.{Meaning, Limit, exceeds, most_open, rewritten}

-- ---- checks in their order

-- Each check is a test that says whether it fails, and the fault that it then gives.
abbrev pub Checks : Type 0
Checks = List (Bool × SinkFault)

-- what a call makes of the script, or why it is refused
abbrev pub Tried : Type 0
Tried = Result (List Record) SinkFault

abbrev pub then : Tried → (List Record → Tried) → Tried
then (Ok s) next = next s
then (Err f) next = Err f

-- an open fails where the most groups are open already, or where its two places pass the limit
abbrev pub room_checks : Limit → List Record → Checks
room_checks limit s = (nat_le most_open (level s), TooDeep) ∷ (exceeds (places s + 2) limit, NoPlaces) ∷ []

abbrev pub open_checks : Meaning → Group → Checks
open_checks m g = (not m.turn, OutOfTurn) ∷ (not (good_group g), NotGood) ∷ room_checks m.limit m.script

abbrev pub mark_checks : Meaning → Mark → Checks
mark_checks m k = (not m.turn, OutOfTurn) ∷ (not (good_mark k), NotGood) ∷ (exceeds (places m.script + 1) m.limit, NoPlaces) ∷ []

-- a close fails where no group beyond the base is open
abbrev pub close_checks : Meaning → Checks
close_checks m = (not m.turn, OutOfTurn) ∷ (nat_le (level m.script) (length m.base.groups), OutOfTurn) ∷ []

-- an end fails where one is
abbrev pub end_checks : Meaning → Checks
end_checks m = (not m.turn, OutOfTurn) ∷ (not (level m.script == length m.base.groups), OutOfTurn) ∷ []

-- the groups of a base opened one by one after a script
abbrev pub open_all : Limit → List Group → List Record → Tried
open_all limit [] s = Ok s
open_all limit (g ∷ gs) s = then (unless (first_of (room_checks limit s)) (s ++ variants.Open (zeroed_group g) ∷ [])) (open_all limit gs)

-- ---- the calls

pub record Outcome : Type 0 where
  pub result : Result (Unit {0}) SinkFault
  pub next : Meaning

abbrev pub with_script : Meaning → List Record → Bool → Meaning
with_script m s t = record { script = s; turn = t; limit = m.limit; base = m.base; rewriting = m.rewriting }

abbrev pub cleared : Meaning → Meaning
cleared m = with_script m [] false

-- a call that is refused leaves `kept`; any other leaves m with the new script and the turn t
abbrev pub settle : Meaning → Meaning → Bool → Tried → Outcome
settle kept m t (Ok s) = record { result = Ok tt; next = with_script m s t }
settle kept m t (Err f) = record { result = Err f; next = kept }

abbrev pub begin_step : Meaning → Outcome
begin_step m = settle (cleared m) m true (then (unless (first_of ((exceeds 0 m.limit, NoPlaces) ∷ [])) []) (open_all m.limit m.base.groups))

abbrev pub open_step : Meaning → Group → Outcome
open_step m g = settle m m true (unless (first_of (open_checks m g)) (m.script ++ variants.Open (rewritten m.rewriting g) ∷ []))

abbrev pub mark_step : Meaning → Mark → Outcome
mark_step m k = settle m m true (unless (first_of (mark_checks m k)) (m.script ++ variants.Mark (zeroed_mark k) ∷ []))

abbrev pub close_step : Meaning → Outcome
close_step m = settle m m true (unless (first_of (close_checks m)) (m.script ++ variants.Close ∷ []))

-- the groups of the base are closed
abbrev pub end_step : Meaning → Outcome
end_step m = settle m m false (unless (first_of (end_checks m)) (m.script ++ replicate (length m.base.groups) variants.Close))

-- how many groups are open beyond the base; none out of turn
abbrev pub depth_of : Meaning → Option ℕ
depth_of m = cond m.turn (Some (level m.script - length m.base.groups)) None
