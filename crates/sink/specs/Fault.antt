-- Each fault of a sink is one of the twelve refusals.
use Rattle.refusal.specs.declared.Refusal.{Refusal}
use Rattle.refusal.specs.declared.Refusal.TheVariants as refusals
use Rattle.sink.specs.declared.fault.SinkFault.{SinkFault}
use Rattle.sink.specs.declared.fault.SinkFault.TheVariants.{OutOfTurn, NotGood, TooDeep, NoPlaces}

abbrev pub refusal_of : SinkFault → Refusal
-- 11
refusal_of OutOfTurn = refusals.OutOfTurn
-- 4
refusal_of NotGood = refusals.BadValue
-- 7
refusal_of TooDeep = refusals.TooDeep
-- 10
refusal_of NoPlaces = refusals.SinkFull
