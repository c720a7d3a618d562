-- What holds of the calls of every sink, and of whole runs of them.
use Rattle.std.specs.Prelude.{◌≡◌, ◌≤◌, true, false, ◌⊎◌, List, [], ◌∷◌, length, Ok, Err}
use Rattle.record.specs.declared.Group.{Group}
use Rattle.record.specs.declared.Mark.{Mark}
use Rattle.sink.specs.declared.fault.SinkFault.{SinkFault}
use Rattle.sink.specs.Script.{level, places}
use Rattle.sink.specs.Equal.{equal_group, equal_mark}
use Rattle.sink.specs.Meaning.{Meaning, exceeds}
use Rattle.sink.specs.Bounds.{Shallow}
use Rattle.sink.specs.Calls.{Outcome, cleared, begin_step, open_step, mark_step, close_step, end_step}

-- a call that may change a sink
pub data Call : Type 0 where
  clearing : Call
  beginning : Call
  opening : Group → Call
  marking : Mark → Call
  closing : Call
  ending : Call

abbrev pub step : Call → Meaning → Outcome
step clearing m = record { result = Ok tt; next = cleared m }
step beginning m = begin_step m
step (opening g) m = open_step m g
step (marking k) m = mark_step m k
step closing m = close_step m
step ending m = end_step m

-- what a refused call leaves: all as it was, but after a begin an empty script and no turn
abbrev pub left : Call → Meaning → Meaning
left clearing m = m
left beginning m = cleared m
left (opening g) m = m
left (marking k) m = m
left closing m = m
left ending m = m

-- the meaning after a list of calls, some refused
abbrev pub run : List Call → Meaning → Meaning
run [] m = m
run (call ∷ calls) m = run calls (step call m).next

-- not too many groups are open anywhere; the places are within the limit, unless nothing is there; in a turn the base is open
pub record Bounded (m : Meaning) : Type 0 where
  pub shallow : Shallow m.script
  pub within : (m.script ≡ []) ⊎ (exceeds (places m.script) m.limit ≡ false)
  pub base_open : m.turn ≡ true → length m.base.groups ≤ level m.script

-- ---- laws

abbrev pub CallsKeepLimitBaseAndRewriting : Type 0
CallsKeepLimitBaseAndRewriting =
    (call : Call) (m : Meaning) → let n = (step call m).next in (n.limit ≡ m.limit) × (n.base ≡ m.base) × (n.rewriting ≡ m.rewriting)

abbrev pub RefusedCallsChangeNothing : Type 0
RefusedCallsChangeNothing = (call : Call) (m : Meaning) (f : SinkFault) → (step call m).result ≡ Err f → (step call m).next ≡ left call m

abbrev pub EqualGroupsDoTheSame : Type 0
EqualGroupsDoTheSame = (m : Meaning) (g h : Group) → equal_group g h ≡ true → open_step m g ≡ open_step m h

abbrev pub EqualMarksDoTheSame : Type 0
EqualMarksDoTheSame = (m : Meaning) (j k : Mark) → equal_mark j k ≡ true → mark_step m j ≡ mark_step m k

-- whatever is called in whatever order
abbrev pub RunsStayBounded : Type 0
RunsStayBounded = (calls : List Call) (m : Meaning) → Bounded (run calls (cleared m))
