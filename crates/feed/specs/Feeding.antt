-- What feeding a list of records to a sink answers, and what it makes of the sink's meaning.
use Rattle.std.specs.Prelude.{ℕ, suc, List, [], ◌∷◌, Ok, Err, Result}
use Rattle.record.specs.Records.{Record}
use Rattle.record.specs.declared.Event.TheVariants as variants
use Rattle.sink.specs.declared.fault.SinkFault.{SinkFault}
use Rattle.sink.specs.Meaning.{Meaning}
use Rattle.sink.specs.Calls.{Outcome, cleared, begin_step, open_step, mark_step, close_step, end_step}
use Rattle.feed.specs.declared.FeedFault.{FeedFault}
use Rattle.feed.specs.declared.Stage.{Stage}
use Rattle.feed.specs.declared.Stage.TheVariants as stages

abbrev pub at_stage : Stage → SinkFault → FeedFault
at_stage stage fault = record { stage = stage; fault = fault }

pub record Feeding : Type 0 where
  pub result : Result (Unit {0}) FeedFault
  pub next : Meaning

-- the call that a record asks for
abbrev pub record_step : Meaning → Record → Outcome
record_step m (variants.Open g) = open_step m g
record_step m (variants.Mark k) = mark_step m k
record_step m variants.Close = close_step m

-- the rest goes on from an accepted call; a refused one ends all, and the sink is cleared
abbrev pub go_on : Stage → Result (Unit {0}) SinkFault → Meaning → (Meaning → Feeding) → Feeding
go_on stage (Ok u) m rest = rest m
go_on stage (Err fault) m rest = record { result = Err (at_stage stage fault); next = cleared m }

abbrev pub after : Stage → Outcome → (Meaning → Feeding) → Feeding
after stage o rest = go_on stage o.result o.next rest

-- the records from place i on, and the end
unfoldable pub fed_from : ℕ → List Record → Meaning → Feeding
fed_from i [] m = after stages.End (end_step m) (λ n. record { result = Ok tt; next = n })
fed_from i (r ∷ rs) m = after (stages.Record i) (record_step m r) (fed_from (suc i) rs)

-- the begin, each record in its order, and the end
abbrev pub fed : Meaning → List Record → Feeding
fed m rs = after stages.Begin (begin_step m) (fed_from 0 rs)

-- the sink after an answer: as it is, or cleared
abbrev pub as_left : Result (Unit {0}) FeedFault → Meaning → Meaning
as_left (Ok u) m = m
as_left (Err f) m = cleared m
