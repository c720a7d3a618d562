-- Which lists of records a sink takes.
use Rattle.std.specs.Prelude.{◌≡◌, true, false, List, map}
use Rattle.std.specs.List.{AllByRecursion}
use Rattle.picture.specs.Script.{Event, Script, Balanced}
use Rattle.picture.specs.Script.Event.{opened, marked, closed}
use Rattle.record.specs.declared.Group.{Group}
use Rattle.record.specs.declared.Mark.{Mark}
use Rattle.record.specs.Records.{Record}
use Rattle.record.specs.declared.Event.TheVariants as variants
use Rattle.record.specs.Good.{good_record}
use Rattle.sink.specs.Script.{places}
use Rattle.sink.specs.Meaning.{Meaning, exceeds}
use Rattle.sink.specs.Bounds.{Shallow}
use Rattle.feed.specs.Whole.{whole_script}

-- a record as an event of a script
abbrev pub event_of : Record → Event Group Mark
event_of (variants.Open g) = opened g
event_of (variants.Mark m) = marked m
event_of variants.Close = closed

abbrev pub events : List Record → Script Group Mark
events rs = map event_of rs

-- A sink takes just the lists of which this holds.
pub record Accepts (m : Meaning) (rs : List Record) : Type 0 where
  -- every group and every mark is good
  pub good : AllByRecursion (λ r. good_record r ≡ true) rs
  -- each open has its close, and no close is without its open
  pub balanced : Balanced (events rs)
  -- with the base, not too many groups are open at once
  pub shallow : Shallow (whole_script m rs)
  -- with the base, the places are within the limit
  pub within : exceeds (places (whole_script m rs)) m.limit ≡ false
