-- How deep a script may nest.
use Rattle.std.specs.Prelude.{ℕ, ◌≤◌, List, take}
use Rattle.record.specs.Records.{Record}
use Rattle.sink.specs.Script.{level}
use Rattle.sink.specs.Meaning.{most_open}

-- at no place of a script are more groups open than may be
abbrev pub Shallow : List Record → Type 0
Shallow s = (n : ℕ) → level (take n s) ≤ most_open
