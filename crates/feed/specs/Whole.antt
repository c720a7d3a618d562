-- The script of an accepted feeding.
use Rattle.std.specs.Prelude.{List, ◌++◌, map}
use Rattle.record.specs.Records.{Record}
use Rattle.sink.specs.Meaning.{Meaning, entered}
use Rattle.sink.specs.Base.{base_opened, base_closed}

-- the base opened, the records with their groups rewritten, the base closed
abbrev pub whole_script : Meaning → List Record → List Record
whole_script m rs = base_opened m.base ++ (map (entered m.rewriting) rs ++ base_closed m.base)
