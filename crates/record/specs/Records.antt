-- A record of a script: an event of groups and marks.
use Rattle.record.specs.declared.Event.{Event}
use Rattle.record.specs.declared.Group.{Group}
use Rattle.record.specs.declared.Mark.{Mark}

abbrev pub Record : Type 0
Record = Event Group Mark
