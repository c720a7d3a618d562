-- What a group table means.
use Rattle.std.specs.Prelude.{List, vec_items, is_some}
use Rattle.record.specs.Records.{Record}
use Rattle.sink.specs.Meaning.{Meaning}
use Rattle.group_table.specs.declared.table.GroupTable.{GroupTable}
use Rattle.group_table.specs.Entries.{script_of}
use Rattle.group_table.specs.Invariant.{meaning_with}

-- entry n is record n
abbrev pub script : GroupTable → List Record
script t = script_of (vec_items t.entries.memory) t.entries.count

abbrev pub meaning_of : GroupTable → Meaning
meaning_of t = meaning_with (vec_items t.entries.memory) t.entries.count (is_some t.turn)
