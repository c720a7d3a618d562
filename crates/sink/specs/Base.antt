-- A base as it stands in a script.
use Rattle.std.specs.Prelude.{List, map, length, replicate}
use Rattle.record.specs.declared.Group.{Group}
use Rattle.record.specs.Records.{Record}
use Rattle.record.specs.declared.Event.TheVariants.{Open, Close}
use Rattle.record.specs.Zero.{zeroed_group}
use Rattle.sink.specs.Meaning.{Base}

-- its groups as they stand in a script, from the outside in
abbrev pub own_groups : Base → List Group
own_groups base = map zeroed_group base.groups

abbrev pub base_opened : Base → List Record
base_opened base = map (λ g. Open g) (own_groups base)

abbrev pub base_closed : Base → List Record
base_closed base = replicate (length base.groups) Close
