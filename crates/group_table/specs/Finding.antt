-- The group with an id.
use Rattle.std.specs.Prelude.{ℕ, cond, List, None, Option, ◌==◌}
use Rattle.list.specs.Places.{place_of}
use Rattle.record.specs.Records.{Record}
use Rattle.record.specs.declared.Event.TheVariants.{Open, Mark, Close}

-- the id of the group that a record opens; 0, which is no id, where it opens none
abbrev pub opened_id : Record → ℕ
opened_id (Open g) = g.id
opened_id (Mark m) = 0
opened_id Close = 0

-- the first record that opens a group with the id
unfoldable pub group_with : List Record → ℕ → Option ℕ
group_with s id = cond (id == 0) None (place_of opened_id id s)
