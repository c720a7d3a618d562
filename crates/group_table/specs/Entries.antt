-- The records that entries stand for.
use Rattle.std.specs.Prelude.{ℕ, ◌<◌, List, map, take, Some, None, Option, slice_index_or, slice_set}
use Rattle.record.specs.Zero.{zeroed_record}
use Rattle.record.specs.Records.{Record}
use Rattle.record.specs.declared.Event.{Event}
use Rattle.record.specs.declared.Event.TheVariants.{Open, Mark, Close}
use Rattle.group_table.specs.declared.packed.GroupBits.{GroupBits}
use Rattle.group_table.specs.declared.packed.MarkBits.{MarkBits}
use Rattle.group_table.specs.declared.entry.Entry.{Entry}
use Rattle.group_table.specs.Bits.{group_of, mark_of}

-- what an entry says, without its links
abbrev pub Item : Type 0
Item = Event GroupBits MarkBits

abbrev pub record_of : Item → Record
record_of Close = Close
record_of (Open g) = Open (group_of g)
record_of (Mark m) = Mark (mark_of m)

-- the id of the group that an entry opens, or 0
abbrev pub id_of : Item → ℕ
id_of Close = 0
id_of (Open g) = g.id
id_of (Mark m) = 0

-- the script of the first n entries: entry i is record i, with no sign on a zero
abbrev pub script_of : List Entry → ℕ → List Record
script_of es n = map (λ e. zeroed_record (record_of e.item)) (take n es)

abbrev pub blank : Entry
blank = record { item = Close; parent = None; first_child = None; next_sibling = None }

abbrev pub at : List Entry → ℕ → Entry
at es i = slice_index_or es i blank

-- ---- one entry more

-- a place within n entries, or none
abbrev pub Within : Option ℕ → ℕ → Type 0
Within None n = Unit {0}
Within (Some i) n = i < n

abbrev pub new_entry : Item → Option ℕ → Entry
new_entry item inside = record { item = item; parent = inside; first_child = None; next_sibling = None }

abbrev pub with_first : Entry → ℕ → Entry
with_first e i = record { item = e.item; parent = e.parent; first_child = Some i; next_sibling = e.next_sibling }

abbrev pub with_next : Entry → ℕ → Entry
with_next e i = record { item = e.item; parent = e.parent; first_child = e.first_child; next_sibling = Some i }

-- the child `new` tied to the last one before it, or else to its parent
abbrev pub tied : List Entry → Option ℕ → Option ℕ → ℕ → List Entry
tied es inside (Some i) new = slice_set es i (with_next (at es i) new)
tied es (Some i) None new = slice_set es i (with_first (at es i) new)
tied es None None new = es
