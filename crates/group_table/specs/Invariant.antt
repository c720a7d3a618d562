-- What holds at all times of a table with n entries in use.
use Rattle.std.specs.Prelude.{◌≡◌, ℕ, ◌<◌, Bool, true, ◌&&◌, List, length, Option}
use Rattle.std.specs.List.{slice_get}
use Rattle.record.specs.Records.{Record}
use Rattle.sink.specs.declared.room.Room.{Room}
use Rattle.sink.specs.Script.{opens, closes}
use Rattle.sink.specs.Meaning.{Meaning, unlayered, limit_of}
use Rattle.sink.specs.Rooms.{IsRoomOf}
use Rattle.group_table.specs.declared.entry.Entry.{Entry}
use Rattle.group_table.specs.Entries.{at, script_of}
use Rattle.group_table.specs.Links.{same, is_child, last_below, around, first_child_of, next_sibling_of}

-- the last child before record n of the group that is open there
unfoldable pub last_child : List Record → ℕ → Option ℕ
last_child s n = last_below (λ m. is_child (slice_get s m) && same (around s m) (around s n)) n

-- `inside` is the innermost open group, and `last` its last child so far
abbrev pub Ends : List Entry → ℕ → Option ℕ → Option ℕ → Type 0
Ends es n inside last = (same inside (around (script_of es n) n) ≡ true) × (same last (last_child (script_of es n) n) ≡ true)

-- no base and no rewriting, and as many places as entries
abbrev pub meaning_with : List Entry → ℕ → Bool → Meaning
meaning_with es n turn = unlayered (script_of es n) turn (limit_of (length es))

-- each group is closed
abbrev pub AllClosed : List Entry → ℕ → Type 0
AllClosed es n = opens (script_of es n) ≡ closes (script_of es n)

-- a turn goes on: it has this room, and goes on after these two
abbrev pub GoesOn : List Entry → ℕ → Room → Option ℕ → Option ℕ → Type 0
GoesOn es n room inside last = IsRoomOf room (meaning_with es n true) × Ends es n inside last

-- the links of an entry are those of record i of the script
abbrev pub LinksOf : List Record → ℕ → Entry → Type 0
LinksOf s i e =
    (same e.parent (around s i) ≡ true) × (same e.first_child (first_child_of s i) ≡ true) × (same e.next_sibling (next_sibling_of s i) ≡ true)

abbrev pub Linked : List Entry → ℕ → Type 0
Linked es n = (i : ℕ) → i < n → LinksOf (script_of es n) i (at es i)
