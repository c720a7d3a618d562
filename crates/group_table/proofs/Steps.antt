-- What holds of a table holds of it after an open, a mark and a close, and so does what its meaning says. Assumes nothing.
use Rattle.std.proofs.Common.{◌≡◌, ℕ, suc, ◌+◌, ◌<◌, ◌≤◌, min, true, false, List, [], ◌∷◌, ◌++◌, length, take, set, Some, None, Ok, pos, is_some, IsSome, vec_items, Option, sym, refl, ap, ◌∙◌, subst, arith}
use Rattle.std.proofs.lemmas.List.{append-nil, take_all, length-set}
use Rattle.record.specs.Good.{good_group, good_mark}
use Rattle.record.specs.Zero.{zeroed_record, zeroed_group, zeroed_mark}
use Rattle.record.specs.declared.Group.{Group}
use Rattle.record.specs.declared.Mark.{Mark}
use Rattle.record.specs.Records.{Record}
use Rattle.record.specs.declared.Event.TheVariants as variants
use Rattle.sink.specs.declared.room.Room.{Room}
use Rattle.sink.specs.Meaning.{unlayered, limit_of, most_places}
use Rattle.sink.specs.Script.{opens, closes, places, level}
use Rattle.sink.specs.Calls.{Outcome, open_checks, mark_checks, close_checks, end_checks, open_step, mark_step, close_step, end_step, with_script}
use Rattle.sink.specs.Rooms.{IsRoomOf, Answers}
use Rattle.sink.proofs.Outcomes.{Is}
use Rattle.sink.proofs.Calling.{Passes, Adds, fits_in, open_adds, mark_adds, close_adds, end_accepted}
use Rattle.group_table.specs.declared.entry.Entry.{Entry}
use Rattle.group_table.specs.Entries.{Item, at, record_of, Within, new_entry, tied}
use Rattle.group_table.specs.Links.{is_child, around}
use Rattle.group_table.specs.Invariant.{last_child, meaning_with, GoesOn}
use Rattle.group_table.proofs.Scans.{same_true}
use Rattle.group_table.proofs.Levels.{around_before, none_open}
use Rattle.group_table.proofs.Nesting.{last_child_before, around_opened, around_marked, around_closed, last_child_opened, last_child_marked, last_child_closed}
use Rattle.group_table.proofs.Growing.{around_same}
use Rattle.group_table.specs.declared.packed.GroupBits.{GroupBits}
use Rattle.group_table.specs.declared.packed.MarkBits.{MarkBits}
use Rattle.group_table.specs.Bits.{group_of, mark_of}
use Rattle.group_table.specs.declared.table.Turn.{Turn}
use Rattle.group_table.specs.declared.table.GroupTable.{GroupTable}
use Rattle.group_table.specs.Table.{script, meaning_of}
use Rattle.group_table.proofs.Keeping.{Whole, not_ended, begun, turn_goes_on, length_script, script_push, script_tied, length_tied, script_child, child_linked, script_new, old_parent, close_linked, record_at, before_at, ends_are}

abbrev pub held : GroupTable → List Entry
held t = vec_items t.entries.memory

pos_same : (a b : ℕ) → pos a ≡ pos b → a ≡ b
pos_same a b e = cc

module _ (t : GroupTable) (turn : Turn) (on : t.turn ≡ Some turn) where
  abbrev es : List Entry
  es = held t

  abbrev n : ℕ
  n = t.entries.count

  abbrev s : List Record
  s = script t

  len : length s ≡ n
  len = length_script es n (omega (arith, t.within))

  goes_on : GoesOn es n turn.room turn.inside turn.last
  goes_on = t.going turn on

  pub room_is : IsRoomOf turn.room (meaning_of t)
  room_is = subst (λ (o : Option Turn). IsRoomOf turn.room (meaning_with es n (is_some o))) (sym on) goes_on.0

  parent_is : turn.inside ≡ around s n
  parent_is = same_true _ _ goes_on.1.0

  last_is : turn.last ≡ last_child s n
  last_is = same_true _ _ goes_on.1.1

  nested : closes s ≤ opens s
  nested = omega (arith, goes_on.0.open_groups)

  -- ---- places that a child is tied to

  pub parent_within : Within turn.inside (length es)
  parent_within = go turn.inside parent_is
    where
      go : (o : Option ℕ) → o ≡ around s n → Within o (length es)
      go None e = tt
      go (Some g) e = omega (arith, t.within, around_before s n g (sym e))

  pub last_within : Within turn.last (length es)
  last_within = go turn.last last_is
    where
      go : (o : Option ℕ) → o ≡ last_child s n → Within o (length es)
      go None e = tt
      go (Some i) e = omega (arith, t.within, last_child_before s n i (sym e))

  -- ---- a call that adds a record, for which there is room then

  module _ (r : Record) (o : Outcome) (more : Room) (added : Adds (meaning_of t) r o more) where
    pub within : n < min (length es) most_places
    within =
        let limit : min (length es) most_places ≡ places (s ++ r ∷ []) + more.places_left = pos_same _ _ added.1.places_left in
        omega (arith, len, limit, fits_in (meaning_of t) r more added.1)

    inside_memory : n < length es
    inside_memory = omega (arith, within)

    pushed : (e : Entry) → zeroed_record (record_of e.item) ≡ r → meaning_with (set es n e) (n + 1) true ≡ with_script (meaning_of t) (s ++ r ∷ []) true
    pushed e same = rw (script_push es n e inside_memory, length-set es n e, same) refl

    module _ (item : Item) (same : zeroed_record (record_of item) ≡ r) (child : is_child (Some r) ≡ true) where
      abbrev with_child : List Entry
      with_child = tied (set es n (new_entry item turn.inside)) turn.inside turn.last n

      child_same : is_child (Some (zeroed_record (record_of item))) ≡ true
      child_same = rw same child

      child_meaning : meaning_with with_child (n + 1) true ≡ with_script (meaning_of t) (s ++ r ∷ []) true
      child_meaning =
          let old = set es n (new_entry item turn.inside) in
          rw (script_tied old n turn.inside turn.last (n + 1), length_tied old n turn.inside turn.last) (pushed (new_entry item turn.inside) same)

      child_whole : (inside last : Option ℕ) → around (s ++ r ∷ []) (suc n) ≡ inside → last_child (s ++ r ∷ []) (suc n) ≡ last → Whole with_child (n + 1) (Some (record { room = more; inside = inside; last = last }))
      child_whole inside last a l =
          let script_is : s ++ zeroed_record (record_of item) ∷ [] ≡ s ++ r ∷ [] = ap (λ (k : Record). s ++ k ∷ []) same in
          record {
            within = rw (length_tied (set es n (new_entry item turn.inside)) n turn.inside turn.last, length-set es n (new_entry item turn.inside)) (omega (arith, within));
            going = turn_goes_on with_child (n + 1) (record { room = more; inside = inside; last = last }) (
              rw child_meaning added.1,
              ends_are with_child n (s ++ r ∷ []) inside last (script_child es n inside_memory t.linked item turn.inside turn.last parent_is last_is ∙ script_is) a l,
            );
            ended = not_ended (record { room = more; inside = inside; last = last }) _;
            linked = child_linked es n inside_memory t.linked item turn.inside turn.last parent_is last_is child_same;
          }

      -- the same of the table as the code leaves it
      module _ (es' : List Entry) (n' : ℕ) (longer : n' ≡ n + 1) (is : es' ≡ with_child) where
        pub child_done : Is (Ok tt) (meaning_with es' n' true) o
        child_done = rw (added.0, is, longer, child_meaning) (refl, refl)

  -- an open
  module _ (g : Group) (o : Outcome) (more : Room) (added : Adds (meaning_of t) (zeroed_record (variants.Open g)) o more) where
    pub opened : (bits : GroupBits) → group_of bits ≡ g → (es' : List Entry) (n' place : ℕ) → n' ≡ n + 1 → place ≡ n → es' ≡ tied (set es n (new_entry (variants.Open bits) turn.inside)) turn.inside turn.last n
        → Whole es' n' (Some (record { room = more; inside = Some place; last = None }))
    opened bits value es' n' place longer there is =
        let r = zeroed_record (variants.Open g) in
        let e = before_at s n len r in
        let at_n = around_opened (s ++ r ∷ []) n _ (record_at s n len r) (omega (arith, ap closes e, ap opens e, nested)) in
        rw (is, longer, there) (child_whole r o more added (variants.Open bits) (ap (λ (h : Group). variants.Open (zeroed_group h)) value) refl (Some n) None at_n (last_child_opened (s ++ r ∷ []) n at_n))

  -- a mark
  module _ (k : Mark) (o : Outcome) (more : Room) (added : Adds (meaning_of t) (zeroed_record (variants.Mark k)) o more) where
    pub marked : (bits : MarkBits) → mark_of bits ≡ k → (es' : List Entry) (n' place : ℕ) → n' ≡ n + 1 → place ≡ n → es' ≡ tied (set es n (new_entry (variants.Mark bits) turn.inside)) turn.inside turn.last n
        → Whole es' n' (Some (record { room = more; inside = turn.inside; last = Some place }))
    marked bits value es' n' place longer there is =
        let r = zeroed_record (variants.Mark k) in
        let at_n = record_at s n len r in
        rw (is, longer, there) (child_whole r o more added (variants.Mark bits) (ap (λ (j : Mark). variants.Mark (zeroed_mark j)) value) refl turn.inside (Some n)
        (around_marked (s ++ r ∷ []) n _ at_n ∙ around_same s r n (omega (arith, len)) ∙ sym parent_is)
        (last_child_marked (s ++ r ∷ []) n _ at_n))

  -- a close
  module _ (o : Outcome) (more : Room) (added : Adds (meaning_of t) variants.Close o more) where
    -- where a group is open there is one around
    pub some_inside : 0 < level s → IsSome turn.inside
    some_inside some = go turn.inside parent_is
      where
        go : (p : Option ℕ) → p ≡ around s n → IsSome p
        go (Some g) e = refl
        go None e =
            let all : take n s ≡ s = take_all n s (omega (arith, len)) in
            let same : level (take n s) ≡ level s = ap level all in
            let none : level (take n s) ≡ 0 = none_open s n (sym e) in
            absurd (omega arith)

    module _ (g : ℕ) (inside : turn.inside ≡ Some g) where
      at_g : around s n ≡ Some g
      at_g = sym parent_is ∙ inside

      pub inside_before : g < length es
      inside_before = omega (arith, t.within, around_before s n g at_g)

      abbrev with_close : List Entry
      with_close = set es n (new_entry variants.Close (Some g))

      pub close_done : (es' : List Entry) (n' : ℕ) → n' ≡ n + 1 → es' ≡ with_close → Is (Ok tt) (meaning_with es' n' true) o
      close_done es' n' longer is = rw (added.0, is, longer, pushed variants.Close o more added (new_entry variants.Close (Some g)) refl) (refl, refl)

      closed_at : Whole with_close (n + 1) (Some (record { room = more; inside = (at es g).parent; last = Some g }))
      closed_at =
          let room_for : n < min (length es) most_places = within variants.Close o more added in
          let in_memory : n < length es = omega (arith, room_for) in
          let longer_script = s ++ variants.Close ∷ [] in
          let closes_here = record_at s n len variants.Close in
          let around_n : around longer_script n ≡ Some g = around_same s variants.Close n (omega (arith, len)) ∙ at_g in
          let before = around_before s n g at_g in
          record {
            within = rw (length-set es n (new_entry variants.Close (Some g))) (omega (arith, room_for));
            going = turn_goes_on with_close (n + 1) (record { room = more; inside = (at es g).parent; last = Some g }) (
              rw (pushed variants.Close o more added (new_entry variants.Close (Some g)) refl) added.1,
              ends_are with_close n longer_script (at es g).parent (Some g) (script_new es n in_memory t.linked variants.Close (Some g))
                  (around_closed longer_script n g closes_here around_n ∙ around_same s variants.Close g (omega (arith, len, before)) ∙ sym (old_parent es n in_memory t.linked g before))
                  (last_child_closed longer_script n g closes_here around_n),
            );
            ended = not_ended (record { room = more; inside = (at es g).parent; last = Some g }) _;
            linked = close_linked es n in_memory t.linked (Some g) (sym at_g);
          }

      pub closed : (es' : List Entry) (n' : ℕ) (outside : Option ℕ) → n' ≡ n + 1 → outside ≡ (at es g).parent → es' ≡ with_close → Whole es' n' (Some (record { room = more; inside = outside; last = Some g }))
      closed es' n' outside longer there is = rw (is, longer, there) closed_at

-- ---- what the sink's room says of the table

module _ (t : GroupTable) (more : Room) where
  pub open_added : (g : Group) → Answers (open_checks (meaning_of t) g) (open_step (meaning_of t) g) (Ok more) → (good_group g ≡ true) × Adds (meaning_of t) (zeroed_record (variants.Open g)) (open_step (meaning_of t) g) more
  open_added g told = open_adds (script t) (is_some t.turn) (limit_of (length (held t))) more g told.0 told.1

  pub mark_added : (k : Mark) → Answers (mark_checks (meaning_of t) k) (mark_step (meaning_of t) k) (Ok more) → (good_mark k ≡ true) × Adds (meaning_of t) (zeroed_record (variants.Mark k)) (mark_step (meaning_of t) k) more
  mark_added k told = mark_adds (script t) (is_some t.turn) (limit_of (length (held t))) more k told.0 told.1

  pub close_added : Answers (close_checks (meaning_of t)) (close_step (meaning_of t)) (Ok more) → (0 < level (script t)) × Adds (meaning_of t) variants.Close (close_step (meaning_of t)) more
  close_added told = close_adds (script t) (is_some t.turn) (limit_of (length (held t))) more told.0 told.1

-- a turn begins where the script is empty
pub begins : (t : GroupTable) (room : Room) (places : ℕ) → script t ≡ [] → places ≡ length (held t) → IsRoomOf room (unlayered [] true (limit_of places))
    → Whole (held t) t.entries.count (Some (record { room = room; inside = None; last = None }))
begins t room places empty is roomy =
    let none : t.entries.count ≡ 0 = omega (arith, ap length empty, length_script (held t) t.entries.count (omega (arith, t.within))) in
    rw none (begun (held t) room (rw (← is) roomy))

-- a turn that ends leaves the entries
pub end_done : (t : GroupTable) → Passes (end_checks (meaning_of t)) → Is (Ok tt) (meaning_with (held t) t.entries.count false) (end_step (meaning_of t))
end_done t passed = rw ((end_accepted (meaning_of t) passed).1, append-nil (script t)) (refl, refl)

pub ended : (t : GroupTable) (turn : Turn) → t.turn ≡ Some turn → Passes (end_checks (meaning_of t)) → Whole (held t) t.entries.count None
ended t turn on passed =
    let none = (end_accepted (meaning_of t) passed).0 in
    let counted = (room_is t turn on).open_groups in
    record { within = t.within; going = λ u e. let z : ◌≡◌ {A = ℕ} 0 1 = cc in absurd (omega arith); ended = λ e. omega (arith, none, counted); linked = t.linked }
