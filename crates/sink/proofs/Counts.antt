-- What a sink without layers counts, after a call that no check refuses. Assumes nothing.
use Rattle.std.proofs.Common.{◌≡◌, ℕ, ◌+◌, ◌-◌, ◌≤◌, Bool, true, false, not, leb, ltb, pos, [], ◌∷◌, ◌++◌, length, None, Ok, Result, Option, sym, refl, ap, ◌∙◌, arith}
use Rattle.std.proofs.lemmas.Bool.Decides.{nat_tests}
use Rattle.std.proofs.lemmas.Bool.{le-ltb, not-false}
use Rattle.refusal.specs.Order.{first_of, unless}
use Rattle.record.specs.declared.Group.{Group}
use Rattle.record.specs.declared.Mark.{Mark}
use Rattle.record.specs.Records.{Record}
use Rattle.record.specs.declared.Event.TheVariants as variants
use Rattle.record.specs.Good.{good_group, good_mark}
use Rattle.record.specs.Zero.{zeroed_mark}
use Rattle.sink.specs.declared.fault.SinkFault.{SinkFault}
use Rattle.sink.specs.declared.fault.SinkFault.TheVariants.{NotGood, TooDeep, NoPlaces}
use Rattle.sink.specs.declared.room.Room.{Room}
use Rattle.sink.specs.Script.{opens, closes, places, level}
use Rattle.sink.specs.Meaning.{Meaning, most_open, exceeds, rewritten}
use Rattle.sink.specs.Calls.{Checks, settle, with_script, open_checks, mark_checks, close_checks, open_step, mark_step, close_step}
use Rattle.sink.specs.Rooms.{IsRoomOf}
use Rattle.sink.proofs.Counting.{opens_append, closes_append, places_append}
use Rattle.sink.proofs.Outcomes.{unless_ok, none_fails}

-- no check of the list refused
abbrev pub Passed : Unit {0} → Checks → Type 0
Passed u checks = ◌≡◌ {A = Result (Unit {0}) SinkFault} (Ok u) (unless (first_of checks) tt)

module _ (room : Room) (m : Meaning) (is : IsRoomOf room m) where
  -- the script with one record more
  grown : (r : Record) (more : Room) → opens m.script + opens (r ∷ []) ≡ closes m.script + closes (r ∷ []) + more.open_groups
      → places m.script + room.places_left ≡ places m.script + places (r ∷ []) + more.places_left → IsRoomOf more (with_script m (m.script ++ r ∷ []) true)
  grown r more count used = record {
    in_turn = refl;
    no_base = is.no_base;
    open_groups = omega (arith, opens_append m.script (r ∷ []), closes_append m.script (r ∷ []), count);
    places_left = is.places_left ∙ ap pos (omega (arith, places_append m.script (r ∷ []), used));
  }

  accepted : (r : Record) (more : Room) (o : Option SinkFault) → o ≡ None → opens m.script + opens (r ∷ []) ≡ closes m.script + closes (r ∷ []) + more.open_groups
      → places m.script + room.places_left ≡ places m.script + places (r ∷ []) + more.places_left
      → (o ≡ None) × IsRoomOf more (settle m m true (unless o (m.script ++ r ∷ []))).next
  accepted r more o none count used = (none, rw none (grown r more count used))

  fits : (k : ℕ) → k ≤ room.places_left → exceeds (places m.script + k) m.limit ≡ false
  fits k enough = rw is.places_left (le-ltb (places m.script + room.places_left) (places m.script + k) (omega arith))

  -- the checks that a sink without layers makes of its counts are those of the call
  pub opened : (g : Group) (good : Bool) (u : Unit {0}) → good ≡ good_group g
      → Passed u ((not good, NotGood) ∷ (leb most_open room.open_groups, TooDeep) ∷ (ltb room.places_left 2, NoPlaces) ∷ [])
      → (first_of (open_checks m g) ≡ None) × IsRoomOf (record { open_groups = room.open_groups + 1; places_left = room.places_left - 2 }) (open_step m g).next
  opened g good u is_good passed =
      let room_last : Checks = (ltb room.places_left 2, NoPlaces) ∷ [] in
      let room_both : Checks = (leb most_open room.open_groups, TooDeep) ∷ room_last in
      let first : (not good ≡ false) × (first_of room_both ≡ None) = none_fails (not good) NotGood (first_of room_both) (unless_ok (first_of ((not good, NotGood) ∷ room_both)) u passed) in
      let second : (leb most_open room.open_groups ≡ false) × (first_of room_last ≡ None) = none_fails (leb most_open room.open_groups) TooDeep (first_of room_last) first.1 in
      let third : (ltb room.places_left 2 ≡ false) × (◌≡◌ {A = Option SinkFault} None None) = none_fails (ltb room.places_left 2) NoPlaces None second.1 in
      let given : good_group g ≡ true = sym is_good ∙ not-false good first.0 in
      let shallow : leb most_open (level m.script) ≡ false = grind (arith, nat_tests, is.open_groups, second.0) in
      let enough : 2 ≤ room.places_left = grind (arith, nat_tests, third.0) in
      let none : first_of (open_checks m g) ≡ None = rw (is.in_turn, given, shallow, fits 2 enough) refl in
      accepted (variants.Open (rewritten m.rewriting g)) _ (first_of (open_checks m g)) none (omega (arith, is.open_groups)) (omega (arith, enough))

  pub marked : (k : Mark) (good : Bool) (u : Unit {0}) → good ≡ good_mark k → Passed u ((not good, NotGood) ∷ (ltb room.places_left 1, NoPlaces) ∷ [])
      → (first_of (mark_checks m k) ≡ None) × IsRoomOf (record { open_groups = room.open_groups; places_left = room.places_left - 1 }) (mark_step m k).next
  marked k good u is_good passed =
      let room_last : Checks = (ltb room.places_left 1, NoPlaces) ∷ [] in
      let first : (not good ≡ false) × (first_of room_last ≡ None) = none_fails (not good) NotGood (first_of room_last) (unless_ok (first_of ((not good, NotGood) ∷ room_last)) u passed) in
      let second : (ltb room.places_left 1 ≡ false) × (◌≡◌ {A = Option SinkFault} None None) = none_fails (ltb room.places_left 1) NoPlaces None first.1 in
      let given : good_mark k ≡ true = sym is_good ∙ not-false good first.0 in
      let enough : 1 ≤ room.places_left = grind (arith, nat_tests, second.0) in
      let none : first_of (mark_checks m k) ≡ None = rw (is.in_turn, given, fits 1 enough) refl in
      accepted (variants.Mark (zeroed_mark k)) _ (first_of (mark_checks m k)) none (omega (arith, is.open_groups)) (omega (arith, enough))

  pub closed : (room.open_groups ≡ 0 → ⊥) → (first_of (close_checks m) ≡ None) × IsRoomOf (record { open_groups = room.open_groups - 1; places_left = room.places_left }) (close_step m).next
  closed some =
      let beyond : leb (level m.script) (length m.base.groups) ≡ false = grind (arith, nat_tests, is.open_groups, is.no_base, some) in
      let none : first_of (close_checks m) ≡ None = rw (is.in_turn, beyond) refl in
      accepted variants.Close _ (first_of (close_checks m)) none (omega (arith, is.open_groups, some)) (omega arith)
