-- What a sink owes, and knows, once a call's checks have spoken. Assumes nothing.
use Rattle.std.proofs.Common.{◌≡◌, ◌+◌, ◌<◌, Bool, true, false, cond, not, eqb, leb, List, [], ◌∷◌, ◌++◌, length, replicate, Some, None, Ok, Err, Option, Result, refl, ap, ◌∙◌, subst, arith}
use Rattle.std.proofs.lemmas.Bool.Decides.{nat_tests}
use Rattle.std.proofs.lemmas.Bool.{eqb-true, not-false}
use Rattle.std.proofs.lemmas.List.{length_push}
use Rattle.refusal.specs.Order.{first_of, unless}
use Rattle.record.specs.declared.Group.{Group}
use Rattle.record.specs.declared.Mark.{Mark}
use Rattle.record.specs.Records.{Record}
use Rattle.record.specs.declared.Event.TheVariants as variants
use Rattle.record.specs.Good.{good_group, good_mark}
use Rattle.record.specs.Zero.{zeroed_group, zeroed_mark, zeroed_record}
use Rattle.sink.specs.declared.fault.SinkFault.{SinkFault}
use Rattle.sink.specs.declared.fault.SinkFault.TheVariants.{OutOfTurn, NotGood}
use Rattle.sink.specs.Script.{places, level}
use Rattle.sink.specs.declared.room.Room.{Room}
use Rattle.sink.specs.Zeroed.{group_twice}
use Rattle.sink.specs.Meaning.{Meaning, Limit, unlayered, rewritten}
use Rattle.sink.specs.Calls.{Checks, Outcome, settle, with_script, open_checks, mark_checks, close_checks, end_checks, open_step, mark_step, close_step, end_step}
use Rattle.sink.specs.Rooms.{IsRoomOf}
use Rattle.sink.proofs.Outcomes.{Is, none_fails, unless_ok, unless_err}
use Rattle.sink.proofs.Counting.{balance}

abbrev pub Passes : Checks → Type 0
Passes checks = first_of checks ≡ None

abbrev pub FailsBy : Checks → SinkFault → Type 0
FailsBy checks f = first_of checks ≡ Some f

-- the second of the checks does not fail
second : (a b : Bool) (e f : SinkFault) (later : Option SinkFault) → cond a (Some e) (cond b (Some f) later) ≡ None → b ≡ false
second a b e f later none = (none_fails b f later (none_fails a e (cond b (Some f) later) none).1).0

module _ (m : Meaning) where
  call_refused : (t : Bool) (o : Option SinkFault) (s : List Record) (f : SinkFault) (r : Result (Unit {0}) SinkFault) → r ≡ Err f → o ≡ Some f → Is r m (settle m m t (unless o s))
  call_refused t o s f r was fails = rw (was, fails) (refl, refl)

  call_accepted : (t : Bool) (o : Option SinkFault) (s : List Record) → o ≡ None → settle m m t (unless o s) ≡ record { result = Ok tt; next = with_script m s t }
  call_accepted t o s passed = rw passed refl

  -- ---- an open

  pub open_refused : (g : Group) (f : SinkFault) (r : Result (Unit {0}) SinkFault) → r ≡ Err f → FailsBy (open_checks m g) f → Is r m (open_step m g)
  open_refused g f r was fails = call_refused true (first_of (open_checks m g)) _ f r was fails

  open_accepted : (g : Group) → Passes (open_checks m g) → (good_group g ≡ true) × (open_step m g ≡ record { result = Ok tt; next = with_script m (m.script ++ variants.Open (rewritten m.rewriting g) ∷ []) true })
  open_accepted g passed = (not-false (good_group g) (second (not m.turn) (not (good_group g)) OutOfTurn NotGood _ passed), call_accepted true (first_of (open_checks m g)) _ passed)

  -- ---- a mark

  pub mark_refused : (k : Mark) (f : SinkFault) (r : Result (Unit {0}) SinkFault) → r ≡ Err f → FailsBy (mark_checks m k) f → Is r m (mark_step m k)
  mark_refused k f r was fails = call_refused true (first_of (mark_checks m k)) _ f r was fails

  mark_accepted : (k : Mark) → Passes (mark_checks m k) → (good_mark k ≡ true) × (mark_step m k ≡ record { result = Ok tt; next = with_script m (m.script ++ variants.Mark (zeroed_mark k) ∷ []) true })
  mark_accepted k passed = (not-false (good_mark k) (second (not m.turn) (not (good_mark k)) OutOfTurn NotGood _ passed), call_accepted true (first_of (mark_checks m k)) _ passed)

  -- ---- a close

  pub close_refused : (f : SinkFault) (r : Result (Unit {0}) SinkFault) → r ≡ Err f → FailsBy (close_checks m) f → Is r m (close_step m)
  close_refused f r was fails = call_refused true (first_of (close_checks m)) _ f r was fails

  close_accepted : Passes (close_checks m) → (length m.base.groups < level m.script) × (close_step m ≡ record { result = Ok tt; next = with_script m (m.script ++ variants.Close ∷ []) true })
  close_accepted passed =
      let beyond : leb (level m.script) (length m.base.groups) ≡ false = second (not m.turn) (leb (level m.script) (length m.base.groups)) OutOfTurn OutOfTurn None passed in
      (grind (arith, nat_tests), call_accepted true (first_of (close_checks m)) _ passed)

  -- ---- an end

  pub end_refused : (f : SinkFault) (r : Result (Unit {0}) SinkFault) → r ≡ Err f → FailsBy (end_checks m) f → Is r m (end_step m)
  end_refused f r was fails = call_refused false (first_of (end_checks m)) _ f r was fails

  pub end_passes : (u : Unit {0}) → ◌≡◌ {A = Result (Unit {0}) SinkFault} (Ok u) (unless (first_of (end_checks m)) tt) → Passes (end_checks m)
  end_passes u e = unless_ok (first_of (end_checks m)) u e

  pub end_fails : (f : SinkFault) → ◌≡◌ {A = Result (Unit {0}) SinkFault} (Err f) (unless (first_of (end_checks m)) tt) → FailsBy (end_checks m) f
  end_fails f e = unless_err (first_of (end_checks m)) f e

  pub end_accepted : Passes (end_checks m) → (level m.script ≡ length m.base.groups) × (end_step m ≡ record { result = Ok tt; next = with_script m (m.script ++ replicate (length m.base.groups) variants.Close) false })
  end_accepted passed = (
    eqb-true (level m.script) (length m.base.groups) (not-false (eqb (level m.script) (length m.base.groups)) (second (not m.turn) (not (eqb (level m.script) (length m.base.groups))) OutOfTurn OutOfTurn None passed)),
    call_accepted false (first_of (end_checks m)) _ passed,
  )

-- ---- a sink without layers: its script with one record more, and the room that is then there

-- what an accepted call makes of it
abbrev pub Adds : Meaning → Record → Outcome → Room → Type 0
Adds m r o room = let next = with_script m (m.script ++ r ∷ []) true in (o ≡ record { result = Ok tt; next = next }) × IsRoomOf room next

-- the new record finds its place
pub fits_in : (m : Meaning) (r : Record) (room : Room) → IsRoomOf room (with_script m (m.script ++ r ∷ []) true) → length m.script < places (m.script ++ r ∷ []) + room.places_left
fits_in m r room is = omega (arith, length_push m.script r, balance (m.script ++ r ∷ []), is.open_groups)

module _ (s : List Record) (turn : Bool) (limit : Limit) (room : Room) where
  abbrev bare : Meaning
  bare = unlayered s turn limit

  adds : (r : Record) (o : Outcome) → o ≡ record { result = Ok tt; next = with_script bare (s ++ r ∷ []) true } → IsRoomOf room o.next → Adds bare r o room
  adds r o is roomy = (is, subst (λ (p : Outcome). IsRoomOf room p.next) is roomy)

  pub open_adds : (g : Group) → Passes (open_checks bare g) → IsRoomOf room (open_step bare g).next → (good_group g ≡ true) × Adds bare (zeroed_record (variants.Open g)) (open_step bare g) room
  open_adds g passed roomy =
      let p = open_accepted bare g passed in
      let as_given = ap (λ (h : Group). record { result = Ok tt; next = with_script bare (s ++ variants.Open h ∷ []) true }) (group_twice g) in
      (p.0, adds (variants.Open (zeroed_group g)) (open_step bare g) (p.1 ∙ as_given) roomy)

  pub mark_adds : (k : Mark) → Passes (mark_checks bare k) → IsRoomOf room (mark_step bare k).next → (good_mark k ≡ true) × Adds bare (zeroed_record (variants.Mark k)) (mark_step bare k) room
  mark_adds k passed roomy = let p = mark_accepted bare k passed in (p.0, adds (variants.Mark (zeroed_mark k)) (mark_step bare k) p.1 roomy)

  pub close_adds : Passes (close_checks bare) → IsRoomOf room (close_step bare).next → (0 < level s) × Adds bare variants.Close (close_step bare) room
  close_adds passed roomy = let p = close_accepted bare passed in (p.0, adds variants.Close (close_step bare) p.1 roomy)
