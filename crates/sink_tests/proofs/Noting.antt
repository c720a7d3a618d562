-- A notebook's calls do what its meaning says. Assumes nothing.
use Rattle.std.proofs.Common.{◌≡◌, ℕ, ◌+◌, ◌<◌, ◌≤◌, min, true, false, List, [], ◌∷◌, ◌++◌, map, length, Some, None, Ok, pos, is_some, vec_items, vec_capacity, Option, sym, refl, subst, arith}
use Rattle.std.specs.Option.{ForSome, ForNone}
use Rattle.std.proofs.lemmas.List.{append-nil, length-map, map_push}
use Rattle.record.specs.declared.Group.{Group}
use Rattle.record.specs.declared.Mark.{Mark}
use Rattle.record.specs.Records.{Record}
use Rattle.record.specs.declared.Event.TheVariants as variants
use Rattle.record.specs.Zero.{zeroed_record}
use Rattle.sink.specs.declared.room.Room.{Room}
use Rattle.sink.specs.Script.{opens, closes, places}
use Rattle.sink.specs.Meaning.{Meaning, most_places}
use Rattle.sink.specs.Calls.{Outcome, open_checks, mark_checks, close_checks, end_checks, open_step, mark_step, close_step, end_step, with_script}
use Rattle.sink.specs.Rooms.{IsRoomOf, Answers}
use Rattle.sink.proofs.Outcomes.{Is}
use Rattle.sink.proofs.Calling.{Passes, Adds, fits_in, open_adds, mark_adds, close_adds, end_accepted}
use Rattle.sink.proofs.Counting.{balance}
use Rattle.sink_tests.specs.declared.notebook.Notebook.{Notebook}
use Rattle.sink_tests.specs.Notebooks.{Whole, allowance, limit_from, notebook_meaning}

abbrev pub noted : Notebook → List Record
noted t = vec_items t.records

abbrev pub meaning_of : Notebook → Meaning
meaning_of t = notebook_meaning (noted t) (is_some t.turn) t.limit

pos_same : (a b : ℕ) → pos a ≡ pos b → a ≡ b
pos_same a b e = cc

-- a script without the signs of its zeros opens and closes as many groups
zeroed_opens : (rs : List Record) → opens (map zeroed_record rs) ≡ opens rs
zeroed_opens [] = refl
zeroed_opens (variants.Open g ∷ rs) = rw (zeroed_opens rs) refl
zeroed_opens (variants.Mark m ∷ rs) = zeroed_opens rs
zeroed_opens (variants.Close ∷ rs) = zeroed_opens rs

zeroed_closes : (rs : List Record) → closes (map zeroed_record rs) ≡ closes rs
zeroed_closes [] = refl
zeroed_closes (variants.Open g ∷ rs) = zeroed_closes rs
zeroed_closes (variants.Mark m ∷ rs) = zeroed_closes rs
zeroed_closes (variants.Close ∷ rs) = rw (zeroed_closes rs) refl

-- places that are within the limit are within the memory
allowed : (limit : Option ℕ) (used : ℕ) → allowance limit ≤ most_places → (limit_from limit).number ≡ pos used → used ≤ allowance limit
allowed (Some n) used most e = let f = pos_same (min n most_places) used e in omega (arith, f)
allowed None used most e = let z : ◌≡◌ {A = ℕ} 0 1 = cc in absurd (omega arith)

-- the room of a turn is that of the notebook in it
abbrev pub Roomy : List Record → Option ℕ → Option Room → Type 0
Roomy rs limit turn = ForSome turn (λ room. IsRoomOf room (notebook_meaning rs true limit))

pub not_ended : (room : Room) (P : Type 0) → ForNone (Some room) P
not_ended room P = λ e. let z : ◌≡◌ {A = ℕ} 0 1 = cc in absurd (omega arith)

roomy_turn : (rs : List Record) (limit : Option ℕ) (room : Room) → IsRoomOf room (notebook_meaning rs true limit) → Roomy rs limit (Some room)
roomy_turn rs limit room is = λ k e. let same : room ≡ k = cc in subst (λ (j : Room). IsRoomOf j (notebook_meaning rs true limit)) same is

module _ (t : Notebook) where
  pub room_is : (turn : Room) → t.turn ≡ Some turn → IsRoomOf turn (meaning_of t)
  room_is turn on = subst (λ (o : Option Room). IsRoomOf turn (notebook_meaning (noted t) (is_some o) t.limit)) (sym on) (t.roomy turn on)

  -- a call that adds a record, for which there is room then
  module _ (r : Record) (o : Outcome) (more : Room) (added : Adds (meaning_of t) (zeroed_record r) o more) where
    pub within : length (noted t) < vec_capacity t.records
    within =
        let s = map zeroed_record (noted t) in
        let used = allowed t.limit (places (s ++ zeroed_record r ∷ []) + more.places_left) t.ok.1 added.1.places_left in
        omega (arith, length-map (noted t) zeroed_record, fits_in (meaning_of t) (zeroed_record r) more added.1, used, t.ok.0)

    module _ (rs : List Record) (is : rs ≡ noted t ++ r ∷ []) where
      next_is : notebook_meaning rs true t.limit ≡ with_script (meaning_of t) (map zeroed_record (noted t) ++ zeroed_record r ∷ []) true
      next_is = rw (is, map_push zeroed_record (noted t) r) refl

      pub kept : Roomy rs t.limit (Some more)
      kept = roomy_turn rs t.limit more (rw next_is added.1)

      pub done : Is (Ok tt) (notebook_meaning rs true t.limit) o
      done = rw (added.0, next_is) (refl, refl)

  -- ---- what the sink's room says of the notebook

  module _ (more : Room) where
    pub open_added : (g : Group) → Answers (open_checks (meaning_of t) g) (open_step (meaning_of t) g) (Ok more) → Adds (meaning_of t) (zeroed_record (variants.Open g)) (open_step (meaning_of t) g) more
    open_added g told = (open_adds (map zeroed_record (noted t)) (is_some t.turn) (limit_from t.limit) more g told.0 told.1).1

    pub mark_added : (k : Mark) → Answers (mark_checks (meaning_of t) k) (mark_step (meaning_of t) k) (Ok more) → Adds (meaning_of t) (zeroed_record (variants.Mark k)) (mark_step (meaning_of t) k) more
    mark_added k told = (mark_adds (map zeroed_record (noted t)) (is_some t.turn) (limit_from t.limit) more k told.0 told.1).1

    pub close_added : Answers (close_checks (meaning_of t)) (close_step (meaning_of t)) (Ok more) → Adds (meaning_of t) variants.Close (close_step (meaning_of t)) more
    close_added told = (close_adds (map zeroed_record (noted t)) (is_some t.turn) (limit_from t.limit) more told.0 told.1).1

  -- ---- a turn that ends leaves the records

  pub ended : Passes (end_checks (meaning_of t)) → Is (Ok tt) (notebook_meaning (noted t) false t.limit) (end_step (meaning_of t))
  ended passed = rw ((end_accepted (meaning_of t) passed).1, append-nil (map zeroed_record (noted t))) (refl, refl)

  pub whole : (turn : Room) → t.turn ≡ Some turn → Passes (end_checks (meaning_of t)) → Whole (map zeroed_record (noted t)) t.limit
  whole turn on passed =
      let s = map zeroed_record (noted t) in
      let is = room_is turn on in
      let none = (end_accepted (meaning_of t) passed).0 in
      let used = allowed t.limit (places s + turn.places_left) t.ok.1 is.places_left in
      (omega (arith, balance s, used, none, is.open_groups), omega (arith, none, is.open_groups))
