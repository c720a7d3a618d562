-- A bounded list: memory that a caller lends, and a count of the records of it that are in use.
use Rattle.std.specs.Prelude.{◌≡◌, ℕ, ◌+◌, ◌<◌, ◌≤◌, Bool, true, false, cond, List, [], ◌∷◌, ◌++◌, length, take, Ok, Err, Result, nat_lt, slice_set}
use Rattle.list.specs.declared.Full.{Full}

-- The records in use: the first `count` of those lent, and all of those lent where the count is larger.
-- So a count is read as at most the number lent.
abbrev pub used : {X : Type 0} → List X → ℕ → List X
used items count = take count items

-- The answer to an add: one more than the count where a place is free, full otherwise.
abbrev pub count_added : {X : Type 0} → List X → ℕ → Result ℕ Full
count_added items count = cond (nat_lt count (length items)) (Ok (count + 1)) (Err (record {}))

-- An accepted add: a place was free, so the count was read as it stands, and one more is answered. The new record was
-- written to the first free place and nothing else was. It is now the last of those in use, after all that were.
pub record Appended {X : Type 0} (before : List X) (count : ℕ) (x : X) (more : ℕ) (after : List X) : Type 0 where
  pub free : count < length before
  pub counted : more ≡ count + 1
  pub memory : after ≡ slice_set before count x
  pub list : used after more ≡ used before count ++ x ∷ []

-- A refused add: no place was free, and nothing was written.
pub record NoRoom {X : Type 0} (before : List X) (count : ℕ) (after : List X) : Type 0 where
  pub full : length before ≤ count
  pub memory : after ≡ before

abbrev pub Added : {X : Type 0} → List X → ℕ → X → Result ℕ Full → List X → Type 0
Added before count x (Ok more) after = Appended before count x more after
Added before count x (Err full) after = NoRoom before count after

-- A replacement at a place in use: the new record was written to that place and nothing else was.
pub record Overwritten {X : Type 0} (before : List X) (count i : ℕ) (x : X) (after : List X) : Type 0 where
  pub inside : i < length (used before count)
  pub memory : after ≡ slice_set before i x
  pub list : used after count ≡ slice_set (used before count) i x

-- A replacement past the records in use: nothing was written.
pub record NoRecord {X : Type 0} (before : List X) (count i : ℕ) (after : List X) : Type 0 where
  pub past : length (used before count) ≤ i
  pub memory : after ≡ before

abbrev pub Replaced : {X : Type 0} → List X → ℕ → ℕ → X → Bool → List X → Type 0
Replaced before count i x true after = Overwritten before count i x after
Replaced before count i x false after = NoRecord before count i after
