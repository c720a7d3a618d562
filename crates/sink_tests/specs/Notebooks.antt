-- What a notebook means, and what holds of one.
use Rattle.std.specs.Prelude.{◌≡◌, ℕ, ◌≤◌, Bool, List, map, length, Some, None, Option}
use Rattle.record.specs.Records.{Record}
use Rattle.record.specs.Zero.{zeroed_record}
use Rattle.sink.specs.Script.{opens, closes}
use Rattle.sink.specs.Meaning.{Meaning, Limit, limit_of, minus_one, most_places, unlayered}

abbrev pub limit_from : Option ℕ → Limit
limit_from (Some n) = limit_of n
limit_from None = minus_one

-- how many places can be used
abbrev pub allowance : Option ℕ → ℕ
allowance (Some n) = n
allowance None = 0

abbrev pub notebook_meaning : List Record → Bool → Option ℕ → Meaning
notebook_meaning rs t limit = unlayered (map zeroed_record rs) t (limit_from limit)

-- the places find room within the memory
abbrev pub Sound : ℕ → Option ℕ → Type 0
Sound cap limit = (allowance limit ≤ cap) × (allowance limit ≤ most_places)

-- the script has its places, and each of its groups is closed
abbrev pub Whole : List Record → Option ℕ → Type 0
Whole s limit = (length s ≤ allowance limit) × (opens s ≡ closes s)
