-- What a sink means.
use Rattle.std.specs.Prelude.{◌≡◌, ℕ, min, Bool, true, List, [], ℤ, pos, negsuc, int_le, int_lt, refl}
use Rattle.std.proofs.Math.Nat.{min-le_right}
use Rattle.std.specs.List.{AllByRecursion}
use Rattle.std.proofs.lemmas.Bool.{le-leb}
use Rattle.record.specs.declared.Group.{Group}
use Rattle.record.specs.Records.{Record}
use Rattle.record.specs.declared.Event.TheVariants.{Open, Mark, Close}
use Rattle.record.specs.Good.{good_group}
use Rattle.record.specs.Zero.{zeroed_group, zeroed_mark}

-- no limit is above this
abbrev pub most_places : ℕ
most_places = 65535

-- at most so many groups are open at once, the base included
abbrev pub most_open : ℕ
most_open = 112

-- How many places a script may use. It may be -1: then no script fits, not even the empty one.
pub record Limit : Type 0 where
  pub number : ℤ
  pub bounded : int_le number (pos most_places) ≡ true

-- the limit of a memory with n places
abbrev pub limit_of : ℕ → Limit
limit_of n = record { number = pos (min n most_places); bounded = le-leb (min n most_places) most_places (min-le_right n most_places) }

abbrev pub minus_one : Limit
minus_one = record { number = negsuc 0; bounded = refl }

-- that many places are more than the limit has
abbrev pub exceeds : ℕ → Limit → Bool
exceeds n limit = int_lt limit.number (pos n)

-- The groups that a sink opens itself, from the outside in. All are good.
pub record Base : Type 0 where
  pub groups : List Group
  pub good : AllByRecursion (λ g. good_group g ≡ true) groups

-- What a sink makes of the groups that it is given: of a good one a good one.
pub record Rewriting : Type 0 where
  pub apply : Group → Group
  pub good : (g : Group) → good_group g ≡ true → good_group (apply g) ≡ true

-- `limit`, `base` and `rewriting` are the sink's for good; its calls change the script and the turn.
pub record Meaning : Type 0 where
  pub script : List Record
  pub turn : Bool
  pub limit : Limit
  pub base : Base
  pub rewriting : Rewriting

-- A group as it enters the script: rewritten, with no sign on a zero before or after. So groups that compare equal enter as one.
abbrev pub rewritten : Rewriting → Group → Group
rewritten r g = zeroed_group (r.apply (zeroed_group g))

-- a record as it enters the script
abbrev pub entered : Rewriting → Record → Record
entered r (Open g) = Open (rewritten r g)
entered r (Mark m) = Mark (zeroed_mark m)
entered r Close = Close

-- ---- a sink without layers: no base, and groups as they are given

abbrev pub no_base : Base
no_base = record { groups = []; good = tt }

abbrev pub as_given : Rewriting
as_given = record { apply = λ g. g; good = λ g is_good. is_good }

abbrev pub unlayered : List Record → Bool → Limit → Meaning
unlayered s t limit = record { script = s; turn = t; limit = limit; base = no_base; rewriting = as_given }
