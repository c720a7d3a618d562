-- What is counted of a script of two parts. Assumes nothing.
use Rattle.std.proofs.Common.{◌≡◌, ◌+◌, ◌-◌, List, [], ◌∷◌, ◌++◌, length, refl, arith}
use Rattle.record.specs.Records.{Record}
use Rattle.record.specs.declared.Event.TheVariants.{Open, Mark, Close}
use Rattle.sink.specs.Script.{opens, closes, places, level}

pub opens_append : (s t : List Record) → opens (s ++ t) ≡ opens s + opens t
opens_append [] t = omega arith
opens_append (Open g ∷ s) t = rw (opens_append s t) (omega arith)
opens_append (Mark m ∷ s) t = opens_append s t
opens_append (Close ∷ s) t = opens_append s t

pub closes_append : (s t : List Record) → closes (s ++ t) ≡ closes s + closes t
closes_append [] t = omega arith
closes_append (Open g ∷ s) t = closes_append s t
closes_append (Mark m ∷ s) t = closes_append s t
closes_append (Close ∷ s) t = rw (closes_append s t) (omega arith)

pub places_append : (s t : List Record) → places (s ++ t) ≡ places s + places t
places_append [] t = omega arith
places_append (Open g ∷ s) t = rw (places_append s t) (omega arith)
places_append (Mark m ∷ s) t = rw (places_append s t) (omega arith)
places_append (Close ∷ s) t = places_append s t

-- each record has its place, and so has the close of each group that is open still
pub balance : (s : List Record) → length s + opens s ≡ places s + closes s
balance [] = refl
balance (Open g ∷ s) = omega (arith, balance s)
balance (Mark m ∷ s) = omega (arith, balance s)
balance (Close ∷ s) = omega (arith, balance s)

pub level_close : (s : List Record) → level (s ++ Close ∷ []) ≡ level s - 1
level_close s = simp (opens_append, closes_append) (omega arith)
