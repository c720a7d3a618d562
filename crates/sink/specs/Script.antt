-- A script is a list of records; what is counted of one.
use Rattle.std.specs.Prelude.{ℕ, ◌+◌, ◌-◌, List, [], ◌∷◌}
use Rattle.record.specs.Records.{Record}
use Rattle.record.specs.declared.Event.TheVariants.{Open, Mark, Close}

abbrev pub opens : List Record → ℕ
opens [] = 0
opens (Open g ∷ s) = 1 + opens s
opens (Mark m ∷ s) = opens s
opens (Close ∷ s) = opens s

abbrev pub closes : List Record → ℕ
closes [] = 0
closes (Open g ∷ s) = closes s
closes (Mark m ∷ s) = closes s
closes (Close ∷ s) = 1 + closes s

-- the places that a script uses: an open takes two, of which the second is its close's, and a mark one
abbrev pub places : List Record → ℕ
places [] = 0
places (Open g ∷ s) = 2 + places s
places (Mark m ∷ s) = 1 + places s
places (Close ∷ s) = places s

-- how many groups are open at its end
abbrev pub level : List Record → ℕ
level s = opens s - closes s
