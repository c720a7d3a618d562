-- The texts of lengths: a number with its unit right behind it.
use Rattle.std.specs.Prelude.{◌≡◌, ℕ, ◌-◌, Bool, true, cond, List, [], ◌∷◌, ◌++◌, length, take, drop, codes}
use Rattle.std.specs.Str.{bytes_eq}
use Rattle.geom.specs.declared.length.Length.{Length}
use Rattle.geom.specs.declared.length.Unit.{Unit as LengthUnit}
use Rattle.geom.specs.declared.length.Unit.TheVariants as unit
use Rattle.notation.specs.Names.{units}
use Rattle.notation.specs.Numbers.{a_number, Number}

-- whether a text ends with a name
abbrev pub ends_with : List ℕ → List ℕ → Bool
ends_with name text = bytes_eq (drop (length text - length name) text) name

-- what stands before the name of a unit at a text's end, and that unit; all of a text that ends with no unit's name
abbrev pub parted : List (List ℕ × LengthUnit) → List ℕ → List ℕ × LengthUnit
parted [] text = (text, unit.None)
parted (row ∷ rows) text = cond (ends_with row.0 text) (take (length text - length row.0) text, row.1) (parted rows text)

unfoldable pub parts : List ℕ → List ℕ × LengthUnit
parts text = parted units text

unfoldable pub a_length : List ℕ → Bool
a_length text = a_number (parts text).0

-- l is the length that a text writes
pub record WrittenLength (text : List ℕ) (l : Length) : Type 0 where
  pub number : Number (parts text).0 l.number
  pub unit : l.unit ≡ (parts text).1

-- the name of a unit
abbrev pub name_of : LengthUnit → List ℕ
name_of unit.None = codes ""
name_of unit.Px = codes "px"
name_of unit.Em = codes "em"
name_of unit.Ex = codes "ex"
name_of unit.In = codes "in"
name_of unit.Cm = codes "cm"
name_of unit.Mm = codes "mm"
name_of unit.Pt = codes "pt"
name_of unit.Pc = codes "pc"
name_of unit.Percent = codes "%"

-- A number's text with a unit's name behind it is parted just there: no number's text ends with a unit's name, and no
-- unit's name with another's.
abbrev pub PartsFound : Type 0
PartsFound = (number : List ℕ) (unit : LengthUnit) → a_number number ≡ true → parts (number ++ name_of unit) ≡ (number, unit)
