-- Which element takes which attribute, in which form and within which range.
use Rattle.std.specs.Prelude.{ℕ, Bool, true, false, cond, not, ◌&&◌, ◌||◌, List, [], ◌∷◌, is_some, Some, None, Option, ◌==◌, Float}
use Rattle.std.specs.Float.Ieee.{le, eq}
use Rattle.std.specs.Float.{float_with_sign, trunc, binary32}
use Rattle.geom.specs.F32.{whole}
use Rattle.record.specs.Good.{good_opacity}
use Rattle.element.specs.declared.value.Kind.{Kind}
use Rattle.element.specs.declared.value.Role.{Role}
use Rattle.element.specs.declared.value.Role.TheVariants.{Svg, G, Use, Symbol, Leaf, Other}
use Rattle.element.specs.declared.value.Attribute.{Attribute}
use Rattle.element.specs.declared.value.Attribute.TheVariants as attribute
use Rattle.element.specs.declared.value.Value.{Value}
use Rattle.element.specs.declared.value.Value.TheVariants as form
use Rattle.element.specs.declared.word.Word.{Word}
use Rattle.element.specs.declared.word.Word.TheVariants as word
use Rattle.element.specs.Roles.{role_of}
use Rattle.element.specs.Forms.{as_length, as_rect, as_matrix, as_aspect, as_number, as_word}
use Rattle.svgtree.specs.Limits.{max_id, max_magnitude}

-- CHILDREN: leaves take none and a use takes one; svg, g, symbol and other take any number

abbrev pub role_takes_child : Role → Bool → Bool
role_takes_child Svg has_child = true
role_takes_child G has_child = true
role_takes_child Use has_child = not has_child
role_takes_child Symbol has_child = true
role_takes_child Leaf has_child = false
role_takes_child Other has_child = true

-- whether an element of this kind, with a child or without, takes a further one
abbrev pub takes_child : Kind → Bool → Bool
takes_child kind has_child = role_takes_child (role_of kind) has_child

-- ROLES

abbrev pub place_of_role : Role → ℕ
place_of_role Svg = 0
place_of_role G = 1
place_of_role Use = 2
place_of_role Symbol = 3
place_of_role Leaf = 4
place_of_role Other = 5

-- the role is one of these
abbrev pub one_of : List Role → Role → Bool
one_of [] role = false
one_of (r ∷ rs) role = place_of_role role == place_of_role r || one_of rs role

abbrev pub every_role : Role → Bool
every_role role = true

abbrev pub all_but : List Role → Role → Bool
all_but rs role = not (one_of rs role)

-- RANGES

abbrev pub any_value : Value → Bool
any_value value = true

-- NaN is of no magnitude, and an infinity's is too large
abbrev pub within_magnitude : Float → Bool
within_magnitude x = le (float_with_sign false x) max_magnitude

-- each float of the value is of a magnitude that is allowed
abbrev pub moderate : Value → Bool
moderate (form.Length number unit) = within_magnitude number
moderate (form.Box x y w h) = within_magnitude x && within_magnitude y && within_magnitude w && within_magnitude h
moderate (form.Matrix a b c d e f) =
    within_magnitude a && within_magnitude b && within_magnitude c && within_magnitude d && within_magnitude e && within_magnitude f
moderate (form.Aspect align slice) = true
moderate (form.Number x) = within_magnitude x
moderate (form.Word w) = true

abbrev pub number_by : (Float → Bool) → Option Float → Bool
number_by test None = false
number_by test (Some x) = test x

-- a whole number from 0 to 65,535
abbrev pub whole_id : Float → Bool
whole_id x = le (whole 0) x && le x max_id && eq x (trunc binary32 x)

abbrev pub id_number : Value → Bool
id_number value = number_by whole_id (as_number value)

-- from 0 to 1
abbrev pub opacity_number : Value → Bool
opacity_number value = number_by good_opacity (as_number value)

abbrev pub is_yes_or_no : Option Word → Bool
is_yes_or_no None = false
is_yes_or_no (Some word.Yes) = true
is_yes_or_no (Some word.No) = true
is_yes_or_no (Some word.Visible) = false
is_yes_or_no (Some word.Auto) = false
is_yes_or_no (Some word.Other) = false

abbrev pub yes_or_no : Value → Bool
yes_or_no value = is_yes_or_no (as_word value)

-- FORMS

abbrev pub a_length : Value → Bool
a_length value = is_some (as_length value)

abbrev pub a_box : Value → Bool
a_box value = is_some (as_rect value)

abbrev pub a_matrix : Value → Bool
a_matrix value = is_some (as_matrix value)

abbrev pub an_aspect : Value → Bool
an_aspect value = is_some (as_aspect value)

abbrev pub a_number : Value → Bool
a_number value = is_some (as_number value)

abbrev pub a_word : Value → Bool
a_word value = is_some (as_word value)

-- THE TABLE: of each attribute, whether the root takes it, which other elements do, and its values' form and range
pub record Row : Type 0 where
  pub root : Bool
  pub roles : Role → Bool
  pub form : Value → Bool
  pub range : Value → Bool

abbrev pub row : Attribute → Row
row attribute.Id = record { root = true; roles = every_role; form = a_number; range = id_number }
row attribute.Shown = record { root = true; roles = every_role; form = a_word; range = yes_or_no }
row attribute.Opacity = record { root = true; roles = every_role; form = a_number; range = opacity_number }
row attribute.Matrix = record { root = false; roles = all_but (Symbol ∷ []); form = a_matrix; range = moderate }
row attribute.X = record { root = false; roles = one_of (Svg ∷ Use ∷ []); form = a_length; range = moderate }
row attribute.Y = record { root = false; roles = one_of (Svg ∷ Use ∷ []); form = a_length; range = moderate }
row attribute.Width = record { root = true; roles = one_of (Svg ∷ Use ∷ []); form = a_length; range = moderate }
row attribute.Height = record { root = true; roles = one_of (Svg ∷ Use ∷ []); form = a_length; range = moderate }
row attribute.ViewBox = record { root = true; roles = one_of (Svg ∷ Symbol ∷ []); form = a_box; range = moderate }
row attribute.Aspect = record { root = true; roles = one_of (Svg ∷ Symbol ∷ []); form = an_aspect; range = any_value }
row attribute.Overflow = record { root = true; roles = one_of (Svg ∷ Symbol ∷ []); form = a_word; range = any_value }

-- whether the root, or another element of this kind, takes the attribute
abbrev pub takes_attribute : Bool → Kind → Attribute → Bool
takes_attribute root kind a = cond root (row a).root ((row a).roles (role_of kind))
