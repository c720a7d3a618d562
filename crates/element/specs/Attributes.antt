-- The attributes of an element as the rules read them.
use Rattle.std.specs.Prelude.{ℕ, Bool, true, false, cond, replicate, Some, None, Option, slice_index_or, slice_set, Float}
use Rattle.std.specs.Float.Ieee.{to_unsigned}
use Rattle.std.specs.Option.{unwrap_or}
use Rattle.geom.specs.F32.{whole}
use Rattle.geom.specs.Matrix.{identity}
use Rattle.geom.specs.Size.{valid_rect}
use Rattle.geom.specs.Fit.{default_aspect}
use Rattle.geom.specs.declared.length.Length.{Length}
use Rattle.geom.specs.declared.matrix.Matrix.{Matrix}
use Rattle.geom.specs.declared.rect.Rect.{Rect}
use Rattle.geom.specs.declared.view_box.Aspect.{Aspect}
use Rattle.element.specs.Forms.{as_length, as_rect, as_matrix, as_aspect, as_number, as_word}
use Rattle.element.specs.declared.element.Element.{Element}
use Rattle.element.specs.declared.value.Attribute.{Attribute}
use Rattle.element.specs.declared.value.Attribute.TheVariants as attribute
use Rattle.element.specs.declared.value.Kind.{Kind}
use Rattle.element.specs.declared.value.Value.{Value}
use Rattle.element.specs.declared.word.Word.{Word}
use Rattle.element.specs.declared.word.Word.TheVariants.{Yes, No, Visible, Auto, Other}

-- where an attribute's value stands among an element's attributes
abbrev pub place_of : Attribute → ℕ
place_of attribute.Id = 0
place_of attribute.Shown = 1
place_of attribute.Opacity = 2
place_of attribute.Matrix = 3
place_of attribute.X = 4
place_of attribute.Y = 5
place_of attribute.Width = 6
place_of attribute.Height = 7
place_of attribute.ViewBox = 8
place_of attribute.Aspect = 9
place_of attribute.Overflow = 10

-- an element without attributes
abbrev pub bare : Kind → Element
bare kind = record { kind = kind; attributes = replicate 11 None }

-- an element with this value of an attribute, or none
abbrev pub with_value : Element → Attribute → Option Value → Element
with_value e a value = record { kind = e.kind; attributes = slice_set e.attributes (place_of a) value }

unfoldable pub value_of : Element → Attribute → Option Value
value_of e a = slice_index_or e.attributes (place_of a) None

-- what a value holds, where there is one
abbrev pub held : {A : Type 0} → (Value → Option A) → Option Value → Option A
held part None = None
held part (Some v) = part v

-- a rectangle that is valid, or none
abbrev pub valid_one : Option Rect → Option Rect
valid_one None = None
valid_one (Some r) = cond (valid_rect r) (Some r) None

abbrev pub is_no : Option Word → Bool
is_no None = false
is_no (Some Yes) = false
is_no (Some No) = true
is_no (Some Visible) = false
is_no (Some Auto) = false
is_no (Some Other) = false

abbrev pub lets_out : Option Word → Bool
lets_out None = false
lets_out (Some Yes) = false
lets_out (Some No) = false
lets_out (Some Visible) = true
lets_out (Some Auto) = true
lets_out (Some Other) = false

abbrev pub length_of : Element → Attribute → Option Length
length_of e a = held as_length (value_of e a)

-- the own matrix, or the identity where none is set
abbrev pub matrix_of : Element → Matrix
matrix_of e = unwrap_or (held as_matrix (value_of e attribute.Matrix)) identity

-- the own opacity, or 1 where none is set
abbrev pub opacity_of : Element → Float
opacity_of e = unwrap_or (held as_number (value_of e attribute.Opacity)) (whole 1)

-- the id, or 0 where none is set
abbrev pub id_of : Element → ℕ
id_of e = to_unsigned 16 (unwrap_or (held as_number (value_of e attribute.Id)) (whole 0))

-- the view box's rectangle; one with a side that is not above 0 counts as absent
abbrev pub view_box_of : Element → Option Rect
view_box_of e = valid_one (held as_rect (value_of e attribute.ViewBox))

abbrev pub aspect_of : Element → Aspect
aspect_of e = unwrap_or (held as_aspect (value_of e attribute.Aspect)) default_aspect

-- its shown is "no"
abbrev pub hidden : Element → Bool
hidden e = is_no (held as_word (value_of e attribute.Shown))

-- its overflow is "visible" or "auto"
abbrev pub overflows : Element → Bool
overflows e = lets_out (held as_word (value_of e attribute.Overflow))
