-- When a nested svg or a used symbol clips. The clip is its resolved rectangle.
use Rattle.std.specs.Prelude.{Bool, cond, not, ◌&&◌, ◌||◌, is_some, Some, None, Option}
use Rattle.geom.specs.Size.{valid_rect}
use Rattle.geom.specs.declared.rect.Rect.{Rect}
use Rattle.element.specs.Attributes.{length_of, overflows}
use Rattle.element.specs.declared.element.Element.{Element}
use Rattle.element.specs.declared.value.Attribute.TheVariants.{Width, Height}
use Rattle.converter.specs.declared.state.State.{State}

-- an svg's both sides are set
unfoldable pub both_set : Element → Bool
both_set e = is_some (length_of e Width) && is_some (length_of e Height)

-- a use hands it at least one size
unfoldable pub from_use : State → Bool
from_use s = is_some s.use_size.0 || is_some s.use_size.1

-- the rectangle is valid, and overflow is neither visible nor auto
unfoldable pub keeps_in : Element → Rect → Bool
keeps_in e r = valid_rect r && not (overflows e)

unfoldable pub svg_clip : Element → State → Rect → Option Rect
svg_clip e s r = cond (keeps_in e r && (both_set e || from_use s)) (Some r) None

unfoldable pub symbol_clip : Element → Rect → Option Rect
symbol_clip e r = cond (keeps_in e r) (Some r) None
