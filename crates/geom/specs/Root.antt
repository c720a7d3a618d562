-- The size of the root element, and when it has none.
use Rattle.std.specs.Prelude.{Bool, true, false, cond, not, ◌&&◌, ◌||◌, [], ◌∷◌, is_some, Option, Result, Float}
use Rattle.std.specs.Option.{unwrap_or}
use Rattle.std.specs.declared.option.Option.TheVariants as option
use Rattle.refusal.specs.declared.Refusal.{Refusal}
use Rattle.refusal.specs.declared.Refusal.TheVariants.{NotFinite, InvalidSize}
use Rattle.refusal.specs.Order.{first_of, unless}
use Rattle.geom.specs.F32.{◌*f◌, ◌/f◌, whole}
use Rattle.geom.specs.Length.{in_unit}
use Rattle.geom.specs.Size.{finite_size, valid_size}
use Rattle.geom.specs.declared.length.Length.{Length}
use Rattle.geom.specs.declared.length.Unit.{Unit as LengthUnit}
use Rattle.geom.specs.declared.length.Unit.TheVariants.{None, Px, Em, Ex, In, Cm, Mm, Pt, Pc, Percent}
use Rattle.geom.specs.declared.rect.Rect.{Rect}
use Rattle.geom.specs.declared.rect.Size.{Size}
use Rattle.geom.specs.declared.options.Options.{Options}
use Rattle.geom.specs.declared.root.RootAttributes.{RootAttributes}
use Rattle.geom.specs.declared.root.RootSize.{RootSize}

abbrev pub is_percent : LengthUnit → Bool
is_percent None = false
is_percent Px = false
is_percent Em = false
is_percent Ex = false
is_percent In = false
is_percent Cm = false
is_percent Mm = false
is_percent Pt = false
is_percent Pc = false
is_percent Percent = true

-- a missing side is 100%
unfoldable pub side_or_full : Option Length → Length
side_or_full side = unwrap_or side (record { number = whole 100; unit = Percent })

-- n percent: of the view box's side, or with no view box n itself
unfoldable pub percent_side : Float → Option Float → Float
percent_side n option.None = n
percent_side n (option.Some side) = side *f (n /f whole 100)

-- one side; no unit but the percent has a base
unfoldable pub root_side : Length → Option Float → Options → Float
root_side l side options =
    cond (is_percent l.unit) (percent_side l.number side) (in_unit l.unit l.number (whole 0) options.dpi options.font_size)

-- both sides: with a view box and one side only, the other follows from the view box's proportions
unfoldable pub sides_of : Option Length → Option Length → Option Rect → Options → Size
sides_of width height option.None options =
    record { w = root_side (side_or_full width) option.None options; h = root_side (side_or_full height) option.None options }
sides_of (option.Some width) option.None (option.Some v) options =
    let w = root_side width (option.Some v.w) options in
    record { w = w; h = v.h *f w /f v.w }
sides_of option.None (option.Some height) (option.Some v) options =
    let h = root_side height (option.Some v.h) options in
    record { w = v.w *f h /f v.h; h = h }
sides_of (option.Some width) (option.Some height) (option.Some v) options =
    record { w = root_side width (option.Some v.w) options; h = root_side height (option.Some v.h) options }
sides_of option.None option.None (option.Some v) options =
    record { w = root_side (side_or_full option.None) (option.Some v.w) options; h = root_side (side_or_full option.None) (option.Some v.h) options }

abbrev pub root_sides : RootAttributes → Options → Size
root_sides root options = sides_of root.width root.height root.view_box options

-- some side is a percent with no view box to be of
unfoldable pub root_flag : RootAttributes → Bool
root_flag root = not (is_some root.view_box) && (is_percent (side_or_full root.width).unit || is_percent (side_or_full root.height).unit)

-- a size that is not finite is refused before one that is not valid
unfoldable pub size_refusal : Size → Option Refusal
size_refusal s = first_of ((not (finite_size s), NotFinite) ∷ (not (valid_size s), InvalidSize) ∷ [])

unfoldable pub root_size : RootAttributes → Options → Result RootSize Refusal
root_size root options =
    let size = root_sides root options in
    unless (size_refusal size) (record { size = size; flag = root_flag root })
