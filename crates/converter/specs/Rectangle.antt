-- The rectangle of a nested svg or a used symbol, and the viewport inside it.
use Rattle.std.specs.Prelude.{cond, Option, Float}
use Rattle.std.specs.Option.{option_map}
use Rattle.std.specs.declared.option.Option.TheVariants as option
use Rattle.geom.specs.F32.{whole}
use Rattle.geom.specs.Fit.{fit}
use Rattle.geom.specs.Length.{base_of, length_in}
use Rattle.geom.specs.Matrix.{translation, product}
use Rattle.geom.specs.Root.{side_or_full}
use Rattle.geom.specs.Size.{valid_rect, size_of}
use Rattle.geom.specs.declared.length.Direction.{Direction}
use Rattle.geom.specs.declared.length.Direction.TheVariants.{Across, Down}
use Rattle.geom.specs.declared.length.Length.{Length}
use Rattle.geom.specs.declared.matrix.Matrix.{Matrix}
use Rattle.geom.specs.declared.rect.Rect.{Rect}
use Rattle.geom.specs.declared.rect.Ruler.{Ruler}
use Rattle.geom.specs.declared.view_box.ViewBox.{ViewBox}
use Rattle.element.specs.Attributes.{length_of, view_box_of, aspect_of}
use Rattle.element.specs.declared.element.Element.{Element}
use Rattle.element.specs.declared.value.Attribute.TheVariants.{X, Y, Width, Height}
use Rattle.converter.specs.declared.state.State.{State}

-- a length in the viewport outside
unfoldable pub measured : State → Direction → Length → Float
measured s d l = length_in l (base_of d s.ruler) s.dpi s.ruler.f

-- x or y, or 0 where it is missing
unfoldable pub position : State → Direction → Option Length → Float
position s d option.None = whole 0
position s d (option.Some l) = measured s d l

-- width or height: a use size where there is one, and else the own length, or 100% where that is missing
unfoldable pub side : State → Direction → Option Float → Option Length → Float
side s d option.None own = measured s d (side_or_full own)
side s d (option.Some n) own = n

-- the resolved rectangle of an element that is handed these sizes
unfoldable pub resolved_rect : Element → Option Float × Option Float → State → Rect
resolved_rect e sizes s =
    record {
      x = position s Across (length_of e X);
      y = position s Down (length_of e Y);
      w = side s Across sizes.0 (length_of e Width);
      h = side s Down sizes.1 (length_of e Height);
    }

-- the view box and how it is fitted, where there is one
unfoldable pub fitted_view_box : Element → Option ViewBox
fitted_view_box e = option_map (λ r. record { rect = r; aspect = aspect_of e }) (view_box_of e)

-- The place of the content in its rectangle: the translation to its corner, and within that the fit of the view box.
-- With no view box, or no valid size to fit it into, the translation alone.
unfoldable pub placing : Rect → Option ViewBox → Matrix
placing r option.None = translation r.x r.y
placing r (option.Some v) = cond (valid_rect r) (product (translation r.x r.y) (fit v (size_of r))) (translation r.x r.y)

-- the viewport inside: the view box, else the valid size, else the one outside
unfoldable pub viewport : Option ViewBox → Rect → Ruler → Ruler
viewport option.None r outside = cond (valid_rect r) (record { w = r.w; h = r.h; f = outside.f }) outside
viewport (option.Some v) r outside = record { w = v.rect.w; h = v.rect.h; f = outside.f }
