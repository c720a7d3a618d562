-- Sizes, rectangles and rulers: which are valid, which are finite.
use Rattle.std.specs.Prelude.{Bool, ◌&&◌, List, [], ◌∷◌, Float}
use Rattle.std.specs.Float.Ieee.{lt}
use Rattle.std.specs.Float.{float_is_finite}
use Rattle.geom.specs.F32.{whole}
use Rattle.geom.specs.declared.rect.Size.{Size}
use Rattle.geom.specs.declared.rect.Rect.{Rect}
use Rattle.geom.specs.declared.rect.Ruler.{Ruler}

-- a rectangle's width and height
abbrev pub size_of : Rect → Size
size_of r = record { w = r.w; h = r.h }

-- their numbers in their order
abbrev pub rect_floats : Rect → List Float
rect_floats r = r.x ∷ r.y ∷ r.w ∷ r.h ∷ []

abbrev pub ruler_floats : Ruler → List Float
ruler_floats r = r.w ∷ r.h ∷ r.f ∷ []

-- both sides are above 0
unfoldable pub valid_size : Size → Bool
valid_size s = lt (whole 0) s.w && lt (whole 0) s.h

unfoldable pub valid_rect : Rect → Bool
valid_rect r = lt (whole 0) r.w && lt (whole 0) r.h

unfoldable pub finite_size : Size → Bool
finite_size s = float_is_finite s.w && float_is_finite s.h

unfoldable pub finite_rect : Rect → Bool
finite_rect r = float_is_finite r.x && float_is_finite r.y && float_is_finite r.w && float_is_finite r.h

unfoldable pub finite_ruler : Ruler → Bool
finite_ruler r = float_is_finite r.w && float_is_finite r.h && float_is_finite r.f
