-- The fit of a view box into a size.
use Rattle.std.specs.Prelude.{Bool, true, false, cond, Float}
use Rattle.std.specs.Float.Ieee.{lt, neg}
use Rattle.geom.specs.F32.{◌+f◌, ◌-f◌, ◌*f◌, ◌/f◌, whole}
use Rattle.geom.specs.declared.matrix.Matrix.{Matrix}
use Rattle.geom.specs.declared.rect.Size.{Size}
use Rattle.geom.specs.declared.view_box.Align.{Align}
use Rattle.geom.specs.declared.view_box.Align.TheVariants.{None, XMinYMin, XMidYMin, XMaxYMin, XMinYMid, XMidYMid, XMaxYMid, XMinYMax, XMidYMax, XMaxYMax}
use Rattle.geom.specs.declared.view_box.Position.{Position}
use Rattle.geom.specs.declared.view_box.Position.TheVariants.{Start, Middle, End}
use Rattle.geom.specs.declared.view_box.Aspect.{Aspect}
use Rattle.geom.specs.declared.view_box.ViewBox.{ViewBox}

abbrev pub smaller : Float → Float → Float
smaller x y = cond (lt y x) y x

abbrev pub larger : Float → Float → Float
larger x y = cond (lt x y) y x

-- where an alignment puts the view box across the viewport, and down
unfoldable pub across : Align → Position
across None = Start
across XMinYMin = Start
across XMinYMid = Start
across XMinYMax = Start
across XMidYMin = Middle
across XMidYMid = Middle
across XMidYMax = Middle
across XMaxYMin = End
across XMaxYMid = End
across XMaxYMax = End

unfoldable pub down : Align → Position
down None = Start
down XMinYMin = Start
down XMidYMin = Start
down XMaxYMin = Start
down XMinYMid = Middle
down XMidYMid = Middle
down XMaxYMid = Middle
down XMinYMax = End
down XMidYMax = End
down XMaxYMax = End

-- what holds where no aspect is given: xMidYMid meet
unfoldable pub default_aspect : Aspect
default_aspect = record { align = XMidYMid; slice = false }

abbrev pub has_align : Align → Bool
has_align None = false
has_align XMinYMin = true
has_align XMidYMin = true
has_align XMaxYMin = true
has_align XMinYMid = true
has_align XMidYMid = true
has_align XMaxYMid = true
has_align XMinYMax = true
has_align XMidYMax = true
has_align XMaxYMax = true

-- With no alignment each side has a scale of its own. Else both have one: the larger for slice, the smaller for meet.
unfoldable pub scales : Aspect → Float → Float → Float × Float
scales aspect sx sy =
    let one = cond aspect.slice (larger sx sy) (smaller sx sy) in
    cond (has_align aspect.align) (one, one) (sx, sy)

-- the start of a side at `start` that leaves `spare`: half of that before it in the middle, all of it at the end
unfoldable pub aligned : Position → Float → Float → Float
aligned Start start spare = start
aligned Middle start spare = start +f spare /f whole 2
aligned End start spare = start +f spare

-- the view box's sides are scaled to the size's, and its corner goes where the alignment says
unfoldable pub fit : ViewBox → Size → Matrix
fit v s =
    let r = v.rect in
    let k = scales v.aspect (s.w /f r.w) (s.h /f r.h) in
    record {
      a = k.0;
      b = whole 0;
      c = whole 0;
      d = k.1;
      e = aligned (across v.aspect.align) (neg r.x *f k.0) (s.w -f r.w *f k.0);
      f = aligned (down v.aspect.align) (neg r.y *f k.1) (s.h -f r.h *f k.1);
    }
