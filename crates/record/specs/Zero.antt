-- Floats that compare equal are one value in a script: a zero has no sign there.
use Rattle.std.specs.Prelude.{zero, suc, false, Some, None, Option, Float}
use Rattle.std.specs.Float.{nan, inf, fin}
use Rattle.geom.specs.declared.matrix.Matrix.{Matrix}
use Rattle.geom.specs.declared.rect.Rect.{Rect}
use Rattle.geom.specs.declared.rect.Ruler.{Ruler}
use Rattle.record.specs.declared.Group.{Group}
use Rattle.record.specs.declared.Mark.{Mark}
use Rattle.record.specs.Records.{Record}
use Rattle.record.specs.declared.Event.TheVariants as variants

-- the float with -0 as 0
unfoldable pub zeroed : Float → Float
zeroed nan = nan
zeroed (inf s) = inf s
zeroed (fin s zero e) = fin false zero e
zeroed (fin s (suc m) e) = fin s (suc m) e

unfoldable pub zeroed_matrix : Matrix → Matrix
zeroed_matrix m = record { a = zeroed m.a; b = zeroed m.b; c = zeroed m.c; d = zeroed m.d; e = zeroed m.e; f = zeroed m.f }

unfoldable pub zeroed_rect : Rect → Rect
zeroed_rect r = record { x = zeroed r.x; y = zeroed r.y; w = zeroed r.w; h = zeroed r.h }

unfoldable pub zeroed_clip : Option Rect → Option Rect
zeroed_clip None = None
zeroed_clip (Some r) = Some (zeroed_rect r)

unfoldable pub zeroed_group : Group → Group
zeroed_group g = record { id = g.id; matrix = zeroed_matrix g.matrix; clip = zeroed_clip g.clip; opacity = zeroed g.opacity }

unfoldable pub zeroed_ruler : Ruler → Ruler
zeroed_ruler r = record { w = zeroed r.w; h = zeroed r.h; f = zeroed r.f }

unfoldable pub zeroed_mark : Mark → Mark
zeroed_mark m = record { leaf = m.leaf; ruler = zeroed_ruler m.ruler }

abbrev pub zeroed_record : Record → Record
zeroed_record (variants.Open g) = variants.Open (zeroed_group g)
zeroed_record (variants.Mark m) = variants.Mark (zeroed_mark m)
zeroed_record variants.Close = variants.Close
