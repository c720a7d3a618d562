-- Which groups and marks are good: what a sink takes.
use Rattle.std.specs.Prelude.{Bool, true, ◌&&◌, Some, None, Option, Float}
use Rattle.std.specs.Float.Ieee.{le}
use Rattle.geom.specs.F32.{whole}
use Rattle.geom.specs.Matrix.{finite_matrix}
use Rattle.geom.specs.Size.{finite_rect, valid_rect, finite_ruler}
use Rattle.geom.specs.declared.rect.Rect.{Rect}
use Rattle.record.specs.declared.Group.{Group}
use Rattle.record.specs.declared.Mark.{Mark}
use Rattle.record.specs.Records.{Record}
use Rattle.record.specs.declared.Event.TheVariants as variants

-- finite, both sides above 0; or none
unfoldable pub good_clip : Option Rect → Bool
good_clip None = true
good_clip (Some r) = finite_rect r && valid_rect r

-- from 0 to 1
unfoldable pub good_opacity : Float → Bool
good_opacity x = le (whole 0) x && le x (whole 1)

unfoldable pub good_group : Group → Bool
good_group g = finite_matrix g.matrix && good_clip g.clip && good_opacity g.opacity

unfoldable pub good_mark : Mark → Bool
good_mark m = finite_ruler m.ruler

abbrev pub good_record : Record → Bool
good_record (variants.Open g) = good_group g
good_record (variants.Mark m) = good_mark m
good_record variants.Close = true
