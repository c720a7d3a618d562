-- Groups and marks that are equal: their numbers compare equal, so that -0 is 0.
use Rattle.std.specs.Prelude.{Bool, true, false, ◌&&◌, Some, None, Option, ◌==◌, Float}
use Rattle.std.specs.Float.{binary32}
use Rattle.std.specs.Float.Ieee.{fits, eq}
use Rattle.geom.specs.declared.matrix.Matrix.{Matrix}
use Rattle.geom.specs.declared.rect.Rect.{Rect}
use Rattle.geom.specs.declared.rect.Ruler.{Ruler}
use Rattle.record.specs.declared.Group.{Group}
use Rattle.record.specs.declared.Mark.{Mark}

-- two f32 that compare equal
abbrev pub equal : Float → Float → Bool
equal x y = fits binary32 x && fits binary32 y && eq x y

abbrev pub equal_matrix : Matrix → Matrix → Bool
equal_matrix m n = equal m.a n.a && equal m.b n.b && equal m.c n.c && equal m.d n.d && equal m.e n.e && equal m.f n.f

abbrev pub equal_clip : Option Rect → Option Rect → Bool
equal_clip None None = true
equal_clip None (Some r) = false
equal_clip (Some r) None = false
equal_clip (Some r) (Some s) = equal r.x s.x && equal r.y s.y && equal r.w s.w && equal r.h s.h

abbrev pub equal_group : Group → Group → Bool
equal_group g h = g.id == h.id && equal_matrix g.matrix h.matrix && equal_clip g.clip h.clip && equal g.opacity h.opacity

abbrev pub equal_ruler : Ruler → Ruler → Bool
equal_ruler r s = equal r.w s.w && equal r.h s.h && equal r.f s.f

abbrev pub equal_mark : Mark → Mark → Bool
equal_mark m n = m.leaf == n.leaf && equal_ruler m.ruler n.ruler
