-- The groups and marks that bits stand for.
use Rattle.std.specs.Option.{option_map}
use Rattle.geom.specs.declared.matrix.Matrix.{Matrix}
use Rattle.geom.specs.declared.rect.Rect.{Rect}
use Rattle.geom.specs.declared.rect.Ruler.{Ruler}
use Rattle.record.specs.declared.Group.{Group}
use Rattle.record.specs.declared.Mark.{Mark}
use Rattle.group_table.specs.declared.bits.Bits.{Bits}
use Rattle.group_table.specs.declared.packed.GroupBits.{GroupBits}
use Rattle.group_table.specs.declared.packed.MarkBits.{MarkBits}
use Rattle.group_table.specs.Floats.{float_at}

abbrev pub matrix_of : Bits 6 → Matrix
matrix_of m = let at = float_at m.words in record { a = at 0; b = at 1; c = at 2; d = at 3; e = at 4; f = at 5 }

abbrev pub rect_of : Bits 4 → Rect
rect_of r = let at = float_at r.words in record { x = at 0; y = at 1; w = at 2; h = at 3 }

abbrev pub ruler_of : Bits 3 → Ruler
ruler_of r = let at = float_at r.words in record { w = at 0; h = at 1; f = at 2 }

abbrev pub group_of : GroupBits → Group
group_of g = record { id = g.id; matrix = matrix_of g.matrix; clip = option_map rect_of g.clip; opacity = float_at g.opacity.words 0 }

abbrev pub mark_of : MarkBits → Mark
mark_of m = record { leaf = m.leaf; ruler = ruler_of m.ruler }
