-- Lengths in user units.
use Rattle.std.specs.Prelude.{Float}
use Rattle.geom.specs.F32.{◌*f◌, ◌/f◌, decimal, whole}
use Rattle.geom.specs.declared.rect.Ruler.{Ruler}
use Rattle.geom.specs.declared.length.Direction.{Direction}
use Rattle.geom.specs.declared.length.Direction.TheVariants.{Across, Down}
use Rattle.geom.specs.declared.length.Length.{Length}
use Rattle.geom.specs.declared.length.Unit.{Unit as LengthUnit}
use Rattle.geom.specs.declared.length.Unit.TheVariants.{None, Px, Em, Ex, In, Cm, Mm, Pt, Pc, Percent}

-- what a percent is of: the viewport's width across, its height down
unfoldable pub base_of : Direction → Ruler → Float
base_of Across ruler = ruler.w
base_of Down ruler = ruler.h

-- n of a unit, for a percent's base, the dpi and the font size F; each operation is rounded, from left to right
unfoldable pub in_unit : LengthUnit → Float → Float → Float → Float → Float
in_unit None n base dpi F = n
in_unit Px n base dpi F = n
in_unit Em n base dpi F = n *f F
in_unit Ex n base dpi F = n *f F /f whole 2
in_unit In n base dpi F = n *f dpi
in_unit Cm n base dpi F = n *f dpi /f decimal 254 100
in_unit Mm n base dpi F = n *f dpi /f decimal 254 10
in_unit Pt n base dpi F = n *f dpi /f whole 72
in_unit Pc n base dpi F = n *f dpi /f whole 6
in_unit Percent n base dpi F = base *f n /f whole 100

abbrev pub length_in : Length → Float → Float → Float → Float
length_in l base dpi F = in_unit l.unit l.number base dpi F
