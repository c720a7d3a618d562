-- The names that stand for units, directions, alignments, kinds, attributes and forms, by their exact letters.
use Rattle.std.specs.Prelude.{ℕ, Bool, true, false, cond, List, [], ◌∷◌, Some, None, codes, Option}
use Rattle.std.specs.Str.{bytes_eq}
use Rattle.geom.specs.declared.length.Unit.{Unit as LengthUnit}
use Rattle.geom.specs.declared.length.Unit.TheVariants as unit
use Rattle.geom.specs.declared.length.Direction.{Direction}
use Rattle.geom.specs.declared.length.Direction.TheVariants.{Across, Down}
use Rattle.geom.specs.declared.view_box.Align.{Align}
use Rattle.geom.specs.declared.view_box.Align.TheVariants as align
use Rattle.element.specs.declared.value.Kind.{Kind}
use Rattle.element.specs.declared.value.Kind.TheVariants as kind
use Rattle.element.specs.declared.value.Attribute.{Attribute}
use Rattle.element.specs.declared.value.Attribute.TheVariants as attribute
use Rattle.notation.specs.declared.form.Form.{Form}
use Rattle.notation.specs.declared.form.Form.TheVariants as form

-- what a table has beside a text, or none
abbrev pub named : {A : Type 0} → List (List ℕ × A) → List ℕ → Option A
named [] text = None
named (row ∷ rows) text = cond (bytes_eq text row.0) (Some row.1) (named rows text)

-- the units whose names are letters: two each
abbrev pub letter_units : List (List ℕ × LengthUnit)
letter_units =
    (codes "px", unit.Px)
    ∷ (codes "em", unit.Em)
    ∷ (codes "ex", unit.Ex)
    ∷ (codes "in", unit.In)
    ∷ (codes "cm", unit.Cm)
    ∷ (codes "mm", unit.Mm)
    ∷ (codes "pt", unit.Pt)
    ∷ (codes "pc", unit.Pc)
    ∷ []

abbrev pub units : List (List ℕ × LengthUnit)
units = (codes "%", unit.Percent) ∷ letter_units

abbrev pub directions : List (List ℕ × Direction)
directions = (codes "across", Across) ∷ (codes "down", Down) ∷ []

abbrev pub aligns : List (List ℕ × Align)
aligns =
    (codes "none", align.None)
    ∷ (codes "xMinYMin", align.XMinYMin)
    ∷ (codes "xMidYMin", align.XMidYMin)
    ∷ (codes "xMaxYMin", align.XMaxYMin)
    ∷ (codes "xMinYMid", align.XMinYMid)
    ∷ (codes "xMidYMid", align.XMidYMid)
    ∷ (codes "xMaxYMid", align.XMaxYMid)
    ∷ (codes "xMinYMax", align.XMinYMax)
    ∷ (codes "xMidYMax", align.XMidYMax)
    ∷ (codes "xMaxYMax", align.XMaxYMax)
    ∷ []

-- whether a view box covers its viewport
abbrev pub slices : List (List ℕ × Bool)
slices = (codes "meet", false) ∷ (codes "slice", true) ∷ []

abbrev pub kinds : List (List ℕ × Kind)
kinds =
    (codes "svg", kind.Svg)
    ∷ (codes "g", kind.G)
    ∷ (codes "use", kind.Use)
    ∷ (codes "symbol", kind.Symbol)
    ∷ (codes "rect", kind.Rect)
    ∷ (codes "circle", kind.Circle)
    ∷ (codes "ellipse", kind.Ellipse)
    ∷ (codes "line", kind.Line)
    ∷ (codes "polyline", kind.Polyline)
    ∷ (codes "polygon", kind.Polygon)
    ∷ (codes "path", kind.Path)
    ∷ (codes "other", kind.Other)
    ∷ []

abbrev pub attributes : List (List ℕ × Attribute)
attributes =
    (codes "id", attribute.Id)
    ∷ (codes "shown", attribute.Shown)
    ∷ (codes "opacity", attribute.Opacity)
    ∷ (codes "matrix", attribute.Matrix)
    ∷ (codes "x", attribute.X)
    ∷ (codes "y", attribute.Y)
    ∷ (codes "width", attribute.Width)
    ∷ (codes "height", attribute.Height)
    ∷ (codes "viewBox", attribute.ViewBox)
    ∷ (codes "aspect", attribute.Aspect)
    ∷ (codes "overflow", attribute.Overflow)
    ∷ []

abbrev pub forms : List (List ℕ × Form)
forms =
    (codes "length", form.Length)
    ∷ (codes "box", form.Box)
    ∷ (codes "matrix", form.Matrix)
    ∷ (codes "aspect", form.Aspect)
    ∷ (codes "number", form.Number)
    ∷ (codes "word", form.Word)
    ∷ []
