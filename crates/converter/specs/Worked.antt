-- Worked examples of groups and clips, on the definitions that the contracts use; with those of lengths, root sizes, fits and opacities they are one theorem.
use Rattle.std.specs.Prelude.{◌≡◌, ℕ, [], ◌∷◌, Some, None, Ok, Option}
use Rattle.geom.specs.F32.{whole}
use Rattle.geom.specs.Matrix.{identity}
use Rattle.geom.specs.Worked.{WorkedExamples, box, scaled}
use Rattle.geom.specs.declared.length.Unit.TheVariants as unit
use Rattle.geom.specs.declared.rect.Ruler.{Ruler}
use Rattle.element.specs.declared.element.Element.{Element}
use Rattle.element.specs.declared.value.Kind.{Kind}
use Rattle.element.specs.declared.value.Kind.TheVariants as kind
use Rattle.element.specs.declared.value.Value.{Value}
use Rattle.element.specs.declared.value.Value.TheVariants as form
use Rattle.converter.specs.Groups.{group, clip_group}
use Rattle.converter.specs.Rules.{convert_svg, convert_use_symbol, convert_symbol}
use Rattle.converter.specs.State.{ruled, framed}
use Rattle.converter.specs.declared.state.State.{State}

-- n user units, and n percent
abbrev pub px : ℕ → Option Value
px n = Some (form.Length (whole n) unit.None)

abbrev pub percent : ℕ → Option Value
percent n = Some (form.Length (whole n) unit.Percent)

-- an element with x, y, width, height and view box, and nothing else
abbrev pub sides : Kind → Option Value → Option Value → Option Value → Option Value → Option Value → Element
sides k x y w h v = record { kind = k; attributes = None ∷ None ∷ None ∷ None ∷ x ∷ y ∷ w ∷ h ∷ v ∷ None ∷ None ∷ [] }

abbrev pub ruler : ℕ → ℕ → Ruler
ruler w h = record { w = whole w; h = whole h; f = whole 12 }

-- in a viewport of w by h, at dpi 96 and font size 12
abbrev pub in_viewport : ℕ → ℕ → State
in_viewport w h = record { ruler = ruler w h; dpi = whole 96; use_size = (None, None); symbol_matrix = identity }

-- a symbol with view box 0 0 10 20
abbrev pub tall_symbol : Element
tall_symbol = sides kind.Symbol None None None None (Some (form.Box (whole 0) (whole 0) (whole 10) (whole 20)))

abbrev pub bare_symbol : Element
bare_symbol = sides kind.Symbol None None None None None

-- A 100 by 100 use at (20, 30) of the symbol with view box 0 0 10 20 clips to (20, 30, 100, 100),
-- and the symbol's own group has the matrix (5, 0, 0, 5, 45, 30).
abbrev pub WorkedUse : Type 0
WorkedUse =
    let s = in_viewport 100 100 in
    let N = scaled 5 (whole 45) (whole 30) in
    let inside = framed s (ruler 10 20) N in
    (convert_use_symbol (sides kind.Use (px 20) (px 30) (px 100) (px 100) None) tall_symbol s
    ≡ Ok (record { outer = Some (clip_group 0 identity (box 20 30 100 100)); inner = Some (group 0 identity (whole 1)); inside = inside }))
    × (convert_symbol tall_symbol inside ≡ record { outer = None; inner = Some (group 0 N (whole 1)); inside = ruled inside (ruler 10 20) })

-- in 200 by 100, a use of a symbol with x 10% and sides 50% clips to (20, 0, 100, 50)
abbrev pub WorkedPercentUse : Type 0
WorkedPercentUse =
    let s = in_viewport 200 100 in
    convert_use_symbol (sides kind.Use (percent 10) None (percent 50) (percent 50) None) bare_symbol s
    ≡ Ok (record {
      outer = Some (clip_group 0 identity (box 20 0 100 50));
      inner = Some (group 0 identity (whole 1));
      inside = framed s (ruler 100 50) (scaled 1 (whole 20) (whole 0));
    })

-- a nested svg with its width alone has no clip, and with both sides it has
abbrev pub WorkedSvg : Type 0
WorkedSvg =
    let s = in_viewport 100 100 in
    (convert_svg (sides kind.Svg None None (px 50) None None) s
    ≡ Ok (record { outer = None; inner = None; inside = ruled s (ruler 50 100) }))
    × (convert_svg (sides kind.Svg None None (px 50) (px 40) None) s
    ≡ Ok (record { outer = Some (clip_group 0 identity (box 0 0 50 40)); inner = None; inside = ruled s (ruler 50 40) }))

-- all worked examples
abbrev pub AllWorkedExamples : Type 0
AllWorkedExamples = WorkedExamples × WorkedUse × WorkedPercentUse × WorkedSvg
