-- The rules of groups: for one element, given what holds outside it, the groups it puts round its content and what holds inside.
use Rattle.std.specs.Prelude.{Bool, true, false, cond, ◌&&◌, Ok, Option, Result, Float}
use Rattle.std.specs.Float.{float_is_finite}
use Rattle.std.specs.Option.{option_map, unwrap_or}
use Rattle.std.specs.declared.option.Option.TheVariants as option
use Rattle.refusal.specs.declared.Refusal.{Refusal}
use Rattle.geom.specs.F32.{whole}
use Rattle.geom.specs.Fit.{fit}
use Rattle.geom.specs.Matrix.{identity, translation, product, finite_matrix, is_identity}
use Rattle.geom.specs.Size.{finite_rect}
use Rattle.geom.specs.declared.length.Direction.TheVariants.{Across, Down}
use Rattle.geom.specs.declared.matrix.Matrix.{Matrix}
use Rattle.geom.specs.declared.options.Options.{Options}
use Rattle.geom.specs.declared.rect.Rect.{Rect}
use Rattle.geom.specs.declared.rect.Ruler.{Ruler}
use Rattle.geom.specs.declared.rect.Size.{Size}
use Rattle.record.specs.declared.Group.{Group}
use Rattle.element.specs.Attributes.{length_of, matrix_of, opacity_of, id_of, view_box_of}
use Rattle.element.specs.declared.element.Element.{Element}
use Rattle.element.specs.declared.value.Attribute.TheVariants.{X, Y, Width, Height}
use Rattle.element.specs.declared.value.Role.{Role}
use Rattle.element.specs.declared.value.Role.TheVariants as role
use Rattle.element.specs.Roles.{role_of}
use Rattle.converter.specs.State.{ruled, sized, framed}
use Rattle.converter.specs.Rectangle.{measured, position, resolved_rect, fitted_view_box, placing, viewport}
use Rattle.converter.specs.Clip.{svg_clip, symbol_clip}
use Rattle.converter.specs.Groups.{group, clip_group, spare, if_finite}
use Rattle.converter.specs.declared.state.State.{State}
use Rattle.converter.specs.declared.rules.Converted.{Converted}

-- a leaf's mark stands in a spare group with its own matrix
unfoldable pub convert_leaf : Element → State → Result Converted Refusal
convert_leaf e s =
    let T = matrix_of e in
    if_finite (finite_matrix T) (record { outer = option.None; inner = spare T T (opacity_of e); inside = ruled s s.ruler })

-- a g is always a group
unfoldable pub convert_g : Element → State → Result Converted Refusal
convert_g e s =
    let T = matrix_of e in
    if_finite (finite_matrix T) (record { outer = option.Some (group (id_of e) T (opacity_of e)); inner = option.None; inside = ruled s s.ruler })

-- the groups of a nested svg with own matrix T, placing N and a clip or none
unfoldable pub svg_groups : Element → Matrix → Option Rect → State → Converted
svg_groups e N option.None inside =
    record { outer = option.None; inner = spare (matrix_of e) (product (matrix_of e) N) (opacity_of e); inside = inside }
svg_groups e N (option.Some clip) inside =
    record { outer = option.Some (clip_group (id_of e) (matrix_of e) clip); inner = spare (matrix_of e) N (opacity_of e); inside = inside }

-- what is used of T and N is finite: each alone with a clip, and without one their product
unfoldable pub finite_placing : Matrix → Matrix → Option Rect → Bool
finite_placing T N option.None = finite_matrix N && finite_matrix (product T N)
finite_placing T N (option.Some clip) = finite_matrix N && finite_matrix T

unfoldable pub convert_svg : Element → State → Result Converted Refusal
convert_svg e s =
    let r = resolved_rect e s.use_size s in
    let N = placing r (fitted_view_box e) in
    let clip = svg_clip e s r in
    if_finite (finite_rect r && finite_placing (matrix_of e) N clip) (svg_groups e N clip (ruled s (viewport (fitted_view_box e) r s.ruler)))

-- the groups of a use of a symbol: the symbol's own group, inside, has the placing N, and T too where there is no clip
unfoldable pub use_symbol_groups : Element → Matrix → Option Rect → State → Ruler → Converted
use_symbol_groups e N option.None s ruler =
    record { outer = option.Some (group (id_of e) identity (opacity_of e)); inner = option.None; inside = framed s ruler (product (matrix_of e) N) }
use_symbol_groups e N (option.Some clip) s ruler =
    record {
      outer = option.Some (clip_group (id_of e) (matrix_of e) clip);
      inner = option.Some (group 0 identity (opacity_of e));
      inside = framed s ruler N;
    }

-- a use of a symbol: the rectangle is the use's, view box, aspect and overflow are the symbol's
unfoldable pub convert_use_symbol : Element → Element → State → Result Converted Refusal
convert_use_symbol e symbol s =
    let r = resolved_rect e (option.None, option.None) s in
    let N = placing r (fitted_view_box symbol) in
    let clip = symbol_clip symbol r in
    if_finite (finite_rect r && finite_placing (matrix_of e) N clip) (use_symbol_groups e N clip s (viewport (fitted_view_box symbol) r s.ruler))

-- the sizes that a use hands to a child svg, and to no other child
unfoldable pub use_size : Element → Role → State → Option Float × Option Float
use_size e role.Svg s = (option_map (measured s Across) (length_of e Width), option_map (measured s Down) (length_of e Height))
use_size e role.G s = (option.None, option.None)
use_size e role.Use s = (option.None, option.None)
use_size e role.Symbol s = (option.None, option.None)
use_size e role.Leaf s = (option.None, option.None)
use_size e role.Other s = (option.None, option.None)

abbrev pub finite_or_none : Option Float → Bool
finite_or_none option.None = true
finite_or_none (option.Some x) = float_is_finite x

abbrev pub is_symbol : Role → Bool
is_symbol role.Svg = false
is_symbol role.G = false
is_symbol role.Use = false
is_symbol role.Symbol = true
is_symbol role.Leaf = false
is_symbol role.Other = false

-- a use of anything else: moved by x and y within its own matrix
unfoldable pub convert_use_other : Element → Role → State → Result Converted Refusal
convert_use_other e child s =
    let x = position s Across (length_of e X) in
    let y = position s Down (length_of e Y) in
    let m = product (matrix_of e) (translation x y) in
    let sizes = use_size e child s in
    if_finite (float_is_finite x && float_is_finite y && (finite_or_none sizes.0 && finite_or_none sizes.1) && finite_matrix m)
    (record { outer = option.Some (group (id_of e) m (opacity_of e)); inner = option.None; inside = sized s sizes })

-- a used symbol's own group, which is spare; its use has found the matrix finite
unfoldable pub convert_symbol : Element → State → Converted
convert_symbol e s =
    record { outer = option.None; inner = spare (matrix_of e) s.symbol_matrix (opacity_of e); inside = ruled s s.ruler }

-- an element that puts no group round its content
unfoldable pub bare : State → Converted
bare s = record { outer = option.None; inner = option.None; inside = ruled s s.ruler }

-- a use shows its child; with none it gives nothing
unfoldable pub convert_use : Element → Option Element → State → Result Converted Refusal
convert_use e option.None s = Ok (bare s)
convert_use e (option.Some child) s = cond (is_symbol (role_of child.kind)) (convert_use_symbol e child s) (convert_use_other e (role_of child.kind) s)

-- the rule of an element below the root, by its kind; a use is given the child that it shows
unfoldable pub convert_as : Role → Element → Option Element → State → Result Converted Refusal
convert_as role.Svg e child s = convert_svg e s
convert_as role.G e child s = convert_g e s
convert_as role.Use e child s = convert_use e child s
convert_as role.Symbol e child s = Ok (convert_symbol e s)
convert_as role.Leaf e child s = convert_leaf e s
convert_as role.Other e child s = Ok (bare s)

abbrev pub convert_group : Element → Option Element → State → Result Converted Refusal
convert_group e child s = convert_as (role_of e.kind) e child s

-- the fit of the root's view box into its size, or the identity with no view box
unfoldable pub root_fit : Element → Size → Matrix
root_fit e size = unwrap_or (option_map (λ v. fit v size) (fitted_view_box e)) identity

-- the group of the root's fit, unless that is the identity
unfoldable pub root_group : Matrix → Option Group
root_group m = cond (is_identity m) option.None (option.Some (group 0 m (whole 1)))

-- the viewport inside the root: its view box, else its size
unfoldable pub root_viewport : Element → Size → Float → Ruler
root_viewport e size F = unwrap_or (option_map (λ v. record { w = v.w; h = v.h; f = F }) (view_box_of e)) (record { w = size.w; h = size.h; f = F })

-- the root of this size opens the fit of its view box, and in it a spare group
unfoldable pub convert_root : Element → Size → Options → Result Converted Refusal
convert_root e size options =
    let m = root_fit e size in
    if_finite (finite_matrix m)
    (record {
      outer = root_group m;
      inner = spare (matrix_of e) identity (opacity_of e);
      inside = record { ruler = root_viewport e size options.font_size; dpi = options.dpi; use_size = (option.None, option.None); symbol_matrix = identity };
    })
