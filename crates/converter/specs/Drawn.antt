-- Which elements are drawn.
use Rattle.std.specs.Prelude.{Bool, true, false, not, ◌&&◌, Option}
use Rattle.std.specs.declared.option.Option.TheVariants as option
use Rattle.geom.specs.Invertible.{invertible}
use Rattle.geom.specs.declared.matrix.Matrix.{Matrix}
use Rattle.element.specs.Attributes.{hidden, matrix_of}
use Rattle.element.specs.declared.element.Element.{Element}
use Rattle.element.specs.declared.value.Kind.{Kind}
use Rattle.element.specs.declared.value.Role.{Role}
use Rattle.element.specs.declared.value.Role.TheVariants.{Svg, G, Use, Symbol, Leaf, Other}
use Rattle.element.specs.Roles.{role_of}
use Rattle.std.specs.Option.{option_map}

-- the role of a parent, where there is one, is a use's
abbrev pub is_use : Option Role → Bool
is_use option.None = false
is_use (option.Some Svg) = false
is_use (option.Some G) = false
is_use (option.Some Use) = true
is_use (option.Some Symbol) = false
is_use (option.Some Leaf) = false
is_use (option.Some Other) = false

-- a matrix (a, b, c, d, e, f) with ad ≠ bc, unrounded
unfoldable pub invertible_matrix : Matrix → Bool
invertible_matrix m = invertible m.a m.b m.c m.d

-- its shown is not "no", and its own matrix is invertible
unfoldable pub visible : Element → Bool
visible e = not (hidden e) && invertible_matrix (matrix_of e)

-- An svg, g, use or leaf is drawn where it is visible. A symbol is drawn exactly as a use's child, whatever its own shown says. No other element is drawn.
unfoldable pub drawn_as : Role → Option Role → Element → Bool
drawn_as Svg parent e = visible e
drawn_as G parent e = visible e
drawn_as Use parent e = visible e
drawn_as Symbol parent e = is_use parent
drawn_as Leaf parent e = visible e
drawn_as Other parent e = false

-- drawn under a parent of this kind, or as the root
abbrev pub drawn : Option Kind → Element → Bool
drawn parent e = drawn_as (role_of e.kind) (option_map role_of parent) e
