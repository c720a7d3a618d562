-- What an element of each kind is to the rules of groups: the seven leaves are one.
use Rattle.element.specs.declared.value.Kind.{Kind}
use Rattle.element.specs.declared.value.Kind.TheVariants as kind
use Rattle.element.specs.declared.value.Role.{Role}
use Rattle.element.specs.declared.value.Role.TheVariants.{Svg, G, Use, Symbol, Leaf, Other}

abbrev pub role_of : Kind → Role
role_of kind.Svg = Svg
role_of kind.G = G
role_of kind.Use = Use
role_of kind.Symbol = Symbol
role_of kind.Rect = Leaf
role_of kind.Circle = Leaf
role_of kind.Ellipse = Leaf
role_of kind.Line = Leaf
role_of kind.Polyline = Leaf
role_of kind.Polygon = Leaf
role_of kind.Path = Leaf
role_of kind.Other = Other
