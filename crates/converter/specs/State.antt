-- What holds outside an element: the ruler, the dpi, the sizes that a use hands to a child svg, and the matrix of a used symbol's own group.
use Rattle.std.specs.Prelude.{None, Option, Float}
use Rattle.geom.specs.declared.matrix.Matrix.{Matrix}
use Rattle.geom.specs.declared.rect.Ruler.{Ruler}
use Rattle.geom.specs.Matrix.{identity}
use Rattle.converter.specs.declared.state.State.{State}

-- the state inside a use of a symbol, whose own group is to have this matrix
unfoldable pub framed : State → Ruler → Matrix → State
framed s ruler m = record { ruler = ruler; dpi = s.dpi; use_size = (None, None); symbol_matrix = m }

-- the state inside an element that hands nothing on to its children but a ruler
unfoldable pub ruled : State → Ruler → State
unfolding framed
ruled s ruler = framed s ruler identity

-- the state inside a use of an svg, which is handed the use's sizes
unfoldable pub sized : State → Option Float × Option Float → State
sized s sizes = record { ruler = s.ruler; dpi = s.dpi; use_size = sizes; symbol_matrix = identity }
