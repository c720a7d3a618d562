-- The limits of a document and the bounds of its numbers.
use Rattle.std.specs.Prelude.{ℕ, Float}
use Rattle.geom.specs.F32.{whole}

-- the most nodes
abbrev pub max_nodes : ℕ
max_nodes = 4096

-- the deepest level, the root's being 1
abbrev pub max_levels : ℕ
max_levels = 48

-- the least and the greatest dpi
abbrev pub min_dpi : Float
min_dpi = whole 10

abbrev pub max_dpi : Float
max_dpi = whole 4000

-- the greatest initial font size; it is above 0
abbrev pub max_font_size : Float
max_font_size = whole 1000

-- the greatest id
abbrev pub max_id : Float
max_id = whole 65535

-- the greatest magnitude of a float in a value
abbrev pub max_magnitude : Float
max_magnitude = whole 1000000
