-- How much memory a new document gets.
use Rattle.std.specs.Prelude.{ℕ, min, Option}
use Rattle.std.specs.Option.{unwrap_or}
use Rattle.svgtree.specs.Limits.{max_nodes}

-- memory for as many nodes as are asked for, but at most for as many as a document has
abbrev pub room_for : Option ℕ → ℕ
room_for nodes = min (unwrap_or nodes max_nodes) max_nodes
