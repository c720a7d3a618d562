-- What a session holds.
use Rattle.std.specs.Prelude.{ℕ, vec_items, vec_len, Option}
use Rattle.std.specs.Option.{option_map}
use Rattle.svgtree.specs.Memory.{model_of}
use Rattle.svgtree.specs.Model.{Model}
use Rattle.session.specs.declared.Session.{Session}

-- a document, if there is one, and for how many nodes there is memory
pub record State : Type 0 where
  pub document : Option Model
  pub room : ℕ

abbrev pub state_of : Session → State
state_of s = record { document = option_map (λ d. model_of d (vec_items s.nodes)) s.document; room = vec_len s.nodes }
