-- What `Strip` does by a call of the sink below is what its own meaning says. Assumes nothing.
use Rattle.std.proofs.Common.{◌≡◌, Bool, true, Ok, Err, Result, refl}
use Rattle.record.specs.declared.Group.{Group}
use Rattle.record.specs.Zero.{zeroed_group}
use Rattle.sink.specs.declared.fault.SinkFault.{SinkFault}
use Rattle.sink.specs.Meaning.{Meaning}
use Rattle.sink.specs.Calls.{Tried, settle, open_step}
use Rattle.sink.specs.Layers.{without_id, without_id_good, stripped}
use Rattle.sink.proofs.Outcomes.{Is}

without_id_zeroed : (g : Group) → zeroed_group (without_id g) ≡ without_id (zeroed_group g)
unfolding zeroed_group
without_id_zeroed g = refl

settled : (m : Meaning) (t : Bool) (to : Tried) → let o = settle m m t to in Is o.result (stripped o.next) (settle (stripped m) (stripped m) t to)
settled m t (Ok s) = (refl, refl)
settled m t (Err f) = (refl, refl)

pub open_stripped : (m n : Meaning) (g : Group) (r : Result (Unit {0}) SinkFault) → Is r n (open_step m (without_id g)) → Is r (stripped n) (open_step (stripped m) g)
open_stripped m n g r is = rw (is.0, is.1, without_id_good g, without_id_zeroed g) (settled m true _)
