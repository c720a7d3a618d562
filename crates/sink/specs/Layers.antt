-- What a layer over a sink means, by what the sink below means.
use Rattle.std.specs.Prelude.{◌≡◌, true, false, List, [], ◌∷◌, ◌++◌, Some, None, refl}
use Rattle.std.proofs.Common.{◌∙◌}
use Rattle.std.specs.List.{AllByRecursion}
use Rattle.geom.specs.declared.matrix.Matrix.{Matrix}
use Rattle.geom.specs.declared.rect.Rect.{Rect}
use Rattle.geom.specs.F32.{whole}
use Rattle.geom.specs.Matrix.{identity}
use Rattle.record.specs.declared.Group.{Group}
use Rattle.record.specs.Good.{good_group}
use Rattle.record.specs.Zero.{zeroed_group}
use Rattle.sink.specs.Meaning.{Meaning, Base, Rewriting, rewritten}
use Rattle.sink.specs.Zeroed.{group_good}
use Rattle.sink.specs.declared.fault.SinkFault.{SinkFault}
use Rattle.sink.specs.declared.fault.SinkFault.TheVariants.{NotGood}
use Rattle.sink.specs.Calls.{cleared}

-- a layer's meaning over m: its base and its rewriting, and all else as below
abbrev pub layered : Base → Rewriting → Meaning → Meaning
layered b r m = record { script = m.script; turn = m.turn; limit = m.limit; base = b; rewriting = r }

-- ---- strip

abbrev pub without_id : Group → Group
without_id g = record { id = 0; matrix = g.matrix; clip = g.clip; opacity = g.opacity }

pub without_id_good : (g : Group) → good_group (without_id g) ≡ good_group g
unfolding good_group
without_id_good g = refl

-- the id is set to 0, then the group is rewritten as below
abbrev pub strip_then : Rewriting → Rewriting
strip_then r = record { apply = λ g. r.apply (without_id g); good = λ g is_good. r.good (without_id g) (rw without_id_good is_good) }

abbrev pub stripped : Meaning → Meaning
stripped m = layered m.base (strip_then m.rewriting) m

-- ---- place and window

abbrev pub place_group : Matrix → Group
place_group matrix = record { id = 0; matrix = matrix; clip = None; opacity = whole 1 }

abbrev pub window_group : Rect → Group
window_group clip = record { id = 0; matrix = identity; clip = Some clip; opacity = whole 1 }

pub all_push : (gs : List Group) (g : Group) → AllByRecursion (λ h. good_group h ≡ true) gs → good_group g ≡ true → AllByRecursion (λ h. good_group h ≡ true) (gs ++ g ∷ [])
all_push [] g all-good is_good = (is_good, tt)
all_push (h ∷ gs) g all-good is_good = (all-good.0, all_push gs g all-good.1 is_good)

-- one more group at the inner end of a base
abbrev pub with_group : Base → (g : Group) → good_group g ≡ true → Base
with_group b g is_good = record { groups = b.groups ++ g ∷ []; good = all_push b.groups g b.good is_good }

-- a good group is rewritten to a good one
pub rewritten_good : (r : Rewriting) (g : Group) → good_group g ≡ true → good_group (rewritten r g) ≡ true
rewritten_good r g is_good = group_good (r.apply (zeroed_group g)) ∙ r.good (zeroed_group g) (group_good g ∙ is_good)

-- the sink below opens one more group of its own, rewritten as it rewrites
abbrev pub framed : (g : Group) → good_group g ≡ true → Meaning → Meaning
framed g is_good m = layered (with_group m.base (rewritten m.rewriting g) (rewritten_good m.rewriting g is_good)) m.rewriting m

-- ---- making such a layer

-- It has the group g, over a sink of meaning m, which is cleared.
pub record Made (m : Meaning) (g group : Group) (below : Meaning) : Type 0 where
  pub added : group ≡ g
  pub emptied : below ≡ cleared m

-- No layer is made, since the group g is not good; the sink is handed back as it was.
pub record HandedBack {S : Type 0} (sink : S) (g : Group) (below : S) (fault : SinkFault) : Type 0 where
  pub not_good : good_group g ≡ false
  pub as_it_was : below ≡ sink
  pub why : fault ≡ NotGood
