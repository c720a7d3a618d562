-- What an accepted open or mark tells. Assumes nothing.
use Rattle.std.proofs.Common.{◌≡◌, true, [], ◌∷◌, ◌++◌, Ok}
use Rattle.std.proofs.lemmas.Bool.{not-false}
use Rattle.record.specs.declared.Group.{Group}
use Rattle.record.specs.declared.Mark.{Mark}
use Rattle.record.specs.declared.Event.TheVariants as variants
use Rattle.record.specs.Good.{good_group, good_mark}
use Rattle.record.specs.Zero.{zeroed_mark}
use Rattle.sink.specs.Meaning.{Meaning, rewritten}
use Rattle.sink.specs.Calls.{open_step, mark_step}
use Rattle.sink.proofs.Outcomes.{check_passed}
use Rattle.sink.proofs.Bounds.{Fine, fine_open, fine_mark}

pub open_tells : (m : Meaning) (g : Group) (u : Unit {0}) → (open_step m g).result ≡ Ok u → Fine m.limit m.script
    → (good_group g ≡ true) × Fine m.limit (m.script ++ variants.Open (rewritten m.rewriting g) ∷ [])
open_tells m g u e fine =
    let on = check_passed m m true _ _ _ _ u e in
    let good = check_passed m m true _ _ _ _ u on.1 in
    let deep = check_passed m m true _ _ _ _ u good.1 in
    let room = check_passed m m true _ _ _ _ u deep.1 in
    (not-false (good_group g) good.0, fine_open m.limit m.script (rewritten m.rewriting g) fine deep.0 room.0)

pub mark_tells : (m : Meaning) (k : Mark) (u : Unit {0}) → (mark_step m k).result ≡ Ok u → Fine m.limit m.script
    → (good_mark k ≡ true) × Fine m.limit (m.script ++ variants.Mark (zeroed_mark k) ∷ [])
mark_tells m k u e fine =
    let on = check_passed m m true _ _ _ _ u e in
    let good = check_passed m m true _ _ _ _ u on.1 in
    let room = check_passed m m true _ _ _ _ u good.1 in
    (not-false (good_mark k) good.0, fine_mark m.limit m.script (zeroed_mark k) fine room.0)
