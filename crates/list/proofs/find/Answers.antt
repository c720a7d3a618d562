use Rattle.std.proofs.Common.{rules, tests, ◌≡◌, ◌∙◌}
use Rattle.std.proofs.lemmas.Iterator.{YieldsList-from_slice, IsFirst-from_position}
use Rattle.list.specs.Bounded.{used}
use Rattle.list.specs.Places.{Found}
use Rattle.list.proofs.Places.{first_found, found_place}
use Rattle.list.proofs.find.Goals as goal

-- what the closure answers of a record is whether it has the number
pub returns : goal.returns
returns g c =
    let first : Found g.T.Numbered.number c.args.wanted (used c.args.items.now c.args.count) c.position.result =
    first_found _ _ _ _
    (IsFirst-from_position _ _ c.position.result (λ x. g.T.Numbered.number x ≡ c.args.wanted) (λ x. g.T.Numbered.number x ≡ c.args.wanted → ⊥)
    c.position.ensures.ran (YieldsList-from_slice _ (c.iter.ensures.rest ∙ c.in_use-records.ensures)) (λ x q k. search (rules, tests)) (λ x q k. search (rules, tests))) in
    record { answer = found_place _ _ _ _ first; first = first }
