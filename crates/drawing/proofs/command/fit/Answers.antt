use Rattle.std.proofs.Common.{[], ◌∷◌, replicate, arith}
use Rattle.std.proofs.lemmas.Grind.{common_steps}
use Rattle.drawing.specs.declared.expected.Expected.TheVariants as expected
use Rattle.drawing.proofs.Rows.{goes_on, stops}
use Rattle.drawing.proofs.command.fit.Goals as goal

pub returns-in_err-aspect : goal.returns-in_err-aspect
returns-in_err-aspect c =
    let after = goes_on (replicate 4 expected.Number) (expected.Align ∷ expected.Slice ∷ expected.Number ∷ expected.Number ∷ expected.End ∷ []) _ c.in_ok-rect.ensures.0 in
    let lacking = stops (expected.Align ∷ expected.Slice ∷ []) (expected.Number ∷ expected.Number ∷ expected.End ∷ []) _ _ c.in_err-aspect.ensures in
    grind (arith, common_steps, after, lacking)
