use Rattle.std.proofs.Common.{[], ◌∷◌, arith}
use Rattle.std.proofs.lemmas.Grind.{common_steps}
use Rattle.drawing.specs.Grammar.{fits, missing}
use Rattle.drawing.specs.Values.{words_of}
use Rattle.drawing.specs.declared.expected.Expected.TheVariants as expected
use Rattle.drawing.proofs.Rows.{stops}
use Rattle.drawing.proofs.command.set.Goals as goal

pub returns-in_err-value : goal.returns-in_err-value
unfolding fits missing
returns-in_err-value c =
    let lacking = stops (words_of c.in_ok-form.form) (expected.End ∷ []) _ _ c.in_err-value.ensures in
    grind (arith, common_steps, lacking)
