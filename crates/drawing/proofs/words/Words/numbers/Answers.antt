use Rattle.std.proofs.Common.{rules}
use Rattle.drawing.proofs.Rows.{one_lacking, one_more, all_read}
use Rattle.drawing.proofs.words.Words.numbers.Goals as goal

pub returns-in_err-number : goal.returns-in_err-number
returns-in_err-number g c =
    let lacking = one_lacking c.loop-number.invariant c.loop-number-test.true _ c.in_err-number.ensures in
    search (rules, lacking)

pub loop-number-preserved : goal.loop-number-preserved
loop-number-preserved g c = one_more c.loop-number.invariant c.loop-number-test.true _ _ c.in_ok-number.ensures

pub returns : goal.returns
returns g c = all_read c.loop-number.invariant c.loop-number-test.false c.loop-number.auto.number-index-end
