use Rattle.drawing.proofs.Rows.{IsPartlyRead}
use Rattle.drawing.proofs.words.Words.numbers.Given as goal

abbrev pub invariant-loop-number : goal.invariant-loop-number
invariant-loop-number g l = IsPartlyRead g.row.N l.number-index l.fn.self l.self l.number-items
