use Rattle.std.proofs.Common.{rules, ap, ◌∙◌}
use Rattle.std.specs.Fmt.{decimal}
use Rattle.reply.proofs.Flags.{flag_digit}
use Rattle.reply.proofs.plain.PlainAnswerDisplay.fmt.Goals as goal

pub returns-in-Size-clause-writes : goal.returns-in-Size-clause-writes
returns-in-Size-clause-writes g c =
    let flag = ap decimal c.from.ensures ∙ flag_digit c.in-Size.root.flag in
    search rules
