use Rattle.std.proofs.Common.{arith, rules}
use Rattle.reply.proofs.Hexing.{eight}
use Rattle.reply.proofs.bits.BitsDisplay.fmt.Goals as goal

pub returns-clause-writes : goal.returns-clause-writes
returns-clause-writes g c =
    let e = eight c.bits_of-bits.result (omega arith) in
    search rules
