use Rattle.std.proofs.Common.{rules, arith}
use Rattle.std.proofs.Math.Seq.{take-set-lt}
use Rattle.list.proofs.replace.Goals as goal

pub returns-clause-effect : goal.returns-clause-effect
returns-clause-effect g c =
    let e = take-set-lt c.args.count c.args.items.now c.args.i c.args.x (omega arith) in
    search rules
