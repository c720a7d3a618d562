use Rattle.reply.proofs.Zeros.{nan_bits, zero_bits, other_bits}
use Rattle.reply.proofs.bits.bits_of.Goals as goal

pub returns-then-is_nan : goal.returns-then-is_nan
returns-then-is_nan c = nan_bits c.args.x c.if-is_nan.ensures.value

pub returns-then-x : goal.returns-then-x
returns-then-x c = zero_bits c.args.x c.if-x.true

pub returns-else-x : goal.returns-else-x
returns-else-x c = other_bits c.args.x c.if-x.false
