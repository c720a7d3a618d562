use Rattle.std.proofs.Common.{rules, sym, arith}
use Rattle.group_table.specs.Floats.{is_number}
use Rattle.std.proofs.lemmas.List.{length-replicate}
use Rattle.group_table.proofs.Packing.{none_matched, all_matched, float_matched, passes_at}
use Rattle.group_table.proofs.bits.Bits.unpack.Goals as goal

pub loop-i-init : goal.loop-i-init
loop-i-init g c = none_matched c.args.self.words _ g.row.N (search rules) (length-replicate g.row.N _)

pub float_of-requires : goal.float_of-requires
float_of-requires g c = passes_at is_number c.args.self.words c.loop-i.i _ (omega (arith, c.loop-i.invariant.long_words, c.loop-i-test.true)) c.args.self.numbers

pub loop-i-preserved : goal.loop-i-preserved
loop-i-preserved g c = float_matched c.args.self.words c.loop-i.floats c.loop-i.i g.row.N c.loop-i-test.true c.loop-i.invariant c.float_of.result _ c.float_of.ensures

pub returns : goal.returns
returns g c = sym (all_matched c.args.self.words c.loop-i.floats c.loop-i.i g.row.N c.loop-i-test.false c.loop-i.invariant)
