use Rattle.std.proofs.Common.{rules, refl, ap, sym, ◌∙◌, arith}
use Rattle.std.specs.Float.{float_is_finite}
use Rattle.std.specs.List.{list_all}
use Rattle.std.proofs.lemmas.List.{take_all}
use Rattle.group_table.specs.Floats.{is_number}
use Rattle.std.proofs.lemmas.List.{length-replicate}
use Rattle.group_table.proofs.Packing.{none_matched, all_matched, word_matched, number_more, passes_at}
use Rattle.group_table.proofs.bits.Bits.pack.Goals as goal

pub loop-i-init : goal.loop-i-init
loop-i-init g c = (none_matched _ c.args.floats g.row.N (length-replicate g.row.N 0) (search rules), refl)

pub bits_of-requires : goal.bits_of-requires
bits_of-requires g c = passes_at float_is_finite c.args.floats c.loop-i.i _ (omega (arith, c.loop-i.invariant.0.long_floats, c.loop-i-test.true)) c.requires

pub loop-i-preserved : goal.loop-i-preserved
loop-i-preserved g c =
    let is = c.loop-i.invariant in (
      word_matched c.loop-i.words c.args.floats c.loop-i.i g.row.N c.loop-i-test.true is.0 c.bits_of.result _ c.bits_of.ensures.value,
      number_more c.loop-i.words c.args.floats c.loop-i.i g.row.N c.loop-i-test.true is.0 c.bits_of.result is.1 c.bits_of.ensures.number,
    )

pub invariant_of-result : goal.invariant_of-result
invariant_of-result g c =
    let is = c.loop-i.invariant in
    record { numbers = ap (list_all is_number) (sym (take_all c.loop-i.i c.loop-i.words (omega (arith, is.0.long_words, c.loop-i-test.false)))) ∙ is.1 }

pub returns : goal.returns
returns g c = all_matched c.loop-i.words c.args.floats c.loop-i.i g.row.N c.loop-i-test.false c.loop-i.invariant.0
