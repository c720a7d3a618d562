use lib.Ieee.{binary32}
use lib.Ieee.Bits.{of_bits-to_bits}
use Rattle.group_table.proofs.Finite.{holds, no_nan_at, no_nan_bits}
use Rattle.group_table.proofs.bits.bits_of.Goals as goal

pub float_to_bits-result : goal.float_to_bits-result
float_to_bits-result c = no_nan_at c.args.float c.requires

pub returns : goal.returns
returns c = record {
  value = of_bits-to_bits binary32 c.args.float (holds _ c.well_formed.0.1);
  number = no_nan_bits c.args.float (holds _ c.well_formed.0.1) c.requires;
}
