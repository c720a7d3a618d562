-- The floats that the code writes out are those that the rules name.
use Rattle.geom.proofs.Constants.{zero_is, one_is}

pub ruleset constants = (zero_is, one_is)
