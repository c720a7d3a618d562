use Rattle.std.proofs.Common.{◌≡◌, drop}
use Rattle.refusal.specs.Order.{first_of}
use Rattle.refusal.proofs.first.Given as goal

-- the checks that were passed over did not fail
abbrev pub invariant-loop-fails : goal.invariant-loop-fails
invariant-loop-fails g l = first_of l.checks ≡ first_of (drop l.fails-index l.checks)
