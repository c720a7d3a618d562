use Rattle.std.proofs.Common.{◌≡◌, drop}
use Rattle.feed.specs.Feeding.{fed_from}
use Rattle.feed.proofs.draw.Given as goal

-- what is left to do comes to the same as the whole
abbrev pub invariant-loop-i : goal.invariant-loop-i
invariant-loop-i g l = let of = g.S.Sink.meaning in fed_from 0 l.records (of l.initial.sink) ≡ fed_from l.i-counter (drop l.i-counter l.records) (of l.sink)
