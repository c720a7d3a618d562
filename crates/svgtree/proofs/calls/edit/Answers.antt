use Rattle.std.proofs.Common.{rules, ◌≡◌, length, arith}
use Rattle.std.proofs.lemmas.List.{set-get_or}
use Rattle.svgtree.proofs.Running.{stands_first, stands_written, stands_past, stands_last}
use Rattle.svgtree.proofs.calls.edit.Goals as goal

pub loop-place-init : goal.loop-place-init
loop-place-init c = search (rules, stands_first)

pub returns-in_default : goal.returns-in_default
returns-in_default c = rw set-get_or (stands_last _ _ _ _ _ _ _ _ _ c.loop-place.invariant c.in_default.ensures.steps.0)

pub loop-place-preserved : goal.loop-place-preserved
loop-place-preserved c = stands_written _ _ _ _ _ _ _ _ _ _ _ c.loop-place.invariant c.in-Some.ensures.steps _ _ _ c.call.ensures c.call.auto.nodes (omega arith)

pub loop-call-init : goal.loop-call-init
loop-call-init c =
    let filled : length c.loop-place.answers ≡ c.loop-place.place-index = omega arith in
    rw (filled, c.into_iter-call-iterator.ensures.into_iter_gives) c.loop-place.invariant

pub loop-call-preserved : goal.loop-call-preserved
loop-call-preserved c = stands_past _ _ _ _ _ _ _ _ _ _ _ c.loop-call.invariant c.in-Some-call.ensures.steps _ _ _ c.call-in-loop-call.ensures c.call-in-loop-call.auto.nodes (omega arith)

pub returns : goal.returns
returns c = stands_last _ _ _ _ _ _ _ _ _ c.loop-call.invariant c.in-None.ensures.steps.0
