use Rattle.std.proofs.Common.{length}
use Rattle.svgtree.proofs.Running.{Standing}
use Rattle.svgtree.proofs.calls.edit.Given as goal

abbrev pub invariant-loop-place : goal.invariant-loop-place
invariant-loop-place l = Standing l.initial.document l.initial.nodes l.calls l.initial.answers l.place-index l.left.rest.now l.document l.nodes l.answers

abbrev pub invariant-loop-call : goal.invariant-loop-call
invariant-loop-call l = Standing l.fn.document l.fn.nodes l.calls l.fn.answers (length l.answers) l.call-iterator.rest.now l.document l.nodes l.answers
