use Rattle.std.proofs.Common.{rules, ◌≡◌, Some, Ok, arith}
use Rattle.std.specs.List.{slice_get}
use Rattle.std.proofs.lemmas.Result.{err_from_is_err_and}
use Rattle.svgtree.specs.Memory.{nodes_of}
use Rattle.svgtree.proofs.Reading.{nodes_count, found_inside}
use Rattle.svgtree.proofs.Placing.{add_fails, add_passes}
use Rattle.svgtree.proofs.document.Document.add.Goals as goal

pub returns-in_err-first : goal.returns-in_err-first
returns-in_err-first c =
    let read : slice_get (nodes_of c.args.self.now c.args.nodes.now) c.args.parent ≡ Some c.in_ok-above.above = grind arith in
    let p = err_from_is_err_and c.from_residual-in_err-first.result c.from_residual-in_err-first.ensures.1 in
    rw (p.1, p.2)
    (add_fails _ _ _ _ read _ c.used-count.ensures _ c.link_within-last.ensures _ (rw (c.takes_child.ensures, c.is_some.ensures, c.min.ensures) at c.first.ensures) _ _ c.in_err-first.was)

pub tie-requires-clause-parent : goal.tie-requires-clause-parent
tie-requires-clause-parent c =
    let read : slice_get (nodes_of c.args.self.now c.args.nodes.now) c.args.parent ≡ Some c.in_ok-above.above = grind arith in
    omega (arith, found_inside c.args.self.now c.args.nodes.now c.args.parent c.in_ok-above.above read, nodes_count c.args.self.now c.args.nodes.now)

pub returns : goal.returns
returns c =
    let added : c.add.result ≡ Ok c.in_ok-more.more = search rules in
    let read : slice_get (nodes_of c.args.self.now c.args.nodes.now) c.args.parent ≡ Some c.in_ok-above.above = grind arith in
    add_passes _ _ _ _ read _ c.used-count.ensures _ c.link_within-last.ensures _ (rw (c.takes_child.ensures, c.is_some.ensures, c.min.ensures) at c.first.ensures) _
    _ _ _ _ c.in_ok-first.was c.new.ensures (rw added at c.add.ensures.effect) c.tie.ensures
