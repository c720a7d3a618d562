use Rattle.std.proofs.Common.{◌≡◌, Some, arith}
use Rattle.std.specs.List.{slice_get}
use Rattle.std.proofs.lemmas.Result.{err_from_is_err_and}
use Rattle.svgtree.specs.Memory.{nodes_of}
use Rattle.svgtree.proofs.Editing.{set_fails, set_done}
use Rattle.svgtree.proofs.document.Document.set.Goals as goal

pub returns-in_err-first : goal.returns-in_err-first
returns-in_err-first c =
    let read : slice_get (nodes_of c.args.self.now c.args.nodes.now) c.args.node ≡ Some c.in_ok-found.found = grind arith in
    let p = err_from_is_err_and c.from_residual-in_err-first.result c.from_residual-in_err-first.ensures.1 in
    rw (p.1, p.2)
    (set_fails _ _ _ _ _ read _ _ (rw (c.takes-taken.ensures, c.has_form.ensures, c.in_range.ensures) at c.first.ensures) _ c.in_err-first.was)

pub returns : goal.returns
returns c =
    let read : slice_get (nodes_of c.args.self.now c.args.nodes.now) c.args.node ≡ Some c.in_ok-found.found = grind arith in
    set_done _ _ _ _ _ read _ _ (rw (c.takes-taken.ensures, c.has_form.ensures, c.in_range.ensures) at c.first.ensures) c.in_ok-first.was
    _ _ (rw c.with-changed.ensures at c.replace.ensures.effect)
