use Rattle.std.proofs.Common.{rules, ◌≡◌, true, false, eqb, Some, arith}
use Rattle.std.specs.List.{slice_get}
use Rattle.svgtree.specs.Allowed.{takes_attribute}
use Rattle.svgtree.specs.Memory.{nodes_of}
use Rattle.svgtree.proofs.Editing.{unset_fails, unset_done}
use Rattle.svgtree.proofs.document.Document.unset.Goals as goal

pub returns-then-not-takes : goal.returns-then-not-takes
returns-then-not-takes c =
    let read : slice_get (nodes_of c.args.self.now c.args.nodes.now) c.args.node ≡ Some c.in_ok-found.found = grind arith in
    let left : takes_attribute (eqb c.args.node 0) c.in_ok-found.found.element.kind c.args.attribute ≡ false = search rules in
    unset_fails _ _ _ _ _ read left

pub returns : goal.returns
returns c =
    let read : slice_get (nodes_of c.args.self.now c.args.nodes.now) c.args.node ≡ Some c.in_ok-found.found = grind arith in
    let taken : takes_attribute (eqb c.args.node 0) c.in_ok-found.found.element.kind c.args.attribute ≡ true = search rules in
    unset_done _ _ _ _ _ read taken _ _ (rw c.with-changed.ensures at c.replace.ensures.effect)
