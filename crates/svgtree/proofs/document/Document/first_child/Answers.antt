use Rattle.std.proofs.Common.{sym, refl, ◌∙◌}
use Rattle.svgtree.proofs.Following.{not_read, was_read, first_there}
use Rattle.svgtree.proofs.document.Document.first_child.Goals as goal

pub returns-in_err-found-clause-child : goal.returns-in_err-found-clause-child
returns-in_err-found-clause-child c = λ linked.
    c.from_residual.ensures ∙ not_read c.args.self.now c.args.nodes.now c.args.node (λ x. x.first_child) refl (sym c.node.ensures ∙ c.in_err-found.was)
    ∙ first_there c.args.self.now c.args.nodes.now c.args.node linked

pub returns-clause-child : goal.returns-clause-child
returns-clause-child c = λ linked.
    was_read c.args.self.now c.args.nodes.now c.args.node (λ x. x.first_child) c.in_ok-found.found c.used.result c.followed.result (sym c.node.ensures ∙ c.in_ok-found.was) c.used.ensures c.followed.ensures
    ∙ first_there c.args.self.now c.args.nodes.now c.args.node linked
