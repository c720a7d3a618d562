use Rattle.std.proofs.Common.{sym, refl, ◌∙◌}
use Rattle.svgtree.proofs.Following.{not_read, was_read, next_there}
use Rattle.svgtree.proofs.document.Document.next_sibling.Goals as goal

pub returns-in_err-found-clause-sibling : goal.returns-in_err-found-clause-sibling
returns-in_err-found-clause-sibling c = λ linked other.
    c.from_residual.ensures ∙ not_read c.args.self.now c.args.nodes.now c.args.node (λ x. x.next_sibling) refl (sym c.node.ensures ∙ c.in_err-found.was)
    ∙ next_there c.args.self.now c.args.nodes.now c.args.node linked other

pub returns-clause-sibling : goal.returns-clause-sibling
returns-clause-sibling c = λ linked other.
    was_read c.args.self.now c.args.nodes.now c.args.node (λ x. x.next_sibling) c.in_ok-found.found c.used.result c.followed.result (sym c.node.ensures ∙ c.in_ok-found.was) c.used.ensures c.followed.ensures
    ∙ next_there c.args.self.now c.args.nodes.now c.args.node linked other
