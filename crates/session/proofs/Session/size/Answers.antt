use Rattle.std.proofs.Common.{◌≡◌, Some, vec_items, sym, ap, ◌∙◌, rules}
use Rattle.std.specs.Option.{option_map}
use Rattle.std.specs.Result.{result_map_both}
use Rattle.std.specs.List.{slice_get}
use Rattle.svgtree.specs.Memory.{nodes_of, model_of}
use Rattle.reply.specs.declared.answer.Answer.TheVariants.{Size}
use Rattle.session.specs.Size.{size_of}
use Rattle.session.specs.Steps.{size_answer}
use Rattle.session.proofs.Roots.{a_root}
use Rattle.session.proofs.Session.size.Goals as goal

pub returns : goal.returns
returns c =
    let d = c.in_ok-document.document in
    let root = c.in_ok-root.root in
    let items = vec_items c.args.self.now.nodes in
    let held : c.args.self.now.document ≡ Some d = search rules in
    let found : slice_get (nodes_of d items) 0 ≡ Some root = search rules in
    let told : c.map.result ≡ result_map_both (λ size. Size size) (λ refusal. refusal) (size_of root.element d.options) = search rules in
    told ∙ sym (a_root d.options (nodes_of d items) root found) ∙ ap (λ o. size_answer (option_map (λ e. model_of e items) o)) (sym held)
