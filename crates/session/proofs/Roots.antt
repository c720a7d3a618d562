-- The answer of a document's root, from the first node in memory.
use Rattle.std.proofs.Common.{◌≡◌, List, [], ◌∷◌, map, Some, ap}
use Rattle.std.specs.Result.{result_map_both}
use Rattle.std.specs.List.{slice_get}
use Rattle.geom.specs.declared.options.Options.{Options}
use Rattle.svgtree.specs.Memory.{item_of}
use Rattle.svgtree.specs.declared.node.Node.{Node}
use Rattle.reply.specs.declared.answer.Answer.TheVariants.{Size}
use Rattle.session.specs.Size.{size_of}
use Rattle.session.specs.Steps.{root_answer}

pub a_root : (options : Options) (l : List Node) (root : Node) → slice_get l 0 ≡ Some root
    → root_answer options (map item_of l) ≡ result_map_both (λ size. Size size) (λ refusal. refusal) (size_of root.element options)
a_root options [] root e = cc
a_root options (n ∷ ns) root e =
    let same : n ≡ root = cc in
    ap (λ (m : Node). root_answer options (item_of m ∷ map item_of ns)) same
