-- That memory's links agree with a document has one proof at most.
use Rattle.std.proofs.Common.{ℕ, List, Some, None, Option}
use Rattle.std.proofs.Props.{props}
use Rattle.svgtree.specs.Links.{Next, Last, Linked}
use Rattle.svgtree.specs.declared.node.Node.{Node}

next_prop : (n : ℕ) (par : ℕ → ℕ) (p b : ℕ) (k : Option ℕ) → IsProp (Next n par p b k)
next_prop n par p b None = Prim.hlevel props
next_prop n par p b (Some k) = Prim.hlevel props

last_prop : (n : ℕ) (par : ℕ → ℕ) (p : ℕ) (k : Option ℕ) → IsProp (Last n par p k)
last_prop n par p None = Prim.hlevel props
last_prop n par p (Some k) = Prim.hlevel props

pub linked_prop : (ns : List Node) → IsProp (Linked ns)
unfolding Linked
linked_prop ns = Prim.hlevel (next_prop, last_prop, props)
