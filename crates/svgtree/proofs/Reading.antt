-- Laws of the document that a memory holds.
use Rattle.std.proofs.Common.{◌≡◌, ℕ, zero, suc, ◌<◌, ◌≤◌, min, Bool, true, false, not, ltb, List, [], ◌∷◌, length, Some, None, Ok, Err, Option, refl, ap, arith}
use Rattle.std.specs.List.{AllByRecursion, slice_get}
use Rattle.std.proofs.Math.ListN.{get_or-map}
use Rattle.std.proofs.lemmas.List.{length-map, length-take, get_or-take}
use Rattle.std.proofs.lemmas.Option.{slice_get_within, get_or_from_slice_get}
use Rattle.std.proofs.lemmas.Bool.{lt-ltb, cond-false}
use Rattle.refusal.specs.Order.{first_of, unless}
use Rattle.refusal.specs.declared.Refusal.{Refusal}
use Rattle.refusal.specs.declared.Refusal.TheVariants.{UnknownNode}
use Rattle.svgtree.specs.declared.node.Node.{Node}
use Rattle.svgtree.specs.declared.document.Document.{Document}
use Rattle.svgtree.specs.Model.{count, item}
use Rattle.svgtree.specs.Memory.{item_of, nodes_of, model_of, no_node, node_at}

-- A READ OF A LIST

-- a read that gives nothing is past the end
pub nth_none : {X : Type 0} (xs : List X) (n : ℕ) → slice_get xs n ≡ None → length xs ≤ n
nth_none [] n none = omega arith
nth_none (x ∷ xs) zero none = cc
nth_none (x ∷ xs) (suc n) none = let past : length xs ≤ n = nth_none xs n none in omega arith

-- THE MODEL

module _ (d : Document) (ns : List Node) where
  pub model_count : count (model_of d ns) ≡ length (nodes_of d ns)
  model_count = length-map (nodes_of d ns) item_of

  pub nodes_count : length (nodes_of d ns) ≡ min d.count (length ns)
  nodes_count = length-take d.count ns

  pub model_item : (n : ℕ) → item (model_of d ns) n ≡ item_of (node_at (nodes_of d ns) n)
  model_item n = get_or-map item_of (nodes_of d ns) n no_node

  pub node_used : (n : ℕ) → n < length (nodes_of d ns) → node_at (nodes_of d ns) n ≡ node_at ns n
  node_used n inside = get_or-take d.count ns n no_node (omega (arith, nodes_count))

-- A NODE WAS READ: it was added, and stands there
module _ (d : Document) (ns : List Node) (n : ℕ) (found : Node) (read : slice_get (nodes_of d ns) n ≡ Some found) where
  pub found_inside : n < length (nodes_of d ns)
  found_inside = slice_get_within (nodes_of d ns) n found read

  pub found_there : node_at (nodes_of d ns) n ≡ found
  found_there = get_or_from_slice_get (nodes_of d ns) n found no_node read

-- CHECKS

-- where no check fails, each passes
pub passes : (checks : List (Bool × Refusal)) → first_of checks ≡ None → AllByRecursion (λ check. check.0 ≡ false) checks
passes [] is = tt
passes ((true, e) ∷ later) is = cc
passes ((false, e) ∷ later) is = (refl, passes later is)

-- an answer that refuses gives the refusal of the checks, and another one tells that none refuses
pub was_refused : {X : Type 0} (refusal : Option Refusal) (x : X) (e : Refusal) → unless refusal x ≡ Err e → refusal ≡ Some e
was_refused None x e is = cc
was_refused (Some r) x e is = cc

pub not_refused : {X : Type 0} (refusal : Option Refusal) (x y : X) → unless refusal x ≡ Ok y → refusal ≡ None
not_refused None x y is = refl
not_refused (Some r) x y is = cc

-- the checks of a node that was added
pub was_added : (d : Document) (ns : List Node) (n : ℕ) (later : List (Bool × Refusal)) → n < length (nodes_of d ns) →
    first_of ((not (ltb n (count (model_of d ns))), UnknownNode) ∷ later) ≡ first_of later
was_added d ns n later inside = cond-false _ _ _ (ap not (lt-ltb n (count (model_of d ns)) (omega (arith, model_count d ns))))
