-- Rules for what nodes give, and the script that they give a tree of nodes.
use Rattle.std.specs.Prelude.{◌≡◌, ℕ, zero, suc, ◌+◌, ◌*◌, ◌<◌, ◌≤◌, Bool, false, cond, List, [], ◌∷◌, length, Option}
use Rattle.std.specs.List.{flat_map}
use Rattle.picture.specs.Script.{Script, within}
use Rattle.picture.specs.Script.Event.{marked}
use Rattle.picture.specs.Nodes.{Nodes, children, first_child, parent_item, Tree}

-- What an item gives: whether it is a leaf; whether it is drawn, given its parent's item; by its node's number, its groups and the state
-- inside it, given its first child's item and the state outside it; and, of a leaf, its mark, given the state outside it.
pub record Rules (Item State Group Mark : Type 0) : Type 0 where
  pub leaf : Item → Bool
  pub drawn : Option Item → Item → Bool
  pub groups : ℕ → Item → Option Item → State → List Group
  pub inside : ℕ → Item → Option Item → State → State
  pub mark : ℕ → Item → State → Mark

module _ {Item State Group Mark : Type 0} (R : Rules Item State Group Mark) (d : Nodes Item) where
  -- the rules at a node, by its number
  abbrev pub leaf_at : ℕ → Bool
  leaf_at n = R.leaf (d.item n)

  abbrev pub drawn_at : ℕ → Bool
  drawn_at n = R.drawn (parent_item d n) (d.item n)

  abbrev pub groups_at : ℕ → State → List Group
  groups_at n s = R.groups n (d.item n) (first_child d n) s

  abbrev pub inside_at : ℕ → State → State
  inside_at n s = R.inside n (d.item n) (first_child d n) s

  abbrev pub mark_at : ℕ → State → Mark
  mark_at n s = R.mark n (d.item n) s

  -- no leaf is a parent
  abbrev pub BareLeaves : Type 0
  BareLeaves = (k : ℕ) → 0 < k → k < d.count → leaf_at (d.parent k) ≡ false

  -- THE NEST of node n in the state s, l levels deep: where it is drawn, its groups around its mark or around the nests of its children
  unfoldable pub nest : ℕ → ℕ → State → Script Group Mark
  nest zero n s = []
  nest (suc l) n s =
      cond (drawn_at n)
      (within (groups_at n s) (cond (leaf_at n) (marked (mark_at n s) ∷ []) (flat_map (λ k. nest l k (inside_at n s)) (children d n))))
      []

-- LAWS

-- where no node has more than b records, counting its groups twice and its mark once, the nest of the root has at most b for each node
abbrev pub NestLengthIsBounded : (Item State Group Mark : Type 0) → Type 0
NestLengthIsBounded Item State Group Mark =
    (R : Rules Item State Group Mark) (d : Nodes Item) (l b : ℕ) → Tree d l →
    ((n : ℕ) (s : State) → n < d.count → 2 * length (groups_at R d n s) + cond (leaf_at R d n) 1 0 ≤ b) →
    (s : State) → length (nest R d l 0 s) ≤ b * d.count
