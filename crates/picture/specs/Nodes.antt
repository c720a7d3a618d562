-- Nodes by number, with the paths and the order that their parents give.
use Rattle.std.specs.Prelude.{◌≡◌, ℕ, zero, suc, ◌-◌, ◌<◌, cond, List, [], ◌∷◌, ◌++◌, length, Some, None, filter, Option, ◌==◌, nat_eq}
use Rattle.std.specs.List.{flat_map, range_with_len, AllByRecursion}

-- so many nodes, the root being node 0: the item of each, and the parent of each other than the root
pub record Nodes (Item : Type 0) : Type 0 where
  pub count : ℕ
  pub item : ℕ → Item
  pub parent : ℕ → ℕ

module _ {Item : Type 0} (d : Nodes Item) where
  -- the nodes whose parent is n, by number
  abbrev pub children : ℕ → List ℕ
  children n = filter (λ k. nat_eq (d.parent k) n) (range_with_len 1 (d.count - 1))

  abbrev pub first_item : List ℕ → Option Item
  first_item [] = None
  first_item (k ∷ ks) = Some (d.item k)

  -- the item of the first child
  abbrev pub first_child : ℕ → Option Item
  first_child n = first_item (children n)

  -- the item of the parent; the root has none
  abbrev pub parent_item : ℕ → Option Item
  parent_item n = cond (n == 0) None (Some (d.item (d.parent n)))

  -- from the root down to the parent of n, found in at most f steps up
  unfoldable pub climb : ℕ → ℕ → List ℕ
  climb zero n = []
  climb (suc f) n = cond (n == 0) [] (climb f (d.parent n) ++ d.parent n ∷ [])

  -- the nodes above n, from the root down: as numbers fall on the way up, n steps suffice
  abbrev pub above : ℕ → List ℕ
  above n = climb n n

  -- the path to n, from the root down
  abbrev pub path : ℕ → List ℕ
  path n = above n ++ n ∷ []

  -- document order of n and what is below it, l levels deep: each node before its children, these by number
  unfoldable pub order : ℕ → ℕ → List ℕ
  order zero n = []
  order (suc l) n = n ∷ flat_map (λ k. order l k) (children n)

  -- a tree of at most l levels: there is a root, and each other node has a smaller number above it
  pub record Tree (l : ℕ) : Type 0 where
    pub root : 0 < d.count
    pub before : (k : ℕ) → 0 < k → k < d.count → d.parent k < k
    pub levels : (k : ℕ) → k < d.count → length (above k) < l

-- LAWS

-- document order from the root has each node once, and nothing else
abbrev pub OrderHasEachNodeOnce : (Item : Type 0) → Type 0
OrderHasEachNodeOnce Item =
    (d : Nodes Item) (l : ℕ) → Tree d l →
    AllByRecursion (λ m. m < d.count) (order d l 0)
    × ((n : ℕ) → n < d.count → filter (λ m. nat_eq m n) (order d l 0) ≡ n ∷ [])
    × (length (order d l 0) ≡ d.count)
