-- Links and levels in memory that agree with the parents.
use Rattle.std.specs.Prelude.{◌≡◌, ℕ, zero, suc, ◌+◌, ◌<◌, Bool, cond, ◌&&◌, List, [], ◌∷◌, length, Some, None, Option, ◌≢◌, nat_lt}
use Rattle.svgtree.specs.declared.node.Node.{Node}
use Rattle.svgtree.specs.declared.document.Document.{Document}
use Rattle.svgtree.specs.Model.{children, level}
use Rattle.svgtree.specs.Memory.{nodes_of, model_of, node_at}

-- k is the first number after b, of n numbers, whose parent is p; or there is none
abbrev pub Next : ℕ → (ℕ → ℕ) → ℕ → ℕ → Option ℕ → Type 0
Next n par p b None = (j : ℕ) → b < j → j < n → par j ≢ p
Next n par p b (Some k) = (b < k) × (k < n) × (par k ≡ p) × ((j : ℕ) → b < j → j < k → par j ≢ p)

-- l is the last of n numbers above p whose parent is p; or there is none
abbrev pub Last : ℕ → (ℕ → ℕ) → ℕ → Option ℕ → Type 0
Last n par p None = (j : ℕ) → p < j → j < n → par j ≢ p
Last n par p (Some l) = (p < l) × (l < n) × (par l ≡ p) × ((j : ℕ) → l < j → j < n → par j ≢ p)

-- Of n numbers, the root being 0, of level 1 and without a sibling: each other's parent comes before it, and its level is one
-- more than its parent's; first and last are the children of least and greatest number, and next is the next child of the same
-- parent.
pub record Ties (n : ℕ) (par lev : ℕ → ℕ) (first last next : ℕ → Option ℕ) : Type 0 where
  pub root : 0 < n → (lev 0 ≡ 1) × (next 0 ≡ None)
  pub before : (j : ℕ) → 0 < j → j < n → par j < j
  pub levels : (j : ℕ) → 0 < j → j < n → lev j ≡ lev (par j) + 1
  pub firsts : (p : ℕ) → p < n → Next n par p p (first p)
  pub lasts : (p : ℕ) → p < n → Last n par p (last p)
  pub nexts : (k : ℕ) → 0 < k → k < n → Next n par (par k) k (next k)

-- the levels and the links of these nodes agree with their parents
unfoldable pub Linked : List Node → Type 0
Linked ns =
    Ties (length ns)
    (λ k. (node_at ns k).parent)
    (λ k. (node_at ns k).level)
    (λ k. (node_at ns k).first_child)
    (λ k. (node_at ns k).last_child)
    (λ k. (node_at ns k).next_sibling)

-- FOLLOWING LINKS

-- a link from b to k leads to a later one of n nodes; no other link is followed
abbrev pub rising : ℕ → ℕ → ℕ → Bool
rising n b k = nat_lt b k && nat_lt k n

-- the node that a link from b leads to, if it is followed
abbrev pub onward : ℕ → ℕ → Option ℕ → Option ℕ
onward n b None = None
onward n b (Some k) = cond (rising n b k) (Some k) None

abbrev pub head : List ℕ → Option ℕ
head [] = None
head (k ∷ ks) = Some k

-- what links give, from one on, where b was the last before: at most f steps
unfoldable pub chain : ℕ → ℕ → (ℕ → Option ℕ) → ℕ → Option ℕ → List ℕ
chain zero n next b link = []
chain (suc f) n next b None = []
chain (suc f) n next b (Some k) = cond (rising n b k) (k ∷ chain f n next k (next k)) []

-- the children of p by links: the first, and from each the next sibling; as numbers rise, as many steps as nodes suffice
abbrev pub linked_children : List Node → ℕ → List ℕ
linked_children ns p = chain (length ns) (length ns) (λ k. (node_at ns k).next_sibling) p (node_at ns p).first_child

-- LAWS: where memory is linked, following the links from a node gives its children in the document, in order
abbrev pub LinksGiveChildren : Type 0
LinksGiveChildren =
    (d : Document) (ns : List Node) (p : ℕ) → Linked (nodes_of d ns) → p < length (nodes_of d ns) →
    linked_children (nodes_of d ns) p ≡ children (model_of d ns) p

-- and the level that the memory has for a node is its level in the document
abbrev pub LevelsAreDepths : Type 0
LevelsAreDepths =
    (d : Document) (ns : List Node) (p : ℕ) → Linked (nodes_of d ns) → p < length (nodes_of d ns) →
    (node_at (nodes_of d ns) p).level ≡ level (model_of d ns) p
