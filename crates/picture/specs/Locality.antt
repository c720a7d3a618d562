-- How a leaf is seen rests on its path alone: what lies beside the path cannot matter.
use Rattle.std.specs.Prelude.{◌≡◌, ℕ, ◌<◌, Bool, true, false, Option}
use Rattle.picture.specs.Nodes.{Nodes, path, Tree}
use Rattle.picture.specs.Rules.{Rules, leaf_at}
use Rattle.picture.specs.Document.{shown_leaf, seen_at}
use Rattle.picture.specs.Brackets.{In}

-- the rules look at the first child of those items alone that the test `uses` passes, and no leaf passes it
pub record LooksAtChildOf {Item State Group Mark : Type 0} (uses : Item → Bool) (R : Rules Item State Group Mark) : Type 0 where
  pub groups : (n : ℕ) (i : Item) (a b : Option Item) (s : State) → uses i ≡ false → R.groups n i a s ≡ R.groups n i b s
  pub inside : (n : ℕ) (i : Item) (a b : Option Item) (s : State) → uses i ≡ false → R.inside n i a s ≡ R.inside n i b s
  pub leaves : (i : Item) → R.leaf i ≡ true → uses i ≡ false

-- an item that passes the test has at most one child
abbrev pub OneChildUnder : {Item : Type 0} → (Item → Bool) → Nodes Item → Type 0
OneChildUnder uses d =
    (j k : ℕ) → 0 < j → j < d.count → 0 < k → k < d.count →
    d.parent j ≡ d.parent k → uses (d.item (d.parent j)) ≡ true → j ≡ k

-- node k has the same item and the same parent in both
abbrev pub SameNode : {Item : Type 0} → Nodes Item → Nodes Item → ℕ → Type 0
SameNode d e k = (d.item k ≡ e.item k) × (0 < k → d.parent k ≡ e.parent k)

-- LAWS

-- a leaf whose path has the same nodes in two documents is shown in both or in neither, and is seen the same
abbrev pub LeafRestsOnItsPath : (Item State Group Mark : Type 0) → Type 0
LeafRestsOnItsPath Item State Group Mark =
    (R : Rules Item State Group Mark) (uses : Item → Bool) → LooksAtChildOf uses R →
    (d e : Nodes Item) (l m : ℕ) → Tree d l → Tree e m → OneChildUnder uses d → OneChildUnder uses e →
    (n : ℕ) → n < d.count → n < e.count → leaf_at R d n ≡ true → ((k : ℕ) → In k (path d n) → SameNode d e k) →
    (s : State) → (path d n ≡ path e n) × (seen_at R d s n ≡ seen_at R e s n) × (shown_leaf R d n ≡ shown_leaf R e n)
