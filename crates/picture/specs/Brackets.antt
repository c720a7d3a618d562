-- In words: each shown node has one stretch of the script, in which its groups stand around all that it holds.
use Rattle.std.specs.Prelude.{◌≡◌, ℕ, ◌+◌, ◌<◌, true, cond, List, [], ◌∷◌, ◌++◌, map, filter, nat_eq}
use mathlib.Core.List.{Memᴰ}
use Rattle.std.specs.List.{AllByRecursion}
use Rattle.picture.specs.Script.{Event, Script, rewrite, within, Balanced, groups_opened}
use Rattle.picture.specs.Script.Event.{opened, marked, closed}
use Rattle.picture.specs.Nodes.{Nodes, above, path, Tree}
use Rattle.picture.specs.Rules.{Rules, groups_at, BareLeaves, nest}
use Rattle.picture.specs.Document.{state_of, shown}

-- a group or a mark with the node that gives it, and its place among the groups or the marks of that node
pub record Owned (Thing : Type 0) : Type 0 where
  pub node : ℕ
  pub place : ℕ
  pub thing : Thing

-- what node n gives, from place i on
abbrev pub owned_by : {Thing : Type 0} → ℕ → ℕ → List Thing → List (Owned Thing)
owned_by n i [] = []
owned_by n i (x ∷ xs) = record { node = n; place = i; thing = x } ∷ owned_by n (i + 1) xs

-- the same rules, with groups and marks that say whose they are
abbrev pub owning : {Item State Group Mark : Type 0} → Rules Item State Group Mark → Rules Item State (Owned Group) (Owned Mark)
owning R = record {
  leaf = R.leaf;
  drawn = R.drawn;
  groups = λ n i c s. owned_by n 0 (R.groups n i c s);
  inside = R.inside;
  mark = λ n i s. record { node = n; place = 0; thing = R.mark n i s };
}

-- the same script without owners
abbrev pub unowned : {Group Mark : Type 0} → Script (Owned Group) (Owned Mark) → Script Group Mark
unowned s = map (rewrite (λ g. g.thing) (λ m. m.thing)) s

-- n is one of these numbers
abbrev pub In : ℕ → List ℕ → Type 0
In n ks = Memᴰ n ks

-- what belongs between the groups of n: the groups of nodes below n, and the marks of n and of leaves below it
abbrev pub Inside : {Item Group Mark : Type 0} → Nodes Item → ℕ → Event (Owned Group) (Owned Mark) → Type 0
Inside d n (opened g) = In n (above d g.node)
Inside d n (marked m) = In n (path d m.node)
Inside d n closed = Unit {0}

-- what belongs neither to n nor to a node below it
abbrev pub Outside : {Item Group Mark : Type 0} → Nodes Item → ℕ → Event (Owned Group) (Owned Mark) → Type 0
Outside d n (opened g) = In n (path d g.node) → ⊥
Outside d n (marked m) = In n (path d m.node) → ⊥
Outside d n closed = Unit {0}

-- the stretch of node n: within its groups, all that belongs there and nothing else; before and after it, nothing that belongs there
pub record Stretch {Item Group Mark : Type 0} (d : Nodes Item) (n : ℕ) (gs : List (Owned Group)) (s : Script (Owned Group) (Owned Mark)) : Type 0 where
  pub before : Script (Owned Group) (Owned Mark)
  pub between : Script (Owned Group) (Owned Mark)
  pub after : Script (Owned Group) (Owned Mark)
  pub splits : s ≡ before ++ (within gs between ++ after)
  pub balanced : Balanced between
  pub inside : AllByRecursion (Inside d n) between
  pub outside_before : AllByRecursion (Outside d n) before
  pub outside_after : AllByRecursion (Outside d n) after

module _ {Item State Group Mark : Type 0} (R : Rules Item State Group Mark) (d : Nodes Item) where
  -- the groups of node n, where s is the state outside the root
  abbrev pub own_groups : State → ℕ → List (Owned Group)
  own_groups s n = owned_by n 0 (groups_at R d n (state_of R d s n))

  -- each shown node has its stretch, be it empty or not; and of each node those groups open that it gives, each once, if it is shown
  pub record Bracketed (s₀ : State) (s : Script (Owned Group) (Owned Mark)) : Type 0 where
    pub balanced : Balanced s
    pub stretch : (n : ℕ) → n < d.count → shown R d n ≡ true → Stretch d n (own_groups s₀ n) s
    pub once : (n : ℕ) → n < d.count → filter (λ g. nat_eq g.node n) (groups_opened s) ≡ cond (shown R d n) (own_groups s₀ n) []

-- LAWS

-- each group of a shown node opens once, round all that it holds, empty ones too: so stands the nest, when it is told whose each group is
abbrev pub EachGroupOpensOnceRoundWhatItHolds : (Item State Group Mark : Type 0) → Type 0
EachGroupOpensOnceRoundWhatItHolds Item State Group Mark =
    (R : Rules Item State Group Mark) (d : Nodes Item) (l : ℕ) (s : State) → Tree d l → BareLeaves R d →
    (unowned (nest (owning R) d l 0 s) ≡ nest R d l 0 s) × Bracketed R d s (nest (owning R) d l 0 s)
