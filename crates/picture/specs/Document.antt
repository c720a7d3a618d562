-- The picture and the outline of a document, by the paths to its nodes alone, and that its nest has these.
use Rattle.std.specs.Prelude.{◌≡◌, ℕ, Bool, true, cond, ◌&&◌, ◌↔◌, List, [], ◌∷◌, ◌++◌, map, length, fold, sum_by, filter}
use Rattle.std.specs.List.{flat_map}
use Rattle.picture.specs.Script.{Script, Balanced, groups_opened, marks_made}
use Rattle.picture.specs.Script.Event.{opened, marked}
use Rattle.picture.specs.Picture.{Seen, picture}
use Rattle.picture.specs.Outline.{Start, starts, outline}
use Rattle.picture.specs.Feeding.{fed, seen_behind, outline_behind}
use Rattle.picture.specs.Nodes.{Nodes, above, path, order, Tree}
use Rattle.picture.specs.Rules.{Rules, leaf_at, drawn_at, groups_at, inside_at, mark_at, BareLeaves, nest}

-- the test holds of each
abbrev pub every : {Thing : Type 0} → (Thing → Bool) → List Thing → Bool
every p [] = true
every p (x ∷ xs) = p x && every p xs

module _ {Item State Group Mark : Type 0} (R : Rules Item State Group Mark) (d : Nodes Item) where
  -- ALONG A PATH: the state inside the last of these nodes, each the parent of the next, where s is the state outside the first
  abbrev pub state_along : List ℕ → State → State
  state_along ks s = fold (λ u k. inside_at R d k u) s ks

  -- the groups of these nodes, the outermost first
  abbrev pub chain_along : List ℕ → State → List Group
  chain_along [] s = []
  chain_along (k ∷ ks) s = groups_at R d k s ++ chain_along ks (inside_at R d k s)

  -- AT A NODE, where s is the state outside the root: the state outside the node
  abbrev pub state_of : State → ℕ → State
  state_of s n = state_along (above d n) s

  -- the groups around what the node holds, its own among them
  abbrev pub chain_of : State → ℕ → List Group
  chain_of s n = chain_along (path d n) s

  -- the node and all above it are drawn
  abbrev pub shown : ℕ → Bool
  shown n = every (drawn_at R d) (path d n)

  abbrev pub shown_leaf : ℕ → Bool
  shown_leaf n = leaf_at R d n && shown n

  -- the leaf as it is seen
  abbrev pub seen_at : State → ℕ → Seen Group Mark
  seen_at s n = record { mark = mark_at R d n (state_of s n); chain = chain_of s n }

  -- what starts at the node: its groups one inside the other, and a leaf's mark, all in the groups of what is above it
  abbrev pub starts_at : State → ℕ → List (Start Group Mark)
  starts_at s n =
      starts (chain_along (above d n) s)
      (map opened (groups_at R d n (state_of s n)) ++ cond (leaf_at R d n) (marked (mark_at R d n (state_of s n)) ∷ []) [])

  -- THE PICTURE OF A DOCUMENT: its shown leaves in document order, each by its path alone
  unfoldable pub document_picture : ℕ → State → List (Seen Group Mark)
  document_picture l s = map (seen_at s) (filter shown_leaf (order d l 0))

  -- THE OUTLINE OF A DOCUMENT: its shown nodes in document order with their groups, empty ones too, and marks, each by its path alone
  unfoldable pub document_outline : ℕ → State → List (Start Group Mark)
  document_outline l s = flat_map (starts_at s) (filter shown (order d l 0))

-- LAWS, of any rules and any tree of nodes in which no leaf is a parent; fed, also of any base and any rewritings

-- the picture of the nest is the picture of the document
abbrev pub NestHasTheDocumentPicture : (Item State Group Mark : Type 0) → Type 0
NestHasTheDocumentPicture Item State Group Mark =
    (R : Rules Item State Group Mark) (d : Nodes Item) (l : ℕ) (s : State) → Tree d l → BareLeaves R d →
    picture (nest R d l 0 s) ≡ document_picture R d l s

-- the picture of the nest, fed, is the picture of the document rewritten and behind the base
abbrev pub FedNestHasTheDocumentPicture : (Item State Group Mark Other Sign : Type 0) → Type 0
FedNestHasTheDocumentPicture Item State Group Mark Other Sign =
    (R : Rules Item State Group Mark) (d : Nodes Item) (l : ℕ) (s : State) → Tree d l → BareLeaves R d →
    (base : List Other) (f : Group → Other) (h : Mark → Sign) →
    picture (fed base f h (nest R d l 0 s)) ≡ map (seen_behind base f h) (document_picture R d l s)

-- the nest is balanced and has the outline of the document, and no other script is so: each group opens once, round all that it holds
abbrev pub NestIsToldByTheDocumentOutline : (Item State Group Mark : Type 0) → Type 0
NestIsToldByTheDocumentOutline Item State Group Mark =
    (R : Rules Item State Group Mark) (d : Nodes Item) (l : ℕ) (s : State) → Tree d l → BareLeaves R d → (t : Script Group Mark) →
    (Balanced t × (outline t ≡ document_outline R d l s)) ↔ (t ≡ nest R d l 0 s)

-- the same of the nest, fed
abbrev pub FedNestIsToldByTheDocumentOutline : (Item State Group Mark Other Sign : Type 0) → Type 0
FedNestIsToldByTheDocumentOutline Item State Group Mark Other Sign =
    (R : Rules Item State Group Mark) (d : Nodes Item) (l : ℕ) (s : State) → Tree d l → BareLeaves R d →
    (base : List Other) (f : Group → Other) (h : Mark → Sign) (t : Script Other Sign) →
    (Balanced t × (outline t ≡ outline_behind base f h (document_outline R d l s))) ↔ (t ≡ fed base f h (nest R d l 0 s))

-- the nest opens the groups of the shown nodes and makes the marks of the shown leaves, in document order
abbrev pub NestOpensAndMarksWhatIsShown : (Item State Group Mark : Type 0) → Type 0
NestOpensAndMarksWhatIsShown Item State Group Mark =
    (R : Rules Item State Group Mark) (d : Nodes Item) (l : ℕ) (s : State) → Tree d l → BareLeaves R d →
    (groups_opened (nest R d l 0 s) ≡ flat_map (λ n. groups_at R d n (state_of R d s n)) (filter (shown R d) (order d l 0)))
    × (marks_made (nest R d l 0 s) ≡ map (λ n. mark_at R d n (state_of R d s n)) (filter (shown_leaf R d) (order d l 0)))

-- so many groups and marks it has
abbrev pub NestCounts : (Item State Group Mark : Type 0) → Type 0
NestCounts Item State Group Mark =
    (R : Rules Item State Group Mark) (d : Nodes Item) (l : ℕ) (s : State) → Tree d l → BareLeaves R d →
    (length (groups_opened (nest R d l 0 s)) ≡ sum_by (λ n. length (groups_at R d n (state_of R d s n))) (filter (shown R d) (order d l 0)))
    × (length (marks_made (nest R d l 0 s)) ≡ length (filter (shown_leaf R d) (order d l 0)))
