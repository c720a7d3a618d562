-- A small document, and scripts that are not its own.
use Rattle.std.specs.Prelude.{◌≡◌, ℕ, ◌+◌, Bool, true, false, [], ◌∷◌, ◌≢◌, slice_index_or}
use Rattle.picture.specs.Script.{Script, Balanced}
use Rattle.picture.specs.Script.Event.{opened, marked, closed}
use Rattle.picture.specs.Picture.{picture}
use Rattle.picture.specs.Outline.{outline}
use Rattle.picture.specs.Feeding.{fed}
use Rattle.picture.specs.Nodes.{Nodes, Tree}
use Rattle.picture.specs.Rules.{Rules, BareLeaves, nest}
use Rattle.picture.specs.Document.{document_picture, document_outline}
use Rattle.picture.specs.Brackets.{Owned, owning, Bracketed}

-- an item in one group
pub record Piece : Type 0 where
  pub leaf : Bool
  pub group : ℕ

abbrev pub pieces : Rules Piece (Unit {0}) ℕ ℕ
pieces = record {
  leaf = λ i. i.leaf;
  drawn = λ p i. true;
  groups = λ n i c s. i.group ∷ [];
  inside = λ n i c s. s;
  mark = λ n i s. n;
}

-- a root in group 5 that holds a leaf in group 9 and, after it, a node in group 7 that holds nothing
abbrev pub sample : Nodes Piece
sample = record {
  count = 3;
  item = λ k. slice_index_or (record { leaf = false; group = 5 } ∷ record { leaf = true; group = 9 } ∷ record { leaf = false; group = 7 } ∷ []) k (record { leaf = false; group = 0 });
  parent = λ k. 0;
}

-- SCRIPTS of the root's group a, the leaf's group b and mark m, and the empty node's group c

module _ {Group Mark : Type 0} (a b c : Group) (m : Mark) where
  -- the right one
  abbrev pub right : Script Group Mark
  right = opened a ∷ opened b ∷ marked m ∷ closed ∷ opened c ∷ closed ∷ closed ∷ []

  -- a split in two
  abbrev pub split : Script Group Mark
  split = opened a ∷ opened b ∷ marked m ∷ closed ∷ closed ∷ opened a ∷ opened c ∷ closed ∷ closed ∷ []

  -- a closed early, before c
  abbrev pub early : Script Group Mark
  early = opened a ∷ opened b ∷ marked m ∷ closed ∷ closed ∷ opened c ∷ closed ∷ []

  -- b closed late, after c
  abbrev pub late : Script Group Mark
  late = opened a ∷ opened b ∷ marked m ∷ opened c ∷ closed ∷ closed ∷ closed ∷ []

  -- c left out
  abbrev pub left_out : Script Group Mark
  left_out = opened a ∷ opened b ∷ marked m ∷ closed ∷ closed ∷ []

  -- c opened twice
  abbrev pub twice : Script Group Mark
  twice = opened a ∷ opened b ∷ marked m ∷ closed ∷ opened c ∷ closed ∷ opened c ∷ closed ∷ closed ∷ []

-- a script that is balanced and has the sample's picture, but not its outline
abbrev pub OtherOutline : Script ℕ ℕ → Type 0
OtherOutline t =
    Balanced t
    × (picture t ≡ document_picture pieces sample 2 tt)
    × (outline t ≢ document_outline pieces sample 2 tt)

abbrev pub owned_group : ℕ → ℕ → Owned ℕ
owned_group n g = record { node = n; place = 0; thing = g }

-- such a script, with the owners of its groups and its mark, is not bracketed
abbrev pub NotBracketed : (Owned ℕ → Owned ℕ → Owned ℕ → Owned ℕ → Script (Owned ℕ) (Owned ℕ)) → Type 0
NotBracketed t =
    Bracketed pieces sample tt (t (owned_group 0 5) (owned_group 1 9) (owned_group 2 7) (owned_group 1 1)) → ⊥

-- LAWS

-- the sample is a tree of two levels in which no leaf is a parent; this is its nest, and this its picture, also fed to a sink that has group 1
-- as its base and adds 100 to each group
abbrev pub SampleIsSeen : Type 0
SampleIsSeen =
    Tree sample 2
    × BareLeaves pieces sample
    × (nest pieces sample 2 0 tt ≡ right 5 9 7 1)
    × (nest (owning pieces) sample 2 0 tt ≡ right (owned_group 0 5) (owned_group 1 9) (owned_group 2 7) (owned_group 1 1))
    × (picture (nest pieces sample 2 0 tt) ≡ record { mark = 1; chain = 5 ∷ 9 ∷ [] } ∷ [])
    × (picture (fed (1 ∷ []) (λ g. g + 100) (λ m. m) (nest pieces sample 2 0 tt)) ≡ record { mark = 1; chain = 1 ∷ 105 ∷ 109 ∷ [] } ∷ [])

-- a script with a group split in two, closed early or late, left out or opened twice has the sample's picture, but is told apart
abbrev pub BadScriptsAreToldApart : Type 0
BadScriptsAreToldApart =
    OtherOutline (split 5 9 7 1)
    × OtherOutline (early 5 9 7 1)
    × OtherOutline (late 5 9 7 1)
    × OtherOutline (left_out 5 9 7 1)
    × OtherOutline (twice 5 9 7 1)
    × NotBracketed split
    × NotBracketed early
    × NotBracketed late
    × NotBracketed left_out
    × NotBracketed twice
