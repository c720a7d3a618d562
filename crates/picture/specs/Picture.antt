-- The picture of a script: its marks, each with the groups around it.
use Rattle.std.specs.Prelude.{◌≡◌, List, [], ◌∷◌, ◌++◌, map}
use Rattle.picture.specs.Script.{Script, marks_made}
use Rattle.picture.specs.Script.Event.{opened, marked, closed}

-- a mark as it is seen, with its chain: the groups open around it, the outermost first
pub record Seen (Group Mark : Type 0) : Type 0 where
  pub mark : Mark
  pub chain : List Group

-- all but the last; of nothing, nothing
abbrev pub front : {Thing : Type 0} → List Thing → List Thing
front [] = []
front (x ∷ []) = []
front (x ∷ (y ∷ ys)) = x ∷ front (y ∷ ys)

-- what is seen of a script where these groups are open before it; a close with no group open closes nothing
abbrev pub seen_under : {Group Mark : Type 0} → List Group → Script Group Mark → List (Seen Group Mark)
seen_under gs [] = []
seen_under gs (opened g ∷ s) = seen_under (gs ++ g ∷ []) s
seen_under gs (marked m ∷ s) = record { mark = m; chain = gs } ∷ seen_under gs s
seen_under gs (closed ∷ s) = seen_under (front gs) s

-- the picture of a script: its marks in order, each with the groups open around it
unfoldable pub picture : {Group Mark : Type 0} → Script Group Mark → List (Seen Group Mark)
picture s = seen_under [] s

-- LAWS

-- the marks of the picture are those that the script makes, in order, each once
abbrev pub PictureHasEachMarkOnce : (Group Mark : Type 0) → Type 0
PictureHasEachMarkOnce Group Mark = (s : Script Group Mark) → map (λ p. p.mark) (picture s) ≡ marks_made s
