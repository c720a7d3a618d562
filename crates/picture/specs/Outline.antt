-- The outline of a script: its groups and its marks, each with the groups around it. It shows empty groups too, and where one group stands
-- in the place of two.
use Rattle.std.specs.Prelude.{◌≡◌, List, [], ◌∷◌, ◌++◌}
use Rattle.std.specs.List.{flat_map}
use Rattle.picture.specs.Script.{Event, Script, Balanced}
use Rattle.picture.specs.Script.Event.{opened, marked, closed}
use Rattle.picture.specs.Picture.{Seen, front, picture}

-- an open or a mark as it stands in a script, with the groups open around it, the outermost first
pub record Start (Group Mark : Type 0) : Type 0 where
  pub event : Event Group Mark
  pub chain : List Group

-- the opens and marks of a script in order, where these groups are open before it
abbrev pub starts : {Group Mark : Type 0} → List Group → Script Group Mark → List (Start Group Mark)
starts gs [] = []
starts gs (opened g ∷ s) = record { event = opened g; chain = gs } ∷ starts (gs ++ g ∷ []) s
starts gs (marked m ∷ s) = record { event = marked m; chain = gs } ∷ starts gs s
starts gs (closed ∷ s) = starts (front gs) s

-- the outline of a script: its opens and marks in order, each with the groups open around it
unfoldable pub outline : {Group Mark : Type 0} → Script Group Mark → List (Start Group Mark)
outline s = starts [] s

-- the mark under its chain, where a mark starts; nothing where a group does
abbrev pub mark_under : {Group Mark : Type 0} → Event Group Mark → List Group → List (Seen Group Mark)
mark_under (opened g) chain = []
mark_under (marked m) chain = record { mark = m; chain = chain } ∷ []
mark_under closed chain = []

-- LAWS

-- two balanced scripts with the same outline are the same script
abbrev pub OutlineTellsTheScript : (Group Mark : Type 0) → Type 0
OutlineTellsTheScript Group Mark =
    (s t : Script Group Mark) → Balanced s → Balanced t → outline s ≡ outline t → s ≡ t

-- the picture is the outline without its groups
abbrev pub PictureIsInTheOutline : (Group Mark : Type 0) → Type 0
PictureIsInTheOutline Group Mark =
    (s : Script Group Mark) → picture s ≡ flat_map (λ x. mark_under x.event x.chain) (outline s)
