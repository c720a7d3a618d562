-- Scripts: groups open and close, and marks are made between.
use Rattle.std.specs.Prelude.{◌≡◌, ℕ, zero, suc, ◌+◌, ◌*◌, ◌↔◌, List, [], ◌∷◌, ◌++◌, map, length, replicate, Some, None, Option}

-- one event of a script: a group opens, a mark is made, or the innermost open group closes
pub data Event (Group Mark : Type 0) : Type 0 where
  opened : Group → Event Group Mark
  marked : Mark → Event Group Mark
  closed : Event Group Mark

abbrev pub Script : Type 0 → Type 0 → Type 0
Script Group Mark = List (Event Group Mark)

-- the same event with its group or its mark rewritten
abbrev pub rewrite : {Group Mark Other Sign : Type 0} → (Group → Other) → (Mark → Sign) → Event Group Mark → Event Other Sign
rewrite f h (opened g) = opened (f g)
rewrite f h (marked m) = marked (h m)
rewrite f h closed = closed

-- a script within groups: they open before it, the outermost first, and close after it
abbrev pub within : {Group Mark : Type 0} → List Group → Script Group Mark → Script Group Mark
within gs s = map opened gs ++ s ++ replicate (length gs) closed

-- each open has its close, and no close is without its open
pub data Balanced {Group Mark : Type 0} : Script Group Mark → Type 0 where
  nothing : Balanced []
  one_mark : (m : Mark) → Balanced (marked m ∷ [])
  one_group : (g : Group) (s : Script Group Mark) → Balanced s → Balanced (opened g ∷ (s ++ closed ∷ []))
  in_turn : (s t : Script Group Mark) → Balanced s → Balanced t → Balanced (s ++ t)

-- how many groups are open after a script, where n are open before it; none where some close finds no group open
abbrev pub open_after : {Group Mark : Type 0} → ℕ → Script Group Mark → Option ℕ
open_after n [] = Some n
open_after n (opened g ∷ s) = open_after (suc n) s
open_after n (marked m ∷ s) = open_after n s
open_after zero (closed ∷ s) = None
open_after (suc n) (closed ∷ s) = open_after n s

-- the groups that a script opens, in order
abbrev pub groups_opened : {Group Mark : Type 0} → Script Group Mark → List Group
groups_opened [] = []
groups_opened (opened g ∷ s) = g ∷ groups_opened s
groups_opened (marked m ∷ s) = groups_opened s
groups_opened (closed ∷ s) = groups_opened s

-- the marks that it makes, in order
abbrev pub marks_made : {Group Mark : Type 0} → Script Group Mark → List Mark
marks_made [] = []
marks_made (opened g ∷ s) = marks_made s
marks_made (marked m ∷ s) = m ∷ marks_made s
marks_made (closed ∷ s) = marks_made s

-- LAWS

-- a script is balanced exactly when counting its open groups, from none on, ends at none
abbrev pub BalanceIsCounted : (Group Mark : Type 0) → Type 0
BalanceIsCounted Group Mark = (s : Script Group Mark) → Balanced s ↔ (open_after 0 s ≡ Some 0)

-- a balanced script has an open and a close for each of its groups, one event for each of its marks, and nothing else
abbrev pub GroupsTakeTwoEventsMarksOne : (Group Mark : Type 0) → Type 0
GroupsTakeTwoEventsMarksOne Group Mark =
    (s : Script Group Mark) → Balanced s → length s ≡ 2 * length (groups_opened s) + length (marks_made s)
