-- Pictures: of opens and closes, and of marks.
use Rattle.std.proofs.Common.{◌≡◌, ℕ, zero, suc, List, [], ◌∷◌, ◌++◌, map, replicate, sym, refl, ap, append_assoc, append-nil}
use Rattle.picture.specs.Script.{Script, within, marks_made}
use Rattle.picture.specs.Script.Event.{opened, marked, closed}
use Rattle.picture.specs.Picture.{Seen, front, seen_under, picture, PictureHasEachMarkOnce}

module _ {Group Mark : Type 0} where
  pub seen_opens : (os gs : List Group) (t : Script Group Mark) → seen_under os (map opened gs ++ t) ≡ seen_under (os ++ gs) t
  seen_opens os [] t = ap (λ (x : List Group). seen_under x t) (sym (append-nil os))
  seen_opens os (g ∷ gs) t = simp (seen_opens (os ++ g ∷ []) gs t, append_assoc)

  seen_closes : (os : List Group) (n : ℕ) → seen_under {Mark = Mark} os (replicate n closed) ≡ []
  seen_closes os zero = refl
  seen_closes os (suc n) = seen_closes (front os) n

  -- groups with no marks in them
  pub groups_unseen : (gs : List Group) → picture {Mark = Mark} (within gs []) ≡ []
  unfolding picture
  groups_unseen gs = simp (append-nil, seen_opens, seen_closes)

  seen_marks : (gs : List Group) (s : Script Group Mark) → map (λ (p : Seen Group Mark). p.mark) (seen_under gs s) ≡ marks_made s
  seen_marks gs [] = refl
  seen_marks gs (opened g ∷ s) = seen_marks (gs ++ g ∷ []) s
  seen_marks gs (marked m ∷ s) = ap (λ (x : List Mark). m ∷ x) (seen_marks gs s)
  seen_marks gs (closed ∷ s) = seen_marks (front gs) s

pub picture_has_each_mark_once : {Group Mark : Type 0} → PictureHasEachMarkOnce Group Mark
unfolding picture
picture_has_each_mark_once s = seen_marks [] s
