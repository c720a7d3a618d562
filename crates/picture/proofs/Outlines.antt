-- Outlines: of scripts one after the other, within groups, and rewritten; and that the outline tells the script.
use Rattle.std.proofs.Common.{◌≡◌, ℕ, zero, suc, ◌<◌, ◌≤◌, List, [], ◌∷◌, ◌++◌, map, length, replicate, sym, refl, ap, ◌∙◌, subst, append_assoc, append-nil, arith, Some}
use Rattle.std.specs.List.{flat_map}
use Rattle.std.proofs.lemmas.List.{map-append, length_push}
use Rattle.picture.specs.Script.{Event, Script, rewrite, within, Balanced, open_after}
use Rattle.picture.specs.Script.Event.{opened, marked, closed}
use Rattle.picture.specs.Script.Balanced.{nothing, one_mark, one_group, in_turn}
use Rattle.picture.specs.Picture.{Seen, front, seen_under, picture}
use Rattle.picture.specs.Outline.{Start, starts, outline, mark_under, OutlineTellsTheScript, PictureIsInTheOutline}
use Rattle.picture.proofs.Lists.{front_push, front_map}
use Rattle.picture.proofs.Scripts.{count_from_balanced}

-- the mark that starts, as it is seen
abbrev pub mark_seen : {Group Mark : Type 0} → Start Group Mark → List (Seen Group Mark)
mark_seen x = mark_under x.event x.chain

module _ {Group Mark : Type 0} where
  pub starts_append : {s : Script Group Mark} → Balanced s → (gs : List Group) (t : Script Group Mark) → starts gs (s ++ t) ≡ starts gs s ++ starts gs t
  starts_append nothing gs t = refl
  starts_append (one_mark m) gs t = refl
  starts_append (in_turn a b p q) gs t = simp (append_assoc, starts_append p, starts_append q)
  starts_append (one_group g s p) gs t = simp (append_assoc, starts_append p) (λ i. record { event = opened g; chain = gs } ∷ (starts (gs ++ g ∷ []) s ++ starts (front_push gs g i) t))

  pub starts_opens : (os gs : List Group) (t : Script Group Mark) → starts os (map opened gs ++ t) ≡ starts os (map opened gs) ++ starts (os ++ gs) t
  starts_opens os [] t = ap (λ (x : List Group). starts x t) (sym (append-nil os))
  starts_opens os (g ∷ gs) t = simp (starts_opens (os ++ g ∷ []) gs t, append_assoc)

  pub starts_closes : (os : List Group) (n : ℕ) → starts {Mark = Mark} os (replicate n closed) ≡ []
  starts_closes os zero = refl
  starts_closes os (suc n) = starts_closes (front os) n

  pub starts_within : {s : Script Group Mark} → Balanced s → (os gs : List Group) → starts os (within gs s) ≡ starts os (map opened gs) ++ starts (os ++ gs) s
  starts_within p os gs = simp (append_assoc, starts_opens, starts_append p, starts_closes, append-nil)

  pub starts_joined : {X : Type 0} (f : X → Script Group Mark) → ((x : X) → Balanced (f x)) → (os : List Group) (xs : List X) → starts os (flat_map f xs) ≡ flat_map (λ x. starts os (f x)) xs
  starts_joined f h os [] = refl
  starts_joined f h os (x ∷ xs) = simp (starts_append (h x), starts_joined f h os xs)

  -- the same open or mark, with other groups around its chain
  abbrev pub start_under : List Group → Start Group Mark → Start Group Mark
  start_under os x = record { event = x.event; chain = os ++ x.chain }

  -- where a balanced script stands inside groups, each chain begins with them
  pub starts_under : {s : Script Group Mark} → Balanced s → (os gs : List Group) → starts (os ++ gs) s ≡ map (start_under os) (starts gs s)
  starts_under nothing os gs = refl
  starts_under (one_mark m) os gs = refl
  starts_under (in_turn a b p q) os gs = simp (starts_append p, map-append, starts_under p, starts_under q)
  starts_under (one_group g s p) os gs = simp (starts_append p, append_assoc, append-nil, starts_under p)

module _ {Group Mark Other Sign : Type 0} (f : Group → Other) (h : Mark → Sign) where
  -- an open or a mark and its chain rewritten
  abbrev pub start_rewritten : Start Group Mark → Start Other Sign
  start_rewritten x = record { event = rewrite f h x.event; chain = map f x.chain }

  starts_of_rewritten : (gs : List Group) (s : Script Group Mark) → starts (map f gs) (map (rewrite f h) s) ≡ map start_rewritten (starts gs s)
  starts_of_rewritten gs [] = refl
  starts_of_rewritten gs (opened g ∷ s) =
      ap (λ (x : List (Start Other Sign)). record { event = opened (f g); chain = map f gs } ∷ x)
      (ap (λ (os : List Other). starts os (map (rewrite f h) s)) (sym (map-append f gs (g ∷ []))) ∙ starts_of_rewritten (gs ++ g ∷ []) s)
  starts_of_rewritten gs (marked m ∷ s) = ap (λ (x : List (Start Other Sign)). record { event = marked (h m); chain = map f gs } ∷ x) (starts_of_rewritten gs s)
  starts_of_rewritten gs (closed ∷ s) = ap (λ (os : List Other). starts os (map (rewrite f h) s)) (front_map f gs) ∙ starts_of_rewritten (front gs) s

  pub outline_rewritten : (s : Script Group Mark) → outline (map (rewrite f h) s) ≡ map start_rewritten (outline s)
  unfolding outline
  outline_rewritten s = starts_of_rewritten [] s

-- THE OUTLINE TELLS THE SCRIPT

-- a close takes the innermost group
length_front : {Group : Type 0} (g : Group) (gs : List Group) → length (front (g ∷ gs)) ≡ length gs
length_front g [] = refl
length_front g (h ∷ hs) = ap suc (length_front h hs)

front_le : {Group : Type 0} (gs : List Group) → length (front gs) ≤ length gs
front_le [] = omega arith
front_le (g ∷ gs) = omega (arith, length_front g gs)

module _ {Group Mark : Type 0} where
  -- where these groups are open, the script closes them all, and no more
  abbrev Ends : List Group → Script Group Mark → Type 0
  Ends gs s = open_after (length gs) s ≡ Some 0

  ends_opened : (gs : List Group) (g : Group) (s : Script Group Mark) → Ends gs (opened g ∷ s) → Ends (gs ++ g ∷ []) s
  ends_opened gs g s e = let q : length (gs ++ g ∷ []) ≡ suc (length gs) = omega (arith, length_push gs g) in ap (λ (n : ℕ). open_after n s) q ∙ e

  ends_closed : (gs : List Group) (s : Script Group Mark) → Ends gs (closed ∷ s) → (length (front gs) < length gs) × Ends (front gs) s
  ends_closed [] s e = absurd (cc)
  ends_closed (g ∷ gs) s e = (omega (arith, length_front g gs), ap (λ (n : ℕ). open_after n s) (length_front g gs) ∙ e)

  abbrev FirstWithin : ℕ → List (Start Group Mark) → Type 0
  FirstWithin n [] = Unit {0}
  FirstWithin n (x ∷ xs) = length x.chain ≤ n

  within_more : (m n : ℕ) → m ≤ n → (xs : List (Start Group Mark)) → FirstWithin m xs → FirstWithin n xs
  within_more m n h [] a = tt
  within_more m n h (x ∷ xs) a = omega arith

  -- what starts next does not stand in more groups than are open
  first_is_within : (s : Script Group Mark) (gs : List Group) → FirstWithin (length gs) (starts gs s)
  first_is_within [] gs = tt
  first_is_within (opened g ∷ s) gs = omega arith
  first_is_within (marked m ∷ s) gs = omega arith
  first_is_within (closed ∷ s) gs = within_more (length (front gs)) (length gs) (front_le gs) (starts (front gs) s) (first_is_within s (front gs))

  -- after a close nothing starts inside the group that it closed
  never : (gs : List Group) (x : Event Group Mark) (xs : List (Start Group Mark)) (s : Script Group Mark) → Ends gs (closed ∷ s) → record { event = x; chain = gs } ∷ xs ≡ starts (front gs) s → ⊥
  never gs x xs s h e =
      let q : length gs ≤ length (front gs) = subst (FirstWithin (length (front gs))) (sym e) (first_is_within s (front gs)) in
      omega (arith, (ends_closed gs s h).0)

  abbrev first : List (Start Group Mark) → Event Group Mark
  first [] = closed
  first (x ∷ xs) = x.event

  abbrev rest : List (Start Group Mark) → List (Start Group Mark)
  rest [] = []
  rest (x ∷ xs) = xs

  told : (s t : Script Group Mark) (gs : List Group) → Ends gs s → Ends gs t → starts gs s ≡ starts gs t → s ≡ t
  told [] [] gs a b e = refl
  told [] (opened h ∷ t) gs a b e = cc
  told [] (marked m ∷ t) gs a b e = cc
  told [] (closed ∷ t) gs a b e = absurd (let q : length gs ≡ 0 = cc in omega (arith, (ends_closed gs t b).0))
  told (opened g ∷ s) [] gs a b e = cc
  told (opened g ∷ s) (opened h ∷ t) gs a b e =
      let w : ◌≡◌ {A = Event Group Mark} (opened g) (opened h) = ap first e in
      let q : g ≡ h = cc in
      let k : s ≡ t = told s t (gs ++ g ∷ []) (ends_opened gs g s a) (ends_opened gs g t b) (ap rest e ∙ ap (λ (x : Group). starts (gs ++ x ∷ []) t) (sym q)) in
      λ i. opened (q i) ∷ k i
  told (opened g ∷ s) (marked m ∷ t) gs a b e = let w : ◌≡◌ {A = Event Group Mark} (opened g) (marked m) = ap first e in cc
  told (opened g ∷ s) (closed ∷ t) gs a b e = absurd (never gs (opened g) (starts (gs ++ g ∷ []) s) t b e)
  told (marked m ∷ s) [] gs a b e = cc
  told (marked m ∷ s) (opened h ∷ t) gs a b e = let w : ◌≡◌ {A = Event Group Mark} (marked m) (opened h) = ap first e in cc
  told (marked m ∷ s) (marked n ∷ t) gs a b e =
      let q : ◌≡◌ {A = Event Group Mark} (marked m) (marked n) = ap first e in
      let k : s ≡ t = told s t gs a b (ap rest e) in
      λ i. q i ∷ k i
  told (marked m ∷ s) (closed ∷ t) gs a b e = absurd (never gs (marked m) (starts gs s) t b e)
  told (closed ∷ s) [] gs a b e = absurd (let q : length gs ≡ 0 = cc in omega (arith, (ends_closed gs s a).0))
  told (closed ∷ s) (opened h ∷ t) gs a b e = absurd (never gs (opened h) (starts (gs ++ h ∷ []) t) s a (sym e))
  told (closed ∷ s) (marked m ∷ t) gs a b e = absurd (never gs (marked m) (starts gs t) s a (sym e))
  told (closed ∷ s) (closed ∷ t) gs a b e = ap (λ (x : Script Group Mark). closed ∷ x) (told s t (front gs) (ends_closed gs s a).1 (ends_closed gs t b).1 e)

  pub seen_in_starts : (gs : List Group) (s : Script Group Mark) → seen_under gs s ≡ flat_map mark_seen (starts gs s)
  seen_in_starts gs [] = refl
  seen_in_starts gs (opened g ∷ s) = seen_in_starts (gs ++ g ∷ []) s
  seen_in_starts gs (marked m ∷ s) = ap (λ (x : List (Seen Group Mark)). record { mark = m; chain = gs } ∷ x) (seen_in_starts gs s)
  seen_in_starts gs (closed ∷ s) = seen_in_starts (front gs) s

pub outline_tells_the_script : {Group Mark : Type 0} → OutlineTellsTheScript Group Mark
unfolding outline
outline_tells_the_script s t p q e = told s t [] (count_from_balanced p) (count_from_balanced q) e

pub picture_is_in_the_outline : {Group Mark : Type 0} → PictureIsInTheOutline Group Mark
unfolding picture outline
picture_is_in_the_outline s = seen_in_starts [] s
