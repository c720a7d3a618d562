-- Balanced scripts, and what scripts open and mark.
use Rattle.std.proofs.Common.{◌≡◌, ℕ, zero, suc, ◌+◌, ◌*◌, List, [], ◌∷◌, ◌++◌, map, length, replicate, Some, sym, refl, ap, ◌∙◌, subst, append_assoc, append-nil, arith, length-append}
use mathlib.Core.List.{map-map}
use lib.ListN.{replicate-append-replicate, length-replicate}
use Rattle.std.specs.List.{flat_map}
use Rattle.std.proofs.lemmas.List.{map-append, length-map}
use lib.LanesLaws.{map-replicate}
use Rattle.picture.specs.Script.{Script, rewrite, within, Balanced, open_after, groups_opened, marks_made, BalanceIsCounted, GroupsTakeTwoEventsMarksOne}
use Rattle.picture.specs.Script.Event.{opened, marked, closed}
use Rattle.picture.specs.Script.Balanced.{nothing, one_mark, one_group, in_turn}
use Rattle.picture.proofs.Lists.{replicate_push}

module _ {Group Mark : Type 0} where
  pub balanced_within : (gs : List Group) {s : Script Group Mark} → Balanced s → Balanced (within gs s)
  balanced_within [] {s} p = subst Balanced (sym (append-nil s)) p
  balanced_within (g ∷ gs) {s} p =
      let e : within gs s ++ closed ∷ [] ≡ (map opened gs ++ s) ++ (closed ∷ replicate (length gs) closed) = simp (append_assoc, replicate_push) in
      subst (λ (t : Script Group Mark). Balanced (opened g ∷ t)) e (one_group g (within gs s) (balanced_within gs p))

  pub balanced_joined : {X : Type 0} (f : X → Script Group Mark) → ((x : X) → Balanced (f x)) → (xs : List X) → Balanced (flat_map f xs)
  balanced_joined f h [] = nothing
  balanced_joined f h (x ∷ xs) = in_turn (f x) (flat_map f xs) (h x) (balanced_joined f h xs)

  -- A balanced script by its count

  -- a balanced script leaves as many open as it finds
  counted_past : {s : Script Group Mark} → Balanced s → (n : ℕ) (t : Script Group Mark) → open_after n (s ++ t) ≡ open_after n t
  counted_past nothing n t = refl
  counted_past (one_mark m) n t = refl
  counted_past (one_group g s p) n t = ap (open_after (suc n)) (append_assoc s (closed ∷ []) t) ∙ counted_past p (suc n) (closed ∷ t)
  counted_past (in_turn a b p q) n t = ap (open_after n) (append_assoc a b t) ∙ counted_past p n (b ++ t) ∙ counted_past q n t

  -- counting goes on from where it stands
  pub open_after_append : (s t : Script Group Mark) (n k : ℕ) → open_after n s ≡ Some k → open_after n (s ++ t) ≡ open_after k t
  open_after_append [] t n k e = let q : n ≡ k = cc in ap (λ (x : ℕ). open_after x t) q
  open_after_append (opened g ∷ s) t n k e = open_after_append s t (suc n) k e
  open_after_append (marked m ∷ s) t n k e = open_after_append s t n k e
  open_after_append (closed ∷ s) t zero k e = absurd (cc)
  open_after_append (closed ∷ s) t (suc n) k e = open_after_append s t n k e

  -- what is open below stays open
  pub open_after_above : (s : Script Group Mark) (n k b : ℕ) → open_after n s ≡ Some k → open_after (n + b) s ≡ Some (k + b)
  open_after_above [] n k b e = let q : n ≡ k = cc in ap (λ (x : ℕ). Some (x + b)) q
  open_after_above (opened g ∷ s) n k b e = let q : suc (n + b) ≡ suc n + b = omega arith in ap (λ (x : ℕ). open_after x s) q ∙ open_after_above s (suc n) k b e
  open_after_above (marked m ∷ s) n k b e = open_after_above s n k b e
  open_after_above (closed ∷ s) zero k b e = absurd (cc)
  open_after_above (closed ∷ s) (suc n) k b e = let q : suc n + b ≡ suc (n + b) = omega arith in ap (λ (x : ℕ). open_after x (closed ∷ s)) q ∙ open_after_above s n k b e

  pub count_from_balanced : {s : Script Group Mark} → Balanced s → open_after 0 s ≡ Some 0
  count_from_balanced {s} p = ap (open_after 0) (sym (append-nil s)) ∙ counted_past p 0 []

  -- a script that closes n groups which it did not open: n balanced scripts, each before a close, and one more
  data Closing : ℕ → Script Group Mark → Type 0 where
    last : (s : Script Group Mark) → Balanced s → Closing 0 s
    more : (n : ℕ) (s t : Script Group Mark) → Balanced s → Closing n t → Closing (suc n) (s ++ closed ∷ t)

  -- a balanced script before one that closes
  closing_after : {n : ℕ} {t : Script Group Mark} (s : Script Group Mark) → Balanced s → Closing n t → Closing n (s ++ t)
  closing_after s p (last t q) = last (s ++ t) (in_turn s t p q)
  closing_after s p (more n a b q r) = subst (Closing (suc n)) (append_assoc s a (closed ∷ b)) (more n (s ++ a) b (in_turn s a p q) r)

  -- the first close is that of g
  closing_opened : {n : ℕ} {t : Script Group Mark} (g : Group) → Closing (suc n) t → Closing n (opened g ∷ t)
  closing_opened g (more n a b q r) =
      subst (λ (x : Script Group Mark). Closing n (opened g ∷ x)) (append_assoc a (closed ∷ []) b) (closing_after (opened g ∷ (a ++ closed ∷ [])) (one_group g a q) r)

  closing_from_count : (s : Script Group Mark) (n : ℕ) → open_after n s ≡ Some 0 → Closing n s
  closing_from_count [] zero e = last [] nothing
  closing_from_count [] (suc n) e = absurd (cc)
  closing_from_count (opened g ∷ s) n e = closing_opened g (closing_from_count s (suc n) e)
  closing_from_count (marked m ∷ s) n e = closing_after (marked m ∷ []) (one_mark m) (closing_from_count s n e)
  closing_from_count (closed ∷ s) zero e = absurd (cc)
  closing_from_count (closed ∷ s) (suc n) e = more n [] s nothing (closing_from_count s n e)

  balanced_from_closing : {n : ℕ} {s : Script Group Mark} → n ≡ 0 → Closing n s → Balanced s
  balanced_from_closing e (last s p) = p
  balanced_from_closing e (more n a b p q) = absurd (omega arith)

  pub balanced_from_count : (s : Script Group Mark) → open_after 0 s ≡ Some 0 → Balanced s
  balanced_from_count s e = balanced_from_closing refl (closing_from_count s 0 e)

  -- What a script opens and marks

  pub groups_append : (s t : Script Group Mark) → groups_opened (s ++ t) ≡ groups_opened s ++ groups_opened t
  groups_append [] t = refl
  groups_append (opened g ∷ s) t = ap (λ (x : List Group). g ∷ x) (groups_append s t)
  groups_append (marked m ∷ s) t = groups_append s t
  groups_append (closed ∷ s) t = groups_append s t

  pub groups_joined : {X : Type 0} (f : X → Script Group Mark) (xs : List X) → groups_opened (flat_map f xs) ≡ flat_map (λ x. groups_opened (f x)) xs
  groups_joined f [] = refl
  groups_joined f (x ∷ xs) = groups_append (f x) (flat_map f xs) ∙ ap (λ (ys : List Group). groups_opened (f x) ++ ys) (groups_joined f xs)

  pub marks_append : (s t : Script Group Mark) → marks_made (s ++ t) ≡ marks_made s ++ marks_made t
  marks_append [] t = refl
  marks_append (opened g ∷ s) t = marks_append s t
  marks_append (marked m ∷ s) t = ap (λ (x : List Mark). m ∷ x) (marks_append s t)
  marks_append (closed ∷ s) t = marks_append s t

  pub balanced_length : {s : Script Group Mark} → Balanced s → length s ≡ 2 * length (groups_opened s) + length (marks_made s)
  balanced_length nothing = refl
  balanced_length (one_mark m) = refl
  balanced_length (one_group g s p) = simp (groups_append, marks_append, length-append) (omega (arith, balanced_length p))
  balanced_length (in_turn s t p q) = simp (groups_append, marks_append, length-append) (omega (arith, balanced_length p, balanced_length q))

pub groups_closes : (Group Mark : Type 0) (n : ℕ) → groups_opened {Group = Group} {Mark = Mark} (replicate n closed) ≡ []
groups_closes Group Mark zero = refl
groups_closes Group Mark (suc n) = groups_closes Group Mark n

pub marks_closes : (Group Mark : Type 0) (n : ℕ) → marks_made {Group = Group} {Mark = Mark} (replicate n closed) ≡ []
marks_closes Group Mark zero = refl
marks_closes Group Mark (suc n) = marks_closes Group Mark n

pub groups_opens : {Group : Type 0} (Mark : Type 0) (gs : List Group) → groups_opened {Mark = Mark} (map opened gs) ≡ gs
groups_opens Mark [] = refl
groups_opens Mark (g ∷ gs) = ap (λ (x : List _). g ∷ x) (groups_opens Mark gs)

pub marks_opens : {Group : Type 0} (Mark : Type 0) (gs : List Group) → marks_made {Mark = Mark} (map opened gs) ≡ []
marks_opens Mark [] = refl
marks_opens Mark (g ∷ gs) = marks_opens Mark gs

module _ {Group Mark : Type 0} where
  -- the groups of a script within others are those and its own
  pub groups_within : (gs : List Group) (s : Script Group Mark) → groups_opened (within gs s) ≡ gs ++ groups_opened s
  groups_within gs s = simp (groups_append, groups_closes, groups_opens, append-nil)

  pub marks_within : (gs : List Group) (s : Script Group Mark) → marks_made (within gs s) ≡ marks_made s
  marks_within gs s = simp (marks_append, marks_closes, marks_opens, append-nil)

pub length_within : {Group Mark : Type 0} (gs : List Group) (s : Script Group Mark) → length (within gs s) ≡ 2 * length gs + length s
length_within gs s = simp (length-append, length-map, length-replicate) (omega arith)

module _ {Group Mark Other Sign : Type 0} (f : Group → Other) (h : Mark → Sign) where
  pub balanced_rewritten : {s : Script Group Mark} → Balanced s → Balanced (map (rewrite f h) s)
  balanced_rewritten nothing = nothing
  balanced_rewritten (one_mark m) = one_mark (h m)
  balanced_rewritten (one_group g s p) =
      subst (λ (t : Script Other Sign). Balanced (opened (f g) ∷ t)) (sym (map-append (rewrite f h) s (closed ∷ []))) (one_group (f g) (map (rewrite f h) s) (balanced_rewritten p))
  balanced_rewritten (in_turn a b p q) =
      subst Balanced (sym (map-append (rewrite f h) a b)) (in_turn (map (rewrite f h) a) (map (rewrite f h) b) (balanced_rewritten p) (balanced_rewritten q))

  pub groups_rewritten : (s : Script Group Mark) → groups_opened (map (rewrite f h) s) ≡ map f (groups_opened s)
  groups_rewritten [] = refl
  groups_rewritten (opened g ∷ s) = ap (λ (x : List Other). f g ∷ x) (groups_rewritten s)
  groups_rewritten (marked m ∷ s) = groups_rewritten s
  groups_rewritten (closed ∷ s) = groups_rewritten s

  pub marks_rewritten : (s : Script Group Mark) → marks_made (map (rewrite f h) s) ≡ map h (marks_made s)
  marks_rewritten [] = refl
  marks_rewritten (opened g ∷ s) = marks_rewritten s
  marks_rewritten (marked m ∷ s) = ap (λ (x : List Sign). h m ∷ x) (marks_rewritten s)
  marks_rewritten (closed ∷ s) = marks_rewritten s

-- a script within groups, rewritten, stands within the groups rewritten
pub within_rewritten : {Group Mark Other Sign : Type 0} (f : Group → Other) (h : Mark → Sign) (gs : List Group) (s : Script Group Mark) → map (rewrite f h) (within gs s) ≡ within (map f gs) (map (rewrite f h) s)
within_rewritten f h gs s = simp (map-append, map-map, map-replicate, length-map)

-- within groups within groups is within both
pub within_within : {Group Mark : Type 0} (gs hs : List Group) (s : Script Group Mark) → within gs (within hs s) ≡ within (gs ++ hs) s
within_within gs hs s = let n : length hs + length gs ≡ length gs + length hs = omega arith in simp (append_assoc, map-append, length-append, replicate-append-replicate, n)

-- rewritten twice
pub rewrite_rewrite : {Group Mark Other Sign Third Token : Type 0} (f : Other → Third) (h : Sign → Token) (f' : Group → Other) (h' : Mark → Sign) (s : Script Group Mark) → map (rewrite f h) (map (rewrite f' h') s) ≡ map (rewrite (λ g. f (f' g)) (λ m. h (h' m))) s
rewrite_rewrite f h f' h' [] = refl
rewrite_rewrite f h f' h' (opened g ∷ s) = ap (λ (x : Script _ _). opened (f (f' g)) ∷ x) (rewrite_rewrite f h f' h' s)
rewrite_rewrite f h f' h' (marked m ∷ s) = ap (λ (x : Script _ _). marked (h (h' m)) ∷ x) (rewrite_rewrite f h f' h' s)
rewrite_rewrite f h f' h' (closed ∷ s) = ap (λ (x : Script _ _). closed ∷ x) (rewrite_rewrite f h f' h' s)

pub balance_is_counted : {Group Mark : Type 0} → BalanceIsCounted Group Mark
balance_is_counted s = (count_from_balanced, balanced_from_count s)

pub groups_take_two_events_marks_one : {Group Mark : Type 0} → GroupsTakeTwoEventsMarksOne Group Mark
groups_take_two_events_marks_one s p = balanced_length p
