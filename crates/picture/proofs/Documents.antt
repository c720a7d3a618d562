-- The nest of a document has the document's outline, and with it its picture, its groups and its marks.
use Rattle.std.proofs.Common.{◌≡◌, ℕ, zero, suc, Bool, true, false, cond, ◌&&◌, ◌↔◌, List, [], ◌∷◌, ◌++◌, map, length, filter, sym, refl, ap, ◌∙◌, subst, inl, inr, append-nil, sum_by}
use mathlib.Core.List.{map-map}
use Rattle.std.specs.List.{flat_map}
use Rattle.std.proofs.lemmas.List.{length-map}
use Rattle.std.proofs.lemmas.Bool.{cases_Bool}
use Rattle.std.proofs.lemmas.List.Concat.{length-flat_map}
use Rattle.picture.specs.Script.{Event, Script, Balanced, groups_opened, marks_made}
use Rattle.picture.specs.Script.Event.{opened, marked, closed}
use Rattle.picture.specs.Picture.{front, picture}
use Rattle.picture.specs.Outline.{Start, starts, outline}
use Rattle.picture.specs.Feeding.{fed, seen_behind, outline_behind}
use Rattle.picture.specs.Nodes.{Nodes, children, climb, above, order, Tree}
use Rattle.picture.specs.Rules.{Rules, leaf_at, drawn_at, groups_at, inside_at, mark_at, BareLeaves, nest}
use Rattle.picture.specs.Document.{every, chain_along, state_of, shown, shown_leaf, seen_at, starts_at, document_picture, document_outline, NestHasTheDocumentPicture, FedNestHasTheDocumentPicture, FedNestIsToldByTheDocumentOutline}
use Rattle.picture.proofs.Lists.{joined_same, joined_joined, kept_joined}
use Rattle.picture.proofs.Scripts.{groups_append, groups_opens}
use Rattle.picture.proofs.Pictures.{seen_opens, picture_has_each_mark_once}
use Rattle.picture.proofs.Outlines.{starts_opens, starts_within, starts_joined, seen_in_starts, picture_is_in_the_outline, mark_seen}
use Rattle.picture.proofs.Feeding.{feeding_keeps_the_picture, fed_is_told_by_its_outline}
use Rattle.picture.proofs.Paths.{Child, children_are, chain_own, state_child, chain_child, drawn_child, shown_from, not_shown}
use Rattle.picture.proofs.Nests.{content, balanced_content, balanced_nest, leaf_alone, none_kept}

-- what is kept of what was kept, one by one
pub joined_kept : {X A : Type 0} (p q : X → Bool) (f : X → A) (xs : List X) → flat_map (λ x. cond (p x) (f x ∷ []) []) (filter q xs) ≡ map f (filter (λ x. p x && q x) xs)
joined_kept p q f [] = refl
joined_kept {X} {A} p q f (x ∷ xs) = step (p x) (q x) refl (filter q xs) (filter (λ y. p y && q y) xs) (joined_kept p q f xs)
  where
    step : (a b : Bool) → cond (p x) (f x ∷ []) [] ≡ cond a (f x ∷ []) [] → (ys zs : List X) → flat_map (λ y. cond (p y) (f y ∷ []) []) ys ≡ map f zs → flat_map (λ y. cond (p y) (f y ∷ []) []) (cond b (x ∷ ys) ys) ≡ map f (cond (a && b) (x ∷ zs) zs)
    step true true h ys zs e = λ i. h i ++ e i
    step false true h ys zs e = λ i. h i ++ e i
    step true false h ys zs e = e
    step false false h ys zs e = e

-- the groups that a script opens, read from its outline
abbrev group_started : {Group Mark : Type 0} → Event Group Mark → List Group
group_started (opened g) = g ∷ []
group_started (marked m) = []
group_started closed = []

groups_in_starts : {Group Mark : Type 0} (gs : List Group) (s : Script Group Mark) → groups_opened s ≡ flat_map (λ (x : Start Group Mark). group_started x.event) (starts gs s)
groups_in_starts gs [] = refl
groups_in_starts gs (opened g ∷ s) = ap (λ (x : List _). g ∷ x) (groups_in_starts (gs ++ g ∷ []) s)
groups_in_starts gs (marked m ∷ s) = groups_in_starts gs s
groups_in_starts gs (closed ∷ s) = groups_in_starts (front gs) s

module _ {Item State Group Mark : Type 0} (R : Rules Item State Group Mark) (d : Nodes Item) (L : ℕ) (tree : Tree d L) (bare : BareLeaves R d) (s₀ : State) where
  -- what starts below n, by paths
  abbrev below : ℕ → ℕ → List (Start Group Mark)
  below l n = flat_map (starts_at R d s₀) (filter (shown R d) (order d l n))

  abbrev At : ℕ → ℕ → Type 0
  At l n = starts (chain_along R d (above d n) s₀) (nest R d l n (state_of R d s₀ n)) ≡ below l n

  module _ (l n : ℕ) (sh : shown R d n ≡ true) where
    abbrev os : List Group
    os = chain_along R d (above d n) s₀

    abbrev u : State
    u = state_of R d s₀ n

    abbrev gs : List Group
    gs = groups_at R d n u

    starts_leaf : leaf_at R d n ≡ true → starts os (map opened gs) ++ starts (os ++ gs) (content R d l n u) ≡ below (suc l) n
    unfolding order
    starts_leaf f = simp (f, sh, leaf_alone R d bare n f, starts_opens, append-nil)

    starts_child : ((k : ℕ) → every (drawn_at R d) (above d k) ≡ true → At l k) → (k : ℕ) → Child d n k → starts (os ++ gs) (nest R d l k (inside_at R d n u)) ≡ below l k
    starts_child ih k c =
        ap (λ (v : State). starts (os ++ gs) (nest R d l k v)) (sym (state_child R d L tree s₀ n k c))
        ∙ ap (λ (x : List Group). starts x (nest R d l k (state_of R d s₀ k))) (sym (chain_child R d L tree s₀ n k c ∙ chain_own R d s₀ n))
        ∙ ih k (drawn_child R d L tree n k c ∙ sh)

    starts_children : leaf_at R d n ≡ false → ((k : ℕ) → every (drawn_at R d) (above d k) ≡ true → At l k) → starts os (map opened gs) ++ starts (os ++ gs) (content R d l n u) ≡ below (suc l) n
    unfolding order
    starts_children f ih =
        let v : State = inside_at R d n u in
        simp (f, sh, append-nil, starts_joined (λ k. nest R d l k v) (λ k. balanced_nest R d l k v), joined_joined, kept_joined)
        (λ i. starts os (map opened gs) ++ joined_same (Child d n) (λ k. starts (os ++ gs) (nest R d l k v)) (λ k. below l k) (children d n) (children_are d n) (starts_child ih) i)

  -- the outline of the nest of a node, all above which are drawn
  outlined_at : (l n : ℕ) → every (drawn_at R d) (above d n) ≡ true → At l n
  unfolding nest order
  outlined_at zero n h = refl
  outlined_at (suc l) n h = elim (cases_Bool (drawn_at R d n)) [
    | inr e ↦ simp (e, none_kept R d L tree (shown R d) (λ k x. x) (suc l) n (not_shown R d n (inr e)))
    | inl e ↦
        simp (e, starts_within (balanced_content R d l n (state_of R d s₀ n) (balanced_nest R d l)))
        (elim (cases_Bool (leaf_at R d n)) [
          | inl f ↦ starts_leaf l n (shown_from R d n h e) f
          | inr f ↦ starts_children l n (shown_from R d n h e) f (λ k g. outlined_at l k g)
        ])
  ]

  pub nest_outline : outline (nest R d L 0 s₀) ≡ document_outline R d L s₀
  unfolding outline document_outline climb
  nest_outline = outlined_at L 0 refl

  -- the mark of a leaf among what starts at it, and its groups
  mark_started : (n : ℕ) → flat_map mark_seen (starts_at R d s₀ n) ≡ cond (leaf_at R d n) (seen_at R d s₀ n ∷ []) []
  mark_started n = elim (cases_Bool (leaf_at R d n)) [
    | inl e ↦ simp (← (seen_in_starts {Group = Group} {Mark = Mark}), seen_opens, chain_own, e)
    | inr e ↦ simp (← (seen_in_starts {Group = Group} {Mark = Mark}), seen_opens, chain_own, e)
  ]

  groups_started : (n : ℕ) → flat_map (λ x. group_started x.event) (starts_at R d s₀ n) ≡ groups_at R d n (state_of R d s₀ n)
  groups_started n = elim (cases_Bool (leaf_at R d n)) [
    | inl e ↦ simp (← (groups_in_starts {Group = Group} {Mark = Mark}), groups_append, groups_opens, append-nil, e)
    | inr e ↦ simp (← (groups_in_starts {Group = Group} {Mark = Mark}), groups_opens, append-nil, e)
  ]

  pub nest_picture : picture (nest R d L 0 s₀) ≡ document_picture R d L s₀
  unfolding document_outline document_picture
  nest_picture =
      let kept : List ℕ = filter (shown R d) (order d L 0) in
      picture_is_in_the_outline (nest R d L 0 s₀)
      ∙ ap (flat_map mark_seen) nest_outline
      ∙ joined_joined mark_seen (starts_at R d s₀) kept
      ∙ (λ i. flat_map (λ n. mark_started n i) kept)
      ∙ joined_kept (leaf_at R d) (shown R d) (seen_at R d s₀) (order d L 0)

  pub nest_groups : groups_opened (nest R d L 0 s₀) ≡ flat_map (λ n. groups_at R d n (state_of R d s₀ n)) (filter (shown R d) (order d L 0))
  unfolding outline document_outline
  nest_groups =
      let kept : List ℕ = filter (shown R d) (order d L 0) in
      groups_in_starts [] (nest R d L 0 s₀)
      ∙ ap (flat_map (λ x. group_started x.event)) nest_outline
      ∙ joined_joined (λ x. group_started x.event) (starts_at R d s₀) kept
      ∙ (λ i. flat_map (λ n. groups_started n i) kept)

  pub nest_marks : marks_made (nest R d L 0 s₀) ≡ map (λ n. mark_at R d n (state_of R d s₀ n)) (filter (shown_leaf R d) (order d L 0))
  unfolding document_picture
  nest_marks =
      sym (picture_has_each_mark_once (nest R d L 0 s₀))
      ∙ ap (map (λ p. p.mark)) nest_picture
      ∙ map-map (λ p. p.mark) (seen_at R d s₀) (filter (shown_leaf R d) (order d L 0))

  pub count_groups : length (groups_opened (nest R d L 0 s₀)) ≡ sum_by (λ n. length (groups_at R d n (state_of R d s₀ n))) (filter (shown R d) (order d L 0))
  count_groups = ap length nest_groups ∙ length-flat_map (λ n. groups_at R d n (state_of R d s₀ n)) (filter (shown R d) (order d L 0))

  pub count_marks : length (marks_made (nest R d L 0 s₀)) ≡ length (filter (shown_leaf R d) (order d L 0))
  count_marks = ap length nest_marks ∙ length-map (filter (shown_leaf R d) (order d L 0)) (λ n. mark_at R d n (state_of R d s₀ n))

module _ {Item State Group Mark : Type 0} where
  pub nest_has_the_document_picture : NestHasTheDocumentPicture Item State Group Mark
  nest_has_the_document_picture R d l s t b = nest_picture R d l t b s

module _ {Item State Group Mark Other Sign : Type 0} where
  pub fed_nest_has_the_document_picture : FedNestHasTheDocumentPicture Item State Group Mark Other Sign
  fed_nest_has_the_document_picture R d l s t b base f h =
      feeding_keeps_the_picture base f h (nest R d l 0 s) (balanced_nest R d l 0 s)
      ∙ ap (map (seen_behind base f h)) (nest_picture R d l t b s)

  pub fed_nest_is_told_by_the_document_outline : FedNestIsToldByTheDocumentOutline Item State Group Mark Other Sign
  fed_nest_is_told_by_the_document_outline R d l s t b base f h x =
      subst (λ (o : List (Start Group Mark)). (Balanced x × (outline x ≡ outline_behind base f h o)) ↔ (x ≡ fed base f h (nest R d l 0 s))) (nest_outline R d l t b s)
      (fed_is_told_by_its_outline base f h (nest R d l 0 s) (balanced_nest R d l 0 s) x)
