-- Each shown node has its stretch of the nest, and its groups open once.
use Rattle.std.proofs.Common.{◌≡◌, ℕ, zero, suc, ◌+◌, ◌<◌, ◌≤◌, true, false, eqb, List, [], ◌∷◌, ◌++◌, map, length, replicate, filter, sym, refl, ap, ◌∙◌, subst, inl, inr, append_assoc, append-nil, arith}
use mathlib.Core.List.Memᴰ
use Rattle.std.specs.List.{flat_map, AllByRecursion}
use Rattle.std.proofs.lemmas.List.{length_push}
use Rattle.std.proofs.lemmas.List.Elements.{filter-append, recursion_from_All, filter_passes}
use Rattle.std.proofs.ByRecursion.{All-append, All-weaker}
use Rattle.std.proofs.lemmas.Bool.{cases_Bool, cond-true, cond-false, both_ways, eq-eqb, ne_eqb}
use Rattle.std.proofs.lemmas.List.Concat.{flat_map-append}
use Rattle.picture.specs.Script.{Event, Script, within, groups_opened}
use Rattle.picture.specs.Script.Event.{opened, marked, closed}
use Rattle.picture.specs.Nodes.{Nodes, children, climb, above, path, Tree, order}
use Rattle.picture.specs.Rules.{Rules, leaf_at, drawn_at, groups_at, inside_at, BareLeaves, nest}
use Rattle.picture.specs.Document.{state_of, shown}
use Rattle.picture.specs.Brackets.{Owned, owned_by, owning, unowned, In, Inside, Outside, Stretch, own_groups, Bracketed, EachGroupOpensOnceRoundWhatItHolds}
use Rattle.picture.proofs.Lists.{map_joined, all_joined, kept_joined, joined_none}
use Rattle.picture.proofs.Scripts.{within_rewritten, groups_append, groups_closes, groups_opens}
use Rattle.picture.proofs.Paths.{Child, children_are, above_child, state_child, drawn_child, shown_parts, child_gt, by_parents}
use Rattle.picture.proofs.Nests.{content, nest_drawn, balanced_content, balanced_nest}
use Rattle.picture.proofs.Members.{self_in, in_le, above_lt, parent_above, parent_in, same_child, Siblings, siblings}
use Rattle.picture.proofs.Documents.{nest_groups}

-- WITHOUT OWNERS

owned_things : {Thing : Type 0} (n i : ℕ) (xs : List Thing) → map (λ (x : Owned Thing). x.thing) (owned_by n i xs) ≡ xs
owned_things n i [] = refl
owned_things n i (x ∷ xs) = ap (λ (ys : List _). x ∷ ys) (owned_things n (i + 1) xs)

module _ {Item State Group Mark : Type 0} (R : Rules Item State Group Mark) (d : Nodes Item) where
  unowned_content : (l n : ℕ) (s : State) → ((k : ℕ) (u : State) → unowned (nest (owning R) d l k u) ≡ nest R d l k u) → unowned (content (owning R) d l n s) ≡ content R d l n s
  unowned_content l n s ih = elim (cases_Bool (leaf_at R d n)) [
    | inl e ↦ simp e
    | inr e ↦
        let u : State = inside_at R d n s in
        simp (e, map_joined) (λ i. flat_map (λ k. ih k u i) (children d n))
  ]

  -- told whose each group and mark is, the nest is the same
  pub unowned_nest : (l n : ℕ) (s : State) → unowned (nest (owning R) d l n s) ≡ nest R d l n s
  unfolding nest
  unowned_nest zero n s = refl
  unowned_nest (suc l) n s = elim (cases_Bool (drawn_at R d n)) [
    | inr e ↦ simp e
    | inl e ↦ simp (e, within_rewritten, owned_things, unowned_content l n s (λ k u. unowned_nest l k u))
  ]

-- WHAT HOLDS OF EACH EVENT

module _ {Group Mark : Type 0} (P : Event (Owned Group) (Owned Mark) → Type 0) where
  all_opens : (n i : ℕ) (gs : List Group) → ((g : Owned Group) → g.node ≡ n → P (opened g)) → AllByRecursion P (map opened (owned_by n i gs))
  all_opens n i [] h = tt
  all_opens n i (g ∷ gs) h = (h (record { node = n; place = i; thing = g }) refl, all_opens n (i + 1) gs h)

  all_closes : (n : ℕ) → P closed → AllByRecursion P (replicate n closed)
  all_closes zero h = tt
  all_closes (suc n) h = (h, all_closes n h)

  all_within : (n i : ℕ) (gs : List Group) (s : Script (Owned Group) (Owned Mark)) → ((g : Owned Group) → g.node ≡ n → P (opened g)) → AllByRecursion P s → P closed → AllByRecursion P (within (owned_by n i gs) s)
  all_within n i gs s h a c =
      All-append P (map opened (owned_by n i gs) ++ s) (replicate (length (owned_by n i gs)) closed)
      (All-append P (map opened (owned_by n i gs)) s (all_opens n i gs h) a) (all_closes (length (owned_by n i gs)) c)

module _ {Item State Group Mark : Type 0} (R : Rules Item State Group Mark) (d : Nodes Item) (L : ℕ) (tree : Tree d L) (bare : BareLeaves R d) where
  -- an event of a node of which P holds
  abbrev About : (ℕ → Type 0) → Event (Owned Group) (Owned Mark) → Type 0
  About P (opened g) = P g.node
  About P (marked m) = P m.node
  About P closed = Unit {0}

  about_more : (P Q : ℕ → Type 0) → ((m : ℕ) → P m → Q m) → (r : Event (Owned Group) (Owned Mark)) → About P r → About Q r
  about_more P Q h (opened g) p = h g.node p
  about_more P Q h (marked m) p = h m.node p
  about_more P Q h closed p = tt

  -- m is n, or below it
  abbrev Of : ℕ → ℕ → Type 0
  Of n m = (m < d.count) × In n (path d m)

  -- m is neither
  abbrev Off : ℕ → ℕ → Type 0
  Off n m = (m < d.count) × (In n (path d m) → ⊥)

  -- what stands between the groups of n, of a node that there is
  abbrev Held : ℕ → Event (Owned Group) (Owned Mark) → Type 0
  Held n r = Inside d n r × About (λ m. m < d.count) r

  held_from_child : (n k : ℕ) → Child d n k → (r : Event (Owned Group) (Owned Mark)) → About (Of k) r → Held n r
  held_from_child n k c (opened g) p = (parent_above d L tree n k g.node c p.0 p.1, p.0)
  held_from_child n k c (marked m) p = (parent_in d L tree n k m.node c p.0 p.1, p.0)
  held_from_child n k c closed p = (tt, tt)

  of_from_held : (n : ℕ) (r : Event (Owned Group) (Owned Mark)) → Held n r → About (Of n) r
  of_from_held n (opened g) p = (p.1, Memᴰ.append_left (g.node ∷ []) p.0)
  of_from_held n (marked m) p = (p.1, p.0)
  of_from_held n closed p = tt

  -- the content of n is held by it, where the nests of its children are of these and what is below them
  held_content : (l n : ℕ) (s : State) → n < d.count → ((k : ℕ) (u : State) → k < d.count → AllByRecursion (About (Of k)) (nest (owning R) d l k u)) → AllByRecursion (Held n) (content (owning R) d l n s)
  held_content l n s h ih = elim (cases_Bool (leaf_at R d n)) [
    | inl e ↦ simp e ((self_in d n, h), tt)
    | inr e ↦ simp e
        (all_joined (Held n) (Child d n) (λ k. nest (owning R) d l k (inside_at R d n s)) (children d n) (children_are d n)
        (λ k c. All-weaker (About (Of k)) (Held n) (held_from_child n k c) (nest (owning R) d l k (inside_at R d n s)) (ih k (inside_at R d n s) c.high)))
  ]

  -- the nest of a node has events of it and of nodes below it
  of_nest : (l n : ℕ) (s : State) → n < d.count → AllByRecursion (About (Of n)) (nest (owning R) d l n s)
  unfolding nest
  of_nest zero n s h = tt
  of_nest (suc l) n s h = elim (cases_Bool (drawn_at R d n)) [
    | inl e ↦ simp e
        (all_within (About (Of n)) n 0 (groups_at R d n s) (content (owning R) d l n s)
        (λ g q. let P : ℕ → Type 0 = Of n in subst P (sym q) (h, self_in d n))
        (All-weaker (Held n) (About (Of n)) (of_from_held n) (content (owning R) d l n s) (held_content l n s h (λ k u g. of_nest l k u g)))
        tt)
    | inr e ↦ simp e tt
  ]

  module _ (s₀ : State) where
    -- where the nest of n stands in that of the root
    record Found (n : ℕ) : Type 0 where
      l : ℕ
      before : Script (Owned Group) (Owned Mark)
      after : Script (Owned Group) (Owned Mark)
      splits : nest (owning R) d L 0 s₀ ≡ before ++ (nest (owning R) d (suc l) n (state_of R d s₀ n) ++ after)
      room : length (above d n) + suc l ≡ L
      befores : AllByRecursion (About (Off n)) before
      afters : AllByRecursion (About (Off n)) after

    found_root : Found 0
    unfolding climb
    found_root = root L refl (tree.levels 0 tree.root)
      where
        root : (f : ℕ) → f ≡ L → 0 < L → Found 0
        root zero e h = absurd (omega arith)
        root (suc f) e h = record {
          l = f;
          before = [];
          after = [];
          splits = ap (λ (x : ℕ). nest (owning R) d x 0 s₀) (sym e) ∙ sym (append-nil (nest (owning R) d (suc f) 0 s₀));
          room = omega arith;
          befores = tt;
          afters = tt;
        }

    shown_parent : (p n : ℕ) → Child d p n → shown R d n ≡ true → shown R d p ≡ true
    shown_parent p n c e = sym (drawn_child R d L tree p n c) ∙ (shown_parts R d n e).0

    -- from a node to a child of it
    module _ (p n : ℕ) (c : Child d p n) (sh : shown R d n ≡ true) where
      -- what is off p is off n
      off_child : (r : Event (Owned Group) (Owned Mark)) → About (Off p) r → About (Off n) r
      off_child r a = about_more (Off p) (Off n) (λ m o. (o.0, λ i. o.1 (parent_in d L tree p n m c o.0 i))) r a

      -- what is of another child of p is off n
      off_other : (k : ℕ) → Child d p k → (k ≡ n → ⊥) → (r : Event (Owned Group) (Owned Mark)) → About (Of k) r → About (Off n) r
      off_other k b ne r a = about_more (Of k) (Off n) (λ m o. (o.0, λ i. ne (same_child d L tree p k n m b c o.0 o.1 i))) r a

      off_others : (l : ℕ) (u : State) (ks : List ℕ) → AllByRecursion (λ k. Child d p k × (k ≡ n → ⊥)) ks → AllByRecursion (About (Off n)) (flat_map (λ k. nest (owning R) d l k u) ks)
      off_others l u ks a =
          all_joined (About (Off n)) (λ k. Child d p k × (k ≡ n → ⊥)) (λ k. nest (owning R) d l k u) ks a
          (λ k b. All-weaker (About (Of k)) (About (Off n)) (off_other k b.0 b.1) (nest (owning R) d l k u) (of_nest l k u b.0.high))

      off_opens : (u : State) → AllByRecursion (About (Off n)) (map opened (owned_by p 0 (groups_at R d p u)))
      off_opens u = all_opens (About (Off n)) p 0 (groups_at R d p u) (λ g e.
          let P : ℕ → Type 0 = Off n in
          let lt : p < n = child_gt d L tree p n c in
          let hi : n < d.count = c.high in
          let h : p < d.count = omega arith in
          subst P (sym e) (h, λ i. let le : n ≤ p = in_le d L tree n p h i in omega arith))

      -- the other children of p, on either side of n
      others_left : (t : Siblings d p n) → AllByRecursion (λ k. Child d p k × (k ≡ n → ⊥)) t.left
      others_left t = All-weaker (λ k. Child d p k × (k < n)) (λ k. Child d p k × (k ≡ n → ⊥)) (λ k x. (x.0, λ y. omega (arith, x.1))) t.left t.lefts

      others_right : (t : Siblings d p n) → AllByRecursion (λ k. Child d p k × (k ≡ n → ⊥)) t.right
      others_right t = All-weaker (λ k. Child d p k × (n < k)) (λ k. Child d p k × (k ≡ n → ⊥)) (λ k x. (x.0, λ y. omega (arith, x.1))) t.right t.rights

      deeper : length (above d n) ≡ length (above d p) + 1
      deeper = ap length (above_child d L tree p n c) ∙ length_push (above d p) p

      found_child : (l : ℕ) (before after : Script (Owned Group) (Owned Mark)) → nest (owning R) d L 0 s₀ ≡ before ++ (nest (owning R) d (suc l) p (state_of R d s₀ p) ++ after) → length (above d p) + suc l ≡ L → AllByRecursion (About (Off p)) before → AllByRecursion (About (Off p)) after → Found n
      found_child zero before after e r b a =
          let h : length (above d n) < L = tree.levels n c.high in
          let q : length (above d n) ≡ length (above d p) + 1 = deeper in
          absurd (omega arith)
      found_child (suc l) before after e r b a =
          let u : State = state_of R d s₀ p in
          let v : State = inside_at R d p u in
          let F : ℕ → Script (Owned Group) (Owned Mark) = λ k. nest (owning R) d (suc l) k v in
          let t : Siblings d p n = siblings d p n c in
          let leaf : leaf_at R d p ≡ false = ap (leaf_at R d) (sym c.parent) ∙ bare n c.low c.high in
          let bo : content (owning R) d (suc l) p u ≡ flat_map F t.left ++ (F n ++ flat_map F t.right) =
          cond-false (leaf_at (owning R) d p) _ _ leaf ∙ ap (flat_map F) t.is ∙ flat_map-append F t.left (n ∷ t.right) in
          let gs : List (Owned Group) = owned_by p 0 (groups_at R d p u) in
          let O : Script (Owned Group) (Owned Mark) = map opened gs in
          let C : Script (Owned Group) (Owned Mark) = replicate (length gs) closed in
          let q : length (above d n) ≡ length (above d p) + 1 = deeper in
          record {
            l = l;
            before = before ++ (O ++ flat_map F t.left);
            after = flat_map F t.right ++ (C ++ after);
            splits =
                e
                ∙ ap (λ (x : Script (Owned Group) (Owned Mark)). before ++ (x ++ after)) (nest_drawn (owning R) d (suc l) p u (shown_parts R d p (shown_parent p n c sh)).1 ∙ ap (within gs) bo)
                ∙ simp (append_assoc, state_child R d L tree s₀ p n c);
            room = omega arith;
            befores =
                All-append (About (Off n)) before (O ++ flat_map F t.left) (All-weaker (About (Off p)) (About (Off n)) off_child before b)
                (All-append (About (Off n)) O (flat_map F t.left) (off_opens u) (off_others (suc l) v t.left (others_left t)));
            afters =
                All-append (About (Off n)) (flat_map F t.right) (C ++ after) (off_others (suc l) v t.right (others_right t))
                (All-append (About (Off n)) C after (all_closes (About (Off n)) (length gs) tt) (All-weaker (About (Off p)) (About (Off n)) off_child after a));
          }

    found : (n : ℕ) → n < d.count → shown R d n ≡ true → Found n
    found =
        by_parents d L tree (λ n. shown R d n ≡ true → Found n) (λ sh. found_root)
        (λ p n c ih sh. let f : Found p = ih (shown_parent p n c sh) in found_child p n c sh f.l f.before f.after f.splits f.room f.befores f.afters)

    outside_from_off : (n : ℕ) (r : Event (Owned Group) (Owned Mark)) → About (Off n) r → Outside d n r
    outside_from_off n (opened g) p = p.1
    outside_from_off n (marked m) p = p.1
    outside_from_off n closed p = tt

    pub stretch_of : (n : ℕ) → n < d.count → shown R d n ≡ true → Stretch d n (own_groups R d s₀ n) (nest (owning R) d L 0 s₀)
    stretch_of n h sh =
        let f : Found n = found n h sh in
        let s : State = state_of R d s₀ n in
        record {
          before = f.before;
          between = content (owning R) d f.l n s;
          after = f.after;
          splits = f.splits ∙ ap (λ (x : Script (Owned Group) (Owned Mark)). f.before ++ (x ++ f.after)) (nest_drawn (owning R) d f.l n s (shown_parts R d n sh).1);
          balanced = balanced_content (owning R) d f.l n s (balanced_nest (owning R) d f.l);
          inside = All-weaker (Held n) (Inside d n) (λ r p. p.0) (content (owning R) d f.l n s) (held_content f.l n s h (of_nest f.l));
          outside_before = All-weaker (About (Off n)) (Outside d n) (outside_from_off n) f.before f.befores;
          outside_after = All-weaker (About (Off n)) (Outside d n) (outside_from_off n) f.after f.afters;
        }

-- THE GROUPS OF ONE NODE

owned_kept : {Group : Type 0} (n i : ℕ) (gs : List Group) → filter (λ (g : Owned Group). eqb g.node n) (owned_by n i gs) ≡ owned_by n i gs
owned_kept n i [] = refl
owned_kept n i (g ∷ gs) = cond-true (eqb n n) _ _ (eq-eqb n n refl) ∙ ap (λ (x : List (Owned _)). record { node = n; place = i; thing = g } ∷ x) (owned_kept n (i + 1) gs)

owned_other : {Group : Type 0} (n k i : ℕ) → (k ≡ n → ⊥) → (gs : List Group) → filter (λ (g : Owned Group). eqb g.node n) (owned_by k i gs) ≡ []
owned_other n k i ne [] = refl
owned_other n k i ne (g ∷ gs) = cond-false (eqb k n) _ _ (ne_eqb k n ne) ∙ owned_other n k (i + 1) ne gs

module _ {Group Mark : Type 0} (n : ℕ) where
  -- the groups of n that a script opens
  abbrev groups_of : Script (Owned Group) (Owned Mark) → List (Owned Group)
  groups_of s = filter (λ g. eqb g.node n) (groups_opened s)

  no_groups_of : (P : Event (Owned Group) (Owned Mark) → Type 0) → ((g : Owned Group) → P (opened g) → g.node ≡ n → ⊥) → (s : Script (Owned Group) (Owned Mark)) → AllByRecursion P s → groups_of s ≡ []
  no_groups_of P h [] a = refl
  no_groups_of P h (opened g ∷ s) a = cond-false (eqb g.node n) _ _ (ne_eqb g.node n (h g a.0)) ∙ no_groups_of P h s a.1
  no_groups_of P h (marked m ∷ s) a = no_groups_of P h s a.1
  no_groups_of P h (closed ∷ s) a = no_groups_of P h s a.1

module _ {Item State Group Mark : Type 0} (R : Rules Item State Group Mark) (d : Nodes Item) (L : ℕ) (tree : Tree d L) (bare : BareLeaves R d) (s₀ : State) where
  -- the groups of a shown node open once
  once_shown : (n : ℕ) → n < d.count → shown R d n ≡ true → groups_of n (nest (owning R) d L 0 s₀) ≡ own_groups R d s₀ n
  once_shown n h sh =
      let t : Stretch d n (own_groups R d s₀ n) (nest (owning R) d L 0 s₀) = stretch_of R d L tree bare s₀ n h sh in
      let gs : List (Owned Group) = own_groups R d s₀ n in
      let off : (s : Script (Owned Group) (Owned Mark)) → AllByRecursion (Outside d n) s → groups_of n s ≡ [] =
      no_groups_of n (Outside d n) (λ g o e. o (subst (λ (m : ℕ). In n (path d m)) (sym e) (self_in d n))) in
      let between : groups_of n t.between ≡ [] =
      no_groups_of n (Inside d n) (λ g i e. let lt : n < n = above_lt d L tree n n h (subst (λ (m : ℕ). In n (above d m)) e i) in omega arith) t.between t.inside in
      ap (groups_of n) t.splits
      ∙ simp (groups_closes, groups_opens, groups_append, filter-append, off t.before t.outside_before, off t.after t.outside_after, between, owned_kept, append-nil)

  -- the groups that open are of shown nodes
  once_not_shown : (n : ℕ) → shown R d n ≡ false → groups_of n (nest (owning R) d L 0 s₀) ≡ []
  once_not_shown n e =
      let own : ℕ → List (Owned Group) = own_groups R d s₀ in
      let kept : List ℕ = filter (shown R d) (order d L 0) in
      ap (filter (λ (g : Owned Group). eqb g.node n)) (nest_groups (owning R) d L tree bare s₀)
      ∙ kept_joined (λ (g : Owned Group). eqb g.node n) own kept
      ∙ joined_none (λ k. shown R d k ≡ true) (λ k. filter (λ (g : Owned Group). eqb g.node n) (own k)) kept
      (recursion_from_All (λ k. shown R d k ≡ true) kept (filter_passes (shown R d) (order d L 0)))
      (λ k sh. owned_other n k 0 (λ q. both_ways (shown R d n) e (ap (shown R d) (sym q) ∙ sh)) (groups_at R d k (state_of R d s₀ k)))

  pub bracketed : Bracketed R d s₀ (nest (owning R) d L 0 s₀)
  bracketed = record {
    balanced = balanced_nest (owning R) d L 0 s₀;
    stretch = stretch_of R d L tree bare s₀;
    once = λ n h. elim (cases_Bool (shown R d n)) [
      | inl e ↦ once_shown n h e ∙ sym (cond-true (shown R d n) _ _ e)
      | inr e ↦ once_not_shown n e ∙ sym (cond-false (shown R d n) _ _ e)
    ];
  }

pub each_group_opens_once_round_what_it_holds : {Item State Group Mark : Type 0} → EachGroupOpensOnceRoundWhatItHolds Item State Group Mark
each_group_opens_once_round_what_it_holds R d l s t b = (unowned_nest R d l 0 s, bracketed R d l t b s)
