-- A script with one record more: what was around a record stays, and the new record is the next sibling of the last
-- child so far, or else the first child of its group. Assumes nothing.
use Rattle.std.proofs.Common.{◌≡◌, ℕ, zero, suc, ◌+◌, ◌<◌, ◌≤◌, true, List, [], ◌∷◌, ◌++◌, length, Some, None, Option, sym, refl, ap, ◌∙◌, subst, inl, inr, le_of_suc-le-suc, not-suc-le-zero, arith}
use Rattle.std.specs.List.{slice_get}
use Rattle.std.proofs.lemmas.List.{length_push, get_or_push, take-append-le}
use Rattle.std.proofs.lemmas.Option.{slice_get_read}
use Rattle.std.proofs.lemmas.Bool.{cases_lt, cases_order, cond-true, cond-false, cond_both, cases_Bool}
use Rattle.record.specs.Records.{Record}
use Rattle.sink.specs.Script.{level}
use Rattle.group_table.specs.Links.{is_open, is_child, level_at, around, child_after, first_child_of, next_sibling_of}
use Rattle.group_table.specs.Invariant.{last_child}
use Rattle.group_table.proofs.Scans.{Last, last_map, First}
use Rattle.group_table.proofs.Levels.{Leads, around_is, around_by, around_before}
use Rattle.group_table.proofs.Nesting.{ChildOf, last_child_is, child_after_is, child_after_by}

nth_before : (s t : List Record) (m : ℕ) → m < length s → slice_get (s ++ t) m ≡ slice_get s m
nth_before [] t m h = absurd (not-suc-le-zero h)
nth_before (q ∷ s) t zero h = refl
nth_before (q ∷ s) t (suc m) h = nth_before s t m (le_of_suc-le-suc h)

pub nth_last : (s : List Record) (r : Record) → slice_get (s ++ r ∷ []) (length s) ≡ Some r
nth_last s r = slice_get_read (s ++ r ∷ []) (length s + 1) (length s) r (sym (length_push s r)) (omega arith) (sym (get_or_push s r r (length s) refl))

module _ (s : List Record) (r : Record) where
  abbrev grown : List Record
  grown = s ++ r ∷ []

  level_before : (m : ℕ) → m ≤ length s → level_at grown m ≡ level_at s m
  level_before m h = ap level (take-append-le m s (r ∷ []) h)

  pub around_same : (n : ℕ) → n ≤ length s → around grown n ≡ around s n
  around_same n h = around_by grown n (around s n) (last_map (Leads s n) (Leads grown n) n
      (λ j b p. (ap is_open (nth_before s (r ∷ []) j (omega arith)) ∙ p.0, omega (arith, p.1, level_before j (omega arith), level_before n h)))
      (λ j b p. (sym (ap is_open (nth_before s (r ∷ []) j (omega arith))) ∙ p.0, omega (arith, p.1, level_before j (omega arith), level_before n h)))
      (around s n) (around_is s n))

  child_to : (group : Option ℕ) (m : ℕ) → m < length s → ChildOf s group m → ChildOf grown group m
  child_to group m h p = (ap is_child (nth_before s (r ∷ []) m h) ∙ p.0, around_same m (omega arith) ∙ p.1)

  child_from : (group : Option ℕ) (m : ℕ) → m < length s → ChildOf grown group m → ChildOf s group m
  child_from group m h p = (sym (ap is_child (nth_before s (r ∷ []) m h)) ∙ p.0, sym (around_same m (omega arith)) ∙ p.1)

  length_grown : length grown ≡ length s + 1
  length_grown = length_push s r

  child_at_last : (group : Option ℕ) (m : ℕ) → m ≡ length s → ChildOf grown group m → (is_child (Some r) ≡ true) × (around s (length s) ≡ group)
  child_at_last group m e p = (
    sym (ap is_child (nth_last s r)) ∙ ap (λ k. is_child (slice_get grown k)) (sym e) ∙ p.0,
    sym (around_same (length s) (omega arith)) ∙ ap (around grown) (sym e) ∙ p.1,
  )

  -- the new record is the first child after m only if it is one of that group and there was none
  after_kept : (group : Option ℕ) (m : ℕ) → m < length s → (is_child (Some r) ≡ true → around s (length s) ≡ group → child_after s group m ≡ None → ⊥) → child_after grown group m ≡ child_after s group m
  after_kept group m h other =
      let len = length_grown in child_after_by grown group m (omega arith) (child_after s group m) (go (child_after s group m) refl (child_after_is s group m h))
    where
      go : (o : Option ℕ) → child_after s group m ≡ o → First (ChildOf s group) (m + 1) (length s) o → First (ChildOf grown group) (m + 1) (length grown) o
      go None is none = λ j a b p. elim (cases_lt j (length s)) [
        | inl low ↦ none j a low (child_from group j low p)
        | inr high ↦
            let len = length_grown in
            let q = child_at_last group j (omega arith) p in
            other q.0 q.1 is
      ]
      go (Some c) is p =
          let len = length_grown in
          (p.0, omega (arith, p.1), child_to group c p.1 p.2, λ j a b q. p.3 j a b (child_from group j (omega (arith, p.1)) q))

  after_new : (group : Option ℕ) (m : ℕ) → m < length s → is_child (Some r) ≡ true → around s (length s) ≡ group → ((j : ℕ) → m < j → j < length s → ChildOf s group j → ⊥) → child_after grown group m ≡ Some (length s)
  after_new group m h is at none =
      let len = length_grown in
      child_after_by grown group m (omega arith) (Some (length s))
      (omega arith, omega arith, (ap is_child (nth_last s r) ∙ is, around_same (length s) (omega arith) ∙ at), λ j a b p. none j (omega arith) b (child_from group j b p))

  pub after_last : (group : Option ℕ) → child_after grown group (length s) ≡ None
  after_last group = let len = length_grown in child_after_by grown group (length s) (omega arith) None (λ j a b p. omega arith)

  pub first_last : first_child_of grown (length s) ≡ None
  unfolding first_child_of
  first_last = after_last (Some (length s))

  pub next_last : next_sibling_of grown (length s) ≡ None
  unfolding next_sibling_of
  next_last = cond_both (is_child (slice_get grown (length s))) _ None (λ (o : Option ℕ). o ≡ None) (λ is. after_last (around grown (length s))) (λ is. refl)

  -- ---- the links of record m

  module _ (m : ℕ) (h : m < length s) where
    child_same : is_child (slice_get grown m) ≡ is_child (slice_get s m)
    child_same = ap is_child (nth_before s (r ∷ []) m h)

    pub first_kept : (is_child (Some r) ≡ true → last_child s (length s) ≡ None → around s (length s) ≡ Some m → ⊥) → first_child_of grown m ≡ first_child_of s m
    unfolding first_child_of
    first_kept other = after_kept (Some m) m h (λ is at none. go (last_child s (length s)) refl (last_child_is s (length s)) is at none)
      where
        go : (o : Option ℕ) → last_child s (length s) ≡ o → Last (ChildOf s (around s (length s))) (length s) o → is_child (Some r) ≡ true → around s (length s) ≡ Some m → child_after s (Some m) m ≡ None → ⊥
        go None is_last last is at none = other is is_last at
        go (Some c) is_last last is at none =
            let e = last.1.1 ∙ at in
            let after = around_before s c m e in
            subst (First (ChildOf s (Some m)) (m + 1) (length s)) none (child_after_is s (Some m) m h) c (omega arith) last.0 (last.1.0, e)

    pub first_new : is_child (Some r) ≡ true → last_child s (length s) ≡ None → around s (length s) ≡ Some m → first_child_of grown m ≡ Some (length s)
    unfolding first_child_of
    first_new is none at =
        let last : Last (ChildOf s (around s (length s))) (length s) None = subst (Last (ChildOf s (around s (length s))) (length s)) none (last_child_is s (length s)) in
        after_new (Some m) m h is at (λ j a b p. last j b (p.0, p.1 ∙ sym at))

    pub next_kept : (is_child (Some r) ≡ true → last_child s (length s) ≡ Some m → ⊥) → next_sibling_of grown m ≡ next_sibling_of s m
    unfolding next_sibling_of
    next_kept other = elim (cases_Bool (is_child (slice_get s m))) [
      | inr not-one ↦ cond-false _ _ None (child_same ∙ not-one) ∙ sym (cond-false _ _ None not-one)
      | inl one ↦
          cond-true _ _ None (child_same ∙ one)
          ∙ ap (λ (g : Option ℕ). child_after grown g m) (around_same m (omega arith))
          ∙ after_kept (around s m) m h (λ is at none. go one (last_child s (length s)) refl (last_child_is s (length s)) is at none)
          ∙ sym (cond-true _ _ None one)
    ]
      where
        go : is_child (slice_get s m) ≡ true → (o : Option ℕ) → last_child s (length s) ≡ o → Last (ChildOf s (around s (length s))) (length s) o → is_child (Some r) ≡ true → around s (length s) ≡ around s m → child_after s (around s m) m ≡ None → ⊥
        go one None is_last last is at none = last m h (one, sym at)
        go one (Some c) is_last last is at none = elim (cases_order m c) [
          | inl e ↦ other is (is_last ∙ ap {B = Option ℕ} Some (sym e))
          | inr (inl after) ↦
              subst (First (ChildOf s (around s m)) (m + 1) (length s)) none (child_after_is s (around s m) m h) c (omega arith) last.0 (last.1.0, last.1.1 ∙ at)
          | inr (inr before) ↦ last.2 m before h (one, sym at)
        ]

    pub next_new : is_child (Some r) ≡ true → last_child s (length s) ≡ Some m → next_sibling_of grown m ≡ Some (length s)
    unfolding next_sibling_of
    next_new is at =
        let last : Last (ChildOf s (around s (length s))) (length s) (Some m) = subst (Last (ChildOf s (around s (length s))) (length s)) at (last_child_is s (length s)) in
        cond-true _ _ None (child_same ∙ last.1.0)
        ∙ ap (λ (g : Option ℕ). child_after grown g m) (around_same m (omega arith))
        ∙ after_new (around s m) m h is (sym last.1.1) (λ j a b p. last.2 j a b (p.0, p.1 ∙ last.1.1))
