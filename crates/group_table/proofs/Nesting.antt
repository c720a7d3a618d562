-- The group around a record, its first child and its next sibling, as a script grows. Assumes nothing.
use Rattle.std.proofs.Common.{◌≡◌, ℕ, suc, ◌+◌, ◌-◌, ◌<◌, ◌≤◌, true, false, ◌&&◌, List, length, take, Some, None, Decides, Option, sym, refl, ap, ◌∙◌, subst, inl, inr, arith}
use Rattle.std.specs.List.{slice_get}
use Rattle.std.proofs.lemmas.Bool.{cases_lt, both_ways, and_parts, and_from}
use Rattle.record.specs.declared.Group.{Group}
use Rattle.record.specs.declared.Mark.{Mark}
use Rattle.record.specs.Records.{Record}
use Rattle.record.specs.declared.Event.TheVariants as variants
use Rattle.sink.specs.Script.{opens, closes}
use Rattle.group_table.specs.Links.{is_open, is_child, level_at, around, same, child_after}
use Rattle.group_table.specs.Invariant.{last_child}
use Rattle.group_table.proofs.Scans.{same_refl, same_true, Last, last_map, last_up, last_is, last_by, First, first_is, first_by}
use Rattle.group_table.proofs.Levels.{level_is, Leads, around_is, around_by, around_before, around_open, around_level, still_open, none_open}

-- ---- the level and the group around, past record n

module _ (s : List Record) (n : ℕ) where
  not_open : (r : Record) → slice_get s n ≡ Some r → is_open (Some r) ≡ false → (j : ℕ) → n ≤ j → j < suc n → is_open (slice_get s j) ≡ true → ⊥
  not_open r is not_so j a h p = let e : j ≡ n = omega arith in both_ways (is_open (slice_get s j)) (ap (λ k. is_open (slice_get s k)) e ∙ ap is_open is ∙ not_so) p

  -- after an open, its own group, where no more groups were closed than opened
  pub around_opened : (g : Group) → slice_get s n ≡ Some (variants.Open g) → closes (take n s) ≤ opens (take n s) → around s (suc n) ≡ Some n
  around_opened g is nested =
      let lv = level_is s n (variants.Open g) is in
      around_by s (suc n) (Some n) (omega arith, (ap is_open is, omega arith), λ j a h p. omega arith)

  -- after a mark, the same
  pub around_marked : (m : Mark) → slice_get s n ≡ Some (variants.Mark m) → around s (suc n) ≡ around s n
  around_marked m is =
      let lv = level_is s n (variants.Mark m) is in
      around_by s (suc n) (around s n)
      (last_up (Leads s (suc n)) n (suc n) (omega arith) (λ j a h p. not_open (variants.Mark m) is refl j a h p.0) (around s n)
      (last_map (Leads s n) (Leads s (suc n)) n (λ j h p. (p.0, omega (arith, p.1))) (λ j h p. (p.0, omega (arith, p.1))) (around s n) (around_is s n)))

  -- after a close, the group around the one that it closes
  pub around_closed : (o : ℕ) → slice_get s n ≡ Some variants.Close → around s n ≡ Some o → around s (suc n) ≡ around s o
  around_closed o is at =
      let lv = level_is s n variants.Close is in
      let up = around_level s n o at in
      let before = around_before s n o at in
      around_by s (suc n) (around s o)
      (last_up (Leads s (suc n)) o (suc n) (omega arith) (λ j a h p. past j a h p.1) (around s o)
      (last_map (Leads s o) (Leads s (suc n)) o (λ j h p. (p.0, omega (arith, p.1))) (λ j h p. (p.0, omega (arith, p.1))) (around s o) (around_is s o)))
    where
      past : (j : ℕ) → o ≤ j → j < suc n → level_at s j + 1 ≡ level_at s (suc n) → ⊥
      past j a h p =
          let lv = level_is s n variants.Close is in
          let up = around_level s n o at in
          elim (cases_lt o j) [
            | inl after ↦ let st = still_open s n o at j after (omega arith) in omega arith
            | inr here ↦ let e : j ≡ o = omega arith in let f : level_at s j ≡ level_at s o = ap (level_at s) e in omega arith
          ]

-- ---- children

module _ (s : List Record) where
  -- record m is a child of the group, or of none
  abbrev pub ChildOf : Option ℕ → ℕ → Type 0
  ChildOf group m = (is_child (slice_get s m) ≡ true) × (around s m ≡ group)

  child_of : (group : Option ℕ) (m : ℕ) → Decides (is_child (slice_get s m) && same (around s m) group) (ChildOf group m)
  child_of group m = (
    λ is. let p = and_parts _ _ is in (p.0, same_true (around s m) group p.1),
    λ is. and_from _ _ is.0 (subst (λ (o : Option ℕ). same (around s m) o ≡ true) is.1 (same_refl (around s m))),
  )

  pub last_child_is : (n : ℕ) → Last (ChildOf (around s n)) n (last_child s n)
  unfolding last_child
  last_child_is n = last_is _ (ChildOf (around s n)) (child_of (around s n)) n

  pub last_child_before : (n m : ℕ) → last_child s n ≡ Some m → m < n
  last_child_before n m is = (subst (Last (ChildOf (around s n)) n) is (last_child_is n)).0

  last_child_by : (n : ℕ) (o : Option ℕ) → Last (ChildOf (around s n)) n o → last_child s n ≡ o
  unfolding last_child
  last_child_by n o is = last_by _ (ChildOf (around s n)) (child_of (around s n)) n o is

  pub child_after_is : (group : Option ℕ) (n : ℕ) → n < length s → First (ChildOf group) (n + 1) (length s) (child_after s group n)
  unfolding child_after
  child_after_is group n h = first_is _ (ChildOf group) (child_of group) (length s - (n + 1)) (n + 1) (length s) (omega arith)

  pub child_after_by : (group : Option ℕ) (n : ℕ) → n < length s → (o : Option ℕ) → First (ChildOf group) (n + 1) (length s) o → child_after s group n ≡ o
  unfolding child_after
  child_after_by group n h o is = first_by _ (ChildOf group) (child_of group) (length s - (n + 1)) (n + 1) (length s) (omega arith) o is

  -- records with the same group around have the same level
  same_level : (i j : ℕ) (o : Option ℕ) → around s i ≡ o → around s j ≡ o → level_at s i ≡ level_at s j
  same_level i j None p q = none_open s i p ∙ sym (none_open s j q)
  same_level i j (Some m) p q = let a = around_level s i m p in let b = around_level s j m q in omega arith

  open_child : (o : Option Record) → is_open o ≡ true → is_child o ≡ true
  open_child None is = is
  open_child (Some (variants.Open g)) is = is
  open_child (Some (variants.Mark m)) is = refl
  open_child (Some variants.Close) is = is

  -- the last child: after an open none, after a mark itself, after a close the group that it closes
  pub last_child_opened : (n : ℕ) → around s (suc n) ≡ Some n → last_child s (suc n) ≡ None
  last_child_opened n at = last_child_by (suc n) None (λ j h p. let b = around_before s j n (p.1 ∙ at) in omega arith)

  pub last_child_marked : (n : ℕ) (m : Mark) → slice_get s n ≡ Some (variants.Mark m) → last_child s (suc n) ≡ Some n
  last_child_marked n m is = last_child_by (suc n) (Some n) (omega arith, (ap is_child is, sym (around_marked s n m is)), λ j a h p. omega arith)

  pub last_child_closed : (n o : ℕ) → slice_get s n ≡ Some variants.Close → around s n ≡ Some o → last_child s (suc n) ≡ Some o
  last_child_closed n o is at =
      let before = around_before s n o at in
      last_child_by (suc n) (Some o) (
        omega arith,
        (open_child (slice_get s o) (around_open s n o at), sym (around_closed s n o is at)),
        λ j a h p.
            let st = still_open s n o at j a (omega arith) in
            let e = same_level j o (around s (suc n)) p.1 (sym (around_closed s n o is at)) in
            omega arith,
      )
