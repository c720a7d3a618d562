-- The groups that are open before a record of a script. Assumes nothing.
use Rattle.std.proofs.Common.{◌≡◌, ℕ, zero, suc, ◌+◌, ◌-◌, ◌<◌, ◌≤◌, true, ◌&&◌, eqb, List, [], ◌∷◌, ◌++◌, take, Some, None, Decides, Option, sym, refl, ap, ◌∙◌, subst, inl, inr, add-zero, arith}
use Rattle.std.specs.List.{slice_get}
use Rattle.std.proofs.Math.Seq.{take-suc}
use Rattle.std.proofs.lemmas.Option.{slice_get_within, get_or_from_slice_get}
use Rattle.std.proofs.lemmas.Bool.{cases_lt, eqb-true, eq-eqb, and_parts, and_from}
use Rattle.record.specs.Records.{Record}
use Rattle.record.specs.declared.Event.TheVariants.{Open, Mark, Close}
use Rattle.sink.specs.Script.{opens, closes, level}
use Rattle.sink.proofs.Counting.{opens_append, closes_append}
use Rattle.group_table.specs.Links.{is_open, level_at, around, Encloses, Innermost}
use Rattle.group_table.proofs.Scans.{Last, last_is, last_by}

-- ---- one record more

pub take_none : (s : List Record) (n : ℕ) → slice_get s n ≡ None → take (suc n) s ≡ take n s
take_none [] zero is = refl
take_none [] (suc n) is = refl
take_none (r ∷ s) zero is = let z : ◌≡◌ {A = ℕ} 0 1 = cc in absurd (omega arith)
take_none (r ∷ s) (suc n) is = ap (λ (t : List Record). r ∷ t) (take_none s n is)

pub take_some : (s : List Record) (n : ℕ) (r : Record) → slice_get s n ≡ Some r → take (suc n) s ≡ take n s ++ r ∷ []
take_some s n r is = take-suc s n r (slice_get_within s n r is) ∙ ap (λ (q : Record). take n s ++ q ∷ []) (get_or_from_slice_get s n r r is)

module _ (s : List Record) (n : ℕ) where
  level_none : slice_get s n ≡ None → level_at s (suc n) ≡ level_at s n
  level_none is = ap level (take_none s n is)

  pub level_is : (r : Record) → slice_get s n ≡ Some r → level_at s (suc n) ≡ opens (take n s) + opens (r ∷ []) - (closes (take n s) + closes (r ∷ []))
  level_is r is = rw (take_some s n r is, opens_append (take n s) (r ∷ []), closes_append (take n s) (r ∷ [])) refl

  -- where the level rises a group opens
  pub rises : level_at s n < level_at s (suc n) → (is_open (slice_get s n) ≡ true) × (level_at s (suc n) ≡ level_at s n + 1)
  rises up = go (slice_get s n) refl
    where
      go : (o : Option Record) → slice_get s n ≡ o → (is_open (slice_get s n) ≡ true) × (level_at s (suc n) ≡ level_at s n + 1)
      go None is = let e = level_none is in absurd (omega arith)
      go (Some (Open g)) is = let e = level_is (Open g) is in (ap is_open is, omega arith)
      go (Some (Mark m)) is = let e = level_is (Mark m) is in absurd (omega arith)
      go (Some Close) is = let e = level_is Close is in absurd (omega arith)

-- ---- the group around a record

module _ (s : List Record) where
  -- record m opens a group that leads to the level of n
  abbrev pub Leads : ℕ → ℕ → Type 0
  Leads n m = (is_open (slice_get s m) ≡ true) × (level_at s m + 1 ≡ level_at s n)

  leads : (n m : ℕ) → Decides (is_open (slice_get s m) && eqb (level_at s m + 1) (level_at s n)) (Leads n m)
  leads n m = (
    λ is. let p = and_parts _ _ is in (p.0, eqb-true (level_at s m + 1) (level_at s n) p.1),
    λ is. and_from _ _ is.0 (eq-eqb (level_at s m + 1) (level_at s n) is.1),
  )

  pub around_is : (n : ℕ) → Last (Leads n) n (around s n)
  unfolding around
  around_is n = last_is _ (Leads n) (leads n) n

  pub around_by : (n : ℕ) (o : Option ℕ) → Last (Leads n) n o → around s n ≡ o
  unfolding around
  around_by n o is = last_by _ (Leads n) (leads n) n o is

  around_some : (n m : ℕ) → around s n ≡ Some m → Last (Leads n) n (Some m)
  around_some n m is = subst (Last (Leads n) n) is (around_is n)

  around_none : (n : ℕ) → around s n ≡ None → Last (Leads n) n None
  around_none n is = subst (Last (Leads n) n) is (around_is n)

  pub around_before : (n m : ℕ) → around s n ≡ Some m → m < n
  around_before n m is = (around_some n m is).0

  pub around_open : (n m : ℕ) → around s n ≡ Some m → is_open (slice_get s m) ≡ true
  around_open n m is = (around_some n m is).1.0

  pub around_level : (n m : ℕ) → around s n ≡ Some m → level_at s m + 1 ≡ level_at s n
  around_level n m is = (around_some n m is).1.1

  -- since it was opened, the level has been above its own
  pub still_open : (n m : ℕ) → around s n ≡ Some m → (k : ℕ) → m < k → k ≤ n → level_at s m < level_at s k
  still_open n m is k after upto = back (n - k) k (omega arith) after
    where
      innermost_so : (j : ℕ) → m < j → j < n → Leads n j → ⊥
      innermost_so = (around_some n m is).2

      lv : level_at s m + 1 ≡ level_at s n
      lv = around_level n m is

      back : (d k : ℕ) → k + d ≡ n → m < k → level_at s m < level_at s k
      back zero k e h = let f : level_at s k ≡ level_at s n = ap (level_at s) (sym (add-zero k) ∙ e) in omega (arith, lv)
      back (suc d) k e h =
          let ih : level_at s m < level_at s (suc k) = back d (suc k) (omega arith) (omega arith) in
          elim (cases_lt (level_at s m) (level_at s k)) [
            | inl yes' ↦ yes'
            | inr low ↦ let r = rises s k (omega arith) in absurd (innermost_so k h (omega arith) (r.0, omega (arith, lv)))
          ]

  -- where no group is around, none is open
  pub none_open : (n : ℕ) → around s n ≡ None → level_at s n ≡ 0
  none_open n is = let e : level_at s n ≤ level_at s 0 = back n 0 (omega arith) in omega arith
    where
      none_so : (j : ℕ) → j < n → Leads n j → ⊥
      none_so = around_none n is

      back : (d k : ℕ) → k + d ≡ n → level_at s n ≤ level_at s k
      back zero k e = let f : level_at s k ≡ level_at s n = ap (level_at s) (sym (add-zero k) ∙ e) in omega arith
      back (suc d) k e =
          let ih : level_at s n ≤ level_at s (suc k) = back d (suc k) (omega arith) in
          elim (cases_lt (level_at s k) (level_at s n)) [
            | inl low ↦ let r = rises s k (omega arith) in absurd (none_so k (omega arith) (r.0, omega arith))
            | inr yes' ↦ yes'
          ]

pub innermost : Innermost
innermost s n = (some_case, none_case)
  where
    some_case : (m : ℕ) → around s n ≡ Some m → Encloses s m n × ((j : ℕ) → Encloses s j n → j ≤ m)
    some_case m is = (
      (around_before s n m is, around_open s n m is, still_open s n m is),
      λ j e. elim (cases_lt m j) [
        | inl after ↦
            let a = still_open s n m is j after (omega (arith, e.0)) in
            let b = e.2 n e.0 (omega arith) in
            let c = around_level s n m is in
            absurd (omega arith)
        | inr upto ↦ upto
      ],
    )

    none_case : around s n ≡ None → (j : ℕ) → Encloses s j n → ⊥
    none_case is j e = let a = none_open s n is in let b = e.2 n e.0 (omega arith) in omega arith
