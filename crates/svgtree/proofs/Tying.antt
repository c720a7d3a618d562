-- One number more, tied in.
use Rattle.std.proofs.Common.{◌≡◌, ℕ, ◌+◌, ◌<◌, ◌≤◌, ◌≢◌, ◌⊎◌, Some, None, Option, sym, ap, ◌∙◌, subst, inl, inr, arith}
use Rattle.std.proofs.lemmas.Bool.{cases_eq, cases_lt}
use Rattle.std.proofs.lemmas.Option.{none-some, same_Some}
use Rattle.svgtree.specs.Links.{Next, Last, Ties}

-- the first child once m has come behind the last one
abbrev pub first_behind : Option ℕ → Option ℕ → ℕ → Option ℕ
first_behind None first m = Some m
first_behind (Some l) first m = first

-- a link leads to k or it does not
leads : (o : Option ℕ) (k : ℕ) → (o ≡ Some k) ⊎ (o ≢ Some k)
leads None k = inr (none-some k)
leads (Some l) k = elim (cases_eq l k) [ inl e ↦ inl (ap Some e) | inr e ↦ inr (λ s. e (same_Some l k s)) ]

-- one more number, n, as the last child of p
pub ties_more : (n : ℕ) (par lev : ℕ → ℕ) (first last next : ℕ → Option ℕ) (par' lev' : ℕ → ℕ) (first' last' next' : ℕ → Option ℕ) (p : ℕ) → Ties n par lev first last next → p < n →
    ((j : ℕ) → j < n → par' j ≡ par j) → par' n ≡ p →
    ((j : ℕ) → j < n → lev' j ≡ lev j) → lev' n ≡ lev p + 1 →
    ((k : ℕ) → k < n → k ≢ p → first' k ≡ first k) → first' p ≡ first_behind (last p) (first p) n → first' n ≡ None →
    ((k : ℕ) → k < n → k ≢ p → last' k ≡ last k) → last' p ≡ Some n → last' n ≡ None →
    ((k : ℕ) → k < n → last p ≢ Some k → next' k ≡ next k) → ((l : ℕ) → last p ≡ Some l → next' l ≡ Some n) → next' n ≡ None →
    Ties (n + 1) par' lev' first' last' next'
ties_more n par lev first last next par' lev' first' last' next' p t pn par_s par_n lev_s lev_n first_s first_p first_n last_s last_p last_n next_s next_l next_n =
    record { root = root'; before = before'; levels = levels'; firsts = firsts'; lasts = lasts'; nexts = nexts' }
  where
    last_is : (l : ℕ) → last p ≡ Some l → Last n par p (Some l)
    last_is l e = subst (λ (o : Option ℕ). Last n par p o) e (t.lasts p pn)

    before' : (j : ℕ) → 0 < j → j < n + 1 → par' j < j
    before' j h m = elim (cases_lt j n) [
      | inl k ↦ omega (arith, par_s j k, t.before j h k)
      | inr k ↦ let e : j ≡ n = omega arith in rw (e, par_n) pn
    ]

    root' : 0 < n + 1 → (lev' 0 ≡ 1) × (next' 0 ≡ None)
    root' h =
        let some : 0 < n = omega arith in
        (lev_s 0 some ∙ (t.root some).0, next_s 0 some (λ e. omega (arith, (last_is 0 e).0)) ∙ (t.root some).1)

    levels' : (j : ℕ) → 0 < j → j < n + 1 → lev' j ≡ lev' (par' j) + 1
    levels' j h m = elim (cases_lt j n) [
      | inl k ↦ lev_s j k ∙ t.levels j h k ∙ sym (ap (λ (l : ℕ). l + 1) (ap lev' (par_s j k) ∙ lev_s (par j) (omega (arith, t.before j h k))))
      | inr k ↦ let e : j ≡ n = omega arith in rw e (lev_n ∙ sym (ap (λ (l : ℕ). l + 1) (ap lev' par_n ∙ lev_s p pn)))
    ]

    -- none of the old ones, and not the new one, for another parent
    none_more : (q b : ℕ) → q ≢ p → ((j : ℕ) → b < j → j < n → par j ≡ q → ⊥) → (j : ℕ) → b < j → j < n + 1 → par' j ≡ q → ⊥
    none_more q b qp none j h m e = elim (cases_lt j n) [
      | inl k ↦ none j h k (sym (par_s j k) ∙ e)
      | inr k ↦ let i : j ≡ n = omega arith in qp (sym (rw i at e) ∙ par_n)
    ]

    -- the next of the old ones is the next still
    next_kept : (q b k : ℕ) → Next n par q b (Some k) → Next (n + 1) par' q b (Some k)
    next_kept q b k x = (x.0, omega (arith, x.1), par_s k x.1 ∙ x.2, λ j h m e. x.3 j h m (sym (par_s j (omega (arith, x.1))) ∙ e))

    next_more : (q b : ℕ) (o : Option ℕ) → q ≢ p → Next n par q b o → Next (n + 1) par' q b o
    next_more q b None qp x = none_more q b qp x
    next_more q b (Some k) qp x = next_kept q b k x

    last_more : (q : ℕ) (o : Option ℕ) → q ≢ p → Last n par q o → Last (n + 1) par' q o
    last_more q None qp x = none_more q q qp x
    last_more q (Some k) qp x = (x.0, omega (arith, x.1), par_s k x.1 ∙ x.2, none_more q k qp x.3)

    -- nothing comes after the new one
    beyond : (q b : ℕ) → n ≤ b → (j : ℕ) → b < j → j < n + 1 → par' j ≡ q → ⊥
    beyond q b l j h m e = omega arith

    first_at : (l f : Option ℕ) → Last n par p l → Next n par p p f → Next (n + 1) par' p p (first_behind l f n)
    first_at None f x y = (pn, omega arith, par_n, λ j h m e. x j h m (sym (par_s j m) ∙ e))
    first_at (Some l) None x y = absurd (y l x.0 x.1 x.2)
    first_at (Some l) (Some f) x y = next_kept p p f y

    firsts' : (q : ℕ) → q < n + 1 → Next (n + 1) par' q q (first' q)
    firsts' q h = elim (cases_lt q n) [
      | inl l ↦ elim (cases_eq q p) [
        | inl e ↦ rw (e, first_p) (first_at (last p) (first p) (t.lasts p pn) (t.firsts p pn))
        | inr e ↦ rw (first_s q l e) (next_more q q (first q) e (t.firsts q l))
      ]
      | inr l ↦ let i : q ≡ n = omega arith in rw (i, first_n) (beyond n n (omega arith))
    ]

    lasts' : (q : ℕ) → q < n + 1 → Last (n + 1) par' q (last' q)
    lasts' q h = elim (cases_lt q n) [
      | inl l ↦ elim (cases_eq q p) [
        | inl e ↦ rw (e, last_p) (pn, omega arith, par_n, beyond p n (omega arith))
        | inr e ↦ rw (last_s q l e) (last_more q (last q) e (t.lasts q l))
      ]
      | inr l ↦ let i : q ≡ n = omega arith in rw (i, last_n) (beyond n n (omega arith))
    ]

    -- a child of p that is not the last has a sibling after it
    later : (k : ℕ) (o : Option ℕ) → 0 < k → k < n → o ≢ Some k → par k ≡ p → ((j : ℕ) → k < j → j < n → par j ≡ par k → ⊥) → Last n par p o → ⊥
    later k None h l d e none y = y k (omega (arith, t.before k h l)) l e
    later k (Some m) h l d e none y = elim (cases_lt k m) [
      | inl i ↦ none m i y.1 (y.2 ∙ sym e)
      | inr i ↦ elim (cases_eq m k) [ inl same ↦ d (ap Some same) | inr other ↦ y.3 k (omega arith) l e ]
    ]

    -- an old number that is not the last child of p
    next_old : (k : ℕ) (o : Option ℕ) → 0 < k → k < n → last p ≢ Some k → Next n par (par k) k o → Next (n + 1) par' (par k) k o
    next_old k (Some j) h l d x = next_kept (par k) k j x
    next_old k None h l d x = elim (cases_eq (par k) p) [
      | inr e ↦ next_more (par k) k None e x
      | inl e ↦ absurd (later k (last p) h l d e x (t.lasts p pn))
    ]

    -- the last child of p, which the new one comes behind
    next_last : (l : ℕ) → Last n par p (Some l) → Next (n + 1) par' (par' l) l (Some n)
    next_last l x = rw (par_s l x.1, x.2) (x.1, omega arith, par_n, λ j i m f. x.3 j i m (sym (par_s j m) ∙ f))

    nexts' : (k : ℕ) → 0 < k → k < n + 1 → Next (n + 1) par' (par' k) k (next' k)
    nexts' k h m = elim (cases_lt k n) [
      | inl l ↦ elim (leads (last p) k) [
        | inl e ↦ rw (next_l k e) (next_last k (last_is k e))
        | inr e ↦ rw (par_s k l, next_s k l e) (next_old k (next k) h l e (t.nexts k h l))
      ]
      | inr l ↦ let i : k ≡ n = omega arith in rw (i, next_n) (beyond (par' n) n (omega arith))
    ]
