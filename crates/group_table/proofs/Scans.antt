-- The last number below a bound of which a fact holds, and the first one from a bound on. Assumes nothing.
use Rattle.std.proofs.Common.{◌≡◌, ℕ, zero, suc, ◌+◌, ◌<◌, ◌≤◌, Bool, true, false, cond, Some, None, Decides, Option, sym, refl, ap, subst, inl, inr, arith}
use Rattle.std.proofs.lemmas.Bool.{cases_lt, cases_order, both_ways, eq-eqb, eqb-true}
use Rattle.group_table.specs.Links.{last_below, first_from, same}

-- ---- places that may be none

pub same_refl : (o : Option ℕ) → same o o ≡ true
same_refl None = refl
same_refl (Some a) = eq-eqb a a refl

pub same_true : (o p : Option ℕ) → same o p ≡ true → o ≡ p
same_true None None is = refl
same_true None (Some b) is = let z : ◌≡◌ {A = ℕ} 0 1 = cc in absurd (omega arith)
same_true (Some a) None is = let z : ◌≡◌ {A = ℕ} 0 1 = cc in absurd (omega arith)
same_true (Some a) (Some b) is = ap {B = Option ℕ} Some (eqb-true a b is)

pub none_some : {m : ℕ} (o : Option ℕ) → o ≡ None → o ≡ Some m → ⊥
none_some o p q = let z : ◌≡◌ {A = ℕ} 0 1 = cc in omega arith

-- ---- the last below n

abbrev pub Last : (ℕ → Type 0) → ℕ → Option ℕ → Type 0
Last P n None = (j : ℕ) → j < n → P j → ⊥
Last P n (Some m) = (m < n) × P m × ((j : ℕ) → m < j → j < n → P j → ⊥)

pub last_map : (P Q : ℕ → Type 0) (n : ℕ) → ((j : ℕ) → j < n → P j → Q j) → ((j : ℕ) → j < n → Q j → P j) → (o : Option ℕ) → Last P n o → Last Q n o
last_map P Q n to from None none = λ j h q. none j h (from j h q)
last_map P Q n to from (Some m) is = (is.0, to m is.0 is.1, λ j a h q. is.2 j a h (from j h q))

-- a higher bound, with none in between
pub last_up : (P : ℕ → Type 0) (n k : ℕ) → n ≤ k → ((j : ℕ) → n ≤ j → j < k → P j → ⊥) → (o : Option ℕ) → Last P n o → Last P k o
last_up P n k le between None none = λ j h p. elim (cases_lt j n) [ inl low ↦ none j low p | inr high ↦ between j high h p ]
last_up P n k le between (Some m) is =
    (omega (arith, is.0), is.1, λ j a h p. elim (cases_lt j n) [ inl low ↦ is.2 j a low p | inr high ↦ between j high h p ])

last_one : (P : ℕ → Type 0) (n : ℕ) (o p : Option ℕ) → Last P n o → Last P n p → o ≡ p
last_one P n None None is also = refl
last_one P n None (Some b) is also = absurd (is b also.0 also.1)
last_one P n (Some a) None is also = absurd (also a is.0 is.1)
last_one P n (Some a) (Some b) is also =
    elim (cases_order a b) [
      | inl e ↦ ap {B = Option ℕ} Some e
      | inr (inl h) ↦ absurd (is.2 b h also.0 also.1)
      | inr (inr h) ↦ absurd (also.2 a h is.0 is.1)
    ]

module _ (test : ℕ → Bool) (P : ℕ → Type 0) (decides : (m : ℕ) → Decides (test m) (P m)) where
  last_at : (n : ℕ) (b : Bool) → test n ≡ b → (o : Option ℕ) → Last P n o → Last P (suc n) (cond b (Some n) o)
  last_at n true is o rest = (omega arith, (decides n).0 is, λ j a h p. omega arith)
  last_at n false is o rest = last_up P n (suc n) (omega arith) (λ j a h p. let e : j ≡ n = omega arith in both_ways (test n) is ((decides n).1 (subst P e p))) o rest

  pub last_is : (n : ℕ) → Last P n (last_below test n)
  unfolding last_below
  last_is zero = λ j h. absurd (omega arith)
  last_is (suc n) = last_at n (test n) refl (last_below test n) (last_is n)

  pub last_by : (n : ℕ) (o : Option ℕ) → Last P n o → last_below test n ≡ o
  last_by n o is = last_one P n (last_below test n) o (last_is n) is

-- ---- the first from i on, below n

abbrev pub First : (ℕ → Type 0) → ℕ → ℕ → Option ℕ → Type 0
First P i n None = (j : ℕ) → i ≤ j → j < n → P j → ⊥
First P i n (Some m) = (i ≤ m) × (m < n) × P m × ((j : ℕ) → i ≤ j → j < m → P j → ⊥)

first_one : (P : ℕ → Type 0) (i n : ℕ) (o p : Option ℕ) → First P i n o → First P i n p → o ≡ p
first_one P i n None None is also = refl
first_one P i n None (Some b) is also = absurd (is b also.0 also.1 also.2)
first_one P i n (Some a) None is also = absurd (also a is.0 is.1 is.2)
first_one P i n (Some a) (Some b) is also =
    elim (cases_order a b) [
      | inl e ↦ ap {B = Option ℕ} Some e
      | inr (inl h) ↦ absurd (also.3 a is.0 h is.2)
      | inr (inr h) ↦ absurd (is.3 b also.0 h also.2)
    ]

module _ (test : ℕ → Bool) (P : ℕ → Type 0) (decides : (m : ℕ) → Decides (test m) (P m)) where
  first_at : (i n : ℕ) (b : Bool) → test i ≡ b → i < n → (o : Option ℕ) → First P (i + 1) n o → First P i n (cond b (Some i) o)
  first_at i n true is h o rest = (omega arith, h, (decides i).0 is, λ j a b p. omega arith)
  first_at i n false is h None rest = λ j a b p. elim (cases_order i j) [
    | inl e ↦ both_ways (test i) is ((decides i).1 (subst P (sym e) p))
    | inr (inl l) ↦ rest j (omega arith) b p
    | inr (inr g) ↦ omega arith
  ]
  first_at i n false is h (Some m) rest = (
    omega (arith, rest.0),
    rest.1,
    rest.2,
    λ j a b p. elim (cases_order i j) [
      | inl e ↦ both_ways (test i) is ((decides i).1 (subst P (sym e) p))
      | inr (inl l) ↦ rest.3 j (omega arith) b p
      | inr (inr g) ↦ omega arith
    ],
  )

  pub first_is : (left i n : ℕ) → i + left ≡ n → First P i n (first_from test left i)
  unfolding first_from
  first_is zero i n e = λ j a b p. omega arith
  first_is (suc left) i n e = first_at i n (test i) refl (omega arith) (first_from test left (i + 1)) (first_is left (i + 1) n (omega arith))

  pub first_by : (left i n : ℕ) → i + left ≡ n → (o : Option ℕ) → First P i n o → first_from test left i ≡ o
  first_by left i n e o is = first_one P i n (first_from test left i) o (first_is left i n e) is
