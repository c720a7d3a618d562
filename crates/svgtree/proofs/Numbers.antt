-- Numbers that pass a test.
use Rattle.std.proofs.Common.{◌≡◌, ℕ, zero, suc, ◌+◌, ◌-◌, ◌<◌, ◌≤◌, Bool, true, false, cond, List, [], ◌∷◌, ◌++◌, filter, sym, refl, ap, ◌∙◌, inl, inr, arith}
use Rattle.std.specs.List.{range_with_len}
use Rattle.std.proofs.lemmas.Bool.{true≢false, cases_eq, cond-true, cond-false}
use Rattle.std.proofs.lemmas.List.Elements.{filter-append}
use Rattle.svgtree.specs.Steps.{nonempty}

-- n numbers and those after them
split : (a g f : ℕ) → range_with_len a (g + f) ≡ range_with_len a g ++ range_with_len (a + g) f
split a zero f =
    let e : 0 + f ≡ f = omega arith in
    let z : a + 0 ≡ a = omega arith in
    rw (e, z) refl
split a (suc g) f =
    let e : suc g + f ≡ suc (g + f) = omega arith in
    let z : a + suc g ≡ (a + 1) + g = omega arith in
    rw (e, z) (ap (λ (ks : List ℕ). a ∷ ks) (split (a + 1) g f))

-- one number more
pub kept_more : (test : ℕ → Bool) (n a k : ℕ) → k ≡ a + n → filter test (range_with_len a (n + 1)) ≡ filter test (range_with_len a n) ++ cond (test k) (k ∷ []) []
kept_more test n a k e =
    rw e (ap (λ (ks : List ℕ). filter test ks) (split a n 1) ∙ filter-append test (range_with_len a n) ((a + n) ∷ []))

-- two tests that agree on them
pub kept_same : (f g : ℕ → Bool) (n a : ℕ) → ((j : ℕ) → a ≤ j → j < a + n → f j ≡ g j) → filter f (range_with_len a n) ≡ filter g (range_with_len a n)
kept_same f g zero a same = refl
kept_same f g (suc n) a same =
    ap (λ (b : Bool). cond b (a ∷ filter f (range_with_len (a + 1) n)) (filter f (range_with_len (a + 1) n))) (same a (omega arith) (omega arith))
    ∙ ap (λ (ks : List ℕ). cond (g a) (a ∷ ks) ks) (kept_same f g n (a + 1) (λ j h l. same j (omega arith) (omega arith)))

pub none_kept : (test : ℕ → Bool) (n a : ℕ) → ((j : ℕ) → a ≤ j → j < a + n → test j ≡ false) → filter test (range_with_len a n) ≡ []
none_kept test zero a none = refl
none_kept test (suc n) a none = cond-false _ _ _ (none a (omega arith) (omega arith)) ∙ none_kept test n (a + 1) (λ j h l. none j (omega arith) (omega arith))

-- where the first g fail, the others are left
pub skip : (test : ℕ → Bool) (g f a : ℕ) → ((j : ℕ) → a ≤ j → j < a + g → test j ≡ false) → filter test (range_with_len a (g + f)) ≡ filter test (range_with_len (a + g) f)
skip test g f a none =
    ap (λ (ks : List ℕ). filter test ks) (split a g f)
    ∙ filter-append test (range_with_len a g) (range_with_len (a + g) f)
    ∙ ap (λ (ks : List ℕ). ks ++ filter test (range_with_len (a + g) f)) (none_kept test g a none)

-- the first that passes comes first
pub first_kept : (test : ℕ → Bool) (n a k : ℕ) → a ≤ k → k < a + n → ((j : ℕ) → a ≤ j → j < k → test j ≡ false) → test k ≡ true →
    filter test (range_with_len a n) ≡ k ∷ filter test (range_with_len (k + 1) (n - (k + 1 - a)))
first_kept test n a k h l none passes =
    let e : n ≡ (k - a) + suc (n - (k + 1 - a)) = omega arith in
    let z : a + (k - a) ≡ k = omega arith in
    ap (λ (m : ℕ). filter test (range_with_len a m)) e
    ∙ skip test (k - a) (suc (n - (k + 1 - a))) a (λ j i o. none j i (omega arith))
    ∙ ap (λ (b : ℕ). filter test (range_with_len b (suc (n - (k + 1 - a))))) z
    ∙ cond-true _ _ _ passes

nonempty_cond : (t : Bool) (k : ℕ) (ks : List ℕ) → (t ≡ false → nonempty ks ≡ true) → nonempty (cond t (k ∷ ks) ks) ≡ true
nonempty_cond true k ks later = refl
nonempty_cond false k ks later = later refl

pub some_kept : (test : ℕ → Bool) (n a k : ℕ) → a ≤ k → k < a + n → test k ≡ true → nonempty (filter test (range_with_len a n)) ≡ true
some_kept test zero a k h l passes = absurd (omega arith)
some_kept test (suc n) a k h l passes =
    nonempty_cond (test a) a (filter test (range_with_len (a + 1) n))
    (λ fails.
    elim (cases_eq a k) [
      | inl same ↦ absurd (true≢false (sym passes ∙ ap test (sym same) ∙ fails))
      | inr other ↦ some_kept test n (a + 1) k (omega arith) (omega arith) passes
    ])
