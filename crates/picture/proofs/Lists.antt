-- Lists: what the proofs here want and the shelf lacks.
use Rattle.std.proofs.Common.{◌≡◌, ℕ, zero, suc, Bool, List, [], ◌∷◌, ◌++◌, map, replicate, filter, refl, ap, ◌∙◌, inl, inr, ◌+◌, ◌<◌, ◌≤◌, arith, true}
use Rattle.std.specs.List.{flat_map, AllByRecursion, range_with_len}
use Rattle.std.proofs.lemmas.List.{map-append}
use Rattle.std.proofs.lemmas.List.Elements.{filter-append}
use Rattle.std.proofs.ByRecursion.{All-append}
use Rattle.std.proofs.lemmas.Bool.{cases_Bool, cond-true, cond-false}
use Rattle.std.proofs.lemmas.List.Concat.{flat_map-append}
use Rattle.picture.specs.Picture.{front}

pub replicate_push : {A : Type 0} (n : ℕ) (x : A) → replicate n x ++ x ∷ [] ≡ x ∷ replicate n x
replicate_push zero x = refl
replicate_push (suc n) x = ap (λ (ys : List _). x ∷ ys) (replicate_push n x)

pub joined_joined : {X Y A : Type 0} (f : Y → List A) (g : X → List Y) (xs : List X) → flat_map f (flat_map g xs) ≡ flat_map (λ x. flat_map f (g x)) xs
joined_joined f g [] = refl
joined_joined f g (x ∷ xs) = simp (flat_map-append, joined_joined f g xs)

pub joined_same : {X A : Type 0} (P : X → Type 0) (f g : X → List A) (xs : List X) → AllByRecursion P xs → ((x : X) → P x → f x ≡ g x) → flat_map f xs ≡ flat_map g xs
joined_same P f g [] a h = refl
joined_same P f g (x ∷ xs) a h = λ i. h x a.0 i ++ joined_same P f g xs a.1 h i

pub joined_none : {X A : Type 0} (P : X → Type 0) (f : X → List A) (xs : List X) → AllByRecursion P xs → ((x : X) → P x → f x ≡ []) → flat_map f xs ≡ []
joined_none P f [] a h = refl
joined_none P f (x ∷ xs) a h = λ i. h x a.0 i ++ joined_none P f xs a.1 h i

pub map_joined : {X A B : Type 0} (h : A → B) (f : X → List A) (xs : List X) → map h (flat_map f xs) ≡ flat_map (λ x. map h (f x)) xs
map_joined h f [] = refl
map_joined h f (x ∷ xs) = simp (map-append, map_joined h f xs)

pub kept_joined : {X A : Type 0} (p : A → Bool) (f : X → List A) (xs : List X) → filter p (flat_map f xs) ≡ flat_map (λ x. filter p (f x)) xs
kept_joined p f [] = refl
kept_joined p f (x ∷ xs) = simp (filter-append, kept_joined p f xs)

pub kept_map : {A B : Type 0} (p : B → Bool) (f : A → B) (xs : List A) → filter p (map f xs) ≡ map f (filter (λ x. p (f x)) xs)
kept_map p f [] = refl
kept_map p f (x ∷ xs) = elim (cases_Bool (p (f x))) [
  | inl e ↦ simp (e, kept_map p f xs)
  | inr e ↦ simp (e, kept_map p f xs)
]

pub all_joined : {X A : Type 0} (P : A → Type 0) (Q : X → Type 0) (f : X → List A) (xs : List X) → AllByRecursion Q xs → ((x : X) → Q x → AllByRecursion P (f x)) → AllByRecursion P (flat_map f xs)
all_joined P Q f [] a h = tt
all_joined P Q f (x ∷ xs) a h = All-append P (f x) (flat_map f xs) (h x a.0) (all_joined P Q f xs a.1 h)

-- numbers counted up, in two parts
pub counted_append : (a j m : ℕ) → range_with_len a (j + m) ≡ range_with_len a j ++ range_with_len (a + j) m
counted_append a zero m = λ i. range_with_len (at i) (len i)
  where
    at : a ≡ a + 0
    at = omega arith

    len : 0 + m ≡ m
    len = omega arith
counted_append a (suc j) m =
    let len : suc j + m ≡ suc (j + m) = omega arith in
    let at : (a + 1) + j ≡ a + suc j = omega arith in
    ap (range_with_len a) len ∙ ap (λ (ks : List ℕ). a ∷ ks) (counted_append (a + 1) j m ∙ ap (λ (b : ℕ). range_with_len (a + 1) j ++ range_with_len b m) at)

-- what holds of each counted number that passes the test
pub all_counted : (P : ℕ → Type 0) (p : ℕ → Bool) (a m : ℕ) → ((k : ℕ) → a ≤ k → k < a + m → p k ≡ true → P k) → AllByRecursion P (filter p (range_with_len a m))
all_counted P p a zero h = tt
all_counted P p a (suc m) h =
    let rest : AllByRecursion P (filter p (range_with_len (a + 1) m)) = all_counted P p (a + 1) m (λ k lo hi. h k (omega arith) (omega arith)) in
    elim (cases_Bool (p a)) [
      | inl e ↦ rw (cond-true (p a) _ _ e) (h a (omega arith) (omega arith) e, rest)
      | inr e ↦ rw (cond-false (p a) _ _ e) rest
    ]

pub front_push : {A : Type 0} (xs : List A) (x : A) → front (xs ++ x ∷ []) ≡ xs
front_push [] x = refl
front_push (y ∷ []) x = refl
front_push (y ∷ (z ∷ zs)) x = ap (λ (ys : List _). y ∷ ys) (front_push (z ∷ zs) x)

pub front_map : {A B : Type 0} (f : A → B) (xs : List A) → front (map f xs) ≡ map f (front xs)
front_map f [] = refl
front_map f (y ∷ []) = refl
front_map f (y ∷ (z ∷ zs)) = ap (λ (ys : List _). f y ∷ ys) (front_map f (z ∷ zs))
