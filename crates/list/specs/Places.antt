-- The place of a record, by its number.
use Rattle.std.specs.Prelude.{◌≡◌, ℕ, suc, ◌<◌, cond, List, [], ◌∷◌, IsSomeAnd, Some, None, Option, ◌==◌}
use Rattle.std.specs.Option.{option_map}
use Rattle.std.specs.List.{slice_get}

-- The place of the first record with the number n, counted from 0.
unfoldable pub place_of : {X : Type 0} → (X → ℕ) → ℕ → List X → Option ℕ
place_of number n [] = None
place_of number n (x ∷ xs) = cond (number x == n) (Some 0) (option_map suc (place_of number n xs))

-- A record stands at place i, and its number is n.
abbrev pub Has : {X : Type 0} → (X → ℕ) → ℕ → List X → ℕ → Type 0
Has number n xs i = IsSomeAnd (slice_get xs i) (λ x. number x ≡ n)

-- Found at i: the record there has the number, and none before it does. Not found: none at any place has it.
abbrev pub Found : {X : Type 0} → (X → ℕ) → ℕ → List X → Option ℕ → Type 0
Found number n xs (Some i) = Has number n xs i × ((k : ℕ) → k < i → Has number n xs k → ⊥)
Found number n xs None = (k : ℕ) → Has number n xs k → ⊥
