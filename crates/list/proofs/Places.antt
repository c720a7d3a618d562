-- Laws of a search by number.
use Rattle.std.proofs.Common.{◌≡◌, ℕ, zero, suc, ◌<◌, eqb, List, [], ◌∷◌, length, Some, None, Option, MatchOption, sym, refl, ap, ◌∙◌, arith}
use Rattle.std.specs.List.{AllWithin, HoldsAt}
use Rattle.std.specs.Option.{option_map}
use Rattle.std.proofs.lemmas.Bool.{eq-eqb, ne_eqb, cond-true, cond-false}
use Rattle.list.specs.Places.{place_of, Has, Found}

module _ {X : Type 0} (number : X → ℕ) (n : ℕ) where
  place_head : (x : X) (xs : List X) → number x ≡ n → Some 0 ≡ place_of number n (x ∷ xs)
  unfolding place_of
  place_head x xs same = sym (cond-true (eqb (number x) n) (Some 0) (option_map suc (place_of number n xs)) (eq-eqb (number x) n same))

  place_tail : (x : X) (xs : List X) (r : Option ℕ) → (number x ≡ n → ⊥) → r ≡ place_of number n xs → option_map suc r ≡ place_of number n (x ∷ xs)
  unfolding place_of
  place_tail x xs r other e =
      ap (λ (o : Option ℕ). option_map suc o) e
      ∙ sym (cond-false (eqb (number x) n) (Some 0) (option_map suc (place_of number n xs)) (ne_eqb (number x) n other))

  -- the law determines the place
  pub found_place : (xs : List X) (r : Option ℕ) → Found number n xs r → r ≡ place_of number n xs
  unfolding place_of
  found_place [] None found = refl
  found_place [] (Some i) found = absurd found.0
  found_place (x ∷ xs) None found = place_tail x xs None (found 0) (found_place xs None (λ k. found (suc k)))
  found_place (x ∷ xs) (Some zero) found = place_head x xs found.0
  found_place (x ∷ xs) (Some (suc i)) found =
      place_tail x xs (Some i) (found.1 0 (omega arith)) (found_place xs (Some i) (found.0, λ k before. found.1 (suc k) (omega arith)))

  abbrev IsIt : X → Type 0
  IsIt x = number x ≡ n

  abbrev IsOther : X → Type 0
  IsOther x = number x ≡ n → ⊥

  has_at : (xs : List X) (i : ℕ) → i < length xs → HoldsAt IsIt xs i → Has number n xs i
  has_at [] i inside it = absurd (omega arith)
  has_at (x ∷ xs) zero inside it = it x
  has_at (x ∷ xs) (suc i) inside it = has_at xs i (omega arith) it

  at_has : (xs : List X) (i : ℕ) → Has number n xs i → (i < length xs) × HoldsAt IsIt xs i
  at_has [] i has = absurd has
  at_has (x ∷ xs) zero has = (omega arith, λ d. has)
  at_has (x ∷ xs) (suc i) has = let at = at_has xs i has in (omega (arith, at.0), at.1)

  -- the first item that a search from the front finds
  pub first_found : (xs : List X) (r : Option ℕ)
      → MatchOption r (AllWithin IsOther xs 0 (length xs)) (λ i. (i < length xs) × HoldsAt IsIt xs i × AllWithin IsOther xs 0 i)
      → Found number n xs r
  first_found [] None others = λ k has. has
  first_found (x ∷ xs) None others = λ k has. let at = at_has (x ∷ xs) k has in others k x (omega arith) at.0 (at.1 x)
  first_found [] (Some i) first = absurd (omega (arith, first.0))
  first_found (x ∷ xs) (Some i) first =
      (has_at (x ∷ xs) i first.0 first.1, λ k before has. first.2 k x (omega arith) before ((at_has (x ∷ xs) k has).1 x))
