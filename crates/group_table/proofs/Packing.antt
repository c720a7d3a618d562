-- Floats and their bits, one by one and all. Assumes nothing.
use Rattle.std.proofs.Common.{◌≡◌, ℕ, ◌+◌, ◌<◌, ◌≤◌, Bool, true, List, [], ◌∷◌, length, take, set, get_or, from_bits, sym, refl, ap, ◌∙◌, inl, inr, arith}
use mathlib.Core.List.{map-append}
use lib.Ieee.{Float}
use Rattle.std.specs.Float.{binary32}
use Rattle.std.specs.List.{list_all}
use Rattle.std.proofs.lemmas.Bool.{cases_Bool, both_ways}
use Rattle.std.proofs.lemmas.List.{length-set, take_more, take_more_set, take_all}
use Rattle.std.proofs.lemmas.List.Folds.{list_all_at, list_all-append}
use Rattle.group_table.specs.Floats.{is_number, floats_of}

-- one of the elements that all pass
pub passes_at : {X : Type 0} (p : X → Bool) (xs : List X) (i : ℕ) (d : X) → i < length xs → list_all p xs ≡ true → p (get_or xs i d) ≡ true
passes_at p xs i d h all = elim (cases_Bool (p (get_or xs i d))) [
  | inl is ↦ is
  | inr not-so ↦ absurd (both_ways (list_all p xs) (list_all_at p xs i d h not-so) all)
]

-- the first i of n floats are those of the first i words
pub record Matched (words : List ℕ) (floats : List Float) (i n : ℕ) : Type 0 where
  pub long_words : length words ≡ n
  pub long_floats : length floats ≡ n
  pub same : floats_of (take i words) ≡ take i floats

pub none_matched : (words : List ℕ) (floats : List Float) (n : ℕ) → length words ≡ n → length floats ≡ n → Matched words floats 0 n
none_matched words floats n w f = record { long_words = w; long_floats = f; same = refl }

pub all_matched : (words : List ℕ) (floats : List Float) (i n : ℕ) → n ≤ i → Matched words floats i n → floats_of words ≡ floats
all_matched words floats i n end is =
    ap floats_of (sym (take_all i words (omega (arith, is.long_words)))) ∙ is.same ∙ take_all i floats (omega (arith, is.long_floats))

module _ (words : List ℕ) (floats : List Float) (i n : ℕ) (h : i < n) (is : Matched words floats i n) where
  in_words : i < length words
  in_words = omega (arith, is.long_words)

  in_floats : i < length floats
  in_floats = omega (arith, is.long_floats)

  pub word_matched : (w : ℕ) (d : Float) → from_bits binary32 w ≡ get_or floats i d → Matched (set words i w) floats (i + 1) n
  word_matched w d one = record {
    long_words = length-set words i w ∙ is.long_words;
    long_floats = is.long_floats;
    same =
        ap floats_of (take_more_set words i w in_words)
        ∙ map-append (from_bits binary32) (take i words) (w ∷ [])
        ∙ rw (is.same, one) (sym (take_more floats i d in_floats));
  }

  pub float_matched : (x : Float) (d : ℕ) → x ≡ from_bits binary32 (get_or words i d) → Matched words (set floats i x) (i + 1) n
  float_matched x d one = record {
    long_words = is.long_words;
    long_floats = length-set floats i x ∙ is.long_floats;
    same =
        ap floats_of (take_more words i d in_words)
        ∙ map-append (from_bits binary32) (take i words) (get_or words i d ∷ [])
        ∙ rw (is.same, ← one) (sym (take_more_set floats i x in_floats));
  }

  pub number_more : (w : ℕ) → list_all is_number (take i words) ≡ true → is_number w ≡ true → list_all is_number (take (i + 1) (set words i w)) ≡ true
  number_more w before one = rw (take_more_set words i w in_words, list_all-append is_number (take i words) (w ∷ []), before, one) refl
