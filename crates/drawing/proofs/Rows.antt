-- Rows of words.
use Rattle.std.proofs.Common.{◌≡◌, ◌≢◌, set, get_or-set_other, get_or-set_same, below_more, subst, ℕ, zero, suc, ◌+◌, ◌-◌, ◌<◌, ◌≤◌, length-set, add-one, List, [], ◌∷◌, ◌++◌, length, get_or, replicate, Some, None, Float, sym, refl, ap, ◌∙◌, arith}
use Rattle.std.proofs.lemmas.List.{length-replicate}
use Rattle.notation.specs.Words.{word, first_word, past_word, past_words}
use Rattle.notation.specs.Numbers.{Number}
use Rattle.drawing.specs.Grammar.{missing}
use Rattle.drawing.specs.Values.{NumbersAt}
use Rattle.drawing.specs.declared.expected.Expected.{Expected}
use Rattle.drawing.specs.declared.expected.Expected.TheVariants as expected

-- A ROW AND WHAT FOLLOWS IT

pub goes_on : (xs ys : List Expected) (line : List ℕ) → missing xs line ≡ None → missing (xs ++ ys) line ≡ missing ys (past_words (length xs) line)
unfolding missing
goes_on [] ys line m = refl
goes_on (x ∷ xs) ys line m = grind (arith, goes_on xs ys (past_word line))

pub stops : (xs ys : List Expected) (line : List ℕ) (e : Expected) → missing xs line ≡ Some e → missing (xs ++ ys) line ≡ Some e
unfolding missing
stops [] ys line e m = cc
stops (x ∷ xs) ys line e m = grind (arith, stops xs ys (past_word line) e)

-- past the words of one row and then of another is past those of both
past_both : (xs ys : List Expected) (line : List ℕ) → past_words (length ys) (past_words (length xs) line) ≡ past_words (length (xs ++ ys)) line
past_both [] ys line = refl
past_both (x ∷ xs) ys line = past_both xs ys (past_word line)

-- n NUMBERS

past_next : (k : ℕ) (line : List ℕ) → past_word (past_words k line) ≡ past_words (suc k) line
past_next zero line = refl
past_next (suc k) line = past_next k (past_word line)

numbers_at : (xs : List Float) (line : List ℕ) → ((i : ℕ) (d : Float) → i < length xs → Number (word i line) (get_or xs i d)) → NumbersAt line xs
numbers_at [] line h = tt
numbers_at (x ∷ xs) line h = (h 0 x (omega arith), numbers_at xs (past_word line) (λ i d l. h (suc i) d (omega arith)))

-- of n numbers the line's first k stand in xs, and rest is left
pub record IsPartlyRead (n k : ℕ) (line rest : List ℕ) (xs : List Float) : Type 0 where
  pub missing_yet : missing (replicate n expected.Number) line ≡ missing (replicate (n - k) expected.Number) rest
  pub passed : rest ≡ past_words k line
  pub long : length xs ≡ n
  pub read : (i : ℕ) (d : Float) → i < k → Number (word i line) (get_or xs i d)

module _ {n k : ℕ} {line rest : List ℕ} {xs : List Float} (h : IsPartlyRead n k line rest xs) where
  module _ (inside : k < n) where
    one_left : n - k ≡ suc (n - (k + 1))
    one_left = omega arith

    pub one_lacking : (e : Expected) → missing (expected.Number ∷ []) rest ≡ Some e → missing (replicate n expected.Number) line ≡ Some e
    one_lacking e m =
        h.missing_yet
        ∙ ap (λ (j : ℕ). missing (replicate j expected.Number) rest) one_left
        ∙ stops (expected.Number ∷ []) (replicate (n - (k + 1)) expected.Number) rest e m

    pub one_more : (next : List ℕ) (x : Float) → (missing (expected.Number ∷ []) rest ≡ None) × (Number (word 0 rest) x × (next ≡ past_word rest)) → IsPartlyRead n (k + 1) line next (set xs k x)
    one_more next x m = record {
      missing_yet =
          h.missing_yet
          ∙ ap (λ (j : ℕ). missing (replicate j expected.Number) rest) one_left
          ∙ goes_on (expected.Number ∷ []) (replicate (n - (k + 1)) expected.Number) rest m.0
          ∙ ap (missing (replicate (n - (k + 1)) expected.Number)) (sym m.1.1);
      passed = m.1.1 ∙ ap past_word h.passed ∙ past_next k line ∙ ap (λ (j : ℕ). past_words j line) (sym (add-one k));
      long = length-set xs k x ∙ h.long;
      read = λ i d. below_more (λ j. Number (word j line) (get_or (set xs k x) j d)) k
          (λ j l. let apart : j ≢ k = omega arith in rw get_or-set_other (h.read j d l))
          (let within : k < length xs = omega (arith, h.long) in rw get_or-set_same (subst (λ (t : List ℕ). Number (first_word t) x) h.passed m.1.0))
          i;
    }

  pub all_read : n ≤ k → k ≤ n → (missing (replicate n expected.Number) line ≡ None) × (NumbersAt line xs × (rest ≡ past_words (length (replicate n expected.Number)) line))
  unfolding missing
  all_read above below =
      let none_left : n - k ≡ 0 = omega arith in
      let last : k ≡ length (replicate n expected.Number) = omega (arith, length-replicate n expected.Number) in (
        h.missing_yet ∙ ap (λ (j : ℕ). missing (replicate j expected.Number) rest) none_left,
        (numbers_at xs line (λ i d l. h.read i d (omega (arith, h.long))), h.passed ∙ ap (λ (j : ℕ). past_words j line) last),
      )
