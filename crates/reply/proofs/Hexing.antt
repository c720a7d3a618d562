-- The eight hexadecimal digits that `{:08x}` writes.
use Rattle.std.proofs.Common.{◌≡◌, ℕ, zero, suc, ◌+◌, ◌-◌, ◌/◌, ◌%◌, ◌^◌, ◌<◌, ◌≤◌, Bool, true, false, eqb, List, [], ◌∷◌, ◌++◌, length, replicate, refl, sym, ap, ◌∙◌, arith, eqb-true, eq-eqb, append-nil}
use Rattle.std.specs.Char.{digit_char}
use Rattle.std.specs.Fmt.{digits, digits_onto, padded_integral, format_spec, char_count}
use Rattle.std.proofs.lemmas.Bool.{cond-true, cond-false}
use Rattle.reply.specs.Bits.{hex}

-- the last j digits of n, before others
last_digits : ℕ → ℕ → List ℕ → List ℕ
last_digits zero n later = later
last_digits (suc j) n later = last_digits j (n / 16) (digit_char (n % 16) ∷ later)

zeros_push : (j : ℕ) (later : List ℕ) → replicate j 48 ++ 48 ∷ later ≡ 48 ∷ (replicate j 48 ++ later)
zeros_push zero later = refl
zeros_push (suc j) later = ap (λ (l : List ℕ). 48 ∷ l) (zeros_push j later)

zeros : (j : ℕ) (later : List ℕ) → replicate j 48 ++ later ≡ last_digits j 0 later
unfolding last_digits
zeros zero later = refl
zeros (suc j) later = sym (zeros_push j later) ∙ zeros j (48 ∷ later)

-- n's digits before others, with as many zeros in front as make it so many in all
Filled : ℕ → ℕ → ℕ → List ℕ → List ℕ
Filled all k n later = replicate (all - length (digits_onto k 16 false n later)) 48 ++ digits_onto k 16 false n later

module _ (k n : ℕ) (later : List ℕ) where
  last_one : n / 16 ≡ 0 → digits_onto (suc k) 16 false n later ≡ digit_char (n % 16) ∷ later
  last_one e = cond-true _ _ _ (eq-eqb (n / 16) 0 e)

  one_more : eqb (n / 16) 0 ≡ false → digits_onto (suc k) 16 false n later ≡ digits_onto k 16 false (n / 16) (digit_char (n % 16) ∷ later)
  one_more e = cond-false _ _ _ e

  stopped : (j : ℕ) → n / 16 ≡ 0 → Filled (suc j + length later) (suc k) n later ≡ last_digits (suc j) n later
  unfolding last_digits Filled
  stopped j e =
      let d = digit_char (n % 16) in
      let short : suc j + length later - suc (length later) ≡ j = omega arith in
      ap (λ (l : List ℕ). replicate (suc j + length later - length l) 48 ++ l) (last_one e)
      ∙ ap (λ (i : ℕ). replicate i 48 ++ d ∷ later) short
      ∙ zeros j (d ∷ later)
      ∙ ap (λ (m : ℕ). last_digits j m (d ∷ later)) (sym e)

-- the digits that are written are the last j, where the number has no more
filled : (j k n : ℕ) (later : List ℕ) → j ≤ k → n < 16 ^ suc j → Filled (suc j + length later) (suc k) n later ≡ last_digits (suc j) n later
unfolding last_digits Filled
filled zero k n later room small = stopped k n later 0 (omega arith)
filled (suc j) zero n later room small = absurd (omega arith)
filled (suc j) (suc k) n later room small =
    by (eqb (n / 16) 0) refl (filled j k (n / 16) (digit_char (n % 16) ∷ later) (omega arith) (omega arith))
  where
    by : (b : Bool) → eqb (n / 16) 0 ≡ b
        → Filled (suc j + length (digit_char (n % 16) ∷ later)) (suc k) (n / 16) (digit_char (n % 16) ∷ later) ≡ last_digits (suc j) (n / 16) (digit_char (n % 16) ∷ later)
        → Filled (suc (suc j) + length later) (suc (suc k)) n later ≡ last_digits (suc (suc j)) n later
    by true e rest = stopped (suc k) n later (suc j) (eqb-true (n / 16) 0 e)
    by false e rest =
        let all : suc (suc j) + length later ≡ suc j + suc (length later) = omega arith in
        ap (λ (l : List ℕ). replicate (suc (suc j) + length later - length l) 48 ++ l) (one_more (suc k) n later e)
        ∙ ap (λ (i : ℕ). Filled i (suc k) (n / 16) (digit_char (n % 16) ∷ later)) all
        ∙ rest

-- what stands in front of a numeral of at most eight digits
padded : (l : List ℕ) → padded_integral (format_spec 32 0 4 8 (2 ^ 64 - 1)) false [] l ≡ replicate (8 - length l) 48 ++ l
unfolding padded_integral char_count
padded l =
    let short : 8 - length l - 0 - 0 ≡ 8 - length l = omega arith in
    ap (λ (i : ℕ). replicate i 48 ++ (l ++ [])) short ∙ ap (λ (m : List ℕ). replicate (8 - length l) 48 ++ m) (append-nil l)

places : (n : ℕ) → last_digits 8 n [] ≡ hex n
unfolding hex last_digits
places n =
    let at0 : n ≡ n / 16 ^ 0 = omega arith in
    let at1 : n / 16 ≡ n / 16 ^ 1 = omega arith in
    let at2 : n / 16 / 16 ≡ n / 16 ^ 2 = omega arith in
    let at3 : n / 16 / 16 / 16 ≡ n / 16 ^ 3 = omega arith in
    let at4 : n / 16 / 16 / 16 / 16 ≡ n / 16 ^ 4 = omega arith in
    let at5 : n / 16 / 16 / 16 / 16 / 16 ≡ n / 16 ^ 5 = omega arith in
    let at6 : n / 16 / 16 / 16 / 16 / 16 / 16 ≡ n / 16 ^ 6 = omega arith in
    let at7 : n / 16 / 16 / 16 / 16 / 16 / 16 / 16 ≡ n / 16 ^ 7 = omega arith in
    λ i. digit_char (at7 i % 16) ∷ digit_char (at6 i % 16) ∷ digit_char (at5 i % 16) ∷ digit_char (at4 i % 16) ∷ digit_char (at3 i % 16) ∷ digit_char (at2 i % 16) ∷ digit_char (at1 i % 16) ∷ digit_char (at0 i % 16) ∷ []

pub eight : (n : ℕ) → n < 2 ^ 32 → padded_integral (format_spec 32 0 4 8 (2 ^ 64 - 1)) false [] (digits 16 false n) ≡ hex n
unfolding digits Filled
eight n small = padded (digits 16 false n) ∙ filled 7 63 n [] (omega arith) (omega arith) ∙ places n
