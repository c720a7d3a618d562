-- Where a line is parted into words.
use Rattle.std.proofs.Common.{◌≡◌, ℕ, zero, suc, ◌+◌, ◌<◌, ◌≤◌, Bool, true, false, not, cond, eqb, List, [], ◌∷◌, length, get_or, take, drop, unwrap_or, sym, refl, ap, ◌∙◌, arith, eq-eqb}
use Rattle.std.specs.Char.{is_ascii_whitespace}
use Rattle.std.specs.List.{position, position_or_len}
use Rattle.std.specs.Str.{IsCharBoundary}
use Rattle.std.proofs.lemmas.Bool.{cond-true, cond-false, not-false}
use Rattle.std.proofs.lemmas.List.Sums.{prefix_len-le-length, prefix_len_stops}
use Rattle.std.proofs.lemmas.Bool.Decides.{nat_tests}
use Rattle.notation.specs.Words.{past_blanks, before_blank, from_blank, unread, first_word, past_word}

pub white_is_ascii : (b : ℕ) → is_ascii_whitespace b ≡ true → b < 128
white_is_ascii b h = grind (arith, nat_tests)

pub past_blanks_is : (bs : List ℕ) (n : ℕ) → n ≤ length bs → ((i : ℕ) → i < n → is_ascii_whitespace (get_or bs i 0) ≡ true) → (n < length bs → is_ascii_whitespace (get_or bs n 0) ≡ false) → past_blanks bs ≡ drop n bs
unfolding past_blanks
past_blanks_is [] zero l w d = refl
past_blanks_is [] (suc n) l w d = absurd (omega arith)
past_blanks_is (b ∷ bs) zero l w d = cond-false _ _ _ (d (omega arith))
past_blanks_is (b ∷ bs) (suc n) l w d =
    cond-true _ _ _ (w 0 (omega arith))
    ∙ past_blanks_is bs n (omega arith) (λ i h. w (suc i) (omega arith)) (λ h. d (omega arith))

-- what `trim_ascii_start` leaves
pub trimmed : (line rest : List ℕ) → (n : ℕ) × (rest ≡ drop n line) × (length rest + n ≡ length line) × ((i : ℕ) → i < n → is_ascii_whitespace (get_or line i 0) ≡ true) × (n < length line → is_ascii_whitespace (get_or line n 0) ≡ false) → past_blanks line ≡ rest
trimmed line rest v = past_blanks_is line v.0 (omega (arith, v.2)) v.3 v.4 ∙ sym v.1

-- the first white space's place, or the line's length
abbrev pub blank_at : List ℕ → ℕ
blank_at bs = position_or_len is_ascii_whitespace bs

one_more : (n : ℕ) → suc n ≡ 1 + n
one_more n = omega arith

-- a word goes there
pub before_blank_is : (bs : List ℕ) → before_blank bs ≡ take (blank_at bs) bs
unfolding before_blank
before_blank_is [] = refl
before_blank_is (b ∷ bs) = go (is_ascii_whitespace b) (before_blank_is bs)
  where
    go : (w : Bool) → before_blank bs ≡ take (blank_at bs) bs → cond w [] (b ∷ before_blank bs) ≡ take (cond (not w) (1 + blank_at bs) 0) (b ∷ bs)
    go true e = refl
    go false e = ap (λ (l : List ℕ). b ∷ l) e ∙ ap (λ (k : ℕ). take k (b ∷ bs)) (one_more (blank_at bs))

pub from_blank_is : (bs : List ℕ) → from_blank bs ≡ drop (blank_at bs) bs
unfolding from_blank
from_blank_is [] = refl
from_blank_is (b ∷ bs) = go (is_ascii_whitespace b) (from_blank_is bs)
  where
    go : (w : Bool) → from_blank bs ≡ drop (blank_at bs) bs → cond w (b ∷ bs) (from_blank bs) ≡ drop (cond (not w) (1 + blank_at bs) 0) (b ∷ bs)
    go true e = refl
    go false e = e ∙ ap (λ (k : ℕ). drop k (b ∷ bs)) (one_more (blank_at bs))

pub word_boundary : (bs : List ℕ) → IsCharBoundary bs (blank_at bs)
word_boundary bs = (
  prefix_len-le-length _ bs,
  λ inside wide. absurd (omega (arith, white_is_ascii (get_or bs (blank_at bs) 0) (not-false _ (prefix_len_stops (λ b. not (is_ascii_whitespace b)) bs 0 inside)))),
)

pub first_blank : (bs : List ℕ) → unwrap_or (position is_ascii_whitespace bs) (length bs) ≡ blank_at bs
first_blank bs = grind (arith, nat_tests, prefix_len-le-length (λ b. not (is_ascii_whitespace b)) bs)

-- a line that goes on with a comment has no further word
pub nothing_more : (line : List ℕ) → get_or (past_blanks line) 0 0 ≡ 35 → ([] ≡ first_word line) × ([] ≡ past_word line)
unfolding unread first_word past_word before_blank from_blank
nothing_more line e =
    let none : unread line ≡ [] = cond-true _ _ _ (eq-eqb _ _ e) in
    (sym (ap before_blank none), sym (ap from_blank none))

pub some_more : (line : List ℕ) → eqb (get_or (past_blanks line) 0 0) 35 ≡ false → unread line ≡ past_blanks line
unfolding unread
some_more line e = cond-false _ _ _ e
