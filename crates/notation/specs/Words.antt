-- The words of a line. White space parts them, and a # where a word would begin starts a comment, which ends the line.
use Rattle.std.specs.Prelude.{ℕ, zero, suc, cond, List, [], ◌∷◌, ◌==◌, slice_index}
use Rattle.std.specs.Char.{is_ascii_whitespace}

unfoldable pub past_blanks : List ℕ → List ℕ
past_blanks [] = []
past_blanks (b ∷ bs) = cond (is_ascii_whitespace b) (past_blanks bs) (b ∷ bs)

unfoldable pub before_blank : List ℕ → List ℕ
before_blank [] = []
before_blank (b ∷ bs) = cond (is_ascii_whitespace b) [] (b ∷ before_blank bs)

unfoldable pub from_blank : List ℕ → List ℕ
from_blank [] = []
from_blank (b ∷ bs) = cond (is_ascii_whitespace b) (b ∷ bs) (from_blank bs)

-- from the first word on; 35 is #
unfoldable pub unread : List ℕ → List ℕ
unread line = cond (slice_index (past_blanks line) 0 == 35) [] (past_blanks line)

-- the first word, empty where there is none, and what follows it
unfoldable pub first_word : List ℕ → List ℕ
first_word line = before_blank (unread line)

unfoldable pub past_word : List ℕ → List ℕ
past_word line = from_blank (unread line)

-- what follows the first n words
abbrev pub past_words : ℕ → List ℕ → List ℕ
past_words zero line = line
past_words (suc n) line = past_words n (past_word line)

-- the word of this number from 0, empty where there is none
abbrev pub word : ℕ → List ℕ → List ℕ
word n line = first_word (past_words n line)
